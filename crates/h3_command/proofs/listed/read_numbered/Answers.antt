use Rattle.h3_command.specs.Listed.{GivesCells}
use Rattle.h3_command.specs.Rows.{list_form}
use Rattle.h3_lines.specs.List.{itself}
use Rattle.h3_lines.specs.Reads.{source_use}
use Rattle.h3_command.proofs.ListedCells.{items_given}
use Rattle.h3_command.proofs.listed.read_numbered.Goals as goal

pub returns-clause-cells : goal.returns-clause-cells
returns-clause-cells g c =
    let input = source_use g.R.Source.left g.R.Source.has_failed c.args.input.now c.take_listed.new.input in
    items_given (λ v. v.items) _ (GivesCells itself
    (list_form c.args.rows.now) input) c.take_listed.result c.new.ensures.items c.take_listed.ensures.taken
