use Rattle.std.proofs.Common.{◌^◌}
use Rattle.std.proofs.lemmas.Result.{IfOk-weaker}
use Rattle.h3_lines.specs.List.{itself}
use Rattle.h3_lines.specs.Reads.{source_use}
use Rattle.h3_lines.proofs.Listed.{items_read}
use Rattle.h3_lines.proofs.list.read_numbered_cells.Goals as goal

pub returns-clause-cells : goal.returns-clause-cells
returns-clause-cells g c =
    let input = source_use g.R.Source.left g.R.Source.has_failed c.args.input.now c.take_cells.new.input in
    IfOk-weaker c.take_cells.result _ _ (λ v (cells, told, is). items_read itself _ v.items cells
    (2 ^ 40) 65536 input c.new.ensures.items is told) c.take_cells.ensures.taken
