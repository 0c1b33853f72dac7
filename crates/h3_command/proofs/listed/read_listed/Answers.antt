use Rattle.std.proofs.Common.{[], ◌≡◌, ◌++◌}
use Rattle.h3_lines.specs.Reads.{source_use}
use Rattle.h3_rows.specs.RowForm.{form_of}
use Rattle.h3_command.specs.Run.{GivesRows}
use Rattle.h3_command.proofs.ListedCells.{items_given, rows_given}
use Rattle.h3_command.proofs.listed.read_listed.Goals as goal

pub returns-in-None-clause-cells : goal.returns-in-None-clause-cells
returns-in-None-clause-cells g c = rw c.in-None.is c.read_cells.ensures.cells

pub returns-in-None-clause-refused : goal.returns-in-None-clause-refused
returns-in-None-clause-refused g c = rw c.in-None.is c.read_cells.ensures.refused

pub returns-in-Some-clause-cells : goal.returns-in-Some-clause-cells
returns-in-Some-clause-cells g c =
    let input = source_use g.R.Source.left g.R.Source.has_failed c.args.input.now c.take_row_cells.new.input in
    let form = form_of c.in-Some.options [] in
    rw c.in-Some.is (items_given (λ v. v.items) _ (GivesRows
    form input) c.take_row_cells.result c.new.ensures.items (rows_given (λ cells v. v.items ≡ c.new.result.items ++
    cells) form input c.take_row_cells.result c.take_row_cells.ensures.taken c.take_row_cells.ensures.sound))

pub returns-in-Some-clause-refused : goal.returns-in-Some-clause-refused
returns-in-Some-clause-refused g c = rw c.in-Some.is c.take_row_cells.ensures.refused
