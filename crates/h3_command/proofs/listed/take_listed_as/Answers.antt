use Rattle.h3_lines.specs.Reads.{source_use}
use Rattle.h3_rows.specs.RowForm.{form_as}
use Rattle.h3_command.proofs.ListedCells.{rows_given}
use Rattle.h3_command.proofs.listed.take_listed_as.Goals as goal

pub returns-in-None-clause-taken : goal.returns-in-None-clause-taken
returns-in-None-clause-taken g c = rw c.in-None.is c.take_cells_as.ensures.taken

pub returns-in-None-clause-refused : goal.returns-in-None-clause-refused
returns-in-None-clause-refused g c = rw c.in-None.is c.take_cells_as.ensures.refused

pub returns-in-Some-clause-taken : goal.returns-in-Some-clause-taken
returns-in-Some-clause-taken g c =
    let input = source_use g.R.Source.left g.R.Source.has_failed c.args.input.now c.take_row_cells_as.new.input in
    rw c.in-Some.is (rows_given (g.V.CellJob.taken c.args.job)
    (form_as (g.F.CellOf.says c.args.function) c.in-Some.options) input c.take_row_cells_as.result
    c.take_row_cells_as.ensures.taken c.take_row_cells_as.ensures.sound)

pub returns-in-Some-clause-refused : goal.returns-in-Some-clause-refused
returns-in-Some-clause-refused g c = rw c.in-Some.is c.take_row_cells_as.ensures.refused
