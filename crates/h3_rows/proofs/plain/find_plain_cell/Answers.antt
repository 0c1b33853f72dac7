use Rattle.std.proofs.Common.{◌∙◌, ap, sym, Ok, arith}
use Rattle.h3_rows.specs.RowForm.{form_as}
use Rattle.h3_rows.proofs.PlainAnswers.{some_from_test}
use Rattle.h3_rows.proofs.PlainCells.{plain_cell}
use Rattle.h3_rows.proofs.plain.find_plain_cell.Goals as goal

pub returns-in-Ok-Some-clause-is : goal.returns-in-Ok-Some-clause-is
returns-in-Ok-Some-clause-is g c =
    let a = c.args in
    let row = c.in_ok-row.row.body.now in
    plain_cell (form_as (g.F.CellOf.says a.function.now) a.options.now) a.number a.columns c.if-number-eq1.false
    a.bytes.now row c.in_ok-row.field.now c.in_ok-row.row.returns c.in_ok-row.ensures.is c.in_ok-index.index
    c.in-Ok-Some.cell c.in_ok-index.ensures
    (sym c.cell_of.ensures ∙ c.in-Ok-Some.is ∙ ap Ok c.in-Ok-Some.field-0-is)
    (some_from_test row c.is_empty.result c.is_empty.ensures c.if-is_empty.false)
    (omega (arith, c.if-row-gt-LONGEST_ROW.false))
