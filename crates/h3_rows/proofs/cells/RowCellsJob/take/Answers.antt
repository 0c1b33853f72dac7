use Rattle.std.proofs.Common.{[], refl, rules}
use Rattle.h3_rows.proofs.cells.RowCellsJob.take.Goals as goal

pub returns-in-Ok-None-default-clause-ok : goal.returns-in-Ok-None-default-clause-ok
returns-in-Ok-None-default-clause-ok g c =
    let found = rw c.row_of.ensures at c.in-Ok-None-default.ensures.ok in
    let number = rw c.row_of.ensures at c.in-Ok-None-default.ensures.number in
    ([], (λ last more. rw (found, number, c.in-Ok-None-default.field-0-0-is) refl), search rules)
