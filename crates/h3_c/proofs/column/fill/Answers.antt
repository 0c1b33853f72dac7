use Rattle.std.proofs.Common.{◌∙◌, ◌≤◌, length, map, sym, refl}
use Rattle.std.proofs.lemmas.List.{length-map}
use Rattle.h3_c.proofs.Columns.{fits, place-none}
use Rattle.h3_c.proofs.column.fill.Goals as goal

pub returns-then-fill_values-clause-place : goal.returns-then-fill_values-clause-place
returns-then-fill_values-clause-place g c =
    let rs = map (λ h. g.Q.ColumnFunction.outcome c.args.question.now h) c.args.indexes.now in
    let room : length rs ≤ length c.args.out.now = rw length-map c.if-out-indexes.false in
    rw (fits rs (length c.args.out.now) room) (sym
    (length-map c.args.indexes.now (λ h. g.Q.ColumnFunction.outcome c.args.question.now h)) ∙ sym
    (place-none rs (c.if-fill_values.ensures.none.0 refl)))
