use Rattle.std.proofs.Common.{◌≡◌, ◌≢◌, ◌-◌, ◌++◌, ◌∷◌, [], IsTrue, not, length, take, drop, refl, arith, ap, sym, subst, ◌∙◌}
use Rattle.std.proofs.lemmas.List.{take-append-drop, take_all}
use Rattle.h3_index.specs.Descendants.{children}
use Rattle.h3_set.specs.Closing.{HasNoSet, IsRising}
use Rattle.h3_set.specs.Compacted.{parent_of}
use Rattle.h3_set.proofs.ChildLaws.{some_skips}
use Rattle.h3_set.proofs.ClosedLaws.{none_closed}
use Rattle.h3_set.proofs.EndLaws.{ends_in_six}
use Rattle.h3_set.proofs.closing.close.Goals as goal

pub returns-else-may_be_last-clause-closed : goal.returns-else-may_be_last-clause-closed
returns-else-may_be_last-clause-closed c =
    let cells = c.args.cells.now in
    let x = c.args.last in
    let k = some_skips (parent_of x) in
    let whole : take (length cells - 1) cells ++ x ∷ [] ≡ cells =
    ap (λ l. take (length cells - 1) cells ++ l) (sym c.requires.last)
    ∙ take-append-drop (length cells - 1) cells in
    let other = c.may_be_last.ensures (subst (λ b. IsTrue (not b)) (sym c.if-may_be_last.false) refl) in
    let none =
    none_closed c.cells_form_trees.ensures c.cells_form_intervals.ensures (take (length cells - 1) cells) x
    (subst IsRising (sym whole) c.requires.rising) c.requires.closed (λ pos i.
    subst (λ l. drop i l ≢ children (parent_of x)) (sym whole) (λ is.
    other (ends_in_six c.cells_form_trees.ensures cells x c.requires.last (length x.digits) k.0 refl pos k.1
    i is))) in
    subst HasNoSet (whole ∙ sym (take_all (length cells) cells (omega arith))) none
