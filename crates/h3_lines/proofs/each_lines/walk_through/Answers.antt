use Rattle.std.proofs.Common.{◌+◌, ◌∷◌, [], IsOk, ap, ◌∙◌, drop, length, refl, subst, sym}
use Rattle.std.proofs.lemmas.Result.{err_from_is_err_and}
use Rattle.std.specs.Iterator.{Yields}
use Rattle.h3_lines.specs.Answer.{whole_items}
use Rattle.h3_lines.proofs.Lines.{passed_more, passed_none}
use Rattle.h3_lines.specs.ItemLaws.{split_at, whole_at}
use Rattle.h3_lines.proofs.each_lines.walk_through.Goals as goal

pub loop-item-init : goal.loop-item-init
loop-item-init g c = passed_none

pub loop-item-preserved : goal.loop-item-preserved
loop-item-preserved g c = rw c.in_ok-item.was (passed_more c.loop-item.invariant c.in_ok-item.field-0)

pub returns-in_err-item-clause-err : goal.returns-in_err-item-clause-err
returns-in_err-item-clause-err g c =
    let p = err_from_is_err_and c.from_residual.result c.from_residual.ensures.1 in
    rw (p.1, p.2) (λ all e.
    let so_far : Yields g.I.Iterator.next_gives c.into_iter-item-iterator.result c.loop-item.yielded
    c.loop-item.item-iterator =
    c.loop-item.yielded_by in
    let split =
    split_at g.I.Iterator.next_gives e _ c.into_iter-item-iterator.ensures.into_iter_gives _ _ so_far _ _
    c.in-Some.ensures.steps in
    let later = drop (length c.loop-item.yielded + 1) all in
    ap whole_items split
    ∙ c.loop-item.invariant.refused (c.in-Some.item ∷ later) c.in_err-item.field-0.0
    (ap (λ x. whole_items (x ∷ later)) c.in_err-item.was))

pub returns-clause-ok : goal.returns-clause-ok
returns-clause-ok g c all e =
    let so_far : Yields g.I.Iterator.next_gives c.into_iter-item-iterator.result c.loop-item.yielded
    c.loop-item.item-iterator =
    c.loop-item.yielded_by in
    let split =
    whole_at g.I.Iterator.next_gives e _ c.into_iter-item-iterator.ensures.into_iter_gives _ _ so_far _
    c.in-None.ensures.steps in
    subst (λ l. IsOk (whole_items l)) (sym split) (c.loop-item.invariant.good [] refl)
