use Rattle.std.proofs.Common.{arith, ◌≡◌, ◌+◌, ◌++◌, ◌∷◌, [], length, drop, refl, sym, ap, ◌∙◌}
use Rattle.std.specs.Iterator.{Yields}
use Rattle.std.proofs.lemmas.List.{length-append}
use Rattle.h3_c.specs.Lists.{laid_over, indexes}
use Rattle.h3_c.proofs.Items.{split_at, whole_at}
use Rattle.h3_c.proofs.Laid.{is_more, is_no_more, length-laid_over}
use Rattle.h3_c.proofs.StartLaws.{put-full, put-next}
use Rattle.h3_c.proofs.descendants.put_cells_from.Goals as goal

pub loop-cell-preserved : goal.loop-cell-preserved
loop-cell-preserved g c =
    let same : length c.loop-cell.out ≡ length c.args.out.now = c.loop-cell.auto.out in
    let more : length (c.loop-cell.yielded ++ c.in-Some.cell ∷ []) ≡ length c.loop-cell.yielded + 1 =
    length-append c.loop-cell.yielded (c.in-Some.cell ∷ []) in
    record {
      count = omega (arith, more, c.loop-cell.invariant.count);
      within = omega (arith, same, c.if-i-out.false);
      put = λ before first long is.
          let room : length first ≡ length c.args.out.now =
          sym (ap length is ∙ length-laid_over (indexes before) first) in
          rw c.raw.ensures.number (put-next before c.loop-cell.yielded c.in-Some.cell first c.loop-cell.out
          c.loop-cell.i (omega (arith, long, c.loop-cell.invariant.count)) (omega (
            arith,
            room,
            same,
            c.if-i-out.false,
          )) (c.loop-cell.invariant.put before first long is));
    }

pub returns-then-i-out-clause-end : goal.returns-then-i-out-clause-end
returns-then-i-out-clause-end g c all e =
    let so_far : Yields g.I.Iterator.next_gives c.into_iter-cell-iterator.result c.loop-cell.yielded
    c.loop-cell.cell-iterator =
    c.loop-cell.yielded_by in
    let split =
    split_at g.I.Iterator.next_gives e _ c.into_iter-cell-iterator.ensures.into_iter_gives _ _ so_far _ _
    c.in-Some.ensures.steps in
    let same : length c.loop-cell.out ≡ length c.args.out.now = c.loop-cell.auto.out in
    let more =
    ap length split
    ∙ length-append c.loop-cell.yielded (c.in-Some.cell ∷ drop (length c.loop-cell.yielded + 1) all) in
    rw (is_more (c.args.place + length all) (length c.args.out.now)
    (omega (arith, same, more, c.loop-cell.invariant.count, c.if-i-out.true))) refl

pub returns-then-i-out-clause-put : goal.returns-then-i-out-clause-put
returns-then-i-out-clause-put g c all e before first long is =
    let so_far : Yields g.I.Iterator.next_gives c.into_iter-cell-iterator.result c.loop-cell.yielded
    c.loop-cell.cell-iterator =
    c.loop-cell.yielded_by in
    let split =
    split_at g.I.Iterator.next_gives e _ c.into_iter-cell-iterator.ensures.into_iter_gives _ _ so_far _ _
    c.in-Some.ensures.steps in
    let same : length c.loop-cell.out ≡ length c.args.out.now = c.loop-cell.auto.out in
    let room : length first ≡ length c.args.out.now = sym (ap length is ∙ length-laid_over (indexes before) first) in
    c.loop-cell.invariant.put before first long is
    ∙ sym (ap (λ l. laid_over (indexes (before ++ l)) first) split
    ∙ put-full before c.loop-cell.yielded (c.in-Some.cell ∷ drop (length c.loop-cell.yielded + 1) all) first
    (omega (arith, long, room, same, c.loop-cell.invariant.count, c.if-i-out.true)))

pub returns-clause-end : goal.returns-clause-end
returns-clause-end g c all e =
    let so_far : Yields g.I.Iterator.next_gives c.into_iter-cell-iterator.result c.loop-cell.yielded
    c.loop-cell.cell-iterator =
    c.loop-cell.yielded_by in
    let whole =
    whole_at g.I.Iterator.next_gives e _ c.into_iter-cell-iterator.ensures.into_iter_gives _ _ so_far _
    c.in-None.ensures.steps in
    let at : c.args.place + length all ≡ c.loop-cell.i = omega (arith, ap length whole, c.loop-cell.invariant.count) in
    rw (at, is_no_more c.loop-cell.i (length c.args.out.now) c.loop-cell.invariant.within) refl

pub returns-clause-put : goal.returns-clause-put
returns-clause-put g c all e before first long is =
    let so_far : Yields g.I.Iterator.next_gives c.into_iter-cell-iterator.result c.loop-cell.yielded
    c.loop-cell.cell-iterator =
    c.loop-cell.yielded_by in
    let whole =
    whole_at g.I.Iterator.next_gives e _ c.into_iter-cell-iterator.ensures.into_iter_gives _ _ so_far _
    c.in-None.ensures.steps in
    c.loop-cell.invariant.put before first long is ∙ ap (λ l. laid_over (indexes (before ++ l)) first) (sym whole)
