use Rattle.std.proofs.Common.{arith, ◌≡◌, ◌<◌, ◌+◌, ◌++◌, ◌∷◌, [], length, drop, refl, sym, ap, ◌∙◌}
use Rattle.std.specs.Iterator.{Yields}
use Rattle.std.proofs.lemmas.List.{length-append}
use Rattle.h3_c.specs.Lists.{laid_over, indexes}
use Rattle.h3_c.proofs.Items.{split_at, whole_at}
use Rattle.h3_c.proofs.Laid.{is_more, is_no_more, length-laid_over, indexes-full, indexes-snoc}
use Rattle.h3_c.proofs.lists.put_cells.Goals as goal

pub loop-cell-init : goal.loop-cell-init
unfolding laid_over
loop-cell-init g c = record { count = refl; within = omega arith; put = refl }

pub loop-cell-preserved : goal.loop-cell-preserved
loop-cell-preserved g c =
    let same : length c.loop-cell.out ≡ length c.args.out.now =
    ap length c.loop-cell.invariant.put ∙ length-laid_over (indexes c.loop-cell.yielded) c.args.out.now in
    let room : length c.loop-cell.yielded < length c.args.out.now =
    omega (arith, same, c.loop-cell.invariant.count, c.if-i-out.false) in
    let more : length (c.loop-cell.yielded ++ c.in-Some.cell ∷ []) ≡ length c.loop-cell.yielded + 1 =
    length-append c.loop-cell.yielded (c.in-Some.cell ∷ []) in
    record {
      count = omega (arith, more, c.loop-cell.invariant.count);
      within = omega (arith, more, room);
      put =
          rw (c.loop-cell.invariant.put, c.loop-cell.invariant.count, c.raw.ensures.number)
          (sym (indexes-snoc c.loop-cell.yielded c.in-Some.cell c.args.out.now room));
    }

pub returns-then-i-out-clause-fits : goal.returns-then-i-out-clause-fits
returns-then-i-out-clause-fits g c all e =
    let so_far : Yields g.I.Iterator.next_gives c.into_iter-cell-iterator.result c.loop-cell.yielded
    c.loop-cell.cell-iterator =
    c.loop-cell.yielded_by in
    let split =
    split_at g.I.Iterator.next_gives e _ c.into_iter-cell-iterator.ensures.into_iter_gives _ _ so_far _ _
    c.in-Some.ensures.steps in
    let same : length c.loop-cell.out ≡ length c.args.out.now =
    ap length c.loop-cell.invariant.put ∙ length-laid_over (indexes c.loop-cell.yielded) c.args.out.now in
    let more =
    ap length split
    ∙ length-append c.loop-cell.yielded (c.in-Some.cell ∷ drop (length c.loop-cell.yielded + 1) all) in
    sym (is_more _ _ (omega (arith, same, more, c.loop-cell.invariant.count, c.if-i-out.true)))

pub returns-then-i-out-clause-put : goal.returns-then-i-out-clause-put
returns-then-i-out-clause-put g c all e =
    let so_far : Yields g.I.Iterator.next_gives c.into_iter-cell-iterator.result c.loop-cell.yielded
    c.loop-cell.cell-iterator =
    c.loop-cell.yielded_by in
    let split =
    split_at g.I.Iterator.next_gives e _ c.into_iter-cell-iterator.ensures.into_iter_gives _ _ so_far _ _
    c.in-Some.ensures.steps in
    let same : length c.loop-cell.out ≡ length c.args.out.now =
    ap length c.loop-cell.invariant.put ∙ length-laid_over (indexes c.loop-cell.yielded) c.args.out.now in
    c.loop-cell.invariant.put
    ∙ sym (ap (λ l. laid_over (indexes l) c.args.out.now) split
    ∙ indexes-full _ _ c.args.out.now (omega (arith, same, c.loop-cell.invariant.count, c.if-i-out.true)))

pub returns-clause-fits : goal.returns-clause-fits
returns-clause-fits g c all e =
    let so_far : Yields g.I.Iterator.next_gives c.into_iter-cell-iterator.result c.loop-cell.yielded
    c.loop-cell.cell-iterator =
    c.loop-cell.yielded_by in
    let whole =
    whole_at g.I.Iterator.next_gives e _ c.into_iter-cell-iterator.ensures.into_iter_gives _ _ so_far _
    c.in-None.ensures.steps in
    sym (is_no_more _ _ (rw whole c.loop-cell.invariant.within))

pub returns-clause-put : goal.returns-clause-put
returns-clause-put g c all e =
    let so_far : Yields g.I.Iterator.next_gives c.into_iter-cell-iterator.result c.loop-cell.yielded
    c.loop-cell.cell-iterator =
    c.loop-cell.yielded_by in
    let whole =
    whole_at g.I.Iterator.next_gives e _ c.into_iter-cell-iterator.ensures.into_iter_gives _ _ so_far _
    c.in-None.ensures.steps in
    c.loop-cell.invariant.put ∙ ap (λ l. laid_over (indexes l) c.args.out.now) (sym whole)
