use Rattle.std.proofs.Common.{arith, ◌≡◌, ◌<◌, ◌+◌, ◌++◌, ◌∷◌, [], length, drop, Ok, Err, refl, sym, ap, ◌∙◌}
use Rattle.std.specs.Iterator.{Yields}
use Rattle.std.proofs.lemmas.List.{length-append}
use Rattle.h3_c.specs.Walks.{given, items_code}
use Rattle.h3_c.specs.Lists.{indexes, laid_over}
use Rattle.h3_c.proofs.Items.{split_at, whole_at}
use Rattle.h3_c.proofs.Laid.{length-laid_over, indexes-full, indexes-snoc}
use Rattle.h3_c.proofs.WalkLaws.{code-end, code-error, code-full, given-error, given-more, given-whole, written, written-nil, written-snoc}
use Rattle.h3_c.proofs.walks.put_walk.Goals as goal

pub loop-item-init : goal.loop-item-init
unfolding laid_over
loop-item-init g c = ([], sym written-nil, refl, omega arith, refl)

pub loop-item-preserved : goal.loop-item-preserved
loop-item-preserved g c =
    let (cells, is, count, within, put) = c.loop-item.invariant in
    let same : length c.loop-item.out ≡ length c.args.out.now =
    ap length put ∙ length-laid_over (indexes cells) c.args.out.now in
    let room : length cells < length c.args.out.now = omega (arith, same, count, c.if-i-out.false) in
    let more : length (cells ++ c.in-Ok.cell ∷ []) ≡ length cells + 1 = length-append cells (c.in-Ok.cell ∷ []) in (
      cells ++ c.in-Ok.cell ∷ [],
      rw (is, c.in-Ok.is) (sym (written-snoc cells c.in-Ok.cell)),
      omega (arith, more, count),
      omega (arith, more, room),
      rw (put, count, c.raw.ensures.number) (sym (indexes-snoc cells c.in-Ok.cell c.args.out.now room)),
    )

pub returns-then-i-out-clause-code : goal.returns-then-i-out-clause-code
returns-then-i-out-clause-code g c all e =
    let (cells, is, count, within, put) = c.loop-item.invariant in
    let so_far : Yields g.I.Iterator.next_gives c.into_iter-item-iterator.result c.loop-item.yielded
    c.loop-item.item-iterator =
    c.loop-item.yielded_by in
    let split =
    split_at g.I.Iterator.next_gives e _ c.into_iter-item-iterator.ensures.into_iter_gives _ _ so_far _ _
    c.in-Some.ensures.steps in
    let same : length c.loop-item.out ≡ length c.args.out.now =
    ap length put ∙ length-laid_over (indexes cells) c.args.out.now in
    let full : length c.args.out.now ≡ length cells = omega (arith, same, count, within, c.if-i-out.true) in
    let rest = drop (length c.loop-item.yielded + 1) all in
    let all_is : all ≡ written cells ++ Ok c.in-Ok.cell ∷ rest =
    split ∙ ap (λ l. l ++ c.in-Some.item ∷ rest) is ∙ ap (λ x. written cells ++ x ∷ rest) c.in-Ok.is in
    sym (ap (λ l. items_code l (length c.args.out.now)) all_is
    ∙ code-full cells c.in-Ok.cell rest (length c.args.out.now) full)

pub returns-then-i-out-clause-put : goal.returns-then-i-out-clause-put
returns-then-i-out-clause-put g c all e =
    let (cells, is, count, within, put) = c.loop-item.invariant in
    let so_far : Yields g.I.Iterator.next_gives c.into_iter-item-iterator.result c.loop-item.yielded
    c.loop-item.item-iterator =
    c.loop-item.yielded_by in
    let split =
    split_at g.I.Iterator.next_gives e _ c.into_iter-item-iterator.ensures.into_iter_gives _ _ so_far _ _
    c.in-Some.ensures.steps in
    let same : length c.loop-item.out ≡ length c.args.out.now =
    ap length put ∙ length-laid_over (indexes cells) c.args.out.now in
    let full : length c.args.out.now ≡ length cells = omega (arith, same, count, within, c.if-i-out.true) in
    let rest = drop (length c.loop-item.yielded + 1) all in
    let all_is : all ≡ written cells ++ Ok c.in-Ok.cell ∷ rest =
    split ∙ ap (λ l. l ++ c.in-Some.item ∷ rest) is ∙ ap (λ x. written cells ++ x ∷ rest) c.in-Ok.is in
    put
    ∙ sym (ap (λ l. laid_over (indexes l) c.args.out.now) (ap given all_is ∙ given-more cells c.in-Ok.cell rest)
    ∙ indexes-full cells (c.in-Ok.cell ∷ given rest) c.args.out.now (omega (arith, full)))

pub returns-in-Err-clause-code : goal.returns-in-Err-clause-code
returns-in-Err-clause-code g c all e =
    let (cells, is, count, within, put) = c.loop-item.invariant in
    let so_far : Yields g.I.Iterator.next_gives c.into_iter-item-iterator.result c.loop-item.yielded
    c.loop-item.item-iterator =
    c.loop-item.yielded_by in
    let split =
    split_at g.I.Iterator.next_gives e _ c.into_iter-item-iterator.ensures.into_iter_gives _ _ so_far _ _
    c.in-Some.ensures.steps in
    let rest = drop (length c.loop-item.yielded + 1) all in
    let all_is : all ≡ written cells ++ Err c.in-Err.error ∷ rest =
    split ∙ ap (λ l. l ++ c.in-Some.item ∷ rest) is ∙ ap (λ x. written cells ++ x ∷ rest) c.in-Err.is in
    c.from.ensures ∙ c.number.ensures
    ∙ sym (ap (λ l. items_code l (length c.args.out.now)) all_is
    ∙ code-error cells c.in-Err.error rest (length c.args.out.now) within)

pub returns-in-Err-clause-put : goal.returns-in-Err-clause-put
returns-in-Err-clause-put g c all e =
    let (cells, is, count, within, put) = c.loop-item.invariant in
    let so_far : Yields g.I.Iterator.next_gives c.into_iter-item-iterator.result c.loop-item.yielded
    c.loop-item.item-iterator =
    c.loop-item.yielded_by in
    let split =
    split_at g.I.Iterator.next_gives e _ c.into_iter-item-iterator.ensures.into_iter_gives _ _ so_far _ _
    c.in-Some.ensures.steps in
    let rest = drop (length c.loop-item.yielded + 1) all in
    let all_is : all ≡ written cells ++ Err c.in-Err.error ∷ rest =
    split ∙ ap (λ l. l ++ c.in-Some.item ∷ rest) is ∙ ap (λ x. written cells ++ x ∷ rest) c.in-Err.is in
    put ∙ ap (λ l. laid_over (indexes l) c.args.out.now) (sym (ap given all_is ∙ given-error cells c.in-Err.error rest))

pub returns-clause-code : goal.returns-clause-code
returns-clause-code g c all e =
    let (cells, is, count, within, put) = c.loop-item.invariant in
    let so_far : Yields g.I.Iterator.next_gives c.into_iter-item-iterator.result c.loop-item.yielded
    c.loop-item.item-iterator =
    c.loop-item.yielded_by in
    let whole =
    whole_at g.I.Iterator.next_gives e _ c.into_iter-item-iterator.ensures.into_iter_gives _ _ so_far _
    c.in-None.ensures.steps in
    let all_is : all ≡ written cells = whole ∙ is in
    sym (ap (λ l. items_code l (length c.args.out.now)) all_is ∙ code-end cells (length c.args.out.now) within)

pub returns-clause-put : goal.returns-clause-put
returns-clause-put g c all e =
    let (cells, is, count, within, put) = c.loop-item.invariant in
    let so_far : Yields g.I.Iterator.next_gives c.into_iter-item-iterator.result c.loop-item.yielded
    c.loop-item.item-iterator =
    c.loop-item.yielded_by in
    let whole =
    whole_at g.I.Iterator.next_gives e _ c.into_iter-item-iterator.ensures.into_iter_gives _ _ so_far _
    c.in-None.ensures.steps in
    let all_is : all ≡ written cells = whole ∙ is in
    put ∙ ap (λ l. laid_over (indexes l) c.args.out.now) (sym (ap given all_is ∙ given-whole cells))
