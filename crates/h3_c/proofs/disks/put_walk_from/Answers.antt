use Rattle.std.proofs.Common.{arith, ◌≡◌, ◌+◌, ◌-◌, ◌++◌, ◌∷◌, [], length, drop, Ok, Err, sym, ap, ◌∙◌, append-nil}
use Rattle.std.specs.Iterator.{Yields}
use Rattle.std.proofs.lemmas.List.{length-append}
use Rattle.h3_c.specs.Walks.{given, items_code}
use Rattle.h3_c.specs.Lists.{indexes, laid_over}
use Rattle.h3_c.proofs.Items.{split_at, whole_at}
use Rattle.h3_c.proofs.Laid.{length-laid_over}
use Rattle.h3_c.proofs.StartLaws.{put-full, put-next}
use Rattle.h3_c.proofs.WalkLaws.{code-end, code-error, code-full, given-error, given-more, given-whole, length-written, written, written-nil, written-snoc}
use Rattle.h3_c.proofs.disks.put_walk_from.Goals as goal

pub loop-item-init : goal.loop-item-init
loop-item-init g c = (
  [],
  sym written-nil,
  omega arith,
  c.requires.within,
  λ before first long is. is ∙ ap (λ l. laid_over (indexes l) first) (sym (append-nil before)),
)

pub loop-item-preserved : goal.loop-item-preserved
loop-item-preserved g c =
    let (cells, is, count, within, put) = c.loop-item.invariant in
    let same : length c.loop-item.out ≡ length c.args.out.now = c.loop-item.auto.out in
    let more : length (cells ++ c.in-Ok.cell ∷ []) ≡ length cells + 1 = length-append cells (c.in-Ok.cell ∷ []) in (
      cells ++ c.in-Ok.cell ∷ [],
      rw (is, c.in-Ok.is) (sym (written-snoc cells c.in-Ok.cell)),
      omega (arith, more, count),
      omega (arith, same, c.if-i-out.false),
      λ before first long begun.
          let room : length first ≡ length c.args.out.now =
          sym (ap length begun ∙ length-laid_over (indexes before) first) in
          rw c.raw.ensures.number (put-next before cells c.in-Ok.cell first c.loop-item.out c.loop-item.i
          (omega (arith, long, count)) (omega (arith, room, same, c.if-i-out.false)) (put before first long begun)),
    )

pub returns-then-i-out-clause-code : goal.returns-then-i-out-clause-code
returns-then-i-out-clause-code g c all e =
    let (cells, is, count, within, put) = c.loop-item.invariant in
    let so_far : Yields g.I.Iterator.next_gives c.into_iter-item-iterator.result c.loop-item.yielded
    c.loop-item.item-iterator =
    c.loop-item.yielded_by in
    let split =
    split_at g.I.Iterator.next_gives e _ c.into_iter-item-iterator.ensures.into_iter_gives _ _ so_far _ _
    c.in-Some.ensures.steps in
    let same : length c.loop-item.out ≡ length c.args.out.now = c.loop-item.auto.out in
    let full : length c.args.out.now - c.args.place ≡ length cells =
    omega (arith, same, count, within, c.if-i-out.true) in
    let rest = drop (length c.loop-item.yielded + 1) all in
    let all_is : all ≡ written cells ++ Ok c.in-Ok.cell ∷ rest =
    split ∙ ap (λ l. l ++ c.in-Some.item ∷ rest) is ∙ ap (λ x. written cells ++ x ∷ rest) c.in-Ok.is in
    sym (ap (λ l. items_code l (length c.args.out.now - c.args.place)) all_is
    ∙ code-full cells c.in-Ok.cell rest (length c.args.out.now - c.args.place) full)

pub returns-then-i-out-clause-put : goal.returns-then-i-out-clause-put
returns-then-i-out-clause-put g c all e before first long begun =
    let (cells, is, count, within, put) = c.loop-item.invariant in
    let so_far : Yields g.I.Iterator.next_gives c.into_iter-item-iterator.result c.loop-item.yielded
    c.loop-item.item-iterator =
    c.loop-item.yielded_by in
    let split =
    split_at g.I.Iterator.next_gives e _ c.into_iter-item-iterator.ensures.into_iter_gives _ _ so_far _ _
    c.in-Some.ensures.steps in
    let same : length c.loop-item.out ≡ length c.args.out.now = c.loop-item.auto.out in
    let room : length first ≡ length c.args.out.now = sym (ap length begun ∙ length-laid_over (indexes before) first) in
    let rest = drop (length c.loop-item.yielded + 1) all in
    let all_is : all ≡ written cells ++ Ok c.in-Ok.cell ∷ rest =
    split ∙ ap (λ l. l ++ c.in-Some.item ∷ rest) is ∙ ap (λ x. written cells ++ x ∷ rest) c.in-Ok.is in
    put before first long begun
    ∙ sym (ap (λ l. laid_over (indexes (before ++ l)) first) (ap given all_is ∙ given-more cells c.in-Ok.cell rest)
    ∙ put-full before cells (c.in-Ok.cell ∷ given rest) first (omega (arith, room, same, count, long, c.if-i-out.true)))

pub returns-in-Err-clause-code : goal.returns-in-Err-clause-code
returns-in-Err-clause-code g c all e =
    let (cells, is, count, within, put) = c.loop-item.invariant in
    let so_far : Yields g.I.Iterator.next_gives c.into_iter-item-iterator.result c.loop-item.yielded
    c.loop-item.item-iterator =
    c.loop-item.yielded_by in
    let split =
    split_at g.I.Iterator.next_gives e _ c.into_iter-item-iterator.ensures.into_iter_gives _ _ so_far _ _
    c.in-Some.ensures.steps in
    let rest = drop (length c.loop-item.yielded + 1) all in
    let all_is : all ≡ written cells ++ Err c.in-Err.error ∷ rest =
    split ∙ ap (λ l. l ++ c.in-Some.item ∷ rest) is ∙ ap (λ x. written cells ++ x ∷ rest) c.in-Err.is in
    c.from.ensures ∙ c.number.ensures
    ∙ sym (ap
    (λ l. items_code l (length c.args.out.now - c.args.place)) all_is ∙ code-error cells c.in-Err.error rest
    (length c.args.out.now - c.args.place) (omega (arith, count, within)))

pub returns-in-Err-clause-put : goal.returns-in-Err-clause-put
returns-in-Err-clause-put g c all e before first long begun =
    let (cells, is, count, within, put) = c.loop-item.invariant in
    let so_far : Yields g.I.Iterator.next_gives c.into_iter-item-iterator.result c.loop-item.yielded
    c.loop-item.item-iterator =
    c.loop-item.yielded_by in
    let split =
    split_at g.I.Iterator.next_gives e _ c.into_iter-item-iterator.ensures.into_iter_gives _ _ so_far _ _
    c.in-Some.ensures.steps in
    let rest = drop (length c.loop-item.yielded + 1) all in
    let all_is : all ≡ written cells ++ Err c.in-Err.error ∷ rest =
    split ∙ ap (λ l. l ++ c.in-Some.item ∷ rest) is ∙ ap (λ x. written cells ++ x ∷ rest) c.in-Err.is in
    put before first long begun
    ∙ ap (λ l. laid_over (indexes (before ++ l)) first)
    (sym (ap given all_is ∙ given-error cells c.in-Err.error rest))

pub returns-clause-code : goal.returns-clause-code
returns-clause-code g c all e =
    let (cells, is, count, within, put) = c.loop-item.invariant in
    let so_far : Yields g.I.Iterator.next_gives c.into_iter-item-iterator.result c.loop-item.yielded
    c.loop-item.item-iterator =
    c.loop-item.yielded_by in
    let whole =
    whole_at g.I.Iterator.next_gives e _ c.into_iter-item-iterator.ensures.into_iter_gives _ _ so_far _
    c.in-None.ensures.steps in
    sym (ap (λ l. items_code l (length c.args.out.now - c.args.place)) (whole ∙ is)
    ∙ code-end cells (length c.args.out.now - c.args.place) (omega (arith, count, within)))

pub returns-clause-end : goal.returns-clause-end
returns-clause-end g c all e none =
    let (cells, is, count, within, put) = c.loop-item.invariant in
    let so_far : Yields g.I.Iterator.next_gives c.into_iter-item-iterator.result c.loop-item.yielded
    c.loop-item.item-iterator =
    c.loop-item.yielded_by in
    let whole =
    whole_at g.I.Iterator.next_gives e _ c.into_iter-item-iterator.ensures.into_iter_gives _ _ so_far _
    c.in-None.ensures.steps in
    let many = ap length (whole ∙ is) ∙ length-written cells in
    omega (arith, many, count)

pub returns-clause-put : goal.returns-clause-put
returns-clause-put g c all e before first long begun =
    let (cells, is, count, within, put) = c.loop-item.invariant in
    let so_far : Yields g.I.Iterator.next_gives c.into_iter-item-iterator.result c.loop-item.yielded
    c.loop-item.item-iterator =
    c.loop-item.yielded_by in
    let whole =
    whole_at g.I.Iterator.next_gives e _ c.into_iter-item-iterator.ensures.into_iter_gives _ _ so_far _
    c.in-None.ensures.steps in
    put before first long begun
    ∙ ap (λ l. laid_over (indexes (before ++ l)) first) (sym (ap given (whole ∙ is) ∙ given-whole cells))
