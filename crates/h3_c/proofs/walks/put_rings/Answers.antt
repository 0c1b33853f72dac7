use Rattle.std.proofs.Common.{arith, ◌≡◌, ◌<◌, ◌+◌, ◌++◌, ◌∷◌, [], length, drop, map, min, take, Ok, Err, ℕ, refl, sym, ap, ◌∙◌}
use Rattle.std.specs.Iterator.{Yields}
use Rattle.std.proofs.lemmas.List.{length-append}
use Rattle.h3_index.specs.Cell.{Address, number_of}
use Rattle.h3_c.specs.Lists.{laid_over}
use Rattle.h3_c.specs.Walks.{given, items_code}
use Rattle.h3_c.proofs.Items.{split_at, whole_at}
use Rattle.h3_c.proofs.Laid.{length-laid_over}
use Rattle.h3_c.proofs.WalkLaws.{code-end, code-error, code-full, given-error, given-more, given-whole, put-more, room-all, room-full, written, written-nil, written-snoc}
use Rattle.h3_c.proofs.walks.put_rings.Goals as goal

abbrev index_of : Address × ℕ → ℕ
index_of x = number_of x.0

abbrev ring_of : Address × ℕ → ℕ
ring_of x = x.1

pub loop-item-init : goal.loop-item-init
unfolding laid_over
loop-item-init g c = ([], sym written-nil, refl, omega arith, refl, refl)

pub loop-item-preserved : goal.loop-item-preserved
loop-item-preserved g c =
    let (cells, is, count, within, put, put_ring) = c.loop-item.invariant in
    let same : length c.loop-item.out ≡ length c.args.out.now =
    ap length put ∙ length-laid_over (map index_of cells) c.args.out.now in
    let same_rings : length c.loop-item.rings ≡ length c.args.rings.now =
    ap length put_ring ∙ length-laid_over (map ring_of cells) c.args.rings.now in
    let room : length cells < length c.args.out.now = omega (arith, same, count, c.if-i-out.false) in
    let room_rings : length cells < length c.args.rings.now = omega (arith, same_rings, count, c.if-i-rings.false) in
    let more : length (cells ++ c.in-Ok.found ∷ []) ≡ length cells + 1 = length-append cells (c.in-Ok.found ∷ []) in (
      cells ++ c.in-Ok.found ∷ [],
      rw (is, c.in-Ok.is) (sym (written-snoc cells c.in-Ok.found)),
      omega (arith, more, count),
      omega (arith, more, room, room_rings),
      rw (put, count, c.raw.ensures.number) (sym (put-more index_of cells c.in-Ok.found c.args.out.now room)),
      rw (put_ring, count) (sym (put-more ring_of cells c.in-Ok.found c.args.rings.now room_rings)),
    )

pub returns-then-i-out-clause-code : goal.returns-then-i-out-clause-code
returns-then-i-out-clause-code g c all e =
    let (cells, is, count, within, put, put_ring) = c.loop-item.invariant in
    let so_far : Yields g.I.Iterator.next_gives c.into_iter-item-iterator.result c.loop-item.yielded
    c.loop-item.item-iterator =
    c.loop-item.yielded_by in
    let room : ℕ = min (length c.args.out.now) (length c.args.rings.now) in
    let split =
    split_at g.I.Iterator.next_gives e _ c.into_iter-item-iterator.ensures.into_iter_gives _ _ so_far _ _
    c.in-Some.ensures.steps in
    let rest = drop (length c.loop-item.yielded + 1) all in
    let same : length c.loop-item.out ≡ length c.args.out.now =
    ap length put ∙ length-laid_over (map index_of cells) c.args.out.now in
    let same_rings : length c.loop-item.rings ≡ length c.args.rings.now =
    ap length put_ring ∙ length-laid_over (map ring_of cells) c.args.rings.now in
    let full : room ≡ length cells = omega (arith, same, same_rings, count, within, c.if-i-out.true) in
    let all_is : all ≡ written cells ++ Ok c.in-Ok.found ∷ rest =
    split ∙ ap (λ l. l ++ c.in-Some.item ∷ rest) is ∙ ap (λ x. written cells ++ x ∷ rest) c.in-Ok.is in
    sym (ap (λ l. items_code l room) all_is ∙ code-full cells c.in-Ok.found rest room full)

pub returns-then-i-rings-clause-code : goal.returns-then-i-rings-clause-code
returns-then-i-rings-clause-code g c all e =
    let (cells, is, count, within, put, put_ring) = c.loop-item.invariant in
    let so_far : Yields g.I.Iterator.next_gives c.into_iter-item-iterator.result c.loop-item.yielded
    c.loop-item.item-iterator =
    c.loop-item.yielded_by in
    let room : ℕ = min (length c.args.out.now) (length c.args.rings.now) in
    let split =
    split_at g.I.Iterator.next_gives e _ c.into_iter-item-iterator.ensures.into_iter_gives _ _ so_far _ _
    c.in-Some.ensures.steps in
    let rest = drop (length c.loop-item.yielded + 1) all in
    let same : length c.loop-item.out ≡ length c.args.out.now =
    ap length put ∙ length-laid_over (map index_of cells) c.args.out.now in
    let same_rings : length c.loop-item.rings ≡ length c.args.rings.now =
    ap length put_ring ∙ length-laid_over (map ring_of cells) c.args.rings.now in
    let full : room ≡ length cells = omega (arith, same, same_rings, count, within, c.if-i-rings.true) in
    let all_is : all ≡ written cells ++ Ok c.in-Ok.found ∷ rest =
    split ∙ ap (λ l. l ++ c.in-Some.item ∷ rest) is ∙ ap (λ x. written cells ++ x ∷ rest) c.in-Ok.is in
    sym (ap (λ l. items_code l room) all_is ∙ code-full cells c.in-Ok.found rest room full)

pub returns-in-Err-clause-code : goal.returns-in-Err-clause-code
returns-in-Err-clause-code g c all e =
    let (cells, is, count, within, put, put_ring) = c.loop-item.invariant in
    let so_far : Yields g.I.Iterator.next_gives c.into_iter-item-iterator.result c.loop-item.yielded
    c.loop-item.item-iterator =
    c.loop-item.yielded_by in
    let room : ℕ = min (length c.args.out.now) (length c.args.rings.now) in
    let split =
    split_at g.I.Iterator.next_gives e _ c.into_iter-item-iterator.ensures.into_iter_gives _ _ so_far _ _
    c.in-Some.ensures.steps in
    let rest = drop (length c.loop-item.yielded + 1) all in
    let all_is : all ≡ written cells ++ Err c.in-Err.error ∷ rest =
    split ∙ ap (λ l. l ++ c.in-Some.item ∷ rest) is ∙ ap (λ x. written cells ++ x ∷ rest) c.in-Err.is in
    c.from.ensures ∙ c.number.ensures
    ∙ sym (ap (λ l. items_code l room) all_is ∙ code-error cells c.in-Err.error rest room within)

pub returns-clause-code : goal.returns-clause-code
returns-clause-code g c all e =
    let (cells, is, count, within, put, put_ring) = c.loop-item.invariant in
    let so_far : Yields g.I.Iterator.next_gives c.into_iter-item-iterator.result c.loop-item.yielded
    c.loop-item.item-iterator =
    c.loop-item.yielded_by in
    let room : ℕ = min (length c.args.out.now) (length c.args.rings.now) in
    let whole =
    whole_at g.I.Iterator.next_gives e _ c.into_iter-item-iterator.ensures.into_iter_gives _ _ so_far _
    c.in-None.ensures.steps in
    let all_is : all ≡ written cells = whole ∙ is in
    sym (ap (λ l. items_code l room) all_is ∙ code-end cells room within)

pub returns-then-i-out-clause-cells : goal.returns-then-i-out-clause-cells
returns-then-i-out-clause-cells g c all e =
    let (cells, is, count, within, put, put_ring) = c.loop-item.invariant in
    let so_far : Yields g.I.Iterator.next_gives c.into_iter-item-iterator.result c.loop-item.yielded
    c.loop-item.item-iterator =
    c.loop-item.yielded_by in
    let room : ℕ = min (length c.args.out.now) (length c.args.rings.now) in
    let split =
    split_at g.I.Iterator.next_gives e _ c.into_iter-item-iterator.ensures.into_iter_gives _ _ so_far _ _
    c.in-Some.ensures.steps in
    let rest = drop (length c.loop-item.yielded + 1) all in
    let same : length c.loop-item.out ≡ length c.args.out.now =
    ap length put ∙ length-laid_over (map index_of cells) c.args.out.now in
    let same_rings : length c.loop-item.rings ≡ length c.args.rings.now =
    ap length put_ring ∙ length-laid_over (map ring_of cells) c.args.rings.now in
    let full : room ≡ length cells = omega (arith, same, same_rings, count, within, c.if-i-out.true) in
    let all_is : all ≡ written cells ++ Ok c.in-Ok.found ∷ rest =
    split ∙ ap (λ l. l ++ c.in-Some.item ∷ rest) is ∙ ap (λ x. written cells ++ x ∷ rest) c.in-Ok.is in
    put
    ∙ sym (ap (λ l. laid_over (take room (map index_of l)) c.args.out.now)
    (ap given all_is ∙ given-more cells c.in-Ok.found rest) ∙ ap (λ l. laid_over l c.args.out.now)
    (room-full index_of cells (c.in-Ok.found ∷ given rest) room full))

pub returns-then-i-rings-clause-cells : goal.returns-then-i-rings-clause-cells
returns-then-i-rings-clause-cells g c all e =
    let (cells, is, count, within, put, put_ring) = c.loop-item.invariant in
    let so_far : Yields g.I.Iterator.next_gives c.into_iter-item-iterator.result c.loop-item.yielded
    c.loop-item.item-iterator =
    c.loop-item.yielded_by in
    let room : ℕ = min (length c.args.out.now) (length c.args.rings.now) in
    let split =
    split_at g.I.Iterator.next_gives e _ c.into_iter-item-iterator.ensures.into_iter_gives _ _ so_far _ _
    c.in-Some.ensures.steps in
    let rest = drop (length c.loop-item.yielded + 1) all in
    let same : length c.loop-item.out ≡ length c.args.out.now =
    ap length put ∙ length-laid_over (map index_of cells) c.args.out.now in
    let same_rings : length c.loop-item.rings ≡ length c.args.rings.now =
    ap length put_ring ∙ length-laid_over (map ring_of cells) c.args.rings.now in
    let full : room ≡ length cells = omega (arith, same, same_rings, count, within, c.if-i-rings.true) in
    let all_is : all ≡ written cells ++ Ok c.in-Ok.found ∷ rest =
    split ∙ ap (λ l. l ++ c.in-Some.item ∷ rest) is ∙ ap (λ x. written cells ++ x ∷ rest) c.in-Ok.is in
    put
    ∙ sym (ap (λ l. laid_over (take room (map index_of l)) c.args.out.now)
    (ap given all_is ∙ given-more cells c.in-Ok.found rest) ∙ ap (λ l. laid_over l c.args.out.now)
    (room-full index_of cells (c.in-Ok.found ∷ given rest) room full))

pub returns-in-Err-clause-cells : goal.returns-in-Err-clause-cells
returns-in-Err-clause-cells g c all e =
    let (cells, is, count, within, put, put_ring) = c.loop-item.invariant in
    let so_far : Yields g.I.Iterator.next_gives c.into_iter-item-iterator.result c.loop-item.yielded
    c.loop-item.item-iterator =
    c.loop-item.yielded_by in
    let room : ℕ = min (length c.args.out.now) (length c.args.rings.now) in
    let split =
    split_at g.I.Iterator.next_gives e _ c.into_iter-item-iterator.ensures.into_iter_gives _ _ so_far _ _
    c.in-Some.ensures.steps in
    let rest = drop (length c.loop-item.yielded + 1) all in
    let all_is : all ≡ written cells ++ Err c.in-Err.error ∷ rest =
    split ∙ ap (λ l. l ++ c.in-Some.item ∷ rest) is ∙ ap (λ x. written cells ++ x ∷ rest) c.in-Err.is in
    put
    ∙ sym (ap (λ l. laid_over (take room (map index_of l)) c.args.out.now)
    (ap given all_is ∙ given-error cells c.in-Err.error rest) ∙ ap (λ l. laid_over l c.args.out.now)
    (room-all index_of cells room within))

pub returns-clause-cells : goal.returns-clause-cells
returns-clause-cells g c all e =
    let (cells, is, count, within, put, put_ring) = c.loop-item.invariant in
    let so_far : Yields g.I.Iterator.next_gives c.into_iter-item-iterator.result c.loop-item.yielded
    c.loop-item.item-iterator =
    c.loop-item.yielded_by in
    let room : ℕ = min (length c.args.out.now) (length c.args.rings.now) in
    let whole =
    whole_at g.I.Iterator.next_gives e _ c.into_iter-item-iterator.ensures.into_iter_gives _ _ so_far _
    c.in-None.ensures.steps in
    let all_is : all ≡ written cells = whole ∙ is in
    put
    ∙ sym (ap (λ l. laid_over (take room (map index_of l)) c.args.out.now) (ap given all_is ∙ given-whole cells)
    ∙ ap (λ l. laid_over l c.args.out.now) (room-all index_of cells room within))

pub returns-then-i-out-clause-rings : goal.returns-then-i-out-clause-rings
returns-then-i-out-clause-rings g c all e =
    let (cells, is, count, within, put, put_ring) = c.loop-item.invariant in
    let so_far : Yields g.I.Iterator.next_gives c.into_iter-item-iterator.result c.loop-item.yielded
    c.loop-item.item-iterator =
    c.loop-item.yielded_by in
    let room : ℕ = min (length c.args.out.now) (length c.args.rings.now) in
    let split =
    split_at g.I.Iterator.next_gives e _ c.into_iter-item-iterator.ensures.into_iter_gives _ _ so_far _ _
    c.in-Some.ensures.steps in
    let rest = drop (length c.loop-item.yielded + 1) all in
    let same : length c.loop-item.out ≡ length c.args.out.now =
    ap length put ∙ length-laid_over (map index_of cells) c.args.out.now in
    let same_rings : length c.loop-item.rings ≡ length c.args.rings.now =
    ap length put_ring ∙ length-laid_over (map ring_of cells) c.args.rings.now in
    let full : room ≡ length cells = omega (arith, same, same_rings, count, within, c.if-i-out.true) in
    let all_is : all ≡ written cells ++ Ok c.in-Ok.found ∷ rest =
    split ∙ ap (λ l. l ++ c.in-Some.item ∷ rest) is ∙ ap (λ x. written cells ++ x ∷ rest) c.in-Ok.is in
    put_ring
    ∙ sym (ap (λ l. laid_over (take room (map ring_of l)) c.args.rings.now)
    (ap given all_is ∙ given-more cells c.in-Ok.found rest) ∙ ap (λ l. laid_over l c.args.rings.now)
    (room-full ring_of cells (c.in-Ok.found ∷ given rest) room full))

pub returns-then-i-rings-clause-rings : goal.returns-then-i-rings-clause-rings
returns-then-i-rings-clause-rings g c all e =
    let (cells, is, count, within, put, put_ring) = c.loop-item.invariant in
    let so_far : Yields g.I.Iterator.next_gives c.into_iter-item-iterator.result c.loop-item.yielded
    c.loop-item.item-iterator =
    c.loop-item.yielded_by in
    let room : ℕ = min (length c.args.out.now) (length c.args.rings.now) in
    let split =
    split_at g.I.Iterator.next_gives e _ c.into_iter-item-iterator.ensures.into_iter_gives _ _ so_far _ _
    c.in-Some.ensures.steps in
    let rest = drop (length c.loop-item.yielded + 1) all in
    let same : length c.loop-item.out ≡ length c.args.out.now =
    ap length put ∙ length-laid_over (map index_of cells) c.args.out.now in
    let same_rings : length c.loop-item.rings ≡ length c.args.rings.now =
    ap length put_ring ∙ length-laid_over (map ring_of cells) c.args.rings.now in
    let full : room ≡ length cells = omega (arith, same, same_rings, count, within, c.if-i-rings.true) in
    let all_is : all ≡ written cells ++ Ok c.in-Ok.found ∷ rest =
    split ∙ ap (λ l. l ++ c.in-Some.item ∷ rest) is ∙ ap (λ x. written cells ++ x ∷ rest) c.in-Ok.is in
    put_ring
    ∙ sym (ap (λ l. laid_over (take room (map ring_of l)) c.args.rings.now)
    (ap given all_is ∙ given-more cells c.in-Ok.found rest) ∙ ap (λ l. laid_over l c.args.rings.now)
    (room-full ring_of cells (c.in-Ok.found ∷ given rest) room full))

pub returns-in-Err-clause-rings : goal.returns-in-Err-clause-rings
returns-in-Err-clause-rings g c all e =
    let (cells, is, count, within, put, put_ring) = c.loop-item.invariant in
    let so_far : Yields g.I.Iterator.next_gives c.into_iter-item-iterator.result c.loop-item.yielded
    c.loop-item.item-iterator =
    c.loop-item.yielded_by in
    let room : ℕ = min (length c.args.out.now) (length c.args.rings.now) in
    let split =
    split_at g.I.Iterator.next_gives e _ c.into_iter-item-iterator.ensures.into_iter_gives _ _ so_far _ _
    c.in-Some.ensures.steps in
    let rest = drop (length c.loop-item.yielded + 1) all in
    let all_is : all ≡ written cells ++ Err c.in-Err.error ∷ rest =
    split ∙ ap (λ l. l ++ c.in-Some.item ∷ rest) is ∙ ap (λ x. written cells ++ x ∷ rest) c.in-Err.is in
    put_ring
    ∙ sym (ap (λ l. laid_over (take room (map ring_of l)) c.args.rings.now)
    (ap given all_is ∙ given-error cells c.in-Err.error rest) ∙ ap (λ l. laid_over l c.args.rings.now)
    (room-all ring_of cells room within))

pub returns-clause-rings : goal.returns-clause-rings
returns-clause-rings g c all e =
    let (cells, is, count, within, put, put_ring) = c.loop-item.invariant in
    let so_far : Yields g.I.Iterator.next_gives c.into_iter-item-iterator.result c.loop-item.yielded
    c.loop-item.item-iterator =
    c.loop-item.yielded_by in
    let room : ℕ = min (length c.args.out.now) (length c.args.rings.now) in
    let whole =
    whole_at g.I.Iterator.next_gives e _ c.into_iter-item-iterator.ensures.into_iter_gives _ _ so_far _
    c.in-None.ensures.steps in
    let all_is : all ≡ written cells = whole ∙ is in
    put_ring
    ∙ sym (ap (λ l. laid_over (take room (map ring_of l)) c.args.rings.now) (ap given all_is ∙ given-whole cells)
    ∙ ap (λ l. laid_over l c.args.rings.now) (room-all ring_of cells room within))
