-- The last ring of a disk that is not refused is the ring of its radius.
use Rattle.std.proofs.Common.{ℕ, zero, suc, ◌≡◌, ◌<◌, ◌≤◌, ◌+◌, ◌*◌, ◌==◌, List, [], ◌∷◌, ◌++◌, length, map, replicate, true, Some, Result, Ok, refl, arith, sym, ap, ◌∙◌, add-one, zero-add, append_assoc, append-nil, length-append}
use Rattle.std.specs.List.{flat_map, range_with_len}
use Rattle.std.proofs.lemmas.Bool.Decides.{nat_tests}
use Rattle.std.proofs.lemmas.List.{length-map, map-append}
use Rattle.std.proofs.lemmas.List.Concat.{flat_map-append}
use Rattle.std.proofs.lemmas.List.FromFn.{length-range_with_len}
use Rattle.h3_index.specs.Cell.{Address, number_of}
use Rattle.h3_index.specs.declared.error.H3Error.{H3Error}
use Rattle.h3_directions.specs.declared.direction.Direction.{Direction}
use Rattle.h3_directions.specs.declared.direction.Direction.TheVariants.{I}
use Rattle.h3_directions.specs.Direction.{turned}
use Rattle.h3_table.specs.Links.{IsSound, Links}
use Rattle.h3_grid.specs.Chart.{RingAgrees, RingsAgree, disk_states}
use Rattle.h3_grid.specs.Laws.{IsState, WritesCells}
use Rattle.h3_grid.specs.Moves.{moves, sides}
use Rattle.h3_grid.specs.Steps.{State, state, step_of}
use Rattle.h3_grid.specs.Walks.{closed, disk, followed, or_refused, ring, ring_round, stepped}
use Rattle.h3_grid.proofs.ChartLaws.{closes, outward}
use Rattle.h3_grid.proofs.DiskChartLaws.{map-two, states_list, walk}
use Rattle.h3_grid.proofs.DiskLaws.{began, hexagon_origin, states_written}
use Rattle.h3_grid.proofs.LatticeLaws.{LeadsBy, StepLawsHold, lattice_of_steps}
use Rattle.h3_grid.proofs.RoundLaws.{SomeLeft, closed-none, round-closed_at, round-led_at, way_end}
use Rattle.h3_grid.proofs.StateLaws.{Goes, RingsGo, along, corner_from, ring_states, rings_go, start_of, state_at}

abbrev item : State → Result Address H3Error
item t = Ok t.cell

some_more : (xs ds : List Direction) → SomeLeft ds → SomeLeft (xs ++ ds)
some_more [] ds left = left
some_more (x ∷ xs) ds left = record { next = x; others = xs ++ ds; is = refl }

range_last : (a n : ℕ) → range_with_len a (suc n) ≡ range_with_len a n ++ (a + n) ∷ []
range_last a zero = let e : a ≡ a + 0 = omega arith in ap (λ b. b ∷ []) e
range_last a (suc n) =
    let e : a + 1 + n ≡ a + suc n = omega arith in
    ap (λ l. a ∷ l) (range_last (a + 1) n ∙ ap (λ b. range_with_len (a + 1) n ++ b ∷ []) e)

replicate_last : (n : ℕ) (d : Direction) → replicate (suc n) d ≡ replicate n d ++ d ∷ []
replicate_last zero d = refl
replicate_last (suc n) d = ap (λ l. d ∷ l) (replicate_last n d)

pub stepped_on : (link : Links) (s t : State) (d : Direction) (ds : List Direction) → step_of link s d ≡ Some t
    → stepped link (Some s) (d ∷ ds) ≡ stepped link (Some t) ds
unfolding stepped
stepped_on link s t d ds e = ap (λ o. stepped link o ds) e

same_number : (c : Address) → (number_of c == number_of c) ≡ true
same_number c = grind (arith, nat_tests)

-- ---- around the ring

module _ (link : Links) (first : Address) where
  -- along a side, after which some step is left
  round_along : (s : State) (d : Direction) (n j : ℕ) (ds : List Direction) → SomeLeft ds
      → ((i : ℕ) → j ≤ i → i < j + n → Goes link (along link s d i) d)
      → ring_round link first (along link s d j) (replicate n d ++ ds)
      ≡ map item (map (along link s d) (range_with_len (j + 1) n))
      ++ ring_round link first (along link s d (j + n)) ds
  round_along s d zero j ds left goes =
      let z : j ≡ j + 0 = omega arith in ap (λ k. ring_round link first (along link s d k) ds) z
  round_along s d (suc n) j ds left goes =
      let sum : j + 1 + n ≡ j + suc n = omega arith in
      round-led_at link first (along link s d j) (along link s d (suc j)) d (replicate n d ++ ds)
      (some_more (replicate n d) ds left) (goes j (omega arith) (omega arith)).led
      ∙ ap (λ k. item (along link s d k) ∷ ring_round link first (along link s d k) (replicate n d ++ ds))
      (sym (add-one j))
      ∙ ap (λ l. item (along link s d (j + 1)) ∷ l)
      (round_along s d n (j + 1) ds left (λ i low high. goes i (omega (arith, low)) (omega (arith, high)))
      ∙ ap
      (λ k.
      map item (map (along link s d) (range_with_len (j + 1 + 1) n))
      ++ ring_round link first (along link s d k) ds)
      sum)

  -- along whole sides
  round_sides : (r : ℕ) (s : State) (i n : ℕ) (ds : List Direction) → SomeLeft ds
      → ((a j : ℕ) → i ≤ a → a < i + n → j < r
      → Goes link (along link (corner_from link r s a) (turned (a + 2) I) j) (turned (a + 2) I))
      → ring_round link first (corner_from link r s i)
      (flat_map (λ a. replicate r (turned (a + 2) I)) (range_with_len i n) ++ ds)
      ≡ map item (flat_map (λ a. map (along link (corner_from link r s a) (turned (a + 2) I)) (range_with_len 1 r))
      (range_with_len i n))
      ++ ring_round link first (corner_from link r s (i + n)) ds
  round_sides r s i zero ds left goes =
      let z : i ≡ i + 0 = omega arith in ap (λ k. ring_round link first (corner_from link r s k) ds) z
  round_sides r s i (suc n) ds left goes =
      let d = turned (i + 2) I in
      let here = corner_from link r s i in
      let others = flat_map (λ a. replicate r (turned (a + 2) I)) (range_with_len (i + 1) n) in
      let on = map (along link here d) (range_with_len 1 r) in
      let beyond =
      flat_map (λ a. map (along link (corner_from link r s a) (turned (a + 2) I)) (range_with_len 1 r))
      (range_with_len (i + 1) n) in
      let whole : along link here d (0 + r) ≡ corner_from link r s (i + 1) =
      ap (along link here d) (zero-add r) ∙ ap (corner_from link r s) (sym (add-one i)) in
      let sum : i + 1 + n ≡ i + suc n = omega arith in
      ap (ring_round link first here) (append_assoc (replicate r d) others ds)
      ∙ round_along here d r 0 (others ++ ds) (some_more others ds left)
      (λ j low high. goes i j (omega arith) (omega arith) (omega (arith, high)))
      ∙ ap (λ t. map item on ++ ring_round link first t (others ++ ds)) whole
      ∙ ap (λ l. map item on ++ l)
      (round_sides r s (i + 1) n ds left (λ a j low high. goes a j (omega (arith, low)) (omega (arith, high)))
      ∙ ap (λ k. map item beyond ++ ring_round link first (corner_from link r s k) ds) sum)
      ∙ sym (append_assoc (map item on) (map item beyond) (ring_round link first (corner_from link r s (i + suc n)) ds))
      ∙ ap (λ l. l ++ ring_round link first (corner_from link r s (i + suc n)) ds) (sym (map-append item on beyond))

  -- along the last side: its last step closes the ring
  round_last : (s : State) (d : Direction) (n : ℕ) → ((i : ℕ) → i < suc n → Goes link (along link s d i) d)
      → (along link s d (suc n)).cell ≡ first
      → ring_round link first s (replicate (suc n) d ++ []) ≡ map item (map (along link s d) (range_with_len 1 n))
  round_last s d n goes closing =
      let z : 0 + n ≡ n = omega arith in
      let t = along link s d (suc n) in
      let shut : closed first t.cell ≡ [] =
      closed-none first t.cell (ap (λ a. number_of a == number_of first) closing ∙ same_number first) in
      ap (ring_round link first s) (append-nil (replicate (suc n) d) ∙ replicate_last n d)
      ∙ round_along s d n 0 (d ∷ []) (record { next = d; others = []; is = refl })
      (λ i low high. goes i (omega (arith, high)))
      ∙ ap
      (λ k.
      map item (map (along link s d) (range_with_len 1 n)) ++ ring_round link first (along link s d k) (d ∷ []))
      z
      ∙ ap (λ l. map item (map (along link s d) (range_with_len 1 n)) ++ l)
      (round-closed_at link first (along link s d n) t d [] refl (goes n (omega arith)).led ∙ shut)
      ∙ append-nil (map item (map (along link s d) (range_with_len 1 n)))

-- ---- the ring of the disk's radius

abbrev cell_at : State → Address
cell_at t = t.cell

module _ (w : StepLawsHold) (link : Links) (sound : IsSound link) (c : Address) (valid : IsState (state c 0)) (m : ℕ)
    (goes : RingsGo w.reach link sound (state c 0) 0 (suc m)) where
  abbrev last_start : State
  last_start = start_of link (state c 0) (suc m)

  abbrev last_side : ℕ → State
  last_side j = along link (corner_from link (suc m) last_start 5) (turned (5 + 2) I) j

  abbrev side_states : ℕ → List State
  side_states i = map (along link (corner_from link (suc m) last_start i) (turned (i + 2) I)) (range_with_len 1 (suc m))

  closing : last_side (suc m) ≡ last_start
  closing =
      closes State (LeadsBy link) (lattice_of_steps w link sound) (suc m) (state_at link (state c 0))
      (walk w link sound c valid (suc m) goes) (suc m) (omega arith)

  way_out : (n r : ℕ) → r + n ≤ suc m
      → stepped link (Some (state_at link (state c 0) r 0 0)) (replicate n I)
      ≡ Some (state_at link (state c 0) (r + n) 0 0)
  way_out zero r h =
      let z : r ≡ r + 0 = omega arith in way_end link _ 0 refl ∙ ap (λ k. Some (state_at link (state c 0) k 0 0)) z
  way_out (suc n) r h =
      let sum : r + 1 + n ≡ r + suc n = omega arith in
      let on =
      outward State (LeadsBy link) (lattice_of_steps w link sound) (suc m) (state_at link (state c 0))
      (walk w link sound c valid (suc m) goes) r 0 0 (omega (arith, h)) (omega arith) (omega arith) in
      stepped_on link (state_at link (state c 0) r 0 0) (state_at link (state c 0) (r + 1) 0 0) I (replicate n I)
      on.stepped
      ∙ way_out n (r + 1) (omega (arith, h)) ∙ ap (λ k. Some (state_at link (state c 0) k 0 0)) sum

  abbrev all_but_last : List State
  all_but_last = flat_map side_states (range_with_len 0 5) ++ map last_side (range_with_len 1 m)

  round_is : ring_round link last_start.cell last_start (flat_map (replicate (suc m)) sides) ≡ map item all_but_last
  round_is =
      let first = last_start.cell in
      let g : ℕ → List Direction = λ a. replicate (suc m) (turned (a + 2) I) in
      let d = turned (5 + 2) I in
      ap (ring_round link first last_start) (flat_map-append g (range_with_len 0 5) (5 ∷ []))
      ∙ round_sides link first (suc m) last_start 0 5 (replicate (suc m) d ++ [])
      (record { next = d; others = replicate m d ++ []; is = refl })
      (λ a j low high less. goes.round (suc m) a j (omega arith) (omega arith) (omega (arith, high)) less)
      ∙ ap (λ l. map item (flat_map side_states (range_with_len 0 5)) ++ l)
      (round_last link first (corner_from link (suc m) last_start 5) d m
      (λ i less. goes.round (suc m) 5 i (omega arith) (omega arith) (omega arith) less) (ap cell_at closing))
      ∙ sym (map-append item (flat_map side_states (range_with_len 0 5)) (map last_side (range_with_len 1 m)))

  ring_writes : ring link c (suc m) ≡ map (λ a. Ok a) (last_start.cell ∷ map cell_at all_but_last)
  unfolding ring
  ring_writes =
      let z : 0 + suc m ≡ suc m = omega arith in
      ap (λ o. or_refused o (λ s. item s ∷ ring_round link s.cell s (flat_map (replicate (suc m)) sides)))
      (way_out (suc m) 0 (omega arith) ∙ ap (λ k. Some (state_at link (state c 0) k 0 0)) z)
      ∙ ap (λ l. item last_start ∷ l) (round_is ∙ sym (map-two (λ a. Ok a) cell_at all_but_last))

  length_side : (i : ℕ) → length (side_states i) ≡ suc m
  length_side i =
      length-map (range_with_len 1 (suc m)) (along link (corner_from link (suc m) last_start i) (turned (i + 2) I))
      ∙ length-range_with_len 1 (suc m)

  ring_size : length (last_start.cell ∷ map cell_at all_but_last) ≡ 6 * suc m
  ring_size =
      let a = length-map all_but_last cell_at in
      let b = length-append (flat_map side_states (range_with_len 0 5)) (map last_side (range_with_len 1 m)) in
      let d = length-map (range_with_len 1 m) last_side in
      let e = length-range_with_len 1 m in
      let five : length (flat_map side_states (range_with_len 0 5)) ≡ 5 * suc m =
      simp (length-append, length_side) (omega arith) in
      omega (arith, a, b, d, e, five)

  last_ring : ring_states w.reach link sound (state c 0) (suc m) ≡ all_but_last ++ last_side (suc m) ∷ []
  last_ring =
      let one : 1 + m ≡ suc m = omega arith in
      let five = flat_map side_states (range_with_len 0 5) in
      flat_map-append side_states (range_with_len 0 5) (5 ∷ [])
      ∙ ap (λ l. five ++ l) (append-nil (side_states 5) ∙ ap (map last_side) (range_last 1 m)
      ∙ map-append last_side (range_with_len 1 m) ((1 + m) ∷ [])
      ∙ ap (λ k. map last_side (range_with_len 1 m) ++ last_side k ∷ []) one)
      ∙ sym (append_assoc five (map last_side (range_with_len 1 m)) (last_side (suc m) ∷ []))

  abbrev before : List State
  before = state c 0 ∷ flat_map (ring_states w.reach link sound (state c 0)) (range_with_len 1 m)

  all_states : disk_states link c (suc m) ≡ before ++ (all_but_last ++ last_side (suc m) ∷ [])
  all_states =
      let one : 1 + m ≡ suc m = omega arith in
      let f = ring_states w.reach link sound (state c 0) in
      states_list w link sound c valid (suc m) goes
      ∙ ap (λ l. state c 0 ∷ l) (ap (flat_map f) (range_last 1 m)
      ∙ flat_map-append f (range_with_len 1 m) ((1 + m) ∷ [])
      ∙ ap (λ l. flat_map f (range_with_len 1 m) ++ l) (append-nil (f (1 + m)) ∙ ap f one ∙ last_ring))

  pub agrees : (cells : List (Address × ℕ)) → WritesCells link c (suc m) cells → RingAgrees link c (suc m) cells
  agrees cells e = record {
    inner = map cell_at before;
    first = last_start.cell;
    others = map cell_at all_but_last;
    writes = ring_writes;
    size = ring_size;
    outer =
        sym (states_written link c (suc m) cells e) ∙ ap (map cell_at) all_states
        ∙ map-append cell_at before (all_but_last ++ last_side (suc m) ∷ [])
        ∙ ap (λ l. map cell_at before ++ l) (map-append cell_at all_but_last (last_side (suc m) ∷ [])
        ∙ ap (λ t. map cell_at all_but_last ++ t.cell ∷ []) closing);
  }

agree_more : StepLawsHold → (link : Links) (c : Address) (m : ℕ) (cells : List (Address × ℕ)) → IsSound link
    → IsState (state c 0) → WritesCells link c (suc m) cells → RingAgrees link c (suc m) cells
unfolding disk moves
agree_more w link c m cells sound valid e =
    let b = began c 0 (followed link (state c 0) (moves (suc m))) cells e in
    agrees w link sound c valid m (rings_go w.reach link sound (state c 0) 0 (suc m) b.others valid b.rest) cells e

pub rings_agree : StepLawsHold → RingsAgree
rings_agree w link c zero cells sound v some e = absurd (omega (arith, some))
rings_agree w link c (suc m) cells sound v some e =
    agree_more w link c m cells sound
    (record {
      hexagon = (v.base_small, hexagon_origin link c m cells e);
      digits = v.digits_small;
      few = omega arith;
    })
    e
