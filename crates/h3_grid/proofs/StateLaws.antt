-- The states of a disk that is not refused, by ring, side and step.
use Rattle.std.proofs.Common.{ℕ, zero, suc, ◌≡◌, ◌<◌, ◌≤◌, ◌+◌, List, ◌∷◌, ◌++◌, map, replicate, Some, refl, arith, sym, ap, ◌∙◌, subst, add-one, append_assoc, zero-add, inl, inr}
use Rattle.std.specs.Prelude.{unwrap_or}
use Rattle.std.proofs.lemmas.Bool.{cases_lt}
use Rattle.std.specs.List.{flat_map, range_with_len}
use Rattle.h3_index.specs.Cell.{Address}
use Rattle.h3_directions.specs.declared.direction.Direction.{Direction}
use Rattle.h3_directions.specs.declared.direction.Direction.TheVariants.{I}
use Rattle.h3_directions.specs.Direction.{turned}
use Rattle.h3_table.specs.Links.{IsSound, Links}
use Rattle.h3_grid.specs.Chart.{states_from}
use Rattle.h3_grid.specs.Laws.{IsState, OverSoundLinks, StepsReachStates}
use Rattle.h3_grid.specs.Moves.{Move, ring_moves, side_moves, silent, write}
use Rattle.h3_grid.specs.Steps.{State, step_of}
use Rattle.h3_grid.specs.Walks.{followed}
use Rattle.h3_grid.proofs.DiskLaws.{all_ok, began, went, states-nil}

module _ (link : Links) where
  -- the state to which a step leads, where it is not refused
  abbrev pub go : State → Direction → State
  go s d = unwrap_or (step_of link s d) s

  abbrev pub along : State → Direction → ℕ → State
  along s d zero = s
  along s d (suc j) = go (along s d j) d

  -- the first state of side i of a ring of r steps a side
  abbrev pub corner_from : ℕ → State → ℕ → State
  corner_from r s zero = s
  corner_from r s (suc i) = along (corner_from r s i) (turned (i + 2) I) r

  -- the first state of ring r
  abbrev pub start_of : State → ℕ → State
  start_of s zero = s
  start_of s (suc r) = go (corner_from r (start_of s r) 6) I

  abbrev pub state_at : State → ℕ → ℕ → ℕ → State
  state_at s r i j = along (corner_from r (start_of s r) i) (turned (i + 2) I) j

  -- a step that is not refused
  pub record Goes (s : State) (d : Direction) : Type 0 where
    pub valid : IsState s
    pub led : step_of link s d ≡ Some (go s d)

go_is : (link : Links) (s t : State) (d : Direction) → step_of link s d ≡ Some t → go link s d ≡ t
go_is link s t d e = rw e refl

states-write : (link : Links) (s : State) (r : ℕ) (d : Direction) (ms : List Move)
    → step_of link s d ≡ Some (go link s d)
    → states_from link s (write r d ∷ ms) ≡ go link s d ∷ states_from link (go link s d) ms
unfolding states_from
states-write link s r d ms e = rw e refl

states-silent : (link : Links) (s t : State) (r : ℕ) (d : Direction) (ms : List Move) → step_of link s d ≡ Some t
    → states_from link s (silent r d ∷ ms) ≡ states_from link t ms
unfolding states_from
states-silent link s t r d ms e = rw e refl

-- a ring's moves, by the turns of its sides
ring_is : (r : ℕ) (ms : List Move)
    → ring_moves r ++ ms ≡ silent r I ∷ (flat_map (λ i. side_moves r (turned (i + 2) I)) (range_with_len 0 6) ++ ms)
unfolding ring_moves
ring_is r ms = refl

module _ (reach : OverSoundLinks StepsReachStates) (link : Links) (sound : IsSound link) where
  -- ---- along a side

  pub record SideGoes (s : State) (d : Direction) (q n j : ℕ) (ms : List Move) : Type 0 where
    pub steps : (i : ℕ) → j ≤ i → i < j + n → Goes link (along link s d i) d
    pub valid : IsState (along link s d (j + n))
    pub cells : List (Address × ℕ)
    pub rest : followed link (along link s d (j + n)) ms ≡ all_ok cells
    pub states : states_from link (along link s d j) (replicate n (write q d) ++ ms)
        ≡ map (along link s d) (range_with_len (j + 1) n) ++ states_from link (along link s d (j + n)) ms

  pub side_goes : (s : State) (d : Direction) (q n j : ℕ) (ms : List Move) (cells : List (Address × ℕ))
      → IsState (along link s d j) → followed link (along link s d j) (replicate n (write q d) ++ ms) ≡ all_ok cells
      → SideGoes s d q n j ms
  side_goes s d q zero j ms cells st e =
      let z : j ≡ j + 0 = omega arith in
      record {
        steps = λ i low high. absurd (omega (arith, low, high));
        valid = subst (λ k. IsState (along link s d k)) z st;
        cells = cells;
        rest = subst (λ k. followed link (along link s d k) ms ≡ all_ok cells) z e;
        states = ap (λ k. states_from link (along link s d k) ms) z;
      }
  side_goes s d q (suc n) j ms cells st e =
      let here = along link s d j in
      let w = went link here (write q d) (replicate n (write q d) ++ ms) cells e in
      let b = began w.to.cell q (followed link w.to (replicate n (write q d) ++ ms)) cells w.rest in
      let to_is : w.to ≡ along link s d (j + 1) =
      sym (go_is link here w.to d w.led) ∙ ap (along link s d) (sym (add-one j)) in
      let led : step_of link here d ≡ Some (go link here d) =
      w.led ∙ ap (λ t. Some t) (sym (go_is link here w.to d w.led)) in
      let valid : IsState (along link s d (j + 1)) = subst IsState to_is (reach link sound here w.to d st w.led) in
      let more =
      side_goes s d q n (j + 1) ms b.others valid
      (subst (λ t. followed link t (replicate n (write q d) ++ ms) ≡ all_ok b.others) to_is b.rest) in
      let sum : j + 1 + n ≡ j + suc n = omega arith in
      record {
        steps = by_place s d q n j ms st led more.steps;
        valid = subst (λ k. IsState (along link s d k)) sum more.valid;
        cells = more.cells;
        rest = subst (λ k. followed link (along link s d k) ms ≡ all_ok more.cells) sum more.rest;
        states =
            states-write link here q d (replicate n (write q d) ++ ms) led
            ∙ ap (λ k. along link s d k ∷ states_from link (along link s d k) (replicate n (write q d) ++ ms))
            (sym (add-one j))
            ∙ ap (λ l. along link s d (j + 1) ∷ l)
            (more.states
            ∙ ap
            (λ k.
            map (along link s d) (range_with_len (j + 1 + 1) n)
            ++ states_from link (along link s d k) ms)
            sum);
      }
    where
      by_place : (s : State) (d : Direction) (q n j : ℕ) (ms : List Move) → IsState (along link s d j)
          → step_of link (along link s d j) d ≡ Some (go link (along link s d j) d)
          → ((i : ℕ) → j + 1 ≤ i → i < j + 1 + n → Goes link (along link s d i) d) → (i : ℕ) → j ≤ i → i < j + suc n
          → Goes link (along link s d i) d
      by_place s d q n j ms st led later i low high = elim (cases_lt j i) [
        | inl h ↦ later i (omega arith) (omega (arith, high))
        | inr h ↦
            (let e : j ≡ i = omega arith in
            subst (λ k. Goes link (along link s d k) d) e (record { valid = st; led = led }))
      ]

  -- ---- around a ring of r steps a side, from its first state s

  pub record SidesGo (r : ℕ) (s : State) (i n : ℕ) (ms : List Move) : Type 0 where
    pub steps : (a j : ℕ) → i ≤ a → a < i + n → j < r
        → Goes link (along link (corner_from link r s a) (turned (a + 2) I) j) (turned (a + 2) I)
    pub valid : IsState (corner_from link r s (i + n))
    pub cells : List (Address × ℕ)
    pub rest : followed link (corner_from link r s (i + n)) ms ≡ all_ok cells
    pub states : states_from link (corner_from link r s i)
        (flat_map (λ a. side_moves r (turned (a + 2) I)) (range_with_len i n) ++ ms)
        ≡ flat_map (λ a. map (along link (corner_from link r s a) (turned (a + 2) I)) (range_with_len 1 r))
        (range_with_len i n)
        ++ states_from link (corner_from link r s (i + n)) ms

  sides_steps : (r : ℕ) (s : State) (i n : ℕ)
      → ((j : ℕ) → j < r → Goes link (along link (corner_from link r s i) (turned (i + 2) I) j) (turned (i + 2) I))
      → ((a j : ℕ) → i + 1 ≤ a → a < i + 1 + n → j < r
      → Goes link (along link (corner_from link r s a) (turned (a + 2) I) j) (turned (a + 2) I))
      → (a j : ℕ) → i ≤ a → a < i + suc n → j < r
      → Goes link (along link (corner_from link r s a) (turned (a + 2) I) j) (turned (a + 2) I)
  sides_steps r s i n here later a j low high less = elim (cases_lt i a) [
    | inl h ↦ later a j (omega arith) (omega (arith, high)) less
    | inr h ↦
        (let e : i ≡ a = omega arith in
        subst (λ b. Goes link (along link (corner_from link r s b) (turned (b + 2) I) j) (turned (b + 2) I)) e
        (here j less))
  ]

  pub sides_go : (r : ℕ) (s : State) (i n : ℕ) (ms : List Move) (cells : List (Address × ℕ))
      → IsState (corner_from link r s i)
      → followed link (corner_from link r s i)
      (flat_map (λ a. side_moves r (turned (a + 2) I)) (range_with_len i n) ++ ms)
      ≡ all_ok cells
      → SidesGo r s i n ms
  sides_go r s i zero ms cells st e =
      let z : i ≡ i + 0 = omega arith in
      record {
        steps = λ a j low high less. absurd (omega (arith, low, high));
        valid = subst (λ k. IsState (corner_from link r s k)) z st;
        cells = cells;
        rest = subst (λ k. followed link (corner_from link r s k) ms ≡ all_ok cells) z e;
        states = ap (λ k. states_from link (corner_from link r s k) ms) z;
      }
  sides_go r s i (suc n) ms cells st e =
      let d = turned (i + 2) I in
      let others = flat_map (λ a. side_moves r (turned (a + 2) I)) (range_with_len (i + 1) n) in
      let split = append_assoc (side_moves r d) others ms in
      let one =
      side_goes (corner_from link r s i) d r r 0 (others ++ ms) cells st
      (subst (λ l. followed link (corner_from link r s i) l ≡ all_ok cells) split e) in
      let whole : along link (corner_from link r s i) d (0 + r) ≡ corner_from link r s (i + 1) =
      ap (along link (corner_from link r s i) d) (zero-add r) ∙ ap (corner_from link r s) (sym (add-one i)) in
      let more =
      sides_go r s (i + 1) n ms one.cells (subst IsState whole one.valid)
      (subst (λ t. followed link t (others ++ ms) ≡ all_ok one.cells) whole one.rest) in
      let sum : i + 1 + n ≡ i + suc n = omega arith in
      let on = map (along link (corner_from link r s i) d) (range_with_len 1 r) in
      let beyond =
      flat_map (λ a. map (along link (corner_from link r s a) (turned (a + 2) I)) (range_with_len 1 r))
      (range_with_len (i + 1) n) in
      record {
        steps = sides_steps r s i n (λ j less. one.steps j (omega arith) (omega (arith, less))) more.steps;
        valid = subst (λ k. IsState (corner_from link r s k)) sum more.valid;
        cells = more.cells;
        rest = subst (λ k. followed link (corner_from link r s k) ms ≡ all_ok more.cells) sum more.rest;
        states =
            ap (states_from link (corner_from link r s i)) split
            ∙ one.states
            ∙ ap (λ t. on ++ states_from link t (others ++ ms)) whole
            ∙ ap (λ l. on ++ l) (more.states ∙ ap (λ k. beyond ++ states_from link (corner_from link r s k) ms) sum)
            ∙ sym (append_assoc on beyond (states_from link (corner_from link r s (i + suc n)) ms));
      }

  -- ---- from ring to ring

  -- the states of ring r
  abbrev pub ring_states : State → ℕ → List State
  ring_states s r = flat_map (λ i. map (state_at link s r i) (range_with_len 1 r)) (range_with_len 0 6)

  pub record RingsGo (s : State) (a n : ℕ) : Type 0 where
    pub into : (r : ℕ) → a ≤ r → r < a + n → Goes link (corner_from link r (start_of link s r) 6) I
    pub round : (r i j : ℕ) → a < r → r ≤ a + n → i < 6 → j < r → Goes link (state_at link s r i j) (turned (i + 2) I)
    pub states : states_from link (corner_from link a (start_of link s a) 6)
        (flat_map ring_moves (range_with_len (a + 1) n))
        ≡ flat_map (ring_states s) (range_with_len (a + 1) n)

  pub rings_go : (s : State) (a n : ℕ) (cells : List (Address × ℕ)) → IsState (corner_from link a (start_of link s a) 6)
      → followed link (corner_from link a (start_of link s a) 6) (flat_map ring_moves (range_with_len (a + 1) n))
      ≡ all_ok cells
      → RingsGo s a n
  rings_go s a zero cells st e = record {
    into = λ r low high. absurd (omega (arith, low, high));
    round = λ r i j low high few less. absurd (omega (arith, low, high));
    states = states-nil link (corner_from link a (start_of link s a) 6);
  }
  rings_go s a (suc n) cells st e =
      let others = flat_map ring_moves (range_with_len (a + 1 + 1) n) in
      let last = corner_from link a (start_of link s a) 6 in
      let ring_of = ring_split (a + 1) others in
      let w =
      went link last (silent (a + 1) I)
      (flat_map (λ i. side_moves (a + 1) (turned (i + 2) I)) (range_with_len 0 6) ++ others) cells
      (subst (λ l. followed link last l ≡ all_ok cells) ring_of e) in
      let led : step_of link last I ≡ Some (go link last I) =
      w.led ∙ ap (λ t. Some t) (sym (go_is link last w.to I w.led)) in
      let first : w.to ≡ start_of link s (a + 1) =
      sym (go_is link last w.to I w.led) ∙ ap (start_of link s) (sym (add-one a)) in
      let valid : IsState (start_of link s (a + 1)) = subst IsState first (reach link sound last w.to I st w.led) in
      let six = sides_go (a + 1) (start_of link s (a + 1)) 0 6 others cells valid
      (subst
      (λ t.
      followed link t (flat_map (λ i. side_moves (a + 1) (turned (i + 2) I)) (range_with_len 0 6) ++ others)
      ≡ all_ok cells)
      first w.rest) in
      let more = rings_go s (a + 1) n six.cells six.valid six.rest in
      record {
        into = into_steps s a n (record { valid = st; led = led }) more.into;
        round = round_steps s a n (λ i j few less. six.steps i j (omega arith) few less) more.round;
        states =
            ap (states_from link last) ring_of
            ∙ states-silent link last w.to (a + 1) I
            (flat_map (λ i. side_moves (a + 1) (turned (i + 2) I)) (range_with_len 0 6) ++ others) w.led
            ∙ ap
            (λ t.
            states_from link t
            (flat_map (λ i. side_moves (a + 1) (turned (i + 2) I)) (range_with_len 0 6) ++ others))
            first
            ∙ six.states
            ∙ ap (λ l. ring_states s (a + 1) ++ l) more.states;
      }
    where
      ring_split : (r : ℕ) (ms : List Move)
          → ring_moves r ++ ms
          ≡ silent r I ∷ (flat_map (λ i. side_moves r (turned (i + 2) I)) (range_with_len 0 6) ++ ms)
      ring_split r ms = ring_is r ms

      into_steps : (s : State) (a n : ℕ) → Goes link (corner_from link a (start_of link s a) 6) I
          → ((r : ℕ) → a + 1 ≤ r → r < a + 1 + n → Goes link (corner_from link r (start_of link s r) 6) I)
          → (r : ℕ) → a ≤ r → r < a + suc n → Goes link (corner_from link r (start_of link s r) 6) I
      into_steps s a n here later r low high = elim (cases_lt a r) [
        | inl h ↦ later r (omega arith) (omega (arith, high))
        | inr h ↦
            (let e : a ≡ r = omega arith in subst (λ b. Goes link (corner_from link b (start_of link s b) 6) I) e here)
      ]

      round_steps : (s : State) (a n : ℕ)
          → ((i j : ℕ) → i < 6 → j < a + 1 → Goes link (state_at link s (a + 1) i j) (turned (i + 2) I))
          → ((r i j : ℕ) → a + 1 < r → r ≤ a + 1 + n → i < 6 → j < r
          → Goes link (state_at link s r i j) (turned (i + 2) I))
          → (r i j : ℕ) → a < r → r ≤ a + suc n → i < 6 → j < r → Goes link (state_at link s r i j) (turned (i + 2) I)
      round_steps s a n here later r i j low high few less = elim (cases_lt (a + 1) r) [
        | inl h ↦ later r i j h (omega (arith, high)) few less
        | inr h ↦
            (let e : a + 1 ≡ r = omega (arith, h, low) in
            subst (λ b. (j < b) → Goes link (state_at link s b i j) (turned (i + 2) I)) e (here i j few) less)
      ]
