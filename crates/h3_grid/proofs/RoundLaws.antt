-- The steps that are left around a ring, and what they write.
use Rattle.std.proofs.Common.{ℕ, zero, suc, ◌≡◌, ◌<◌, ◌≤◌, ◌+◌, ◌-◌, ◌==◌, List, [], ◌∷◌, drop, replicate, true, false, Some, None, Ok, Err, refl, arith, ap, ◌∙◌}
use Rattle.std.specs.List.{flat_map}
use Rattle.h3_index.specs.Cell.{Address, number_of}
use Rattle.h3_index.specs.declared.error.H3Error.{H3Error}
use Rattle.h3_index.specs.declared.error.H3Error.TheVariants.{Pentagon}
use Rattle.h3_directions.specs.declared.direction.Direction.{Direction}
use Rattle.h3_directions.specs.declared.direction.Direction.TheVariants.{I}
use Rattle.h3_table.specs.Links.{Links}
use Rattle.h3_grid.specs.Moves.{sides}
use Rattle.h3_grid.specs.Steps.{State, state, step_of}
use Rattle.h3_grid.specs.Walks.{closed, or_refused, ring, ring_round, stepped}
use Rattle.h3_grid.proofs.MoveLaws.{sides_from}
use Rattle.h3_grid.specs.Counters.{directions_left, side_before}

-- ---- the steps that are left

pub round-step : (r n s : ℕ) → 0 < n → directions_left r n s ≡ side_before s ∷ directions_left r (n - 1) s
unfolding directions_left
round-step r zero s h = absurd (omega (arith, h))
round-step r (suc n) s h = let e : suc n - 1 ≡ n = omega arith in rw e refl

pub round-side : (r n s : ℕ) → n ≡ 0 → 0 < s → s ≤ 5 → directions_left r n s ≡ directions_left r r (s - 1)
unfolding directions_left
round-side r n s e h k = rw (e, sides_from s h k) refl

pub round-none : (r n s : ℕ) → n ≡ 0 → s ≡ 0 → directions_left r n s ≡ []
unfolding directions_left
round-none r n s e f = rw (e, f) refl

-- some step is left
pub record SomeLeft (ds : List Direction) : Type 0 where
  pub next : Direction
  pub others : List Direction
  pub is : ds ≡ next ∷ others

pub left_on_side : (r n s : ℕ) → 0 < n → SomeLeft (directions_left r n s)
left_on_side r n s h = record { next = side_before s; others = directions_left r (n - 1) s; is = round-step r n s h }

pub left_on_next : (r n s : ℕ) → n ≡ 0 → 0 < s → s ≤ 5 → 0 < r → SomeLeft (directions_left r n s)
left_on_next r n s e h k some = record {
  next = side_before (s - 1);
  others = directions_left r (r - 1) (s - 1);
  is = round-side r n s e h k ∙ round-step r r (s - 1) some;
}

-- ---- what they write

pub round-nothing : (link : Links) (first : Address) (s : State) → ring_round link first s [] ≡ []
unfolding ring_round
round-nothing link first s = refl

round-refused_at : (link : Links) (first : Address) (s : State) (d : Direction) (ds : List Direction)
    → step_of link s d ≡ None → ring_round link first s (d ∷ ds) ≡ Err Pentagon ∷ []
unfolding ring_round
round-refused_at link first s d [] h = rw h refl
round-refused_at link first s d (e ∷ ds) h = rw h refl

pub round-closed_at : (link : Links) (first : Address) (s t : State) (d : Direction) (ds : List Direction) → ds ≡ []
    → step_of link s d ≡ Some t → ring_round link first s (d ∷ ds) ≡ closed first t.cell
unfolding ring_round
round-closed_at link first s t d ds e h = rw (e, h) refl

pub round-led_at : (link : Links) (first : Address) (s t : State) (d : Direction) (ds : List Direction) → SomeLeft ds
    → step_of link s d ≡ Some t → ring_round link first s (d ∷ ds) ≡ Ok t.cell ∷ ring_round link first t ds
unfolding ring_round
round-led_at link first s t d ds left h = rw (left.is, h) refl

pub round-refused : (link : Links) (first : Address) (s : State) (d : Direction) (r n sl : ℕ) (e : H3Error) → 0 < n
    → d ≡ side_before sl → step_of link s d ≡ None → e ≡ Pentagon
    → ring_round link first s (directions_left r n sl) ≡ Err e ∷ ring_round link first s (directions_left r 0 0)
round-refused link first s d r n sl e some d_is none e_is =
    rw (round-step r n sl some, round-none r 0 0 refl refl, round-nothing link first s, e_is)
    (round-refused_at link first s (side_before sl) (directions_left r (n - 1) sl) (rw d_is at none))

pub round-led : (link : Links) (first : Address) (s t : State) (d : Direction) (r n sl : ℕ) → 0 < n → d ≡ side_before sl
    → step_of link s d ≡ Some t → SomeLeft (directions_left r (n - 1) sl)
    → ring_round link first s (directions_left r n sl)
    ≡ Ok t.cell ∷ ring_round link first t (directions_left r (n - 1) sl)
round-led link first s t d r n sl some d_is led left =
    rw (round-step r n sl some)
    (round-led_at link first s t (side_before sl) (directions_left r (n - 1) sl) left (rw d_is at led))

pub round-closed : (link : Links) (first : Address) (s t : State) (d : Direction) (r n sl : ℕ) → 0 < n
    → d ≡ side_before sl → step_of link s d ≡ Some t → n - 1 ≡ 0 → sl ≡ 0
    → (ring_round link first s (directions_left r n sl) ≡ closed first t.cell)
    × (ring_round link first t (directions_left r (n - 1) sl) ≡ [])
round-closed link first s t d r n sl some d_is led e f = (
  rw (round-step r n sl some) (round-closed_at link first s t (side_before sl) (directions_left r (n - 1) sl)
      (round-none r (n - 1) sl e f) (rw d_is at led)),
  rw (round-none r (n - 1) sl e f) (round-nothing link first t),
)

-- ---- the way out

stepped-none : (link : Links) (ds : List Direction) → stepped link None ds ≡ None
unfolding stepped
stepped-none link [] = refl
stepped-none link (d ∷ ds) = refl

pub way_on : (link : Links) (s t : State) (n : ℕ) → 0 < n → step_of link s I ≡ Some t
    → stepped link (Some s) (replicate n I) ≡ stepped link (Some t) (replicate (n - 1) I)
unfolding stepped
way_on link s t zero h led = absurd (omega (arith, h))
way_on link s t (suc n) h led =
    let e : suc n - 1 ≡ n = omega arith in
    rw e (ap (λ o. stepped link o (replicate n I)) led)

pub way_more : (link : Links) (s t : State) (k i : ℕ) → i < k → step_of link s I ≡ Some t
    → stepped link (Some s) (replicate (k - i) I) ≡ stepped link (Some t) (replicate (k - (i + 1)) I)
way_more link s t k i h led =
    let fewer : k - i - 1 ≡ k - (i + 1) = omega arith in
    way_on link s t (k - i) (omega arith) led ∙ ap (λ n. stepped link (Some t) (replicate n I)) fewer

pub way_refused : (link : Links) (s : State) (n : ℕ) → 0 < n → step_of link s I ≡ None
    → stepped link (Some s) (replicate n I) ≡ None
unfolding stepped
way_refused link s zero h none = absurd (omega (arith, h))
way_refused link s (suc n) h none = ap (λ o. stepped link o (replicate n I)) none ∙ stepped-none link (replicate n I)

pub way_end : (link : Links) (s : State) (n : ℕ) → n ≡ 0 → stepped link (Some s) (replicate n I) ≡ Some s
unfolding stepped
way_end link s n e = rw e refl

-- ---- the ends

pub closed-none : (first c : Address) → (number_of c == number_of first) ≡ true → closed first c ≡ []
closed-none first c h = rw h refl

pub closed-refused : (first c : Address) → (number_of c == number_of first) ≡ false → closed first c ≡ Err Pentagon ∷ []
closed-refused first c h = rw h refl

pub round-ended : (link : Links) (first : Address) (s : State) (r n sl : ℕ) → n ≡ 0 → sl ≡ 0
    → ring_round link first s (directions_left r n sl) ≡ []
round-ended link first s r n sl e f = rw (round-none r n sl e f) (round-nothing link first s)

none_of : (ds : List Direction) → flat_map (replicate 0) ds ≡ []
none_of [] = refl
none_of (d ∷ ds) = none_of ds

pub round-point : (link : Links) (first : Address) (s : State) (r n sl : ℕ) → n ≡ 0 → r ≡ 0
    → ring_round link first s (directions_left r n sl) ≡ []
unfolding directions_left
round-point link first s r n sl e f = rw (e, f, none_of (drop (6 - sl) sides)) (round-nothing link first s)

pub new_ring : (link : Links) (c : Address) (k : ℕ)
    → or_refused (stepped link (Some (state c 0)) (replicate k I))
    (λ (s : State). Ok s.cell ∷ ring_round link s.cell s (directions_left k k 5))
    ≡ ring link c k
unfolding ring directions_left
new_ring link c k = refl
