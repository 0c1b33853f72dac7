-- The moves that are left of a walk, and what they write.
use Rattle.std.proofs.Common.{ℕ, zero, suc, ◌≡◌, ◌<◌, ◌≤◌, ◌+◌, ◌-◌, List, [], ◌∷◌, drop, Some, None, Ok, Err, refl, arith, ap, ◌∙◌, append_assoc}
use Rattle.std.specs.List.{flat_map, range_with_len}
use Rattle.h3_index.specs.declared.error.H3Error.{H3Error}
use Rattle.h3_index.specs.declared.error.H3Error.TheVariants.{Pentagon}
use Rattle.h3_directions.specs.declared.direction.Direction.{Direction}
use Rattle.h3_directions.specs.declared.direction.Direction.TheVariants.{I}
use Rattle.h3_table.specs.Links.{Links}
use Rattle.h3_grid.specs.Moves.{Move, moves, ring_moves, side_moves, sides, silent, write}
use Rattle.h3_grid.specs.Steps.{State, step_of}
use Rattle.h3_grid.specs.Walks.{followed, noted}
use Rattle.h3_grid.specs.Counters.{moves_left, side_before}

-- ---- the moves that are left

pub left-step : (r n s rings : ℕ) → 0 < n
    → moves_left r n s rings ≡ write r (side_before s) ∷ moves_left r (n - 1) s rings
unfolding moves_left
left-step r zero s rings h = absurd (omega (arith, h))
left-step r (suc n) s rings h = let e : suc n - 1 ≡ n = omega arith in rw e refl

pub sides_from : (s : ℕ) → 0 < s → s ≤ 5 → drop (6 - s) sides ≡ side_before (s - 1) ∷ drop (6 - (s - 1)) sides
sides_from zero h k = absurd (omega (arith, h))
sides_from (suc zero) h k = refl
sides_from (suc (suc zero)) h k = refl
sides_from (suc (suc (suc zero))) h k = refl
sides_from (suc (suc (suc (suc zero)))) h k = refl
sides_from (suc (suc (suc (suc (suc zero))))) h k = refl
sides_from (suc (suc (suc (suc (suc (suc s)))))) h k = absurd (omega (arith, k))

pub left-side : (r n s rings : ℕ) → n ≡ 0 → 0 < s → s ≤ 5 → moves_left r n s rings ≡ moves_left r r (s - 1) rings
unfolding moves_left
left-side r n s rings e h k =
    rw (e, sides_from s h k) (append_assoc (side_moves r (side_before (s - 1)))
    (flat_map (side_moves r) (drop (6 - (s - 1)) sides)) (flat_map ring_moves (range_with_len (r + 1) rings)))

pub left-ring : (r n s rings : ℕ) → n ≡ 0 → s ≡ 0 → 0 < rings
    → moves_left r n s rings ≡ silent (r + 1) I ∷ moves_left (r + 1) (r + 1) 5 (rings - 1)
unfolding moves_left ring_moves
left-ring r n s zero e f h = absurd (omega (arith, h))
left-ring r n s (suc m) e f h =
    let g : suc m - 1 ≡ m = omega arith in
    rw (e, f, g) (ap (λ l. silent (r + 1) I ∷ l) (append_assoc (side_moves (r + 1) (side_before 5))
    (flat_map (side_moves (r + 1)) (drop 1 sides)) (flat_map ring_moves (range_with_len (r + 1 + 1) m))))

pub left-none : (r n s rings : ℕ) → n ≡ 0 → s ≡ 0 → rings ≡ 0 → moves_left r n s rings ≡ []
unfolding moves_left
left-none r n s rings e f g = rw (e, f, g) refl

pub left-all : (k : ℕ) → moves_left 0 0 0 k ≡ moves k
unfolding moves_left moves
left-all k = refl

-- ---- what they write

pub followed-none : (link : Links) (s : State) → followed link s [] ≡ []
unfolding followed
followed-none link s = refl

pub followed-refused : (link : Links) (s : State) (m : Move) (ms : List Move) → step_of link s m.direction ≡ None
    → followed link s (m ∷ ms) ≡ Err Pentagon ∷ []
unfolding followed
followed-refused link s m ms e = rw e refl

pub followed-led : (link : Links) (s t : State) (m : Move) (ms : List Move) → step_of link s m.direction ≡ Some t
    → followed link s (m ∷ ms) ≡ noted m.written t.cell m.ring (followed link t ms)
unfolding followed
followed-led link s t m ms e = rw e refl

-- a step along a side
pub side-refused : (link : Links) (s : State) (d : Direction) (r n sl rings : ℕ) (e : H3Error) → 0 < n
    → d ≡ side_before sl → step_of link s d ≡ None → e ≡ Pentagon
    → followed link s (moves_left r n sl rings) ≡ Err e ∷ followed link s (moves_left r 0 0 0)
side-refused link s d r n sl rings e some d_is none e_is =
    rw (left-step r n sl rings some, left-none r 0 0 0 refl refl refl, followed-none link s, e_is)
    (followed-refused link s (write r (side_before sl)) (moves_left r (n - 1) sl rings) (rw d_is at none))

pub side-led : (link : Links) (s t : State) (d : Direction) (r n sl rings : ℕ) → 0 < n → d ≡ side_before sl
    → step_of link s d ≡ Some t
    → followed link s (moves_left r n sl rings) ≡ Ok (t.cell, r) ∷ followed link t (moves_left r (n - 1) sl rings)
side-led link s t d r n sl rings some d_is led =
    rw (left-step r n sl rings some)
    (followed-led link s t (write r (side_before sl)) (moves_left r (n - 1) sl rings) (rw d_is at led))

-- a silent step into the next ring
pub ring-refused : (link : Links) (s : State) (r n sl rings : ℕ) (e : H3Error) → n ≡ 0 → sl ≡ 0 → 0 < rings
    → step_of link s I ≡ None → e ≡ Pentagon
    → followed link s (moves_left r n sl rings) ≡ Err e ∷ followed link s (moves_left r n sl 0)
ring-refused link s r n sl rings e a b some none e_is =
    rw (left-ring r n sl rings a b some, left-none r n sl 0 a b refl, followed-none link s, e_is)
    (followed-refused link s (silent (r + 1) I) (moves_left (r + 1) (r + 1) 5 (rings - 1)) none)

pub ring-led : (link : Links) (s t : State) (r n sl rings : ℕ) → n ≡ 0 → sl ≡ 0 → 0 < rings → step_of link s I ≡ Some t
    → followed link s (moves_left r n sl rings) ≡ followed link t (moves_left (r + 1) (r + 1) 5 (rings - 1))
ring-led link s t r n sl rings a b some led =
    rw (left-ring r n sl rings a b some)
    (followed-led link s t (silent (r + 1) I) (moves_left (r + 1) (r + 1) 5 (rings - 1)) led)

-- no move is left
pub ended : (link : Links) (s : State) (r n sl rings : ℕ) → n ≡ 0 → sl ≡ 0 → rings ≡ 0
    → followed link s (moves_left r n sl rings) ≡ []
ended link s r n sl rings a b c = ap (followed link s) (left-none r n sl rings a b c) ∙ followed-none link s
