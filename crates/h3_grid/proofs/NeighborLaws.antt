-- Neighbors: the direction that leads to one, the way back, and cells that are refused.
use Rattle.std.proofs.Common.{ℕ, ◌≡◌, ◌≢◌, ◌<◌, ◌+◌, ◌%◌, ◌==◌, List, [], ◌∷◌, length, map, Contains, Bool, true, false, not, ◌&&◌, ◌||◌, if◌then◌else◌, Option, Some, None, option_map, is_some, Result, Ok, Err, refl, arith, sym, ap, ◌∙◌, subst}
use Rattle.std.specs.List.{find}
use Rattle.std.proofs.lemmas.List.{length-map}
use Rattle.std.proofs.lemmas.Bool.Decides.{nat_tests}
use Rattle.h3_index.specs.Cell.{Address, IsCell, is_pentagon_base, number_of, resolution}
use Rattle.h3_index.specs.Laws.{NumbersAreUnique}
use Rattle.h3_index.specs.declared.error.H3Error.{H3Error}
use Rattle.h3_index.specs.declared.error.H3Error.TheVariants.{Pentagon, ResMismatch}
use Rattle.h3_directions.specs.declared.direction.Direction.{Direction}
use Rattle.h3_directions.specs.declared.direction.Direction.TheVariants.{K, J, JK, I, IK, IJ}
use Rattle.h3_lattice.specs.Digits.{cell_of}
use Rattle.h3_directions.specs.Direction.{digit_turned, directions, opposite, turned}
use Rattle.h3_table.specs.Links.{IsSound, Links}
use Rattle.h3_lattice.specs.Moved.{IsSum}
use Rattle.h3_grid.specs.Laws.{IsState, OverSoundLinks, StepsLeave, StepsDiffer}
use Rattle.h3_grid.specs.Neighbors.{AreNeighbors, BothOrdersAgree, DirectionsAreFound, DirectionsDiffer, NeighborsAreFound, NeighborsAreMutual, NeighborsDiffer, are_neighbors, direction_to, is_same, is_some_same, neighbor, neighbor_refusal, pair_refusal}
use Rattle.h3_grid.specs.Steps.{Leads, State, led_to, state, step_of}
use Rattle.h3_grid.proofs.BackLaws.{crossed_over}
use Rattle.h3_grid.proofs.InsideLaws.{SumLaws, crossed_is, leads}
use Rattle.h3_grid.proofs.LatticeLaws.{StepLawsHold}
use Rattle.h3_grid.proofs.ListLaws.{find_one}
use Rattle.h3_grid.proofs.SearchLaws.{step-hexagon, step-pentagon}

-- ---- a step depends on its direction in the base cell alone

pub same_turn : SumLaws → (link : Links) (x y : Address) (rot q p : ℕ) (d e : Direction)
    → is_pentagon_base x.base ≡ false → turned rot d ≡ turned p e → step_of link (state x rot) d ≡ Some (state y q)
    → (r : ℕ) × (step_of link (state x p) e ≡ Some (state y r))
same_turn sums link x y rot q p d e hex same st = by_out l.out l.list l.sum l.is
  where
    l : Leads link (state x rot) d (Some (state y q))
    l = leads sums link (state x rot) (state y q) d hex st

    by_out : (u : Option Direction) (es : List ℕ) → IsSum x.digits (turned rot d) u es
        → Some (state y q) ≡ led_to link (state x rot) u es → (r : ℕ) × (step_of link (state x p) e ≡ Some (state y r))
    by_out None es sum is =
        let at : state y q ≡ state (cell_of x.base es) rot = cc in
        let cell : y ≡ cell_of x.base es = ap (λ (s : State). s.cell) at in (
          p,
          step-hexagon sums.unique link (state x p) e None es hex (subst (λ t. IsSum x.digits t None es) same sum)
              ∙ ap (λ a. Some (state a p)) (sym cell),
        )
    by_out (Some u) es sum is =
        let c = crossed_is (link x.base u) rot es (state y q) is in
        let cell : y ≡ cell_of (link x.base u).0 (map (digit_turned (link x.base u).1) es) =
        ap (λ (s : State). s.cell) c.is in (
          (p + (link x.base u).1) % 6,
          step-hexagon sums.unique link (state x p) e (Some u) es hex
              (subst (λ t. IsSum x.digits t (Some u) es) same sum)
              ∙ crossed_over (link x.base u) p es c.hexagon
              ∙ ap (λ a. Some (state a ((p + (link x.base u).1) % 6))) (sym cell),
        )

-- ---- tests

false_true : false ≡ true → ⊥
false_true e = cc

pub number_same : (x y : Address) → is_same x y ≡ true → number_of x ≡ number_of y
number_same x y e = grind (arith, nat_tests)

pub same_number : (x y : Address) → number_of x ≡ number_of y → is_same x y ≡ true
same_number x y e = grind (arith, nat_tests)

pub other_number : (x y : Address) → number_of x ≢ number_of y → is_same x y ≡ false
other_number x y h = grind (arith, nat_tests)

same_truth : (a b : Bool) → (a ≡ true → b ≡ true) → (b ≡ true → a ≡ true) → a ≡ b
same_truth true b h k = sym (h refl)
same_truth false true h k = k refl
same_truth false false h k = refl

eq-sym : (m n : ℕ) → (m == n) ≡ (n == m)
eq-sym m n =
    same_truth (m == n) (n == m) (λ e. grind (arith, nat_tests)) (λ e. grind (arith, nat_tests))

or-sym : (a b : Bool) → (a || b) ≡ (b || a)
or-sym true true = refl
or-sym true false = refl
or-sym false true = refl
or-sym false false = refl

pub some_of : {A : Type 0} (o : Option A) → is_some o ≡ true → (a : A) × (o ≡ Some a)
some_of None e = absurd (false_true e)
some_of (Some a) e = (a, refl)

-- what is found passes
found_passes : {A : Type 0} (p : A → Bool) (xs : List A) (x : A) → find p xs ≡ Some x → p x ≡ true
found_passes p [] x e = cc
found_passes p (y ∷ xs) x e = first (p y) refl (λ f. found_passes p xs x f)
  where
    first : (b : Bool) → p y ≡ b → (find p xs ≡ Some x → p x ≡ true) → p x ≡ true
    first true is later = let here : Some y ≡ Some x = rw is at e in let same : y ≡ x = cc in ap p (sym same) ∙ is
    first false is later = later (rw is at e)

in_directions : (d : Direction) → Contains directions d
in_directions K = (0, omega arith, refl)
in_directions J = (1, omega arith, refl)
in_directions JK = (2, omega arith, refl)
in_directions I = (3, omega arith, refl)
in_directions IK = (4, omega arith, refl)
in_directions IJ = (5, omega arith, refl)

-- ---- refusals

same_resolution : (x y : Address) → resolution x ≡ resolution y → (resolution x == resolution y) ≡ true
same_resolution x y e = grind (arith, nat_tests)

pub refusal-resolution : (twice : Option H3Error) (x y : Address) → (resolution x ≡ resolution y → ⊥)
    → pair_refusal twice x y ≡ Some ResMismatch
unfolding pair_refusal
refusal-resolution twice x y h =
    let test : (resolution x == resolution y) ≡ false = grind (arith, nat_tests) in
    rw test refl

pub refusal-twice : (twice : Option H3Error) (x y : Address) → resolution x ≡ resolution y → is_same x y ≡ true
    → pair_refusal twice x y ≡ twice
unfolding pair_refusal
refusal-twice twice x y e same = rw (same_resolution x y e, same) refl

pub refusal-other : (twice : Option H3Error) (x y : Address) (b : Bool) → resolution x ≡ resolution y
    → is_same x y ≡ false → (is_pentagon_base x.base || is_pentagon_base y.base) ≡ b
    → pair_refusal twice x y ≡ (if b then Some Pentagon else None)
unfolding pair_refusal
refusal-other twice x y b e other test = rw (same_resolution x y e, other, test) refl

refusal-sym : (twice : Option H3Error) (x y : Address) → pair_refusal twice x y ≡ pair_refusal twice y x
unfolding pair_refusal
refusal-sym twice x y =
    rw (
      eq-sym (resolution x) (resolution y),
      eq-sym (number_of x) (number_of y),
      or-sym (is_pentagon_base x.base) (is_pentagon_base y.base),
    )
    refl

pub result-refused : (link : Links) (x y : Address) (e : H3Error) → neighbor_refusal x y ≡ Some e
    → are_neighbors link x y ≡ Err e
unfolding are_neighbors
result-refused link x y e h = rw h refl

pub result-given : (link : Links) (x y : Address) → neighbor_refusal x y ≡ None
    → are_neighbors link x y ≡ Ok (not (is_same x y) && is_some (direction_to link x y))
unfolding are_neighbors
result-given link x y h = rw h refl

-- a cell and itself
pub result-same : (link : Links) (x y : Address) → x ≡ y → are_neighbors link x y ≡ Ok false
result-same link x y e =
    let same = same_number x y (ap number_of e) in
    result-given link x y (refusal-twice None x y (ap resolution e) same) ∙ (rw same refl)

-- what is true is not refused
record IsTrueOf (link : Links) (x y : Address) : Type 0 where
  other : is_same x y ≡ false
  some : is_some (direction_to link x y) ≡ true

abbrev truth : Bool → Result Bool H3Error
truth b = Ok b

true_is : (link : Links) (x y : Address) → are_neighbors link x y ≡ Ok true → IsTrueOf link x y
true_is link x y e = by_refusal (neighbor_refusal x y) refl
  where
    by_same : (b c : Bool) → truth (not b && c) ≡ truth true → (b ≡ false) × (c ≡ true)
    by_same true c h = let no : false ≡ true = cc in absurd (false_true no)
    by_same false c h = let is : c ≡ true = cc in (refl, is)

    by_refusal : (o : Option H3Error) → neighbor_refusal x y ≡ o → IsTrueOf link x y
    by_refusal None h =
        let p = by_same (is_same x y) (is_some (direction_to link x y)) (sym (result-given link x y h) ∙ e) in
        record { other = p.0; some = p.1 }
    by_refusal (Some f) h = let no : Err f ≡ Ok true = sym (result-refused link x y f h) ∙ e in cc

-- ---- the neighbor in a direction

-- a step that reaches the neighbor
pub step-neighbor : (link : Links) (x y : Address) (d : Direction) → neighbor link x d ≡ Some y
    → (r : ℕ) × (step_of link (state x 0) d ≡ Some (state y r))
unfolding neighbor
step-neighbor link x y d e = by_step (step_of link (state x 0) d) refl e
  where
    by_step : (o : Option State) → step_of link (state x 0) d ≡ o → option_map (λ s. s.cell) o ≡ Some y
        → (r : ℕ) × (step_of link (state x 0) d ≡ Some (state y r))
    by_step None is e = cc
    by_step (Some s) is e = let same : s.cell ≡ y = cc in (s.rotation, is ∙ ap (λ c. Some (state c s.rotation)) same)

pub neighbor-step : (link : Links) (x y : Address) (d : Direction) (r : ℕ)
    → step_of link (state x 0) d ≡ Some (state y r) → neighbor link x d ≡ Some y
unfolding neighbor
neighbor-step link x y d r e = ap (λ (o : Option State). option_map (λ s. s.cell) o) e

is_passes : (link : Links) (x y : Address) (d : Direction) → neighbor link x d ≡ Some y
    → is_some_same y (neighbor link x d) ≡ true
is_passes link x y d e = ap (is_some_same y) e ∙ same_number y y refl

some_none : {A : Type 0} (a : A) → Some a ≡ None → ⊥
some_none a e = cc

-- a cell that has a neighbor is in a hexagon base cell
pub from_hexagon : (link : Links) (x y : Address) (d : Direction) → IsCell x → neighbor link x d ≡ Some y
    → IsState (state x 0)
from_hexagon link x y d v e = by_test (is_pentagon_base x.base) refl
  where
    by_test : (b : Bool) → is_pentagon_base x.base ≡ b → IsState (state x 0)
    by_test true h =
        let s = step-neighbor link x y d e in
        let none : Some (state y s.0) ≡ None = sym s.1 ∙ step-pentagon link (state x 0) d h in
        absurd (some_none (state y s.0) none)
    by_test false h = record { hexagon = (v.base_small, h); digits = v.digits_small; few = omega arith }

-- a step stays at the resolution
pub same_length : SumLaws → (link : Links) (x y : Address) (q : ℕ) (d : Direction) → is_pentagon_base x.base ≡ false
    → step_of link (state x 0) d ≡ Some (state y q) → length y.digits ≡ length x.digits
same_length sums link x y q d hex st = by_out l.out l.list l.sum l.is
  where
    l : Leads link (state x 0) d (Some (state y q))
    l = leads sums link (state x 0) (state y q) d hex st

    by_out : (u : Option Direction) (es : List ℕ) → IsSum x.digits d u es
        → Some (state y q) ≡ led_to link (state x 0) u es → length y.digits ≡ length x.digits
    by_out None es sum is =
        let at : state y q ≡ state (cell_of x.base es) 0 = cc in
        ap (λ (s : State). length s.cell.digits) at ∙ sum.long
    by_out (Some u) es sum is =
        let c = crossed_is (link x.base u) 0 es (state y q) is in
        ap (λ (s : State). length s.cell.digits) c.is ∙ length-map es (digit_turned (link x.base u).1) ∙ sum.long

-- ---- over sound links

module _ (w : StepLawsHold) (sums : SumLaws) (link : Links) (sound : IsSound link) where
  -- a neighbor is a cell, of the same resolution and in a hexagon base cell
  pub record IsNeighbor (x y : Address) : Type 0 where
    pub valid : IsCell y
    pub resolution_is : resolution y ≡ resolution x
    pub hexagon : is_pentagon_base x.base ≡ false
    pub hexagon-2 : is_pentagon_base y.base ≡ false

  pub neighbor_is : (x y : Address) (d : Direction) → IsCell x → neighbor link x d ≡ Some y → IsNeighbor x y
  neighbor_is x y d v e =
      let s = step-neighbor link x y d e in
      let st = from_hexagon link x y d v e in
      let to = w.reach link sound (state x 0) (state y s.0) d st s.1 in
      let same = same_length sums link x y s.0 d st.hexagon.1 s.1 in
      let coarse : length y.digits < 16 = omega (arith, same, v.coarse) in
      let valid : IsCell y = record {
        base_small = to.hexagon.0;
        coarse = coarse;
        digits_small = to.digits;
        not_deleted = λ p. absurd (true_false (sym p ∙ to.hexagon.1));
      } in
      record { valid = valid; resolution_is = same; hexagon = st.hexagon.1; hexagon-2 = to.hexagon.1 }
    where
      true_false : true ≡ false → ⊥
      true_false e = cc

  neighbor_back : (x y : Address) → IsCell x → AreNeighbors link x y → AreNeighbors link y x
  neighbor_back x y v n =
      let d = n.direction in
      let s = step-neighbor link x y d n.leads in
      let st = from_hexagon link x y d v n.leads in
      let other = w.reach link sound (state x 0) (state y s.0) d st s.1 in
      let back = w.reverse link sound (state x 0) (state y s.0) d st s.1 in
      let p = same_turn sums link y x s.0 0 0 (opposite d) (turned s.0 (opposite d)) other.hexagon.1 refl back in
      record { direction = turned s.0 (opposite d); leads = neighbor-step link y x (turned s.0 (opposite d)) p.0 p.1 }

  pub neighbors_mutual : NeighborsAreMutual link
  neighbors_mutual x y v u = (neighbor_back x y v, neighbor_back y x u)

  -- ---- the direction to a neighbor

  module _ (by_number : NumbersAreUnique) (differ : OverSoundLinks StepsDiffer) where
    pub directions_differ : DirectionsDiffer link
    directions_differ x y d e v p q =
        let s = step-neighbor link x y d p in
        let t = step-neighbor link x y e q in
        differ link sound (state x 0) (state y s.0) (state y t.0) d e (from_hexagon link x y d v p) s.1 t.1 refl

    passes_is : (x y : Address) (d : Direction) → IsCell x → IsCell y → is_some_same y (neighbor link x d) ≡ true
        → neighbor link x d ≡ Some y
    passes_is x y d v u e = by_neighbor (neighbor link x d) refl e
      where
        by_neighbor : (o : Option Address) → neighbor link x d ≡ o → is_some_same y o ≡ true
            → neighbor link x d ≡ Some y
        by_neighbor None is e = absurd (false_true e)
        by_neighbor (Some z) is e =
            is ∙ ap (λ c. Some c) (by_number z y (neighbor_is x z d v is).valid u (number_same z y e))

    pub directions_found : DirectionsAreFound link
    unfolding direction_to
    directions_found x y d v u = (
      λ e. passes_is x y d v u (found_passes (λ d. is_some_same y (neighbor link x d)) directions d e),
      λ e.
          find_one (λ d. is_some_same y (neighbor link x d)) directions d (in_directions d) (is_passes link x y d e)
          (λ c m t. directions_differ x y c d v (passes_is x y c v u t) e),
    )

    -- ---- whether two cells are neighbors

    to_related : (x y : Address) → IsCell x → IsCell y → is_some (direction_to link x y) ≡ true → AreNeighbors link x y
    to_related x y v u e =
        let s = some_of (direction_to link x y) e in
        record { direction = s.0; leads = (directions_found x y s.0 v u).0 s.1 }

    from_related : (x y : Address) → IsCell x → IsCell y → AreNeighbors link x y
        → is_some (direction_to link x y) ≡ true
    from_related x y v u n = ap is_some ((directions_found x y n.direction v u).1 n.leads)

    module _ (leave : OverSoundLinks StepsLeave) where
      pub neighbors_differ : NeighborsDiffer link
      neighbors_differ x y d v p e =
          let s = step-neighbor link x y d p in
          leave link sound (state x 0) (state y s.0) d (from_hexagon link x y d v p) s.1 e

      true_of_neighbors : (x y : Address) → IsCell x → IsCell y → AreNeighbors link x y
          → are_neighbors link x y ≡ Ok true
      true_of_neighbors x y v u n =
          let i = neighbor_is x y n.direction v n.leads in
          let other = other_number x y (λ e. neighbors_differ x y n.direction v n.leads (by_number y x u v (sym e))) in
          let hexagons : (is_pentagon_base x.base || is_pentagon_base y.base) ≡ false =
          rw (i.hexagon, i.hexagon-2) refl in
          result-given link x y (refusal-other None x y false (sym i.resolution_is) other hexagons)
          ∙ (rw (other, from_related x y v u n) refl)

      pub neighbors_found : NeighborsAreFound link
      neighbors_found x y v u =
          (λ e. to_related x y v u (true_is link x y e).some, true_of_neighbors x y v u)

    pub both_agree : BothOrdersAgree link
    unfolding are_neighbors
    both_agree x y v u =
        let swap = neighbors_mutual x y v u in
        let same : is_some (direction_to link x y) ≡ is_some (direction_to link y x) =
        same_truth _ _ (λ e. from_related y x u v (swap.0 (to_related x y v u e)))
        (λ e. from_related x y v u (swap.1 (to_related y x u v e))) in
        rw (refusal-sym None x y, eq-sym (number_of x) (number_of y), same) refl
