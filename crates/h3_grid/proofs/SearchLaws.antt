-- The sum that a search finds, and the step with it.
use Rattle.std.proofs.Common.{ℕ, zero, suc, ◌≡◌, ◌<◌, List, [], ◌∷◌, length, map, Bool, true, false, Option, Some, None, Contains, refl, arith, sym, ap, ◌∙◌, subst}
use Rattle.std.specs.List.{range_with_len}
use Rattle.std.specs.Int.Digits.{AllBelowBase}
use Rattle.std.specs.Ordering.{int_eq}
use Rattle.std.proofs.lemmas.Bool.{and_parts}
use Rattle.std.proofs.lemmas.Bool.Decides.{Decides-int_eq}
use Rattle.h3_index.specs.Cell.{is_pentagon_base}
use Rattle.h3_directions.specs.declared.direction.Direction.{Direction}
use Rattle.h3_directions.specs.declared.direction.Direction.TheVariants.{K, J, JK, I, IK, IJ}
use Rattle.h3_directions.specs.Eisenstein.{Eisenstein}
use Rattle.h3_directions.specs.Direction.{turned}
use Rattle.h3_lattice.specs.Laws.{SumsExist, SumsAreUnique}
use Rattle.h3_table.specs.Links.{Links}
use Rattle.h3_lattice.specs.Moved.{IsSum}
use Rattle.h3_grid.specs.Steps.{IsStep, State, StepsAreFound, candidates, carried, digit_lists, found_sum, is_expansion, led_to, same_point, step_of}
use Rattle.h3_grid.proofs.ListLaws.{find_one, from_flat, from_map, in_flat, in_map}

-- ---- all candidates

in_seven : (d : ℕ) → d < 7 → Contains (range_with_len 0 7) d
in_seven zero lt = (0, omega arith, refl)
in_seven (suc zero) lt = (1, omega arith, refl)
in_seven (suc (suc zero)) lt = (2, omega arith, refl)
in_seven (suc (suc (suc zero))) lt = (3, omega arith, refl)
in_seven (suc (suc (suc (suc zero)))) lt = (4, omega arith, refl)
in_seven (suc (suc (suc (suc (suc zero))))) lt = (5, omega arith, refl)
in_seven (suc (suc (suc (suc (suc (suc zero)))))) lt = (6, omega arith, refl)
in_seven (suc (suc (suc (suc (suc (suc (suc d))))))) lt = absurd (omega (arith, lt))

in_digit_lists : (n : ℕ) (ds : List ℕ) → length ds ≡ n → AllBelowBase 7 ds → Contains (digit_lists n) ds
unfolding digit_lists
in_digit_lists zero [] e small = (0, omega arith, refl)
in_digit_lists zero (d ∷ ds) e small = absurd (omega (arith, e))
in_digit_lists (suc n) [] e small = absurd (omega (arith, e))
in_digit_lists (suc n) (d ∷ ds) e small =
    in_flat (λ d. map (λ ds. d ∷ ds) (digit_lists n)) (range_with_len 0 7) d (d ∷ ds) (in_seven d small.0)
    (in_map (λ ds. d ∷ ds) (digit_lists n) ds (in_digit_lists n ds (omega (arith, e)) small.1))

in_sides : (u : Option Direction) → Contains carried u
in_sides None = (0, omega arith, refl)
in_sides (Some K) = (1, omega arith, refl)
in_sides (Some J) = (2, omega arith, refl)
in_sides (Some JK) = (3, omega arith, refl)
in_sides (Some I) = (4, omega arith, refl)
in_sides (Some IK) = (5, omega arith, refl)
in_sides (Some IJ) = (6, omega arith, refl)

in_candidates : (u : Option Direction) (n : ℕ) (es : List ℕ) → length es ≡ n → AllBelowBase 7 es
    → Contains (candidates n) (u, es)
unfolding candidates
in_candidates u n es e small =
    in_flat (λ u. map (λ es. (u, es)) (digit_lists n)) carried u (u, es) (in_sides u)
    (in_map (λ es. (u, es)) (digit_lists n) es (in_digit_lists n es e small))

-- ---- the test

same_is : (x y : Eisenstein) → same_point x y ≡ true → x ≡ y
same_is x y h =
    let t = and_parts (int_eq x.a y.a) (int_eq x.b y.b) h in
    let p : x.a ≡ y.a = (Decides-int_eq x.a y.a).0 t.0 in
    let q : x.b ≡ y.b = (Decides-int_eq x.b y.b).0 t.1 in
    λ i. record { a = p i; b = q i }

is_same : (x y : Eisenstein) → x ≡ y → same_point x y ≡ true
is_same x y e =
    let p : int_eq x.a y.a ≡ true = (Decides-int_eq x.a y.a).1 (ap (λ (z : Eisenstein). z.a) e) in
    let q : int_eq x.b y.b ≡ true = (Decides-int_eq x.b y.b).1 (ap (λ (z : Eisenstein). z.b) e) in
    rw (p, q) refl

-- ---- the sum

record IsList (n : ℕ) (ds : List ℕ) : Type 0 where
  long : length ds ≡ n
  small : AllBelowBase 7 ds

from_seven : (d : ℕ) → Contains (range_with_len 0 7) d → d < 7
from_seven d (zero, lt, e) = omega (arith, e)
from_seven d (suc zero, lt, e) = omega (arith, e)
from_seven d (suc (suc zero), lt, e) = omega (arith, e)
from_seven d (suc (suc (suc zero)), lt, e) = omega (arith, e)
from_seven d (suc (suc (suc (suc zero))), lt, e) = omega (arith, e)
from_seven d (suc (suc (suc (suc (suc zero)))), lt, e) = omega (arith, e)
from_seven d (suc (suc (suc (suc (suc (suc zero))))), lt, e) = omega (arith, e)
from_seven d (suc (suc (suc (suc (suc (suc (suc k)))))), lt, e) = absurd (omega (arith, lt))

from_digit_lists : (n : ℕ) (ds : List ℕ) → Contains (digit_lists n) ds → IsList n ds
unfolding digit_lists
from_digit_lists zero ds (zero, lt, e) = subst (IsList 0) e (record { long = refl; small = tt })
from_digit_lists zero ds (suc k, lt, e) = absurd (omega (arith, lt))
from_digit_lists (suc n) ds m =
    let a = from_flat (λ d. map (λ ds. d ∷ ds) (digit_lists n)) (range_with_len 0 7) ds m in
    let b = from_map (λ ds. a.0 ∷ ds) (digit_lists n) ds a.2 in
    let rest = from_digit_lists n b.0 b.1 in
    subst (IsList (suc n)) b.2 (record { long = ap suc rest.long; small = (from_seven a.0 a.1, rest.small) })

from_candidates : (n : ℕ) (p : Option Direction × List ℕ) → Contains (candidates n) p → IsList n p.1
unfolding candidates
from_candidates n p m =
    let a = from_flat (λ u. map (λ es. (u, es)) (digit_lists n)) carried p m in
    let b = from_map (λ es. (a.0, es)) (digit_lists n) p a.2 in
    subst (λ (q : Option Direction × List ℕ). IsList n q.1) b.2 (from_digit_lists n b.0 b.1)

pub sum_found : SumsAreUnique → (ds : List ℕ) (d : Direction) (u : Option Direction) (es : List ℕ) → IsSum ds d u es
    → found_sum ds d ≡ Some (u, es)
unfolding found_sum
sum_found unique ds d u es h =
    find_one (is_expansion ds d) (candidates (length ds)) (u, es) (in_candidates u (length ds) es h.long h.digits)
    (is_same _ _ h.sum) (λ p m t.
    let list = from_candidates (length ds) p m in
    let sum : IsSum ds d p.0 p.1 = record { long = list.long; digits = list.small; sum = same_is _ _ t } in
    let one = unique ds d p.0 u p.1 es sum h in
    λ i. (one.0 i, one.1 i))

-- ---- the step

pub step-pentagon : (link : Links) (s : State) (d : Direction) → is_pentagon_base s.cell.base ≡ true
    → step_of link s d ≡ None
unfolding step_of
step-pentagon link s d h = rw h refl

pub step-hexagon : SumsAreUnique → (link : Links) (s : State) (d : Direction) (u : Option Direction) (es : List ℕ)
    → is_pentagon_base s.cell.base ≡ false → IsSum s.cell.digits (turned s.rotation d) u es
    → step_of link s d ≡ led_to link s u es
unfolding step_of
step-hexagon unique link s d u es h sum = rw (h, sum_found unique s.cell.digits (turned s.rotation d) u es sum) refl

pub steps_found : SumsExist → SumsAreUnique → StepsAreFound
steps_found exist unique link s d r = (
  to (is_pentagon_base s.cell.base) refl,
  λ e. record {
    from_pentagon = λ h. sym e ∙ step-pentagon link s d h;
    from_hexagon = λ h. let t = exist s.cell.digits (turned s.rotation d) in
        record {
          out = t.out;
          list = t.list;
          sum = t.is;
          is = sym e ∙ step-hexagon unique link s d t.out t.list h t.is;
        };
  },
)
  where
    to : (b : Bool) → is_pentagon_base s.cell.base ≡ b → IsStep link s d r → step_of link s d ≡ r
    to true h st = step-pentagon link s d h ∙ sym (st.from_pentagon h)
    to false h st = let l = st.from_hexagon h in step-hexagon unique link s d l.out l.list h l.sum ∙ sym l.is
