-- Expansions: one at each resolution, and the sum of a place and a unit.
use Rattle.std.proofs.Common.{◌≡◌, ℕ, zero, suc, ◌+◌, ◌++◌, refl, arith, sym, ap, ◌∙◌, Option, Some, List, [], ◌∷◌, length, map}
use Rattle.std.proofs.lemmas.List.{length-map}
use Rattle.std.specs.Int.Digits.{AllBelowBase}
use Rattle.h3_directions.specs.declared.direction.Direction.{Direction}
use Rattle.h3_lattice.specs.declared.class.Class.{Class}
use Rattle.h3_lattice.specs.declared.class.Class.TheVariants.{Two, Three}
use Rattle.h3_directions.specs.Eisenstein.{Eisenstein, product_of, sum_of, zero_point}
use Rattle.h3_directions.specs.Direction.{digit_or_zero, digit_value, direction_of, unit_of, value_of}
use Rattle.h3_lattice.specs.Class.{class_at, multiplier}
use Rattle.h3_lattice.specs.Expansion.{multiplier_at, place_from, place, scaled, IsExpansion, ExpansionsAreUnique, sum_from, PlacesAreSums}
use Rattle.h3_lattice.proofs.LinearLaws.{points}
use Rattle.h3_lattice.proofs.DivisionLaws.{digit_or_zero-lt, direction_of-digit_or_zero, one_digit, division}
use Rattle.h3_lattice.proofs.CarryLaws.{carried_into, carried_into_is}

-- ---- a part that is added at the coarse end

further : (c : Class) (x y v : Eisenstein)
    → sum_of (product_of (multiplier c) (sum_of x y)) v
    ≡ sum_of (product_of (multiplier c) x) (sum_of (product_of (multiplier c) y) v)
further Three x y v = omega (arith, points)
further Two x y v = omega (arith, points)

pub place_from-sum : (n : ℕ) (x y : Eisenstein) (ds : List ℕ)
    → place_from n (sum_of x y) ds ≡ sum_of (scaled n (length ds) x) (place_from n y ds)
place_from-sum n x y [] = refl
place_from-sum n x y (d ∷ ds) =
    let c = class_at (n + 1) in
    ap (λ z. place_from (n + 1) z ds) (further c x y (digit_value d))
    ∙ place_from-sum (n + 1) (product_of (multiplier c) x) (sum_of (product_of (multiplier c) y) (digit_value d)) ds

pub sum-zero : (x : Eisenstein) → x ≡ sum_of x zero_point
sum-zero x = omega (arith, points)

pub zero-sum : (x : Eisenstein) → sum_of zero_point x ≡ x
zero-sum x = omega (arith, points)

-- u * M_1 * .. * M_r + place ds, along the digits
pub place_from-unit : (u : Eisenstein) (ds : List ℕ) → place_from 0 u ds ≡ sum_of (scaled 0 (length ds) u) (place ds)
place_from-unit u ds =
    ap (λ z. place_from 0 z ds) (sum-zero u) ∙ place_from-sum 0 u zero_point ds

-- ---- the place as a sum

only_digit : (c : Class) (v : Eisenstein) → sum_of (product_of (multiplier c) zero_point) v ≡ sum_of v zero_point
only_digit Three v = omega (arith, points)
only_digit Two v = omega (arith, points)

place_from-zero : (n : ℕ) (ds : List ℕ) → place_from n zero_point ds ≡ sum_from n ds
place_from-zero n [] = refl
place_from-zero n (d ∷ ds) =
    ap (λ z. place_from (n + 1) z ds) (only_digit (class_at (n + 1)) (digit_value d))
    ∙ place_from-sum (n + 1) (digit_value d) zero_point ds
    ∙ ap (sum_of (scaled (n + 1) (length ds) (digit_value d))) (place_from-zero (n + 1) ds)

pub places_are_sums : PlacesAreSums
places_are_sums ds = place_from-zero 0 ds

-- ---- one expansion

pub record Expanded (n k : ℕ) (z : Eisenstein) : Type 0 where
  pub unit : Eisenstein
  pub list : List ℕ
  pub long : length list ≡ k
  pub small : AllBelowBase 7 list
  pub is : place_from n unit list ≡ z

pub expanded : (n k : ℕ) (z : Eisenstein) → Expanded n k z
expanded n zero z = record { unit = z; list = []; long = refl; small = tt; is = refl }
expanded n (suc k) z =
    let e = expanded (n + 1) k z in
    let d = division (class_at (n + 1)) e.unit in
    record {
      unit = d.quotient;
      list = d.digit ∷ e.list;
      long = ap suc e.long;
      small = (d.small, e.small);
      is = ap (λ v. place_from (n + 1) v e.list) (sym d.is) ∙ e.is;
    }

pub one_list : (n : ℕ) (u v : Eisenstein) (ds es : List ℕ) → length ds ≡ length es → AllBelowBase 7 ds
    → AllBelowBase 7 es → place_from n u ds ≡ place_from n v es → (u ≡ v) × (ds ≡ es)
one_list n u v [] [] l a b e = (e, refl)
one_list n u v [] (d' ∷ es) l a b e = absurd (omega arith)
one_list n u v (d ∷ ds) [] l a b e = absurd (omega arith)
one_list n u v (d ∷ ds) (d' ∷ es) l a b e =
    let l' : length ds ≡ length es = omega arith in
    let rest = one_list (n + 1) _ _ ds es l' a.1 b.1 e in
    let here = one_digit (class_at (n + 1)) u v d d' a.0 b.0 rest.0 in
    let first = here.1 in
    let others = rest.1 in
    (here.0, cc)

-- an expansion, along the digits
pub expansion_along : (z u : Eisenstein) (r : ℕ) (ds : List ℕ) → IsExpansion z r u ds → place_from 0 u ds ≡ z
expansion_along z u r ds h =
    place_from-unit u ds ∙ ap (λ n. sum_of (scaled 0 n u) (place ds)) h.long ∙ sym h.sum

pub along_expansion : (z u : Eisenstein) (r : ℕ) (ds : List ℕ) → length ds ≡ r → AllBelowBase 7 ds
    → place_from 0 u ds ≡ z → IsExpansion z r u ds
along_expansion z u r ds l a e = record {
  long = l;
  digits = a;
  sum = sym e ∙ place_from-unit u ds ∙ ap (λ n. sum_of (scaled 0 n u) (place ds)) l;
}

pub expansions_are_unique : ExpansionsAreUnique
expansions_are_unique z r =
    let e = expanded 0 r z in
    record {
      unit = e.unit;
      list = e.list;
      is = along_expansion z e.unit r e.list e.long e.small e.is;
      only = λ u ds h.
          one_list 0 u e.unit ds e.list (h.long ∙ sym e.long) h.digits e.small (expansion_along z u r ds h ∙ sym e.is);
    }

-- ---- a place and a unit

-- a carry into the digit d of resolution n + 1
pub one_step : (c : Class) (z x p k y : Eisenstein) → sum_of x p ≡ sum_of (product_of (multiplier c) k) y
    → sum_of (sum_of (product_of (multiplier c) z) x) p ≡ sum_of (product_of (multiplier c) (sum_of z k)) y
one_step Three z x p k y e = omega (arith, points)
one_step Two z x p k y e = omega (arith, points)

-- along digits that are directions, or the centre
abbrev pub place_along : ℕ → Eisenstein → List (Option Direction) → Eisenstein
place_along n z [] = z
place_along n z (x ∷ xs) =
    place_along (n + 1) (sum_of (product_of (multiplier_at (n + 1)) z) (value_of x)) xs

pub place_from-directions : (n : ℕ) (z : Eisenstein) (ds : List ℕ)
    → place_from n z ds ≡ place_along n z (map direction_of ds)
place_from-directions n z [] = refl
place_from-directions n z (d ∷ ds) =
    place_from-directions (n + 1) (sum_of (product_of (multiplier_at (n + 1)) z) (digit_value d)) ds

pub directions-digits : (xs : List (Option Direction)) → map direction_of (map digit_or_zero xs) ≡ xs
directions-digits [] = refl
directions-digits (x ∷ xs) =
    let first = direction_of-digit_or_zero x in
    let others = directions-digits xs in
    cc

pub place_from-digits : (n : ℕ) (z : Eisenstein) (xs : List (Option Direction))
    → place_from n z (map digit_or_zero xs) ≡ place_along n z xs
place_from-digits n z xs =
    place_from-directions n z (map digit_or_zero xs) ∙ ap (place_along n z) (directions-digits xs)

pub all_small-digits : (xs : List (Option Direction)) → AllBelowBase 7 (map digit_or_zero xs)
all_small-digits [] = tt
all_small-digits (x ∷ xs) = (digit_or_zero-lt x, all_small-digits xs)

-- a direction, or nothing, added at the last of the digits of resolutions n + 1, n + 2, ..: what is carried out of
-- the first of them, and the digits that are left
abbrev pub added : ℕ → List (Option Direction) → Option Direction → Option Direction × List (Option Direction)
added n [] p = (p, [])
added n (x ∷ xs) p =
    let s = added (n + 1) xs p in
    let k = carried_into (class_at (n + 1)) x s.0 in
    (k.1, k.0 ∷ s.1)

pub length-added : (n : ℕ) (xs : List (Option Direction)) (p : Option Direction) → length (added n xs p).1 ≡ length xs
length-added n [] p = refl
length-added n (x ∷ xs) p = ap suc (length-added (n + 1) xs p)

pub added_sum : (n : ℕ) (z : Eisenstein) (xs : List (Option Direction)) (p : Option Direction)
    → sum_of (place_along n z xs) (value_of p) ≡ place_along n (sum_of z (value_of (added n xs p).0)) (added n xs p).1
added_sum n z [] p = refl
added_sum n z (x ∷ xs) p =
    let c = class_at (n + 1) in
    let s = added (n + 1) xs p in
    let k = carried_into c x s.0 in
    added_sum (n + 1) (sum_of (product_of (multiplier c) z) (value_of x)) xs p
    ∙ ap (λ v. place_along (n + 1) v s.1)
    (one_step c z (value_of x) (value_of s.0) (value_of k.1) (value_of k.0) (carried_into_is c x s.0))

-- the sum of a place and a direction
pub added_place : (ds : List ℕ) (d : Direction)
    → place_from 0 (value_of (added 0 (map direction_of ds) (Some d)).0)
    (map digit_or_zero (added 0 (map direction_of ds) (Some d)).1)
    ≡ sum_of (place ds) (unit_of d)
added_place ds d =
    let s = added 0 (map direction_of ds) (Some d) in
    place_from-digits 0 (value_of s.0) s.1
    ∙ ap (λ z. place_along 0 z s.1) (sym (zero-sum (value_of s.0)))
    ∙ sym (added_sum 0 zero_point (map direction_of ds) (Some d))
    ∙ ap (λ z. sum_of z (unit_of d)) (sym (place_from-directions 0 zero_point ds))

pub length-added_digits : (ds : List ℕ) (d : Direction)
    → length (map digit_or_zero (added 0 (map direction_of ds) (Some d)).1) ≡ length ds
length-added_digits ds d =
    let s = added 0 (map direction_of ds) (Some d) in
    length-map s.1 digit_or_zero ∙ length-added 0 (map direction_of ds) (Some d) ∙ length-map ds direction_of

-- ---- one more digit

pub place_from-append : (n : ℕ) (z : Eisenstein) (ds : List ℕ) (d r : ℕ) → r ≡ n + length ds + 1
    → place_from n z (ds ++ d ∷ []) ≡ sum_of (product_of (multiplier_at r) (place_from n z ds)) (digit_value d)
place_from-append n z [] d r e =
    let same : n + 1 ≡ r = omega arith in
    ap (λ k. sum_of (product_of (multiplier_at k) z) (digit_value d)) same
place_from-append n z (x ∷ ds) d r e =
    let next : r ≡ n + 1 + length ds + 1 = omega arith in
    place_from-append (n + 1) (sum_of (product_of (multiplier_at (n + 1)) z) (digit_value x)) ds d r next
