-- Places of digit lists, and expansions of Eisenstein integers.
--
-- A cell's digits, the first of them that of resolution 1, say where the cell lies in its base cell: at its place in
-- the grid of its resolution. From one resolution to the next the place is multiplied, and the next digit is added.
use Rattle.std.specs.Prelude.{◌≡◌, ℕ, zero, suc, ◌+◌, List, [], ◌∷◌, length}
use Rattle.std.specs.Int.Digits.{AllBelowBase}
use Rattle.h3_directions.specs.Eisenstein.{Eisenstein, product_of, sum_of, zero_point}
use Rattle.h3_directions.specs.Direction.{digit_value}
use Rattle.h3_lattice.specs.Class.{class_at, multiplier}

-- M_n, by which resolution n multiplies
abbrev pub multiplier_at : ℕ → Eisenstein
multiplier_at n = multiplier (class_at n)

-- the place that z, at resolution n, becomes by these finer digits
abbrev pub place_from : ℕ → Eisenstein → List ℕ → Eisenstein
place_from n z [] = z
place_from n z (d ∷ ds) =
    place_from (n + 1) (sum_of (product_of (multiplier_at (n + 1)) z) (digit_value d)) ds

-- place ds: where a digit list lies in its base cell
abbrev pub place : List ℕ → Eisenstein
place ds = place_from 0 zero_point ds

-- M_(n+1) * .. * M_(n+k) * z
abbrev pub scaled : ℕ → ℕ → Eisenstein → Eisenstein
scaled n zero z = z
scaled n (suc k) z = scaled (n + 1) k (product_of (multiplier_at (n + 1)) z)

-- IsExpansion z r u ds: ds has r digits of 0 to 6, and z = u * M_1 * .. * M_r + the place of ds
pub record IsExpansion (z : Eisenstein) (r : ℕ) (u : Eisenstein) (ds : List ℕ) : Type 0 where
  pub long : length ds ≡ r
  pub digits : AllBelowBase 7 ds
  pub sum : z ≡ sum_of (scaled 0 r u) (place ds)

-- an expansion, and that there is no other
pub record OneExpansion (z : Eisenstein) (r : ℕ) : Type 0 where
  pub unit : Eisenstein
  pub list : List ℕ
  pub is : IsExpansion z r unit list
  pub only : (u : Eisenstein) (ds : List ℕ) → IsExpansion z r u ds → (u ≡ unit) × (ds ≡ list)

-- ExpansionsAreUnique: each number has exactly one expansion at each resolution
abbrev pub ExpansionsAreUnique : Type 0
ExpansionsAreUnique = (z : Eisenstein) (r : ℕ) → OneExpansion z r

-- ---- the place as a sum

-- over the digits, the first of which is that of resolution n + 1: each times the multipliers of all finer resolutions
abbrev pub sum_from : ℕ → List ℕ → Eisenstein
sum_from n [] = zero_point
sum_from n (d ∷ ds) = sum_of (scaled (n + 1) (length ds) (digit_value d)) (sum_from (n + 1) ds)

-- PlacesAreSums: a place is the sum of its digits' own places
--
-- the place of r digits is the sum over n of digit n times M_(n+1) * .. * M_r
abbrev pub PlacesAreSums : Type 0
PlacesAreSums = (ds : List ℕ) → place ds ≡ sum_from 0 ds
