-- Sums by areas: what numbers beside the cells of a list add up to, in each area and in none.
use Rattle.std.specs.Prelude.{◌≡◌, ℕ, ◌<◌, Bool, not, List, ◌++◌, Contains, map, ℤ, ◌+ℤ◌}
use Rattle.std.specs.List.{filter, range_with_len}
use Rattle.h3_index.specs.Cell.{Address}
use Rattle.h3_numbers.specs.Sum.{total}
use Rattle.h3_regions.specs.Areas.{AreApart, lies_in}
use Rattle.h3_set.specs.Coverage.{is_covered}

-- Amount: a cell, and the number in its row, in units of 10^-18
abbrev pub Amount : Type 0
Amount = Address × ℤ

-- cells_in amounts: the cells alone
abbrev pub cells_in : List Amount → List Address
cells_in amounts = map (λ a. a.0) amounts

-- sum_where test amounts: the sum of the numbers whose cells pass a test
abbrev pub sum_where : (Address → Bool) → List Amount → ℤ
sum_where test amounts = total (map (λ a. a.1) (filter (λ a. test a.0) amounts))

-- sum_in_area areas amounts n: the sum of the numbers whose cells lie in the area
abbrev pub sum_in_area : List (Address × ℕ) → List Amount → ℕ → ℤ
sum_in_area areas amounts n = sum_where (λ x. lies_in areas x n) amounts

-- is_outside areas x: no cell of an area covers x, so it lies in no area
abbrev pub is_outside : List (Address × ℕ) → Address → Bool
is_outside areas x = not (is_covered (map (λ p. p.0) areas) x)

-- sum_in_none areas amounts: the sum of the numbers whose cells lie in no area
abbrev pub sum_in_none : List (Address × ℕ) → List Amount → ℤ
sum_in_none areas amounts = sum_where (is_outside areas) amounts

-- ---- laws

-- AreaSumsAddUp: if no two areas overlap, the sums of all areas, whose numbers are below a size, and that of no area
-- add up to the sum of all numbers
abbrev pub AreaSumsAddUp : Type 0
AreaSumsAddUp = (areas : List (Address × ℕ)) (amounts : List Amount) (size : ℕ) → AreApart areas
    → ((c : Address) (n : ℕ) → Contains areas (c, n) → n < size)
    → total (map (sum_in_area areas amounts) (range_with_len 0 size)) +ℤ sum_in_none areas amounts
    ≡ total (map (λ a. a.1) amounts)

-- AreaSumsInParts: the sums of two parts of a list add up to those of the whole, in each area and in none
pub record AreaSumsInParts : Type 0 where
  pub area : (areas : List (Address × ℕ)) (n : ℕ) (xs ys : List Amount)
      → sum_in_area areas (xs ++ ys) n ≡ sum_in_area areas xs n +ℤ sum_in_area areas ys n
  pub none : (areas : List (Address × ℕ)) (xs ys : List Amount)
      → sum_in_none areas (xs ++ ys) ≡ sum_in_none areas xs +ℤ sum_in_none areas ys
