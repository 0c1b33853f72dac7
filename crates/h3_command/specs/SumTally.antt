-- Numbers that are added up by areas one after another. Private contracts and proofs alone cite this file.
use Rattle.std.specs.Prelude.{◌≡◌, ℕ, ◌+◌, ◌<◌, Bool, List, length, slice_index_or, count_by, ◌+ℤ◌}
use Rattle.h3_index.specs.Cell.{Address}
use Rattle.h3_numbers.specs.Number.{number_units}
use Rattle.h3_numbers.specs.Sum.{sum_count, sum_units}
use Rattle.h3_numbers.specs.declared.number.Number.{Number}
use Rattle.h3_numbers.specs.declared.sum.Sum.{Sum}
use Rattle.h3_regions.specs.Areas.{lies_in}
use Rattle.h3_command.specs.AreaSums.{Amount, cells_in, is_outside, sum_where}

-- IsOneMore number old new: the new sum is the old one with the number
pub record IsOneMore (number : Number) (old new : Sum) : Type 0 where
  pub count : sum_count new ≡ sum_count old + 1
  pub units : sum_units new ≡ sum_units old +ℤ number_units number

-- IsSumWhere test amounts s: the sum says how many of the cells pass a test, and what their numbers add up to
pub record IsSumWhere (test : Address → Bool) (amounts : List Amount) (s : Sum) : Type 0 where
  pub count : sum_count s ≡ count_by test (cells_in amounts)
  pub units : sum_units s ≡ sum_where test amounts

-- AreAreaSums areas amounts sums none: these are the counts and sums of areas, by their numbers, and those of no area
pub record AreAreaSums (areas : List (Address × ℕ)) (amounts : List Amount) (sums : List Sum) (none : Sum)
    : Type 0 where
  pub each : (n : ℕ) (d : Sum) → n < length sums → IsSumWhere (λ x. lies_in areas x n) amounts (slice_index_or sums n d)
  pub others : IsSumWhere (is_outside areas) amounts none
