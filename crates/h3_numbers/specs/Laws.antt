-- Laws of numbers and sums.
use Rattle.std.specs.Prelude.{◌≡◌, ℕ, ◌^◌, ◌<◌, ◌≤◌, List, ◌++◌, length, Some, ℤ, ◌+ℤ◌, unsigned_abs, IsPermutation}
use Rattle.h3_numbers.specs.Reading.{parsed_decimal}
use Rattle.h3_numbers.specs.Sum.{total}
use Rattle.h3_numbers.specs.Writing.{sum_text}

-- SumsReadBack: the text of a sum, read as a number with any number of digits before the point, is the sum
abbrev pub SumsReadBack : Type 0
SumsReadBack = (units : ℤ) → unsigned_abs units < 10 ^ 64 → parsed_decimal (sum_text units) ≡ Some units

-- SumsAreShortest: no other text that is read as the same number is shorter
abbrev pub SumsAreShortest : Type 0
SumsAreShortest =
    (units : ℤ) (text : List ℕ) → unsigned_abs units < 10 ^ 64 → parsed_decimal text ≡ Some units
    → length (sum_text units) ≤ length text

-- TotalsInAnyOrder: the sum of a list does not depend on its order
abbrev pub TotalsInAnyOrder : Type 0
TotalsInAnyOrder = (xs ys : List ℤ) → IsPermutation xs ys → total ys ≡ total xs

-- TotalsInParts: the sums of two parts of a list add up to that of the whole
abbrev pub TotalsInParts : Type 0
TotalsInParts = (xs ys : List ℤ) → total (xs ++ ys) ≡ total xs +ℤ total ys
