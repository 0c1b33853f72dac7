-- The rows of counts and sums. Private contracts and proofs alone cite this file.
use Rattle.std.specs.Prelude.{ℕ, Bool, List, [], get_or, map, Option, None, Some, if◌then◌else◌, ℤ, pos}
use Rattle.std.specs.List.{range_with_len}
use Rattle.h3_numbers.specs.Sum.{sum_count, sum_units}
use Rattle.h3_numbers.specs.declared.sum.Sum.{Sum}
use Rattle.h3_command.specs.SumTables.{SumRow}

-- the row of a name with a sum
abbrev pub row_of : List ℕ → Sum → SumRow
row_of name s = record { name = name; count = sum_count s; units = sum_units s }

-- how many numbers were added, and their sum
abbrev pub value_of : Sum → ℕ × ℤ
value_of s = (sum_count s, sum_units s)

-- the same of each
abbrev pub values_of : List Sum → List (ℕ × ℤ)
values_of sums = map value_of sums

-- the row of the name with a number
abbrev pub named_row : List (List ℕ) → List (ℕ × ℤ) → ℕ → SumRow
named_row names values k =
    record { name = get_or names k []; count = (get_or values k (0, pos 0)).0; units = (get_or values k (0, pos 0)).1 }

-- those of the first n names
abbrev pub named_rows : List (List ℕ) → List (ℕ × ℤ) → ℕ → List SumRow
named_rows names values n = map (named_row names values) (range_with_len 0 n)

-- the titles of the columns of names and of sums, if there is a header
abbrev pub titles_of : Bool → List ℕ → List ℕ → Option (List ℕ × List ℕ)
titles_of header names sums = if header then Some (names, sums) else None
