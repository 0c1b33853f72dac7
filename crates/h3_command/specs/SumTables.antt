-- Tables of counts and sums.
use Rattle.std.specs.Prelude.{ℕ, List, [], ◌∷◌, ◌++◌, codes, decimal, Option, None, Some, ℤ}
use Rattle.std.specs.List.{flat_map}
use Rattle.h3_numbers.specs.Writing.{sum_text}

-- SumRow: a name, how many cells have it, and the sum of the numbers beside these, in units of 10^-18
pub record SumRow : Type 0 where
  pub name : List ℕ
  pub count : ℕ
  pub units : ℤ

-- row_end separator count units: a count in decimal, the separator, a sum, and a line feed
abbrev pub row_end : ℕ → ℕ → ℤ → List ℕ
row_end separator count units = decimal count ++ separator ∷ (sum_text units ++ 10 ∷ [])

-- sum_row separator row: a name, its count and its sum, with separators between them, and a line feed
abbrev pub sum_row : ℕ → SumRow → List ℕ
sum_row separator row = row.name ++ separator ∷ row_end separator row.count row.units

-- titles_row separator titles: the titles of the columns of names and of sums, with `count` between them, as a row;
-- nothing if there are no titles
abbrev pub titles_row : ℕ → Option (List ℕ × List ℕ) → List ℕ
titles_row separator None = []
titles_row separator (Some titles) = titles.0 ++ separator ∷ (codes "count" ++ separator ∷ (titles.1 ++ 10 ∷ []))

-- sums_table separator titles rows: the titles, if there are any, and a row for each name with its count and its sum
abbrev pub sums_table : ℕ → Option (List ℕ × List ℕ) → List SumRow → List ℕ
sums_table separator titles rows = titles_row separator titles ++ flat_map (sum_row separator) rows
