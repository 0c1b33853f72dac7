-- The ancestors of a list's cells at a resolution: each once, in ascending order, with how many of the cells have it.
use Rattle.std.specs.Prelude.{◌≡◌, ℕ, ℤ, Bool, ◌+◌, ◌==◌, ◌<◌, ◌↔◌, nat_lt, All, AllPairs, Contains, List, [], ◌∷◌, ◌++◌, length, map, sum, codes, count_by, Option, None, Some, Result, Ok, Err, if◌then◌else◌}
use Rattle.h3_index.specs.Cell.{Address, IsCell, number_of}
use Rattle.h3_index.specs.Text.{text_of}
use Rattle.h3_index.specs.declared.error.H3Error.{H3Error}
use Rattle.h3_lines.specs.Answer.{Answer, written}
use Rattle.h3_lines.specs.List.{Says}
use Rattle.h3_functions.specs.Hierarchy.{cell_to_parent}
use Rattle.h3_requests.specs.declared.rows.RowOptions.{RowOptions}
use Rattle.h3_command.specs.AreaCounts.{counts_table}
use Rattle.h3_command.specs.LongAnswers.{between_parts}

-- ---- what is taken for an index

-- taken_cell value: the cell that a function returns is taken, or its error
abbrev pub taken_cell : Result Address H3Error → Result (Option Address) H3Error
taken_cell (Ok cell) = Ok (Some cell)
taken_cell (Err e) = Err e

-- parent_at r index: the ancestor at a resolution of the cell that has the index, or the error of `cellToParent`
abbrev pub parent_at : ℤ → Says
parent_at res index = taken_cell (cell_to_parent index res)

-- ---- the ancestors

-- with_cell cell cells: a cell put in its place among cells that ascend: in place of itself, if it is there
abbrev pub with_cell : Address → List Address → List Address
with_cell x [] = x ∷ []
with_cell x (c ∷ cs) =
    if nat_lt (number_of x) (number_of c) then x ∷ c ∷ cs
    else if number_of x == number_of c then x ∷ cs else c ∷ with_cell x cs

-- distinct cells: the cells of a list, each once, in ascending order of their numbers
abbrev pub distinct : List Address → List Address
distinct [] = []
distinct (c ∷ cs) = with_cell c (distinct cs)

-- is_same cell x: x is the cell: it has its number
abbrev pub is_same : Address → Address → Bool
is_same cell x = number_of x == number_of cell

-- times cells cell: how many places of a list have the cell
abbrev pub times : List Address → Address → ℕ
times cells cell = count_by (is_same cell) cells

-- parent_count cells ancestor: the text of an ancestor, and how many places of a list have it
abbrev pub parent_count : List Address → Address → List ℕ × ℕ
parent_count cells ancestor = (text_of (number_of ancestor), times cells ancestor)

-- parent_counts cells: the same of each ancestor in a list, in ascending order
abbrev pub parent_counts : List Address → List (List ℕ × ℕ)
parent_counts cells = map (parent_count cells) (distinct cells)

-- ---- as lines, or as a table

-- cell_title rows: the title of the column of ancestors, `cell`, if a list has rows with a header
abbrev pub cell_title : Option RowOptions → Option (List ℕ)
cell_title None = None
cell_title (Some rows) = if rows.has_header then Some (codes "cell") else None

-- parent_counts_answer rows cells: a line for each ancestor in a list, in ascending order, with how many places of the
-- list have it: a space between them; or, if the list has rows, a row, after a header if they have one
abbrev pub parent_counts_answer : Option RowOptions → List Address → Answer
parent_counts_answer rows cells =
    written (counts_table (between_parts rows) (cell_title rows) (parent_counts cells))

-- ---- laws

-- ParentsPrintedOnce: each ancestor in a list has one line, and nothing else has one; the lines ascend by number; the
-- counts add up to the number of cells; and the counts in two parts of a list, to those in the whole
pub record ParentsPrintedOnce : Type 0 where
  pub each : (cells : List Address) (x : Address) → All IsCell cells → Contains (distinct cells) x ↔ Contains cells x
  pub ascending : (cells : List Address) → AllPairs (λ a b. number_of a < number_of b) (distinct cells)
  pub all : (cells : List Address) → sum (map (λ row. row.1) (parent_counts cells)) ≡ length cells
  pub in_parts : (cell : Address) (xs ys : List Address) → times (xs ++ ys) cell ≡ times xs cell + times ys cell
