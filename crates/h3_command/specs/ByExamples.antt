-- Lists by value at worked values, by computation.
use Rattle.std.specs.Prelude.{◌≡◌, ℕ, false, map, true, ◌==◌, List, [], ◌∷◌, ◌++◌, codes, length, Option, None, Some, Result, Ok, Err, if◌then◌else◌, refl}
use Rattle.h3_index.specs.Cell.{Address, number_of}
use Rattle.h3_index.specs.declared.error.H3Error.{H3Error}
use Rattle.h3_index.specs.declared.error.H3Error.TheVariants.{DuplicateInput, Failed}
use Rattle.h3_index.specs.CellNumber.{address_in, cell_in}
use Rattle.h3_index.specs.Text.{parsed_index, text_of}
use Rattle.h3_lines.specs.Answer.{Answer, written}
use Rattle.h3_lines.specs.declared.run_error.AnswerError.TheVariants.{AtRow, FileAt}
use Rattle.h3_lines.specs.declared.run_error.RowError.TheVariants.{Call}
use Rattle.h3_lines.specs.declared.run_error.CellFile.TheVariants.{Region}
use Rattle.h3_index.specs.Count.{base_cell, cells_of, cells_up_to}
use Rattle.h3_index.specs.Descendants.{child, descendants}
use Rattle.h3_index.specs.Paths.{paths}
use Rattle.h3_set.specs.Compacted.{compacted}
use Rattle.h3_regions.specs.Algebra.{difference, intersection}
use Rattle.h3_requests.specs.declared.command.Command.TheVariants as command
use Rattle.h3_requests.specs.declared.rows.CellField.TheVariants as field
use Rattle.h3_requests.specs.declared.rows.RowOptions.{RowOptions}
use Rattle.h3_requests.specs.declared.rows.Tables.{Tables}
use Rattle.h3_command.specs.Answer.{answer_to, request_of}
use Rattle.h3_command.specs.By.{lists_answer, value_lines}

-- two values
abbrev values : List (List ℕ)
values = codes "north" ∷ codes "west" ∷ []

-- a row of the second value stands between two of the first: one list for each, in the order of the values
one_list_each : (a b c : Address)
    → lists_answer 44 (Some (codes "zone")) Ok values (2 ∷ 3 ∷ []) ((a, 0) ∷ (b, 1) ∷ (c, 0) ∷ [])
    ≡ written ((codes "zone,cell" ++ 10 ∷ [])
    ++ (value_lines 44 (codes "north") (a ∷ c ∷ []) ++ (value_lines 44 (codes "west") (b ∷ []) ++ [])))
one_list_each a b c = refl

-- without a header, after tabs
no_header : (a : Address)
    → lists_answer 9 None Ok (codes "north" ∷ []) (1 ∷ []) ((a, 0) ∷ [])
    ≡ written (value_lines 9 (codes "north") (a ∷ []) ++ [])
no_header a = refl

-- a function that refuses two cells
abbrev refuses_two : List Address → Result (List Address) H3Error
refuses_two cells = if length cells == 2 then Err DuplicateInput else Ok cells

-- the second value's list is refused: its error, at its first row, and nothing is written of the first
second_refused : (a b c : Address)
    → lists_answer 44 (Some (codes "zone")) refuses_two values (2 ∷ 3 ∷ []) ((a, 0) ∷ (b, 1) ∷ (c, 1) ∷ [])
    ≡ record { output = []; ending = Err (AtRow 3 (Call DuplicateInput)) }
second_refused a b c = refl

-- ---- lists that a region cuts

-- children of the base cell 20, a hexagon
abbrev child_of : ℕ → Address
child_of digit = child (base_cell 20) digit

-- a region of two of them
abbrev two : List Address
two = child_of 5 ∷ child_of 2 ∷ []

-- the cells of two values: a child and the base cell 4, and the hexagon
abbrev owned : List (Address × ℕ)
owned = (child_of 2, 0) ∷ (base_cell 20, 1) ∷ (base_cell 4, 0) ∷ []

-- the list of each value, cut by a function
abbrev cut_lists : Option (List ℕ) → (List Address → List Address) → Answer
cut_lists title cut = lists_answer 44 title (λ cells. Ok (cut cells)) values (2 ∷ 3 ∷ []) owned

-- each value's cells are cut by the same region
shared_by_value : cut_lists None (λ cells. intersection cells two)
    ≡ written (value_lines 44 (codes "north") (child_of 2 ∷ []) ++
    (value_lines 44 (codes "west") (child_of 2 ∷ child_of 5 ∷ []) ++ []))
unfolding intersection compacted cells_up_to cells_of descendants paths
shared_by_value = refl

-- what the region does not cover may be more cells than the value has
left_by_value : cut_lists None (λ cells. difference cells two)
    ≡ written (value_lines 44 (codes "north") (base_cell 4 ∷ []) ++
    (value_lines 44 (codes "west") (map child_of (0 ∷ 1 ∷ 3 ∷ 4 ∷ 6 ∷ [])) ++ []))
unfolding difference compacted cells_up_to cells_of descendants paths
left_by_value = refl

-- a value that shares nothing has no row, and the next one's list is its own; the header is written
none_of_a_value : cut_lists (Some (codes "zone")) (λ cells. intersection cells (child_of 5 ∷ []))
    ≡ written ((codes "zone,cell" ++ 10 ∷ []) ++ ([] ++ (value_lines 44 (codes "west") (child_of 5 ∷ []) ++ [])))
unfolding intersection compacted cells_up_to cells_of descendants paths
none_of_a_value = refl

-- ---- what is read and written

-- the cell is in the second field, after a header, and quotes count
abbrev rows : RowOptions
rows = record {
  field = field.Number 2;
  has_header = true;
  separator = 44;
  quotes = true;
  name = None;
  keeps_going = false;
  shows_errors = false;
  is_ragged = false;
  counted = refl;
  separates = refl;
}

-- the rows are divided by the first field; the file of a region is bare, or has such rows
abbrev by_zone : Option RowOptions → Tables
by_zone file = record {
  list = Some rows;
  sum = None;
  by = Some (field.Number 1);
  file = file;
  areas = None;
  sum_counted = refl;
  by_counted = refl;
}

-- two children of the base cell 20
abbrev region : List ℕ
region = codes "81297ffffffffff" ++ 10 ∷ codes "8128bffffffffff" ++ 10 ∷ []

-- one of them, in a table
abbrev table : List ℕ
table = codes "zone,cell" ++ 10 ∷ codes "8009fffffffffff,81297ffffffffff" ++ 10 ∷ []

-- one of the children, twice another base cell, and the base cell 20, below two values, one of which has quotes once
abbrev list : List ℕ
list =
    codes "zone,cell" ++ 10 ∷ codes "north,8128bffffffffff" ++ 10 ∷ codes "none," ++ 10 ∷ codes "west,8029fffffffffff"
    ++ 10 ∷ 34 ∷ codes "north" ++ 34 ∷ codes ",8009fffffffffff" ++ 10 ∷ []

shared_lists : answer_to (request_of (by_zone None) command.IntersectCells) list region
    ≡ written (codes "zone,cell" ++ 10 ∷ codes "north,8128bffffffffff" ++ 10 ∷ codes "west,8128bffffffffff" ++ 10
    ∷ codes "west,81297ffffffffff" ++ 10 ∷ [])
unfolding intersection compacted cells_up_to cells_of descendants paths address_in cell_in number_of parsed_index
    text_of
shared_lists = refl

left_lists : (answer_to (request_of (by_zone None) command.SubtractCells) list region)
    ≡ written (codes "zone,cell" ++ 10 ∷ codes "north,8009fffffffffff" ++ 10 ∷ codes "west,81283ffffffffff" ++ 10
    ∷ codes "west,81287ffffffffff" ++ 10 ∷
    codes "west,8128fffffffffff" ++ 10 ∷ codes "west,81293ffffffffff" ++ 10 ∷ codes "west,8129bffffffffff" ++ 10 ∷ [])
unfolding difference compacted cells_up_to cells_of descendants paths address_in cell_in number_of parsed_index text_of
left_lists = refl

-- a region in a table is read by its own field
shared_with_table : (answer_to (request_of (by_zone (Some rows)) command.IntersectCells) list table)
    ≡ written (codes "zone,cell" ++ 10 ∷ codes "west,81297ffffffffff" ++ 10 ∷ [])
unfolding intersection compacted cells_up_to cells_of descendants paths address_in cell_in number_of parsed_index
    text_of
shared_with_table = refl

-- a faulty region is its own error, whatever the list is
region_first : (given : List ℕ) → (answer_to (request_of (by_zone None) command.SubtractCells) given (codes "xyz"))
    ≡ record { output = []; ending = Err (FileAt Region 1 Failed) }
unfolding parsed_index
region_first given = refl
