-- The counts of cells by their ancestors, and their sums, at worked values, by computation.
use Rattle.std.specs.Prelude.{◌≡◌, ℕ, true, false, List, [], ◌∷◌, ◌++◌, codes, pos, negsuc, None, Some, Option, Err, refl}
use Rattle.std.specs.Fmt.{digits}
use Rattle.h3_index.specs.Cell.{number_of}
use Rattle.h3_index.specs.CellNumber.{address_in, cell_in}
use Rattle.h3_index.specs.Count.{number_below}
use Rattle.h3_index.specs.Text.{parsed_index, text_of}
use Rattle.h3_index.specs.declared.error.H3Error.TheVariants.{CellInvalid, ResDomain, ResMismatch}
use Rattle.h3_lines.specs.Answer.{written}
use Rattle.h3_lines.specs.declared.run_error.AnswerError.TheVariants.{At, AtRow}
use Rattle.h3_lines.specs.declared.run_error.RowError.TheVariants.{Call, NotANumber}
use Rattle.h3_requests.specs.declared.command.Command.TheVariants.{CountCellsInParents}
use Rattle.h3_requests.specs.declared.rows.CellField.{CellField}
use Rattle.h3_requests.specs.declared.rows.CellField.TheVariants as field
use Rattle.h3_requests.specs.declared.rows.Tables.{Tables}
use Rattle.h3_requests.specs.Rows.{is_counted_if}
use Rattle.h3_command.specs.Answer.{answer, answer_to, request_of}

-- two children of one cell
abbrev p : List ℕ
p = codes "85283473fffffff"

abbrev q : List ℕ
q = codes "85283477fffffff"

-- a child of another cell, with a lower number
abbrev x : List ℕ
x = codes "8528340ffffffff"

-- ---- a bare list

-- each ancestor once, in ascending order, with how many of the cells have it
counted : answer (CountCellsInParents (pos 4)) (p ++ 10 ∷ q ++ 10 ∷ x ++ 10 ∷ p ++ 10 ∷ []) []
    ≡ written (codes "8428341ffffffff 1" ++ 10 ∷ codes "8428347ffffffff 3" ++ 10 ∷ [])
unfolding digits parsed_index cell_in address_in number_of text_of number_below
counted = refl

-- a cell is its own ancestor at its own resolution; blank lines count for nothing
own_cells : answer (CountCellsInParents (pos 5)) (q ++ 10 ∷ 10 ∷ p ++ 10 ∷ q) []
    ≡ written (codes "85283473fffffff 1" ++ 10 ∷ codes "85283477fffffff 2" ++ 10 ∷ [])
unfolding digits parsed_index cell_in address_in number_of text_of number_below
own_cells = refl

-- a cell that is coarser than the resolution ends the list, at its line
coarser : answer (CountCellsInParents (pos 5)) (p ++ 10 ∷ codes "8428347ffffffff" ++ 10 ∷ codes "x" ++ 10 ∷ []) []
    ≡ record { output = []; ending = Err (At 2 ResMismatch) }
unfolding parsed_index cell_in address_in number_of number_below
coarser = refl

-- so does a number that is no resolution, at the first line that has a cell
no_resolution : answer (CountCellsInParents (pos 16)) (10 ∷ p ++ 10 ∷ []) []
    ≡ record { output = []; ending = Err (At 2 ResDomain) }
unfolding parsed_index cell_in address_in number_of number_below
no_resolution = refl

-- and an index that no cell has; a list without cells has no ancestor
no_cell : answer (CountCellsInParents (negsuc 0)) (10 ∷ codes "1" ++ 10 ∷ []) []
    ≡ record { output = []; ending = Err (At 2 CellInvalid) }
unfolding parsed_index cell_in address_in number_of number_below
no_cell = refl

none : answer (CountCellsInParents (negsuc 0)) (10 ∷ []) [] ≡ written []
none = refl

-- ---- rows

-- the cells are in the second field of a table with commas and a header; this says which field has numbers
abbrev tables : (sum : Option CellField) → is_counted_if sum ≡ true → Tables
tables sum counted = record {
  list =
      Some (record {
        field = field.Number 2;
        has_header = true;
        separator = 44;
        quotes = true;
        name = None;
        keeps_going = false;
        shows_errors = false;
        is_ragged = false;
        counted = refl;
        separates = refl;
      });
  sum = sum;
  by = None;
  file = None;
  areas = None;
  sum_counted = counted;
  by_counted = refl;
}

abbrev trips : List ℕ
trips =
    codes "id,cell,amount" ++ 10 ∷ codes "1," ++ p ++ codes ",1.50" ++ 10 ∷ codes "2," ++ q ++ codes ",2" ++ 10
    ∷ codes "3," ++ x ++ codes ",-0.5" ++ 10 ∷ codes "4,,7" ++ 10 ∷ []

-- a row for each ancestor, after a header; the row without a cell is in no count
rows_counted : answer_to (request_of (tables None refl) (CountCellsInParents (pos 4))) trips []
    ≡ written (codes "cell,count" ++ 10 ∷ codes "8428341ffffffff,1" ++ 10 ∷ codes "8428347ffffffff,2" ++ 10 ∷ [])
unfolding digits parsed_index cell_in address_in number_of text_of number_below
rows_counted = refl

-- with what the numbers add up to, under their title; the row without a cell is in no sum
summed : answer_to (request_of (tables (Some (field.Number 3)) refl) (CountCellsInParents (pos 4))) trips []
    ≡ written
    (codes "cell,count,amount" ++ 10 ∷ codes "8428341ffffffff,1,-0.5" ++ 10 ∷ codes "8428347ffffffff,2,3.5" ++ 10 ∷ [])
unfolding digits parsed_index cell_in address_in number_of text_of number_below
summed = refl

-- a row with a cell and no number: nothing is printed
no_number : answer_to (request_of (tables (Some (field.Number 3)) refl) (CountCellsInParents (pos 4)))
    (trips ++ codes "5," ++ p ++ codes ",." ++ 10 ∷ []) []
    ≡ record { output = []; ending = Err (AtRow 6 NotANumber) }
unfolding parsed_index cell_in address_in number_of number_below
no_number = refl

-- in one row the error of its cell, also that it is coarser, comes first
cell_first : answer_to (request_of (tables (Some (field.Number 3)) refl) (CountCellsInParents (pos 6)))
    (codes "id,cell,amount" ++ 10 ∷ codes "1," ++ p ++ codes ",." ++ 10 ∷ []) []
    ≡ record { output = []; ending = Err (AtRow 2 (Call ResMismatch)) }
unfolding parsed_index cell_in address_in number_of number_below
cell_first = refl
