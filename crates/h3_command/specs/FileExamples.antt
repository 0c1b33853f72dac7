-- The definitions of tables of cells, those of a region or of zones, at worked values, by computation.
use Rattle.std.specs.Prelude.{map, ◌≡◌, ℕ, Bool, true, false, List, [], ◌∷◌, ◌++◌, codes, Option, None, Some, Result, Ok, Err, refl}
use Rattle.h3_index.specs.Cell.{Address, number_of}
use Rattle.h3_index.specs.CellNumber.{address_in, cell_in}
use Rattle.h3_index.specs.Text.{parsed_index, text_of}
use Rattle.h3_index.specs.declared.error.H3Error.TheVariants.{CellInvalid, DuplicateInput, Failed}
use Rattle.h3_lines.specs.List.{itself}
use Rattle.h3_lines.specs.Answer.{written}
use Rattle.h3_lines.specs.declared.run_error.AnswerError.{AnswerError}
use Rattle.h3_lines.specs.declared.run_error.AnswerError.TheVariants.{File, FileAt, FileAtRow, FileColumn}
use Rattle.h3_lines.specs.declared.run_error.CellFile.TheVariants.{Region, Zones}
use Rattle.h3_lines.specs.declared.run_error.ColumnError.TheVariants.{NotFound, NotUnique}
use Rattle.h3_lines.specs.declared.run_error.RowError.TheVariants.{Bad, Call}
use Rattle.h3_lines.specs.declared.run_error.RowFault.TheVariants.{FieldCount, NoSuchField, NotAnIndex, OpenQuote}
use Rattle.h3_rows.specs.RowsAnswer.{After, Choice, Form, Named}
use Rattle.h3_command.specs.Answer.{Request, answer_to, reads_list_after}
use Rattle.h3_command.specs.Answer.ListRequest.{of_lines}
use Rattle.h3_command.specs.Answer.Request.{after_file}
use Rattle.h3_command.specs.Files.{file_cells, zone_answer}

-- commas between fields, and quotes count
abbrev commas : Choice → Bool → Form
commas choice has_header = record {
  separator = 44;
  quotes = true;
  choice = choice;
  says = itself;
  has_header = has_header;
  names = [] ∷ [];
  empty = [];
  quoted_answers = false;
  keeps_going = false;
  shows_errors = false;
  is_ragged = false;
}

-- the cell is in the column `cell`
abbrev in_column : Form
in_column = commas (Named (codes "cell")) true

-- the cell is in the second field, without a header
abbrev in_field : Form
in_field = commas (After 1) false

abbrev p : List ℕ
p = codes "85283473fffffff"

abbrev q : List ℕ
q = codes "85283477fffffff"

-- a header, two rows with cells, an empty row, and a row without a cell
abbrev worked : List ℕ
worked = codes "zone,cell" ++ 10 ∷ codes "north," ++ p ++ 10 ∷
    34 ∷ codes "south, old" ++ 34 ∷ 44 ∷ q ++ 10 ∷ 10 ∷ codes "none,"
    ++ 10 ∷ []

-- the numbers of cells
abbrev numbers : Result (List Address) AnswerError → Result (List ℕ) AnswerError
numbers (Ok cells) = Ok (map number_of cells)
numbers (Err e) = Err e

-- ---- the cells of a table

worked_cells : map (λ kind. numbers (file_cells kind (Some in_column) worked)) (Region ∷ Zones ∷ [])
    ≡ Ok (0x85283473fffffff ∷ 0x85283477fffffff ∷ []) ∷ Ok (0x85283473fffffff ∷ 0x85283477fffffff ∷ []) ∷ []
unfolding parsed_index cell_in address_in number_of
worked_cells = refl

-- a file of rows without a header may be empty
no_rows : file_cells Zones (Some in_field) [] ≡ Ok []
no_rows = refl

-- the request of the zones of a bare list's cells
abbrev zoned : Option Form → Request
zoned rows = after_file Zones rows (λ zones. of_lines None (zone_answer zones))

-- a child, then a cell that has no zone
zones_of_table : answer_to (zoned (Some in_column))
    (codes "862834737ffffff" ++ 10 ∷ codes "8528340ffffffff" ++ 10 ∷ []) worked
    ≡ written (p ++ 10 ∷ codes "0" ++ 10 ∷ [])
unfolding parsed_index cell_in address_in number_of text_of
zones_of_table = refl

-- ---- how one is refused

-- a bare reading refuses the header
bare : file_cells Zones None worked ≡ Err (FileAt Zones 1 Failed)
unfolding parsed_index
bare = refl

missed_columns : map (λ name. file_cells Zones (Some (commas (Named name) true)) worked)
    (codes "cells" ∷ codes "Cell" ∷ []) ≡ Err (FileColumn Zones NotFound) ∷ Err (FileColumn Zones NotFound) ∷ []
missed_columns = refl

two_columns : file_cells Region (Some in_column) (codes "cell,cell" ++ 10 ∷ p ++ 44 ∷ p)
    ≡ Err (FileColumn Region NotUnique)
two_columns = refl

no_header : file_cells Zones (Some in_column) (10 ∷ []) ≡ Err (FileColumn Zones NotFound)
no_header = refl

short_row : file_cells Zones (Some in_field) (codes "north," ++ p ++ 10 ∷ codes "south" ++ 10 ∷ [])
    ≡ Err (FileAtRow Zones 2 (Bad NoSuchField))
unfolding parsed_index cell_in address_in number_of
short_row = refl

wide_row : file_cells Region (Some in_column) (codes "zone,cell" ++ 10 ∷ codes "north," ++ p ++ codes ",x")
    ≡ Err (FileAtRow Region 2 (Bad (FieldCount 3 2)))
wide_row = refl

no_index : file_cells Region (Some in_field) (codes "zone,cell") ≡ Err (FileAtRow Region 1 (Bad NotAnIndex))
unfolding parsed_index
no_index = refl

open_quote : file_cells Zones (Some in_field) (34 ∷ codes "north," ++ p) ≡ Err (FileAtRow Zones 1 (Bad OpenQuote))
open_quote = refl

-- a line feed between quotes counts in the number of a row
no_cell : file_cells Zones (Some in_field) (34 ∷ codes "a" ++ 10 ∷ codes "b" ++ 34 ∷ 44 ∷ p ++ 10 ∷ codes "south,0")
    ≡ Err (FileAtRow Zones 3 (Call CellInvalid))
unfolding parsed_index cell_in address_in number_of
no_cell = refl

-- a cell in two rows
abbrev repeated : List ℕ
repeated = worked ++ codes "north," ++ p ++ 10 ∷ []

zones_overlap : map (λ kind. numbers (file_cells kind (Some in_column) repeated)) (Region ∷ Zones ∷ [])
    ≡ Ok (0x85283473fffffff ∷ 0x85283477fffffff ∷ 0x85283473fffffff ∷ []) ∷ Err (File Zones DuplicateInput) ∷ []
unfolding parsed_index cell_in address_in number_of
zones_overlap = refl

-- the list has no part in the answer then, be it faulty or not
list_left : map (λ list. answer_to (zoned (Some in_column)) list repeated)
    ([] ∷ codes "x" ∷ [])
    ≡ record { output = []; ending = Err (File Zones DuplicateInput) }
    ∷ record { output = []; ending = Err (File Zones DuplicateInput) } ∷ []
unfolding parsed_index cell_in address_in number_of
list_left = refl

list_read : map (reads_list_after (zoned (Some in_column))) (worked ∷ repeated ∷ [])
    ≡ true ∷ false ∷ []
unfolding parsed_index cell_in address_in number_of
list_read = refl
