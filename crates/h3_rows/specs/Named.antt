-- The rows of a table in which one field has a cell, and a second field a text, such as a name, or a number.
use Rattle.std.specs.Prelude.{◌≡◌, ℕ, ◌==◌, Bool, List, [], ◌∷◌, length, Option, None, Some, option_map, Result, Ok, Err, false, if◌then◌else◌, ℤ, pos}
use Rattle.h3_index.specs.Cell.{Address}
use Rattle.h3_index.specs.Text.{trimmed}
use Rattle.h3_lines.specs.List.{Says, itself}
use Rattle.h3_lines.specs.declared.run_error.AnswerError.{AnswerError}
use Rattle.h3_lines.specs.declared.run_error.AnswerError.TheVariants as ending_by
use Rattle.h3_lines.specs.declared.run_error.ColumnError.{ColumnError}
use Rattle.h3_lines.specs.declared.run_error.ColumnError.TheVariants.{NotFound}
use Rattle.h3_lines.specs.declared.run_error.RowError.{RowError}
use Rattle.h3_lines.specs.declared.run_error.RowError.TheVariants as row_error
use Rattle.h3_lines.specs.declared.run_error.RowFault.{RowFault}
use Rattle.h3_lines.specs.declared.run_error.RowFault.TheVariants.{FieldCount, NoSuchField}
use Rattle.h3_lines.specs.declared.run_error.RunError.{RunError}
use Rattle.h3_lines.specs.Pieces.{Piece, cut}
use Rattle.h3_lines.specs.Taking.{cells_before}
use Rattle.h3_numbers.specs.Number.{number_units}
use Rattle.h3_numbers.specs.Reading.{parsed_number}
use Rattle.h3_numbers.specs.declared.number.Number.{Number as Decimal}
use Rattle.h3_rows.specs.Cells.{cell_read}
use Rattle.h3_rows.specs.ReadTo.{AllRead, ReadTo, RefusesInPage, RefusesRead}
use Rattle.h3_rows.specs.Row.{field_text, is_empty_row, next_number, piece_at, read_of, row_body}
use Rattle.h3_rows.specs.RowForm.{form_as}
use Rattle.h3_rows.specs.RowsAnswer.{After, Choice, Form, Named, choice_of, chosen_in, columns_first, columns_in, malformed, row_cell}
use Rattle.h3_rows.specs.declared.state.Columns.{Columns}
use Rattle.h3_rows.specs.declared.table.FieldContent.{FieldContent}
use Rattle.h3_rows.specs.declared.table.FieldContent.TheVariants.{Text, Number}
use Rattle.h3_rows.specs.declared.table.TableColumns.{TableColumns}
use Rattle.h3_requests.specs.declared.rows.CellField.{CellField}
use Rattle.h3_requests.specs.declared.rows.RowOptions.{RowOptions}
use Rattle.h3_requests.specs.declared.rows.TableOptions.{TableOptions}

-- Entry: what is read of a row: its cell, its second field without the blanks at both ends, and its number; of a header
-- no cell, and the field that names the second column
pub record Entry : Type 0 where
  pub cell : Option Address
  pub field : List ℕ
  pub row : ℕ

-- Table: how a table is read: its form, which says where the cells are, which field is the second one, and what that
-- has
pub record Table : Type 0 where
  pub form : Form
  pub name : Choice
  pub content : FieldContent

-- table_as says rows field content: the table of the options of rows, of which this is taken for the indexes of cells,
-- with this second field and what that has
abbrev pub table_as : Says → RowOptions → CellField → FieldContent → Table
table_as says rows field content = record { form = form_as says rows; name = choice_of field; content = content }

-- table_of rows field content: what is known of the options of rows, with a second field and what that has
abbrev pub table_of : RowOptions → CellField → FieldContent → Table
table_of rows field content = table_as itself rows field content

-- names_table options: the same of the options of a table with names
abbrev pub names_table : TableOptions → Table
names_table options = table_of options.rows options.name Text

-- ---- the second field of a row

-- name_at form k row: the field after k others, without the blanks at both ends, if there is one: its quotes stay
abbrev pub name_at : Form → ℕ → List ℕ → Option (List ℕ)
name_at form k row = option_map trimmed (piece_at k (cut form.separator form.quotes false row))

-- number_of_text text: 0 if the text is blank, and else what it is as a number, if it is one
abbrev pub number_of_text : List ℕ → Option ℤ
number_of_text text = if length (trimmed text) == 0 then Some (pos 0) else parsed_number text

-- number_in quotes field: the number that a field has, in units of 10^-18: that of its text
abbrev pub number_in : Bool → List ℕ → Option ℤ
number_in quotes field = number_of_text (field_text quotes field)

-- IsNumberOf field number: the field has the number, whether quotes count or not
abbrev pub IsNumberOf : List ℕ → Decimal → Type 0
IsNumberOf field number = (quotes : Bool) → number_in quotes field ≡ Some (number_units number)

-- CellAndField: a cell and the second field of a row; of a header no cell
abbrev pub CellAndField : Type 0
CellAndField = Option Address × List ℕ

-- entry_list n read: what is read of the row with this number, if anything, as an entry
abbrev pub entry_list : ℕ → Option CellAndField → List Entry
entry_list n None = []
entry_list n (Some read) = record { cell = read.0; field = read.1; row = n } ∷ []

-- without_name error: the error of a row that has no field for the name, if its cell has this error: of the reasons
-- that a row is faulty for, the number of fields comes first, then a field that it lacks
abbrev pub without_name : RowError → RowError
without_name (row_error.Bad (FieldCount count width)) = row_error.Bad (FieldCount count width)
without_name error = row_error.Bad NoSuchField

-- with_text cell field: what is read of a row whose second field has a text: a row whose cell is missing has no entry,
-- whatever its other fields are; another one without the field is faulty
abbrev pub with_text : Result (Option Address) RowError → Option (List ℕ) → Result (Option CellAndField) RowError
with_text (Ok None) field = Ok None
with_text (Ok (Some cell)) None = Err (row_error.Bad NoSuchField)
with_text (Ok (Some cell)) (Some field) = Ok (Some (Some cell, field))
with_text (Err e) None = Err (without_name e)
with_text (Err e) (Some field) = Err e

-- if_number number read: what is read of a row, if its second field has a number
abbrev pub if_number : Option ℤ → CellAndField → Result (Option CellAndField) RowError
if_number None read = Err row_error.NotANumber
if_number (Some number) read = Ok (Some read)

-- with_number quotes cell field: what is read of a row whose second field has a number: an error of the cell comes
-- first; a row whose cell is missing has no entry, whatever its other fields are; in another one the field has to be
-- there, with a number
abbrev pub with_number : Bool → Result (Option Address) RowError → Option (List ℕ)
    → Result (Option CellAndField) RowError
with_number quotes (Err e) field = Err e
with_number quotes (Ok None) field = Ok None
with_number quotes (Ok (Some cell)) None = Err row_error.NotANumber
with_number quotes (Ok (Some cell)) (Some field) = if_number (number_in quotes field) (Some cell, field)

-- with_field content quotes cell field: what is read of a row, by what its second field has
abbrev pub with_field : FieldContent → Bool → Result (Option Address) RowError → Option (List ℕ)
    → Result (Option CellAndField) RowError
with_field Text quotes cell field = with_text cell field
with_field Number quotes cell field = with_number quotes cell field

-- entries_at n read: what is read of the row with this number as an entry, or its error
abbrev pub entries_at : ℕ → Result (Option CellAndField) RowError → Result (List Entry) AnswerError
entries_at n (Ok read) = Ok (entry_list n read)
entries_at n (Err e) = Err (ending_by.AtRow n e)

-- named_row table n columns row: what is read of the row with this number
abbrev pub named_row : Table → ℕ → TableColumns → List ℕ → Result (Option CellAndField) RowError
named_row table n columns row =
    with_field table.content table.form.quotes (cell_read table.form.says (row_cell table.form n columns.cell row))
    (name_at table.form columns.name (read_of n row))

-- ---- the columns

-- both_columns cell name: the cell's column is looked for before the second one
abbrev pub both_columns : Result Columns ColumnError → Result ℕ ColumnError → Result TableColumns ColumnError
both_columns (Err e) name = Err e
both_columns (Ok cell) (Err e) = Err e
both_columns (Ok cell) (Ok name) = Ok record { cell = cell; name = name }

-- table_columns table row: the columns, by a header
abbrev pub table_columns : Table → List ℕ → Result TableColumns ColumnError
table_columns table row = both_columns (columns_in table.form row) (chosen_in table.form table.name row)

-- with_names choice columns: the columns, if this is the second field; a header is awaited if the field has a name
abbrev pub with_names : Choice → Option Columns → Option TableColumns
with_names (After k) None = None
with_names (After k) (Some columns) = Some record { cell = columns; name = k }
with_names (Named name) columns = None

-- table_first table: the columns at the beginning of a table; a header is awaited if there is one, and if a field has a
-- name
abbrev pub table_first : Table → Option TableColumns
table_first table = with_names table.name (columns_first table.form.has_header table.form.choice)

-- title_list n name: the second field of a header, which is the row with this number, as an entry, if there is one
abbrev pub title_list : ℕ → Option (List ℕ) → List Entry
title_list n None = []
title_list n (Some name) = record { cell = None; field = name; row = n } ∷ []

-- ---- the entries of a row

-- Found: the entries of a row, or the error that ends the list; and the columns of the next row
pub record Found : Type 0 where
  pub cells : Result (List Entry) AnswerError
  pub columns : Option TableColumns

-- header_found table n row columns: the columns that a header says, which is the row with this number, and its field
-- for the second one; or its error, which ends the list
abbrev pub header_found : Table → ℕ → List ℕ → Result TableColumns ColumnError → Found
header_found table n row (Ok columns) =
    record { cells = Ok (title_list n (name_at table.form columns.name row)); columns = Some columns }
header_found table n row (Err e) = record { cells = Err (ending_by.Column e); columns = None }

-- filled_found table n line columns: what a row that is not empty has
abbrev pub filled_found : Table → ℕ → List ℕ → Option TableColumns → Found
filled_found table n line None =
    let row = read_of n (row_body line) in header_found table n row (table_columns table row)
filled_found table n line (Some columns) =
    record { cells = entries_at n (named_row table n columns (row_body line)); columns = Some columns }

-- found_unless fault table n columns line: what a row has that is malformed for this reason, or is not
abbrev pub found_unless : Option RowFault → Table → ℕ → Option TableColumns → List ℕ → Found
found_unless (Some fault) table n columns line =
    record { cells = Err (ending_by.AtRow n (row_error.Bad fault)); columns = columns }
found_unless None table n columns line =
    if is_empty_row n (row_body line) then record { cells = Ok []; columns = columns }
    else filled_found table n line columns

-- named_found table n columns p: what the row with this number has
abbrev pub named_found : Table → ℕ → Option TableColumns → Piece → Found
named_found table n columns p = found_unless (malformed table.form n p) table n columns p.0

-- ---- the entries of rows

-- found_before found later: what a row has, before what the rows after it have; the first error decides
abbrev pub found_before : Result (List Entry) AnswerError → Result (List Entry) AnswerError
    → Result (List Entry) AnswerError
found_before (Ok entries) later = cells_before entries later
found_before (Err e) later = Err e

-- named_then last table n columns rows: the entries of rows, of which the first has the number n, and then what is last
abbrev pub named_then : (Option TableColumns → Result (List Entry) AnswerError) → Table → ℕ → Option TableColumns
    → List Piece → Result (List Entry) AnswerError
named_then last table n columns [] = last columns
named_then last table n columns (p ∷ ps) =
    found_before (named_found table n columns p).cells
    (named_then last table (next_number n p.0) (named_found table n columns p).columns ps)

-- unless_named choice entries: a column that has a name is missed, or else these are the entries
abbrev pub unless_named : Choice → Result (List Entry) AnswerError → Result (List Entry) AnswerError
unless_named (After k) entries = entries
unless_named (Named name) entries = Err (ending_by.Column NotFound)

-- named_end table columns: at the end of a list a column that has a name is missed if the header did not come
abbrev pub named_end : Table → Option TableColumns → Result (List Entry) AnswerError
named_end table (Some columns) = Ok []
named_end table None = unless_named table.form.choice (unless_named table.name (Ok []))

-- named_cells table rows: the entries of the rows of a list, without the rows that have none; or the error of the first
-- row that has one; or else, if a column is awaited by its name and no header comes, that it is not found
abbrev pub named_cells : Table → List Piece → Result (List Entry) AnswerError
named_cells table rows = named_then (named_end table) table 1 (table_first table) rows

-- begun_named table rows: the entries of the first rows of a list, of which more may come; or the error of the first
-- one that has one
abbrev pub begun_named : Table → List Piece → Result (List Entry) AnswerError
begun_named table rows = named_then (λ columns. Ok []) table 1 (table_first table) rows

-- ---- how it ends

-- AllNamedRead table entries: all bytes of a list are read, in reads that may be made, and these are its entries, or
-- its error
abbrev pub AllNamedRead : Table → Result (List Entry) AnswerError → Option (List ℕ) → Option (List ℕ) → Type 0
AllNamedRead table entries old new = AllRead table.form.quotes (named_cells table) entries old new

-- NamedReadTo table most: a part of a list is read, and then at most so many bytes more, as `ReadTo` says
abbrev pub NamedReadTo : Table → ℕ → Option (List ℕ) → Option (List ℕ) → Type 0
NamedReadTo table most old new = ReadTo table.form.quotes (begun_named table) most old new

-- RefusesNamedInPage table e: a row of a list has this error, as `RefusesInPage` says
abbrev pub RefusesNamedInPage : Table → AnswerError → Option (List ℕ) → Option (List ℕ) → Type 0
RefusesNamedInPage table e old new = RefusesInPage table.form.quotes (named_cells table) (begun_named table) e old new

-- RefusesNamed: how the reading of a table is refused: by its own error, of its end or of a row in the last page that
-- is read; for want of memory; or by a read that fails, or the last one that may be made
abbrev pub RefusesNamed : Table → Option (List ℕ) → Option (List ℕ) → Bool → Bool → RunError → Type 0
RefusesNamed table old new had has e =
    RefusesRead table.form.quotes (named_cells table) (begun_named table) old new had has e
