-- The cells of the rows of a list.
use Rattle.std.specs.Prelude.{ℕ, Bool, List, [], ◌∷◌, Option, None, Some, Result, Ok, Err, if◌then◌else◌}
use Rattle.h3_index.specs.Cell.{Address}
use Rattle.h3_index.specs.declared.error.H3Error.{H3Error}
use Rattle.h3_lines.specs.List.{Says}
use Rattle.h3_lines.specs.declared.run_error.AnswerError.{AnswerError}
use Rattle.h3_lines.specs.declared.run_error.AnswerError.TheVariants as ending_by
use Rattle.h3_lines.specs.declared.run_error.ColumnError.{ColumnError}
use Rattle.h3_lines.specs.declared.run_error.ColumnError.TheVariants.{NotFound}
use Rattle.h3_lines.specs.declared.run_error.RowError.{RowError}
use Rattle.h3_lines.specs.declared.run_error.RowError.TheVariants as row_error
use Rattle.h3_lines.specs.declared.run_error.RowFault.{RowFault}
use Rattle.h3_lines.specs.declared.run_error.RunError.{RunError}
use Rattle.h3_lines.specs.Pieces.{Piece}
use Rattle.h3_lines.specs.Taking.{cell_list, cells_before}
use Rattle.h3_rows.specs.ReadTo.{AllRead, ReadTo, RefusesInPage, RefusesRead}
use Rattle.h3_rows.specs.Row.{is_empty_row, next_number, read_of, row_body}
use Rattle.h3_rows.specs.RowsAnswer.{After, Choice, Form, Named, columns_first, columns_in, malformed, row_cell}
use Rattle.h3_rows.specs.declared.state.Columns.{Columns}
use Rattle.h3_rows.specs.declared.row_cell.RowCell.{RowCell}
use Rattle.h3_rows.specs.declared.row_cell.RowCell.TheVariants.{Index, Missing}

-- ---- the cell of a row

-- called result: what a call gives, or its error
abbrev pub called : {A : Type 0} → Result A H3Error → Result A RowError
called (Ok value) = Ok value
called (Err e) = Err (row_error.Call e)

-- cell_read says read: the cell of a row by what is read of its field: none if it is missing, else what is taken for
-- its index; and an error if the row is faulty, or this is an error
abbrev pub cell_read : Says → Result RowCell RowFault → Result (Option Address) RowError
cell_read says (Err fault) = Err (row_error.Bad fault)
cell_read says (Ok Missing) = Ok None
cell_read says (Ok (Index index)) = called (says index)

-- at_row n cell: the cell, or its error at the row with this number
abbrev pub at_row : ℕ → Result (Option Address) RowError → Result (List Address) AnswerError
at_row n (Ok cell) = Ok (cell_list cell)
at_row n (Err e) = Err (ending_by.AtRow n e)

-- Found: the cells of a row, or the error that ends the list; and the columns of the next row
pub record Found : Type 0 where
  pub cells : Result (List Address) AnswerError
  pub columns : Option Columns

-- header_found columns: the columns that a header says, which has no cell of the list; or its error, which ends the
-- list
abbrev pub header_found : Result Columns ColumnError → Found
header_found (Ok columns) = record { cells = Ok []; columns = Some columns }
header_found (Err e) = record { cells = Err (ending_by.Column e); columns = None }

-- filled_found form n line columns: what a row that is not empty has
abbrev pub filled_found : Form → ℕ → List ℕ → Option Columns → Found
filled_found form n line None = header_found (columns_in form (read_of n (row_body line)))
filled_found form n line (Some columns) =
    record { cells = at_row n (cell_read form.says (row_cell form n columns (row_body line))); columns = Some columns }

-- found_unless fault form n columns line: what a row has that is malformed for this reason, or is not
abbrev pub found_unless : Option RowFault → Form → ℕ → Option Columns → List ℕ → Found
found_unless (Some fault) form n columns line =
    record { cells = Err (ending_by.AtRow n (row_error.Bad fault)); columns = columns }
found_unless None form n columns line =
    if is_empty_row n (row_body line) then record { cells = Ok []; columns = columns }
    else filled_found form n line columns

-- row_found form n columns p: what the row with this number has
abbrev pub row_found : Form → ℕ → Option Columns → Piece → Found
row_found form n columns p = found_unless (malformed form n p) form n columns p.0

-- ---- the cells of rows

-- found_before found later: what a row has, before what the rows after it have; the first error decides
abbrev pub found_before : Result (List Address) AnswerError → Result (List Address) AnswerError
    → Result (List Address) AnswerError
found_before (Ok cells) later = cells_before cells later
found_before (Err e) later = Err e

-- cells_then last form n columns rows: the cells of rows, of which the first has the number n, and then what is last
abbrev pub cells_then : (Option Columns → Result (List Address) AnswerError) → Form → ℕ → Option Columns → List Piece
    → Result (List Address) AnswerError
cells_then last form n columns [] = last columns
cells_then last form n columns (p ∷ ps) =
    found_before (row_found form n columns p).cells
    (cells_then last form (next_number n p.0) (row_found form n columns p).columns ps)

-- cells_end choice columns: at the end of a list a column that has a name is missed if the header did not come
abbrev pub cells_end : Choice → Option Columns → Result (List Address) AnswerError
cells_end choice (Some columns) = Ok []
cells_end (After k) None = Ok []
cells_end (Named name) None = Err (ending_by.Column NotFound)

-- cells_of form rows: the cells of the rows of a list; a row without a cell is left out. Or the error of the first row
-- that has one; or else, if a column is awaited by its name and no header comes, that it is not found
abbrev pub cells_of : Form → List Piece → Result (List Address) AnswerError
cells_of form rows = cells_then (cells_end form.choice) form 1 (columns_first form.has_header form.choice) rows

-- begun_cells form rows: the cells of the first rows of a list, of which more may come; or the error of the first one
-- that has one
abbrev pub begun_cells : Form → List Piece → Result (List Address) AnswerError
begun_cells form rows = cells_then (λ columns. Ok []) form 1 (columns_first form.has_header form.choice) rows

-- ---- how it ends

-- AllRowsRead form cells: all bytes of a list are read, in reads that may be made, and these are the cells of its rows,
-- or its error
abbrev pub AllRowsRead : Form → Result (List Address) AnswerError → Option (List ℕ) → Option (List ℕ) → Type 0
AllRowsRead form cells old new = AllRead form.quotes (cells_of form) cells old new

-- RowsReadTo form most: a part of a list is read, and then at most so many bytes more, as `ReadTo` says
abbrev pub RowsReadTo : Form → ℕ → Option (List ℕ) → Option (List ℕ) → Type 0
RowsReadTo form most old new = ReadTo form.quotes (begun_cells form) most old new

-- RefusesRowsInPage form e: a row of a list has this error, as `RefusesInPage` says
abbrev pub RefusesRowsInPage : Form → AnswerError → Option (List ℕ) → Option (List ℕ) → Type 0
RefusesRowsInPage form e old new = RefusesInPage form.quotes (cells_of form) (begun_cells form) e old new

-- RefusesRows: how the reading of the cells of rows is refused: by the list's own error, of its end or of a row in the
-- last page that is read; for want of memory; or by a read that fails, or the last one that may be made
abbrev pub RefusesRows : Form → Option (List ℕ) → Option (List ℕ) → Bool → Bool → RunError → Type 0
RefusesRows form old new had has e = RefusesRead form.quotes (cells_of form) (begun_cells form) old new had has e
