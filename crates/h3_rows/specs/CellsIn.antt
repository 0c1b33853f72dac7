-- The cells of rows by what is read so far. Private contracts and proofs alone cite this file.
use Rattle.std.specs.Prelude.{List, Option, Result}
use Rattle.h3_index.specs.Cell.{Address}
use Rattle.h3_lines.specs.Pieces.{Piece}
use Rattle.h3_lines.specs.declared.run_error.AnswerError.{AnswerError}
use Rattle.h3_rows.specs.Cells.{cells_then}
use Rattle.h3_rows.specs.RowsAnswer.{Form}
use Rattle.h3_rows.specs.declared.state.Columns.{Columns}
use Rattle.h3_rows.specs.declared.state.RowState.{RowState}

-- the cells of rows in this form and state, and then what is last
abbrev pub cells_in : (Option Columns → Result (List Address) AnswerError) → Form × RowState → List Piece
    → Result (List Address) AnswerError
cells_in last v rows = cells_then last v.0 v.1.number v.1.columns rows
