-- The entries of rows by what is read so far. Private contracts and proofs alone cite this file.
use Rattle.std.specs.Prelude.{◌≡◌, ℕ, ◌+◌, List, length, Ok, Option, Result, Some}
use Rattle.h3_index.specs.Cell.{Address}
use Rattle.h3_lines.specs.List.{Says}
use Rattle.h3_lines.specs.Pieces.{Piece}
use Rattle.h3_lines.specs.declared.run_error.AnswerError.{AnswerError}
use Rattle.h3_rows.specs.Named.{Entry, Table, name_at, named_then, table_as, with_field}
use Rattle.h3_rows.specs.Plain.{IsPlainCell}
use Rattle.h3_rows.specs.declared.table.TableForm.{TableForm}
use Rattle.h3_rows.specs.declared.table.TableColumns.{TableColumns}
use Rattle.h3_rows.specs.declared.table.TableState.{TableState}

-- how a table is read, as code has it, where this is taken for the indexes of cells
abbrev pub table_in : Says → TableForm → Table
table_in says form = table_as says form.rows.now form.field.now form.content

-- the entries of rows of a table, in this state, and then what is last
abbrev pub named_in : (Option TableColumns → Result (List Entry) AnswerError) → Table × TableState → List Piece
    → Result (List Entry) AnswerError
named_in last v rows = named_then last v.0 v.1.number v.1.columns rows

-- the bytes begin with a plain row of so many bytes, which as the row with this number has this cell, and this second
-- field with what it should have
pub record IsPlainEntry (table : Table) (number : ℕ) (columns : TableColumns) (bytes : List ℕ) (cell : Address)
    (field : List ℕ) (size : ℕ) : Type 0 where
  pub row : List ℕ
  pub returns : ℕ
  pub plain : IsPlainCell table.form number columns.cell bytes row returns cell
  pub size_is : length row + returns ≡ size
  pub entry_is : with_field table.content table.form.quotes (Ok (Some cell)) (name_at table.form columns.name row)
      ≡ Ok (Some (Some cell, field))
