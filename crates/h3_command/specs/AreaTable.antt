-- What is read of a table of zones with names, and how a run goes on with it. Private contracts and proofs alone cite
-- this file.
use Rattle.std.specs.Prelude.{◌≡◌, ℕ, ◌^◌, ◌⊎◌, Bool, List, Option, None, Some, option_map, string_bytes, Result, Ok, Err}
use Rattle.h3_index.specs.declared.error.H3Error.{H3Error}
use Rattle.h3_lines.specs.Reads.{IsReadToEnd, IsWithinReads, NoReadFails, SourceUse}
use Rattle.h3_lines.specs.Write.{IsLeft, SinkUse}
use Rattle.h3_lines.specs.declared.run_error.AnswerError.TheVariants.{File}
use Rattle.h3_lines.specs.declared.run_error.CellFile.TheVariants.{Zones}
use Rattle.h3_lines.specs.declared.run_error.Fault.TheVariants.{Memory}
use Rattle.h3_lines.specs.declared.run_error.RunError.{RunError}
use Rattle.h3_lines.specs.declared.run_error.RunError.TheVariants.{Error, Fault}
use Rattle.h3_requests.specs.declared.rows.AreaOptions.{AreaOptions}
use Rattle.h3_requests.specs.declared.rows.RowOptions.{RowOptions}
use Rattle.h3_rows.specs.Areas.{area_cells, area_names, names_in, title_of}
use Rattle.h3_rows.specs.Named.{Entry, Table}
use Rattle.h3_rows.specs.declared.areas.AreaTable.{AreaTable}
use Rattle.h3_command.specs.Areas.{area_answer, entries_of_table, overlap_error}
use Rattle.h3_command.specs.Rows.{area_form}
use Rattle.h3_command.specs.Run.{EndsLines, IsLeftAlone}

-- ReadsAreas table bytes file entries: the bytes of a table are read to their end, and have these cells with their
-- names
pub record ReadsAreas (table : Table) (bytes : List ℕ) (file : SourceUse) (entries : List Entry) : Type 0 where
  pub is : entries_of_table table bytes ≡ Ok entries
  pub within : IsWithinReads (2 ^ 40) 65536 bytes
  pub sound : NoReadFails file
  pub whole : IsReadToEnd file

-- HoldsAreas quotes entries table: the names and the cells of the areas, and the name in the header, are those that
-- were read
pub record HoldsAreas (quotes : Bool) (entries : List Entry) (table : AreaTable) : Type 0 where
  pub counts : table.names.quotes ≡ quotes
  pub named : names_in table.names.bytes.items table.names.spans.items ≡ area_names quotes entries
  pub cells : table.cells.items ≡ area_cells quotes entries
  pub title : option_map (λ t. t.items) table.title ≡ title_of entries

-- EndsJudged refusal ends input ending out: the areas of a table are not refused, and `ends` holds; or they are, or
-- there is no memory, and standard input is left alone and nothing is written
abbrev pub EndsJudged : Option H3Error → Type 0 → SourceUse → Result (Unit {0}) RunError → SinkUse → Type 0
EndsJudged refusal ends input ending out =
    ((refusal ≡ None) × ends)
    ⊎ ((ending ≡ Err (Fault Memory)) × IsLeftAlone input × IsLeft out)
    ⊎ ((e : H3Error) × (refusal ≡ Some e) × (ending ≡ Err (Error (File Zones e))) × IsLeftAlone input × IsLeft out)

-- EndsWithAreas overlapping options rows entries input ending out: the list is answered by the names of areas; or two
-- areas overlap and may not, or there is no memory, and standard input is left alone and nothing is written
abbrev pub EndsWithAreas : Bool → AreaOptions → Option RowOptions → List Entry → SourceUse → Result (Unit {0}) RunError
    → SinkUse
    → Type 0
EndsWithAreas overlapping options rows entries input ending out =
    let quotes = options.table.rows.quotes in
    EndsJudged (overlap_error overlapping (area_cells quotes entries))
    (EndsLines (area_form rows quotes entries)
    (area_answer quotes (string_bytes options.none) entries) input ending out) input ending out
