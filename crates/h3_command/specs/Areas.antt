-- Tables of zones with names: how the areas of one are judged, and the names of the areas that a cell lies in.
use Rattle.std.specs.Prelude.{ℕ, Bool, true, false, List, [], ◌∷◌, ◌++◌, get_or, map, Option, None, Some, Result, Ok, Err}
use Rattle.std.specs.List.{flat_map}
use Rattle.h3_index.specs.Cell.{Address}
use Rattle.h3_index.specs.declared.error.H3Error.{H3Error}
use Rattle.h3_regions.specs.Areas.{areas_of}
use Rattle.h3_regions.specs.Refusals.{areas_refusal}
use Rattle.h3_lines.specs.Answer.{Answer, printed}
use Rattle.h3_lines.specs.Pieces.{rows_of}
use Rattle.h3_lines.specs.declared.run_error.AnswerError.{AnswerError}
use Rattle.h3_lines.specs.declared.run_error.AnswerError.TheVariants.{File}
use Rattle.h3_lines.specs.declared.run_error.CellFile.TheVariants.{Zones}
use Rattle.h3_rows.specs.Areas.{area_cells, area_names}
use Rattle.h3_rows.specs.Named.{Entry, Table, named_cells}
use Rattle.h3_command.specs.Files.{error_of_file}
use Rattle.h3_command.specs.Required.{cell_given}

-- ---- how a table is judged

-- unless_overlapping e entries: what is read of a table, or the error of its areas as a whole
abbrev pub unless_overlapping : Option H3Error → List Entry → Result (List Entry) AnswerError
unless_overlapping None entries = Ok entries
unless_overlapping (Some e) entries = Err (File Zones e)

-- overlap_error overlapping areas: the error of areas as a whole: none if they may overlap, else `DuplicateInput` if
-- two do
abbrev pub overlap_error : Bool → List (Address × ℕ) → Option H3Error
overlap_error true areas = None
overlap_error false areas = areas_refusal areas

-- judged_areas overlapping quotes read: what is read of a table, if no two of its areas overlap, or they may; the error
-- of a row, or of the columns of the header, is that of the file
abbrev pub judged_areas : Bool → Bool → Result (List Entry) AnswerError → Result (List Entry) AnswerError
judged_areas overlapping quotes (Ok entries) =
    unless_overlapping (overlap_error overlapping (area_cells quotes entries)) entries
judged_areas overlapping quotes (Err e) = Err (error_of_file Zones e)

-- entries_of_table table bytes: the cells with their names in the bytes of a table, and the name in its header; or the
-- error of the first row that has one; or else, if a column is awaited by its name and no header comes, that it is not
-- found
abbrev pub entries_of_table : Table → List ℕ → Result (List Entry) AnswerError
entries_of_table table bytes = named_cells table (rows_of table.form.quotes bytes)

-- areas_of_file overlapping table bytes: the entries of the table in these bytes, or its error as a file of zones: that
-- of `entries_of_table`, or `DuplicateInput` if two of its areas overlap and may not
abbrev pub areas_of_file : Bool → Table → List ℕ → Result (List Entry) AnswerError
areas_of_file overlapping table bytes = judged_areas overlapping table.form.quotes (entries_of_table table bytes)

-- ---- the areas of a cell

-- names_or none names numbers: the names that have these numbers, in order; `none` alone, if there is no number
abbrev pub names_or : List ℕ → List (List ℕ) → List ℕ → List (List ℕ)
names_or none names [] = none ∷ []
names_or none names (n ∷ ns) = map (λ k. get_or names k []) (n ∷ ns)

-- names_at none names areas cell: the names of the areas that a cell lies in, in their order; `none` alone, if it lies
-- in none
abbrev pub names_at : List ℕ → List (List ℕ) → List (Address × ℕ) → Address → List (List ℕ)
names_at none names areas cell = names_or none names (areas_of areas cell)

-- name_lines none names areas cell: a line with each of these names
abbrev pub name_lines : List ℕ → List (List ℕ) → List (Address × ℕ) → Address → List ℕ
name_lines none names areas cell = flat_map (λ name. name ++ 10 ∷ []) (names_at none names areas cell)

-- name_answer none names areas index: the same of the cell with an index, or the error where there is no such cell
abbrev pub name_answer : List ℕ → List (List ℕ) → List (Address × ℕ) → Option ℕ → Answer
name_answer none names areas index = printed (name_lines none names areas) (cell_given index)

-- area_answer quotes none entries index: a line with the name of each area of a table in which the cell with an index
-- lies, as it is written there, in their order, or one with `none` if it lies in none; or the error where there is no
-- such cell
abbrev pub area_answer : Bool → List ℕ → List Entry → Option ℕ → Answer
area_answer quotes none entries index = name_answer none (area_names quotes entries) (area_cells quotes entries) index
