-- Files of cells that commands are answered over: how a file is judged, and the answers about the cells of one.
use Rattle.std.specs.Prelude.{ℕ, ◌≡◌, Bool, List, [], ◌∷◌, ◌++◌, All, length, map, sum, Option, None, Some, Result, Ok, Err}
use Rattle.std.specs.List.{flat_map}
use Rattle.h3_index.specs.Cell.{Address, IsCell}
use Rattle.h3_index.specs.declared.error.H3Error.{H3Error}
use Rattle.h3_set.specs.Compacted.{compacted}
use Rattle.h3_set.specs.Coverage.{is_covered, IsApart}
use Rattle.h3_set.specs.Refusals.{compaction_refusal}
use Rattle.h3_regions.specs.Counting.{count_in, count_outside}
use Rattle.h3_regions.specs.Zones.{by_number, zone_of}
use Rattle.h3_functions.specs.Inspection.{for_value}
use Rattle.h3_lines.specs.Answer.{Answer, count_line, printed, truth_line, written, zone_line}
use Rattle.h3_lines.specs.List.{listed_cells}
use Rattle.h3_lines.specs.Numbered.{faulty_line}
use Rattle.h3_lines.specs.declared.run_error.AnswerError.{AnswerError}
use Rattle.h3_lines.specs.Pieces.{rows_of}
use Rattle.h3_lines.specs.declared.run_error.AnswerError.TheVariants.{At, AtRow, Column, File, FileAt, FileAtRow, FileColumn}
use Rattle.h3_lines.specs.declared.run_error.CellFile.{CellFile}
use Rattle.h3_lines.specs.declared.run_error.CellFile.TheVariants.{Region, Zones}
use Rattle.h3_rows.specs.Cells.{cells_of}
use Rattle.h3_rows.specs.RowsAnswer.{Form}
use Rattle.h3_command.specs.Required.{cell_given}

-- ---- how a file is judged

-- the error of the cells of a file as a whole: the cells of a region may repeat and overlap, zones may not
abbrev pub file_error : CellFile → List Address → Option H3Error
file_error Region cells = None
file_error Zones cells = compaction_refusal cells

-- the cells, or their error as a whole
abbrev pub unless_error : CellFile → Option H3Error → List Address → Result (List Address) AnswerError
unless_error file None cells = Ok cells
unless_error file (Some e) cells = Err (File file e)

-- the cells of a list, where they have no error as a whole; that of its first faulty line is reported with this number
abbrev pub judged_cells : CellFile → ℕ → Result (List Address) H3Error → Result (List Address) AnswerError
judged_cells file line (Ok cells) = unless_error file (file_error file cells) cells
judged_cells file line (Err e) = Err (FileAt file line e)

-- error_of_file file e: the error of a list, as that of a file: it tells the file's kind too
abbrev pub error_of_file : CellFile → AnswerError → AnswerError
error_of_file file (At line e) = FileAt file line e
error_of_file file (AtRow row e) = FileAtRow file row e
error_of_file file (Column e) = FileColumn file e
error_of_file file e = e

-- judged_rows file cells: the cells of rows, where they have no error as a whole; the error of a row, or of the
-- columns of the header, is that of the file
abbrev pub judged_rows : CellFile → Result (List Address) AnswerError → Result (List Address) AnswerError
judged_rows file (Ok cells) = unless_error file (file_error file cells) cells
judged_rows file (Err e) = Err (error_of_file file e)

-- cells_of_table form bytes: the cells of the rows in the bytes of a table; or the error of the first row that has one;
-- or else, if a column is awaited by its name and no header comes, that it is not found
abbrev pub cells_of_table : Form → List ℕ → Result (List Address) AnswerError
cells_of_table form bytes = cells_of form (rows_of form.quotes bytes)

-- file_cells file form bytes: the cells in the bytes of a file, or why it is refused: for its first faulty line, and
-- else for its cells as a whole; or, if the file has rows in a form, the cells of its rows, or why it is refused: as
-- `cells_of_table` says, and else for its cells as a whole
abbrev pub file_cells : CellFile → Option Form → List ℕ → Result (List Address) AnswerError
file_cells file None bytes = judged_cells file (faulty_line bytes) (listed_cells bytes)
file_cells file (Some form) bytes = judged_rows file (cells_of_table form bytes)

-- unless_refused about read: the answer about what is read of a file, or of rows; where these are refused, that error
-- and no output
abbrev pub unless_refused : {A : Type 0} → (A → Answer) → Result A AnswerError → Answer
unless_refused about (Ok value) = about value
unless_refused about (Err e) = record { output = []; ending = Err e }

-- ---- one cell and those of a file

-- whether a region covers the cell with an index
abbrev pub is_covered_cell : List Address → Option ℕ → Result Bool H3Error
is_covered_cell region index = for_value (λ c. Ok (is_covered region c)) (cell_given index)

-- covered_answer file index: the line that says whether the region of a file's cells covers the cell with an index, or
-- the error where there is no such cell
abbrev pub covered_answer : List Address → Option ℕ → Answer
covered_answer file index = printed truth_line (is_covered_cell (compacted file) index)

-- the zone of the cell with an index, if it has one
abbrev pub cell_to_zone : List Address → Option ℕ → Result (Option Address) H3Error
cell_to_zone zones index = for_value (λ c. Ok (zone_of zones c)) (cell_given index)

-- zone_answer zones index: the line of the zone of the cell with an index, `0` where it has none, or the error where
-- there is no such cell
abbrev pub zone_answer : List Address → Option ℕ → Answer
zone_answer zones index = printed zone_line (cell_to_zone zones index)

-- ---- counts

-- each zone with how many places of the list have it as their zone
abbrev pub zone_counts : List Address → List Address → List (Option Address × ℕ)
zone_counts zones cells = map (λ zone. (Some zone, count_in zone cells)) zones

-- counted_lines zones cells: each zone, in ascending order, with how many places of the list have it as their zone, and
-- then no zone with how many have none
abbrev pub counted_lines : List Address → List Address → List (Option Address × ℕ)
counted_lines zones cells = zone_counts (by_number zones) cells ++ (None, count_outside zones cells) ∷ []

-- counts_answer zones cells: a line for each zone, in ascending order, with how many places of the list have it as
-- their zone, and then one with how many have none
abbrev pub counts_answer : List Address → List Address → Answer
counts_answer zones cells = written (flat_map count_line (counted_lines zones cells))

-- CountsPrintedAddUp: the numbers on the lines of the counts of zones of which no two overlap add up to the number of
-- cells that are counted
abbrev pub CountsPrintedAddUp : Type 0
CountsPrintedAddUp =
    (zones cells : List Address) → All IsCell zones → IsApart zones
    → sum (map (λ line. line.1) (counted_lines zones cells)) ≡ length cells
