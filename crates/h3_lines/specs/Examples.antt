-- The definitions at worked values, by computation.
use Rattle.std.specs.Prelude.{◌≡◌, ℕ, List, [], ◌∷◌, ◌++◌, map, replicate, codes, None, Ok, Err, refl}
use Rattle.std.specs.Fmt.{digits}
use Rattle.h3_index.specs.Cell.{number_of}
use Rattle.h3_index.specs.CellNumber.{address_in, cell_in}
use Rattle.h3_index.specs.Count.{base_cell}
use Rattle.h3_index.specs.Text.{parsed_index, text_of}
use Rattle.h3_index.specs.declared.error.H3Error.TheVariants.{CellInvalid, DuplicateInput, Failed, Pentagon}
use Rattle.h3_directions.specs.declared.direction.Direction.TheVariants.{I, K}
use Rattle.h3_directions.specs.declared.error.TableError.TheVariants as in_table
use Rattle.h3_lines.specs.Answer.{before, cell_line, refused, ring_line, walked}
use Rattle.h3_lines.specs.List.{lines_of, listed_cells, said_by}
use Rattle.h3_lines.specs.RunError.{refusal_line, refusal_status, row_error_name}
use Rattle.h3_lines.specs.declared.run_error.CellFile.TheVariants.{Region, Zones}
use Rattle.h3_lines.specs.declared.run_error.AnswerError.TheVariants.{AtRow, AtRowAndMore, Column, File, FileAt, FileAtRow, FileColumn, Table}
use Rattle.h3_lines.specs.declared.run_error.ColumnError.TheVariants.{NotFound, NotUnique, InUse}
use Rattle.h3_lines.specs.declared.run_error.Fault.TheVariants.{Memory, Read, Write}
use Rattle.h3_lines.specs.declared.run_error.RowError.TheVariants as of_row
use Rattle.h3_lines.specs.declared.run_error.RowFault.TheVariants.{NotAnIndex, NoSuchField, FieldCount, StrayQuote, OpenQuote, CarriageReturn, TooLong}
use Rattle.h3_lines.specs.declared.run_error.RunError.TheVariants.{Error, Fault}

-- ---- lists

-- what follows the last line feed is a line too; a carriage return is a byte like others
three_lines : lines_of (codes "a" ++ 10 ∷ 13 ∷ 10 ∷ codes "b") ≡ codes "a" ∷ (13 ∷ []) ∷ codes "b" ∷ []
three_lines = refl

-- 64 spaces are skipped, 65 are faulty
spaces : map (λ n. said_by (replicate n 32)) (64 ∷ 65 ∷ []) ≡ Ok None ∷ Err Failed ∷ []
spaces = refl

one_cell : listed_cells (10 ∷ codes " 0x8029fffffffffff" ++ 13 ∷ 10 ∷ []) ≡ Ok (base_cell 20 ∷ [])
unfolding parsed_index cell_in address_in number_of
one_cell = refl

-- the first faulty line decides
faulty : listed_cells (codes "81087ffffffffff" ++ 10 ∷ codes "xyz") ≡ Err CellInvalid
unfolding parsed_index cell_in address_in number_of
faulty = refl

-- ---- lines

-- words, and a line feed
abbrev line : List ℕ → List ℕ
line words = words ++ 10 ∷ []

origin_alone : ring_line (base_cell 20, 0) ≡ line (codes "8029fffffffffff 0")
unfolding number_of text_of digits
origin_alone = refl

-- the lines of the items before the first error are written, and none after it
cut_short : walked cell_line (Ok (base_cell 20) ∷ Err Pentagon ∷ Ok (base_cell 20) ∷ [])
    ≡ before (line (codes "8029fffffffffff")) (refused Pentagon)
unfolding number_of text_of
cut_short = refl

-- ---- lines on standard error

faults_of_tables : map refusal_line (map (λ e. Error (Table e))
    (in_table.Form 5 ∷ in_table.Missing ∷ in_table.Neighbours 30 ∷ in_table.Reversal 30 I ∷ in_table.Corner 0 K ∷ []))
    ≡ map line (codes "table: form 5" ∷ codes "table: missing" ∷ codes "table: neighbours 30"
    ∷ codes "table: reversal 30 4" ∷ codes "table: corner 0 1" ∷ [])
unfolding digits
faults_of_tables = refl

errors_of_files : map refusal_line
    (map Error (FileAt Region 12 CellInvalid ∷ FileAt Region 3 Failed ∷ File Zones DuplicateInput ∷ []))
    ≡ map line (codes "region: line 12: error 5: E_CELL_INVALID" ∷ codes "region: line 3: error 1: E_FAILED"
    ∷ codes "zones: error 10: E_DUPLICATE_INPUT" ∷ [])
unfolding digits
errors_of_files = refl

errors_of_tables_of_cells : map refusal_line (map Error (
    FileAtRow Zones 12 (of_row.Bad NoSuchField) ∷ FileAtRow Region 12 (of_row.Call CellInvalid)
    ∷ FileColumn Zones NotFound ∷ FileColumn Region NotUnique ∷ []))
    ≡ map line (
    codes "zones: line 12: error 1: E_FAILED: no such field" ∷ codes "region: line 12: error 5: E_CELL_INVALID"
    ∷ codes "zones: column: not found" ∷ codes "region: column: not unique" ∷ [])
unfolding digits
errors_of_tables_of_cells = refl

errors_of_rows : map refusal_line (map Error (AtRow 12 (of_row.Call CellInvalid)
    ∷ AtRowAndMore 12 (of_row.Call CellInvalid) 6 ∷ AtRow 2 (of_row.Bad NotAnIndex)
    ∷ AtRowAndMore 2 (of_row.Bad NotAnIndex) 0 ∷ AtRowAndMore 2 (of_row.Bad NotAnIndex) 6 ∷ []))
    ≡ map line (codes "line 12: error 5: E_CELL_INVALID" ∷ codes "line 12: error 5: E_CELL_INVALID and 6 more"
    ∷ codes "line 2: error 1: E_FAILED: not an index" ∷ codes "line 2: error 1: E_FAILED: not an index"
    ∷ codes "line 2: error 1: E_FAILED: not an index, and 6 more" ∷ [])
unfolding digits
errors_of_rows = refl

reasons : map (λ f. refusal_line (Error (AtRow 3 (of_row.Bad f))))
    (NoSuchField ∷ FieldCount 2 3 ∷ FieldCount 1 3 ∷ StrayQuote ∷ OpenQuote ∷ CarriageReturn ∷ TooLong ∷ [])
    ≡ map (λ reason. line (codes "line 3: error 1: E_FAILED: " ++ reason)) (codes "no such field"
    ∷ codes "2 fields, the header has 3" ∷ codes "1 fields, the header has 3" ∷ codes "a quote inside a field"
    ∷ codes "a quote that is not closed" ∷ codes "a carriage return inside a row"
    ∷ codes "longer than 1048575 bytes" ∷ [])
unfolding digits
reasons = refl

names_of_rows : map row_error_name (of_row.Bad StrayQuote ∷ of_row.Call Pentagon ∷ [])
    ≡ codes "E_FAILED" ∷ codes "E_PENTAGON" ∷ []
names_of_rows = refl

errors_of_columns : map refusal_line (map (λ e. Error (Column e)) (NotFound ∷ NotUnique ∷ InUse ∷ []))
    ≡ map line (codes "column: not found" ∷ codes "column: not unique" ∷ codes "column: in use" ∷ [])
errors_of_columns = refl

statuses_of_rows : map refusal_status (map Error (AtRow 2 (of_row.Bad TooLong)
    ∷ AtRowAndMore 12 (of_row.Call CellInvalid) 6 ∷ Column NotFound ∷ Column NotUnique ∷ Column InUse ∷ []))
    ≡ 1 ∷ 1 ∷ 3 ∷ 3 ∷ 3 ∷ []
statuses_of_rows = refl

statuses_of_tables_of_cells : map refusal_status (map Error (
    FileAtRow Zones 2 (of_row.Bad TooLong) ∷ FileAtRow Region 12 (of_row.Call CellInvalid)
    ∷ FileColumn Zones NotFound ∷ FileColumn Region NotUnique ∷ []))
    ≡ 1 ∷ 1 ∷ 3 ∷ 3 ∷ []
statuses_of_tables_of_cells = refl

statuses : map refusal_status (map Error
    (Table in_table.Missing ∷ Table in_table.Read ∷ FileAt Zones 3 Failed ∷ File Zones DuplicateInput ∷ []) ++ map Fault
    (Memory ∷ Read ∷ Write ∷ []))
    ≡ 3 ∷ 4 ∷ 1 ∷ 1 ∷ 1 ∷ 4 ∷ 4 ∷ []
statuses = refl
