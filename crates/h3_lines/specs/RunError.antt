-- The line and the exit status of a refusal.
use Rattle.std.specs.Prelude.{ℕ, ◌==◌, List, [], ◌∷◌, ◌++◌, codes, decimal, Result, Ok, Err, if◌then◌else◌}
use Rattle.h3_index.specs.Error.{error_name, error_number}
use Rattle.h3_index.specs.declared.error.H3Error.{H3Error}
use Rattle.h3_index.specs.declared.error.H3Error.TheVariants.{Failed, MemoryAlloc}
use Rattle.h3_directions.specs.Direction.{digit_of}
use Rattle.h3_directions.specs.declared.direction.Direction.{Direction}
use Rattle.h3_directions.specs.declared.error.TableError.{TableError}
use Rattle.h3_directions.specs.declared.error.TableError.TheVariants as in_table
use Rattle.h3_lines.specs.declared.run_error.AnswerError.{AnswerError}
use Rattle.h3_lines.specs.declared.run_error.AnswerError.TheVariants.{Call, At, AtRow, AtRowAndMore, Column, Table, FileAt, FileAtRow, FileColumn, File}
use Rattle.h3_lines.specs.declared.run_error.CellFile.{CellFile}
use Rattle.h3_lines.specs.declared.run_error.CellFile.TheVariants.{Region, Zones}
use Rattle.h3_lines.specs.declared.run_error.ColumnError.{ColumnError}
use Rattle.h3_lines.specs.declared.run_error.ColumnError.TheVariants.{NotFound, NotUnique, InUse}
use Rattle.h3_lines.specs.declared.run_error.Fault as system
use Rattle.h3_lines.specs.declared.run_error.Fault.TheVariants.{Memory, Read, Write}
use Rattle.h3_lines.specs.declared.run_error.RowError.{RowError}
use Rattle.h3_lines.specs.declared.run_error.RowError.TheVariants as of_row
use Rattle.h3_lines.specs.declared.run_error.RowFault.{RowFault}
use Rattle.h3_lines.specs.declared.run_error.RowFault.TheVariants.{NotAnIndex, NoSuchField, FieldCount, StrayQuote, OpenQuote, CarriageReturn, TooLong}
use Rattle.h3_lines.specs.declared.run_error.RunError.{RunError}
use Rattle.h3_lines.specs.declared.run_error.RunError.TheVariants.{Error, Fault}

-- error_words e: the number of an H3 error and its name, as `error 9: E_PENTAGON`
abbrev pub error_words : H3Error → List ℕ
error_words e = codes "error " ++ decimal (error_number e) ++ codes ": " ++ error_name e

-- error_line e: the line of an H3 error: its number and its name
abbrev pub error_line : H3Error → List ℕ
error_line e = codes "error " ++ decimal (error_number e) ++ codes ": " ++ error_name e ++ 10 ∷ []

-- error_line_at line e: the line of an H3 error at a line of a list
abbrev pub error_line_at : ℕ → H3Error → List ℕ
error_line_at line e = codes "line " ++ decimal line ++ codes ": " ++ error_line e

-- fault_reason f: why a row has error 1, as `2 fields, the header has 3`, which has the row's number of fields and the
-- header's
abbrev pub fault_reason : RowFault → List ℕ
fault_reason NotAnIndex = codes "not an index"
fault_reason NoSuchField = codes "no such field"
fault_reason (FieldCount row header) = decimal row ++ codes " fields, the header has " ++ decimal header
fault_reason StrayQuote = codes "a quote inside a field"
fault_reason OpenQuote = codes "a quote that is not closed"
fault_reason CarriageReturn = codes "a carriage return inside a row"
fault_reason TooLong = codes "longer than 1048575 bytes"

-- row_error_name e: the name of a row's error: `E_FAILED` of a bad row and of a field that is not a number, and else
-- that of its H3 error
abbrev pub row_error_name : RowError → List ℕ
row_error_name (of_row.Bad f) = error_name Failed
row_error_name (of_row.Call e) = error_name e
row_error_name of_row.NotANumber = error_name Failed

-- row_error_words e: the number and the name of a row's error, and of a bad row the reason, as `error 1: E_FAILED: not
-- an index`; of a field that is not a number `sum: not a number`, since the sum alone needs one
abbrev pub row_error_words : RowError → List ℕ
row_error_words (of_row.Bad f) = error_words Failed ++ codes ": " ++ fault_reason f
row_error_words (of_row.Call e) = error_words e
row_error_words of_row.NotANumber = codes "sum: not a number"

-- and_words e: what joins a row's error and how many more followed: after a reason there is a comma
abbrev pub and_words : RowError → List ℕ
and_words (of_row.Bad f) = codes ", and "
and_words (of_row.Call e) = codes " and "
and_words of_row.NotANumber = codes " and "

-- more_words e more: how many errors more followed a row's error, as ` and 6 more`; no words where none did
abbrev pub more_words : RowError → ℕ → List ℕ
more_words e more = if more == 0 then [] else and_words e ++ decimal more ++ codes " more"

-- row_line row e more: the line of an error at a row that so many more followed, as `line 12: error 5: E_CELL_INVALID
-- and 6 more` or `line 2: error 1: E_FAILED: not an index, and 6 more`
abbrev pub row_line : ℕ → RowError → ℕ → List ℕ
row_line row e more = codes "line " ++ decimal row ++ codes ": " ++ row_error_words e ++ more_words e more ++ 10 ∷ []

-- column_line e: the line of a header whose columns do not serve
abbrev pub column_line : ColumnError → List ℕ
column_line NotFound = codes "column: not found" ++ 10 ∷ []
column_line NotUnique = codes "column: not unique" ++ 10 ∷ []
column_line InUse = codes "column: in use" ++ 10 ∷ []

-- words and a number, as `table: form 5`
abbrev pub numbered_line : List ℕ → ℕ → List ℕ
numbered_line words n = words ++ decimal n ++ 10 ∷ []

-- words, a base cell and the digit of a direction, as `table: reversal 30 4`
abbrev pub link_line : List ℕ → ℕ → Direction → List ℕ
link_line words base d = words ++ decimal base ++ 32 ∷ decimal (digit_of d) ++ 10 ∷ []

-- the line of a read that failed
abbrev pub read_fault_line : List ℕ
read_fault_line = codes "fault: read" ++ 10 ∷ []

-- table_line e: the line of an error of a base cell table
abbrev pub table_line : TableError → List ℕ
table_line in_table.Read = read_fault_line
table_line in_table.Memory = error_line MemoryAlloc
table_line (in_table.Form row) = numbered_line (codes "table: form ") row
table_line (in_table.Range row) = numbered_line (codes "table: range ") row
table_line (in_table.Repeated row) = numbered_line (codes "table: repeated ") row
table_line in_table.Missing = codes "table: missing" ++ 10 ∷ []
table_line (in_table.Neighbours base) = numbered_line (codes "table: neighbours ") base
table_line (in_table.Reversal base d) = link_line (codes "table: reversal ") base d
table_line (in_table.Corner base d) = link_line (codes "table: corner ") base d

-- the word by which error lines name a file of cells
abbrev pub file_word : CellFile → List ℕ
file_word Region = codes "region"
file_word Zones = codes "zones"

-- the line of an error of a file of cells, as `region: line 12: error 5: E_CELL_INVALID`, or `zones: column: not found`
abbrev pub file_line : CellFile → List ℕ → List ℕ
file_line file line = file_word file ++ codes ": " ++ line

-- answer_error_line e: the line on standard error of an answer's error
abbrev pub answer_error_line : AnswerError → List ℕ
answer_error_line (Call e) = error_line e
answer_error_line (At line e) = error_line_at line e
answer_error_line (AtRow row e) = row_line row e 0
answer_error_line (AtRowAndMore row e more) = row_line row e more
answer_error_line (Column e) = column_line e
answer_error_line (Table e) = table_line e
answer_error_line (FileAt file line e) = file_line file (error_line_at line e)
answer_error_line (FileAtRow file row e) = file_line file (row_line row e 0)
answer_error_line (FileColumn file e) = file_line file (column_line e)
answer_error_line (File file e) = file_line file (error_line e)

-- fault_line f: that of a fault
abbrev pub fault_line : system.Fault → List ℕ
fault_line Memory = error_line MemoryAlloc
fault_line Read = read_fault_line
fault_line Write = codes "fault: write" ++ 10 ∷ []

-- refusal_line r: the line on standard error of a refusal
abbrev pub refusal_line : RunError → List ℕ
refusal_line (Error e) = answer_error_line e
refusal_line (Fault f) = fault_line f

-- answer_error_status e: the exit status of an answer's error: 1 for an H3 error, 3 for a header whose columns do not
-- serve, the list's or a file's, and 3 for an error of a base cell table that is neither out of memory nor a read that
-- failed
abbrev pub answer_error_status : AnswerError → ℕ
answer_error_status (Call e) = 1
answer_error_status (At line e) = 1
answer_error_status (AtRow row e) = 1
answer_error_status (AtRowAndMore row e more) = 1
answer_error_status (Column e) = 3
answer_error_status (Table in_table.Read) = 4
answer_error_status (Table in_table.Memory) = 1
answer_error_status (Table e) = 3
answer_error_status (FileAt file line e) = 1
answer_error_status (FileAtRow file row e) = 1
answer_error_status (FileColumn file e) = 3
answer_error_status (File file e) = 1

-- fault_status f: that of a fault: 4 for one of a stream, and 1 for out of memory, which is an H3 error
abbrev pub fault_status : system.Fault → ℕ
fault_status Memory = 1
fault_status Read = 4
fault_status Write = 4

-- refusal_status r: the exit status of a refusal
abbrev pub refusal_status : RunError → ℕ
refusal_status (Error e) = answer_error_status e
refusal_status (Fault f) = fault_status f

-- table_refusal e: the refusal that an error of a table becomes
--
-- the refusal for an error of a base cell table: a read that failed and out of memory are faults, as for a list
abbrev pub table_refusal : TableError → RunError
table_refusal in_table.Read = Fault Read
table_refusal in_table.Memory = Fault Memory
table_refusal e = Error (Table e)

-- ending_of r: how a run ends whose answer ends so
abbrev pub ending_of : Result (Unit {0}) AnswerError → Result (Unit {0}) RunError
ending_of (Ok u) = Ok u
ending_of (Err e) = Err (Error e)

-- ending_line r: the line of an ending: that of its refusal, or none
abbrev pub ending_line : Result (Unit {0}) RunError → List ℕ
ending_line (Ok u) = []
ending_line (Err r) = refusal_line r

-- ending_status r: its exit status: that of its refusal, or 0
abbrev pub ending_status : Result (Unit {0}) RunError → ℕ
ending_status (Ok u) = 0
ending_status (Err r) = refusal_status r
