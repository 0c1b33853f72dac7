-- The answer to rows of which each is answered on its own: each row whole, with the answer to its own cell beside it,
-- in order, up to the first error that ends it.
use Rattle.std.specs.Prelude.{codes, ℕ, ◌+◌, ◌-◌, ◌==◌, nat_lt, Bool, true, false, List, [], ◌∷◌, ◌++◌, length, Option, None, Some, Result, Ok, Err, string_bytes, if◌then◌else◌, not, ◌&&◌, ◌||◌, bytes_eq}
use Rattle.std.specs.List.{flat_map, list_all}
use Rattle.h3_index.specs.Text.{parsed_index, trimmed}
use Rattle.h3_requests.specs.declared.rows.CellField.{CellField}
use Rattle.h3_requests.specs.declared.rows.CellField.TheVariants.{Number, Column}
use Rattle.h3_lines.specs.Answer.{Answer, written}
use Rattle.h3_lines.specs.EachLine.{then_answer}
use Rattle.h3_lines.specs.List.{Says}
use Rattle.h3_lines.specs.RunError.{row_error_name}
use Rattle.h3_lines.specs.declared.run_error.AnswerError.{AnswerError}
use Rattle.h3_lines.specs.declared.run_error.AnswerError.TheVariants as ending_by
use Rattle.h3_lines.specs.declared.run_error.ColumnError.{ColumnError}
use Rattle.h3_lines.specs.declared.run_error.ColumnError.TheVariants.{InUse, NotFound, NotUnique}
use Rattle.h3_lines.specs.declared.run_error.RowError.{RowError}
use Rattle.h3_lines.specs.declared.run_error.RowError.TheVariants as row_error
use Rattle.h3_lines.specs.declared.run_error.RowFault.{RowFault}
use Rattle.h3_lines.specs.declared.run_error.RowFault.TheVariants.{CarriageReturn, FieldCount, NoSuchField, NotAnIndex, OpenQuote, StrayQuote, TooLong}
use Rattle.h3_lines.specs.Pieces.{Piece, cut, is_uncut}
use Rattle.h3_rows.specs.Row.{field_text, is_empty_row, list_rows, mark_of, next_number, piece_at, quotes_are_sound, read_of, row_body, row_ending, unmarked}
use Rattle.h3_rows.specs.declared.state.Columns.{Columns}
use Rattle.h3_rows.specs.declared.state.FirstError.{FirstError}
use Rattle.h3_rows.specs.declared.row_cell.RowCell.{RowCell}
use Rattle.h3_rows.specs.declared.row_cell.RowCell.TheVariants.{Index, Missing}

-- ---- how rows are read, and written with their answers

-- Choice: which field of a row has its cell: the one after so many others, or the one whose text in the header is a
-- name
pub data Choice : Type 0 where
  After : ℕ → Choice
  Named : List ℕ → Choice

-- Form: the byte that separates fields, whether quotes count, which field has the cell, what is taken for its index if
-- the cells of the rows are a list, whether there is a header, the names of the new columns, what a row gets that has
-- no answer, whether quotes count in an answer too, whether the run goes on after an error, whether one more column has
-- the names of errors, and whether rows may have another number of fields than the header
pub record Form : Type 0 where
  pub separator : ℕ
  pub quotes : Bool
  pub choice : Choice
  pub says : Says
  pub has_header : Bool
  pub names : List (List ℕ)
  pub empty : List ℕ
  pub quoted_answers : Bool
  pub keeps_going : Bool
  pub shows_errors : Bool
  pub is_ragged : Bool

-- choice_of field: the choice by the number of a field, counted from 1, or by its name
abbrev pub choice_of : CellField → Choice
choice_of (Number n) = After (n - 1)
choice_of (Column name) = Named (string_bytes name)

-- name_of given name: the name that was given for the new column, or else this one
abbrev pub name_of : Option (List ℕ) → List ℕ → List ℕ
name_of None name = name
name_of (Some given) name = given

-- answer_names is_pair given name: the name of the new column; if an answer is a pair, a cell and its distance, there
-- are two: `near` and `distance`, or the name that was given, and the same with `Distance` after it
abbrev pub answer_names : Bool → Option (List ℕ) → List ℕ → List (List ℕ)
answer_names true None name = codes "near" ∷ codes "distance" ∷ []
answer_names true (Some given) name = given ∷ (given ++ codes "Distance") ∷ []
answer_names false given name = name_of given name ∷ []

-- error_names shows_errors given: the name of the column of errors, if there is one: `error`, or the name that was
-- given with `Error` after it
abbrev pub error_names : Bool → Option (List ℕ) → List (List ℕ)
error_names false given = []
error_names true None = codes "error" ∷ []
error_names true (Some given) = (given ++ codes "Error") ∷ []

-- empty_answer is_pair separator: an answer without a byte; if an answer is a pair, two of these with the separator
-- between them
abbrev pub empty_answer : Bool → ℕ → List ℕ
empty_answer true separator = separator ∷ []
empty_answer false separator = []

-- ---- what a row says of its cell

-- index_said index: the index that a text parses as; a text that parses as none is faulty
abbrev pub index_said : Option ℕ → Result RowCell RowFault
index_said None = Err NotAnIndex
index_said (Some index) = Ok (Index index)

-- text_cell text: the cell is missing if the text is blank; else its index is what the text parses as
abbrev pub text_cell : List ℕ → Result RowCell RowFault
text_cell text = if length (trimmed text) == 0 then Ok Missing else index_said (parsed_index text)

-- field_cell quotes field: what a field says; a row without the field is faulty
abbrev pub field_cell : Bool → Option (List ℕ) → Result RowCell RowFault
field_cell quotes None = Err NoSuchField
field_cell quotes (Some field) = text_cell (field_text quotes field)

-- is_as_wide width n: so many fields are as many as a header has, if rows have to have as many
abbrev pub is_as_wide : Option ℕ → ℕ → Bool
is_as_wide None n = true
is_as_wide (Some width) n = n == width

-- width_of width: how many fields that is
abbrev pub width_of : Option ℕ → ℕ
width_of None = 0
width_of (Some width) = width

-- fields_said quotes columns fields: what the fields of a row say of its cell, which is in the field after so many
-- others; a row is faulty that has another number of fields than the header
abbrev pub fields_said : Bool → Columns → List Piece → Result RowCell RowFault
fields_said quotes columns fields =
    if is_as_wide columns.width (length fields) then field_cell quotes (piece_at columns.before fields)
    else Err (FieldCount (length fields) (width_of columns.width))

-- row_cell form number columns row: what the row with this number says of its cell
abbrev pub row_cell : Form → ℕ → Columns → List ℕ → Result RowCell RowFault
row_cell form number columns row =
    fields_said form.quotes columns (cut form.separator form.quotes false (read_of number row))

-- malformed form number p: why a row is no row of the form, if it is none: it has more than 1,048,575 bytes, or more
-- than 1,114,111 with a byte order mark and the carriage returns at its end; if quotes count, it has a carriage return
-- outside quotes; a quote is open at its end; if quotes count, one is stray
abbrev pub malformed : Form → ℕ → Piece → Option RowFault
malformed form number p =
    if nat_lt 1048575 (length (read_of number (row_body p.0))) || nat_lt 1114111 (length p.0) then Some TooLong else
    if form.quotes && not (is_uncut 13 true false (row_body p.0)) then Some CarriageReturn else
    if p.1 then Some OpenQuote else
    if form.quotes
    && not (quotes_are_sound form.separator (read_of number (row_body p.0))) then Some StrayQuote else None

-- ---- headers

-- places_of quotes name k fields: the places of the fields whose text is a name; the first field is at the place k
abbrev pub places_of : Bool → List ℕ → ℕ → List Piece → List ℕ
places_of quotes name k [] = []
places_of quotes name k (p ∷ ps) =
    if bytes_eq (field_text quotes p.0) name then k ∷ places_of quotes name (k + 1) ps
    else places_of quotes name (k + 1) ps

-- one_place places: the place, if there is one and no other
abbrev pub one_place : List ℕ → Result ℕ ColumnError
one_place [] = Err NotFound
one_place (k ∷ []) = Ok k
one_place (k ∷ l ∷ ks) = Err NotUnique

-- column_of separator quotes name row: how many fields are before the only one of the row whose text is the name
abbrev pub column_of : ℕ → Bool → List ℕ → List ℕ → Result ℕ ColumnError
column_of separator quotes name row = one_place (places_of quotes name 0 (cut separator quotes false row))

-- chosen_in form choice row: how many fields are before the cell's, by a header
abbrev pub chosen_in : Form → Choice → List ℕ → Result ℕ ColumnError
chosen_in form (After k) row = Ok k
chosen_in form (Named name) row = column_of form.separator form.quotes name row

-- width_in form row: how many fields rows have to have, by a header
abbrev pub width_in : Form → List ℕ → Option ℕ
width_in form row = if form.is_ragged then None else Some (length (cut form.separator form.quotes false row))

-- with_width width before: the columns, if so many fields are before the cell's
abbrev pub with_width : Option ℕ → Result ℕ ColumnError → Result Columns ColumnError
with_width width (Err e) = Err e
with_width width (Ok before) = Ok record { before = before; width = width }

-- columns_in form row: the columns, by a header
abbrev pub columns_in : Form → List ℕ → Result Columns ColumnError
columns_in form row = with_width (width_in form row) (chosen_in form form.choice row)

-- is_free form row name: no field of a header has the text that the name has as a field
abbrev pub is_free : Form → List ℕ → List ℕ → Bool
is_free form row name =
    length (places_of form.quotes (field_text form.quotes name) 0 (cut form.separator form.quotes false row)) == 0

-- have_one_text quotes name other: two names have the same text as fields
abbrev pub have_one_text : Bool → List ℕ → List ℕ → Bool
have_one_text quotes name other = bytes_eq (field_text quotes name) (field_text quotes other)

-- are_apart quotes names: no two of the names have the same text as fields
abbrev pub are_apart : Bool → List (List ℕ) → Bool
are_apart quotes [] = true
are_apart quotes (name ∷ names) =
    list_all (λ other. not (have_one_text quotes name other)) names && are_apart quotes names

-- free_columns form row columns: a header gets the names of new columns, if it has none of them already, and no two are
-- the same
abbrev pub free_columns : Form → List ℕ → Result Columns ColumnError → Result Columns ColumnError
free_columns form row (Err e) = Err e
free_columns form row (Ok columns) =
    if list_all (is_free form row) form.names && are_apart form.quotes form.names then Ok columns else Err InUse

-- ---- how far the answer has come

-- State: the number of the next row; the columns, none while a header is awaited; the empty rows before the header,
-- which are written with it; and the first error after which the run went on, with the number of others
pub record State : Type 0 where
  pub number : ℕ
  pub columns : Option Columns
  pub pending : List ℕ
  pub kept : Option FirstError

-- columns_first has_header choice: the columns at the beginning of a list; a header is awaited if there is one, and if
-- the field has a name
abbrev pub columns_first : Bool → Choice → Option Columns
columns_first true choice = None
columns_first false (After k) = Some record { before = k; width = None }
columns_first false (Named name) = None

-- start form: the state at the beginning of a list
abbrev pub start : Form → State
start form = record { number = 1; columns = columns_first form.has_header form.choice; pending = []; kept = None }

-- one_more number e kept: an error at a row, after those that are kept
abbrev pub one_more : ℕ → RowError → Option FirstError → FirstError
one_more number e None = record { number = number; error = e; more = 0 }
one_more number e (Some k) = record { number = k.number; error = k.error; more = k.more + 1 }

-- more_kept kept: how many errors more were kept
abbrev pub more_kept : Option FirstError → ℕ
more_kept None = 0
more_kept (Some k) = k.more

-- ---- the answer to a row

-- Step: the answer to a row, and the state after it
pub record Step : Type 0 where
  pub answer : Answer
  pub after : State

-- row_with separator line a: the row, the separator, an answer, and the row's ending
abbrev pub row_with : ℕ → List ℕ → List ℕ → List ℕ
row_with separator line a = row_body line ++ (separator ∷ (a ++ row_ending line))

-- each_with separator after line answers: the row with each of these answers, each with these bytes after it; what
-- follows the last line feed is none
abbrev pub each_with : ℕ → List ℕ → List ℕ → List Piece → List ℕ
each_with separator after line [] = []
each_with separator after line (a ∷ []) = []
each_with separator after line (a ∷ b ∷ more) =
    row_with separator line (a.0 ++ after) ++ each_with separator after line (b ∷ more)

-- rows_with separator quotes after line text: the row once for each line of an answer's text, with that line; if quotes
-- count in it, a line feed inside quotes ends no line
abbrev pub rows_with : ℕ → Bool → List ℕ → List ℕ → List ℕ → List ℕ
rows_with separator quotes after line text = each_with separator after line (cut 10 quotes false text)

-- error_field form name: one more field with the name of an error, if there is a column for it
abbrev pub error_field : Form → List ℕ → List ℕ
error_field form name = if form.shows_errors then form.separator ∷ name else []

-- answered_with form line text: the row once for each line of an answer's text, and no error
abbrev pub answered_with : Form → List ℕ → List ℕ → List ℕ
answered_with form line text = rows_with form.separator form.quoted_answers (error_field form []) line text

-- unanswered form line name: the row with an empty answer, and the name of an error
abbrev pub unanswered : Form → List ℕ → List ℕ → List ℕ
unanswered form line name = row_with form.separator line (form.empty ++ error_field form name)

-- header_with separator line names: a header with the names of the new columns
abbrev pub header_with : ℕ → List ℕ → List (List ℕ) → List ℕ
header_with separator line names = row_body line ++ (flat_map (λ name. separator ∷ name) names ++ row_ending line)

-- passed s line: the state after a row that changes nothing but the number
abbrev pub passed : State → List ℕ → State
passed s line = record { number = next_number s.number line; columns = s.columns; pending = s.pending; kept = s.kept }

-- goes_on s line text: the row is answered by these bytes
abbrev pub goes_on : State → List ℕ → List ℕ → Step
goes_on s line text = record { answer = written text; after = passed s line }

-- ends s e: an error at the row ends the answer, after the empty rows that were held back
abbrev pub ends : State → RowError → Step
ends s e = record { answer = record { output = s.pending; ending = Err (ending_by.AtRow s.number e) }; after = s }

-- faulty form s line e: a row with an error ends the answer; or, if the run goes on, it has an empty answer, and the
-- error is kept
abbrev pub faulty : Form → State → List ℕ → RowError → Step
faulty form s line e =
    if form.keeps_going
    then record {
      answer = written (unanswered form line (row_error_name e));
      after = record {
        number = next_number
            s.number line;
        columns = s.columns;
        pending = s.pending;
        kept = Some (one_more s.number e s.kept);
      };
    }
    else ends s e

-- beside form s line output ending: an answer, which has this output and ending, beside its row
abbrev pub beside : Form → State → List ℕ → List ℕ → Result (Unit {0}) AnswerError → Step
beside form s line output (Ok u) = goes_on s line (answered_with form line output)
beside form s line output (Err (ending_by.Call e)) = faulty form s line (row_error.Call e)
beside form s line output (Err e) =
    record { answer = record { output = answered_with form line output; ending = Err e }; after = s }

-- answer_to_cell form answer s line said: the answer to what a row says of its cell
abbrev pub answer_to_cell : Form → (Option ℕ → Answer) → State → List ℕ → Result RowCell RowFault → Step
answer_to_cell form answer s line (Err fault) = faulty form s line (row_error.Bad fault)
answer_to_cell form answer s line (Ok Missing) = goes_on s line (unanswered form line (codes "missing"))
answer_to_cell form answer s line (Ok (Index index)) =
    beside form s line (answer (Some index)).output (answer (Some index)).ending

-- header_step form s line columns: a header is written as it is, with the names of the new columns, after the empty
-- rows before it; if it has no such column nothing is written
abbrev pub header_step : Form → State → List ℕ → Result Columns ColumnError → Step
header_step form s line (Err e) =
    record { answer = record { output = []; ending = Err (ending_by.Column e) }; after = s }
header_step form s line (Ok columns) = record {
  answer = written (s.pending ++ header_with form.separator line form.names);
  after = record { number = next_number s.number line; columns = Some columns; pending = []; kept = s.kept };
}

-- begun_with mark ending text: a mark before what is written of a row; an error that ends the answer leaves it out, as
-- then no row is written
abbrev pub begun_with : List ℕ → Result (Unit {0}) AnswerError → List ℕ → List ℕ
begun_with mark (Ok u) text = mark ++ text
begun_with mark (Err e) text = text

-- marked mark step: the answer to a row, written after a mark unless it ends the answer
abbrev pub marked : List ℕ → Step → Step
marked mark step = record {
  answer = record { output = begun_with mark step.answer.ending step.answer.output; ending = step.answer.ending };
  after = step.after;
}

-- filled_step form answer s line columns: the answer to a row that is not empty: it is the header while one is awaited.
-- The byte order mark before the first row of a list is written once, before the row
abbrev pub filled_step : Form → (Option ℕ → Answer) → State → List ℕ → Option Columns → Step
filled_step form answer s line None =
    let row = read_of s.number (row_body line) in header_step form s line (free_columns form row (columns_in form row))
filled_step form answer s line (Some columns) =
    marked (mark_of s.number (row_body line))
    (answer_to_cell form answer s (unmarked s.number line) (row_cell form s.number columns (row_body line)))

-- empty_step s line columns: an empty row is written as it is; before a header it is held back, but for more than
-- 32,768 bytes of such rows, which are written at once
abbrev pub empty_step : State → List ℕ → Option Columns → Step
empty_step s line None =
    if nat_lt 32768 (length s.pending + length line + 1) then
    record {
      answer = written (s.pending ++ (line ++ 10 ∷ []));
      after = record { number = next_number s.number line; columns = s.columns; pending = []; kept = s.kept };
    }
    else record {
      answer = written [];
      after = record {
        number = next_number s.number line;
        columns = s.columns;
        pending = s.pending ++ (line ++ 10 ∷ []);
        kept = s.kept;
      };
    }
empty_step s line (Some columns) = goes_on s line (line ++ 10 ∷ [])

-- sound_step form answer s line: the answer to a row that is not malformed
abbrev pub sound_step : Form → (Option ℕ → Answer) → State → List ℕ → Step
sound_step form answer s line =
    if is_empty_row s.number (row_body line) then empty_step s line s.columns
    else filled_step form answer s line s.columns

-- step_unless fault form answer s line: the answer to a row that is malformed for this reason, or is not
abbrev pub step_unless : Option RowFault → Form → (Option ℕ → Answer) → State → List ℕ → Step
step_unless None form answer s line = sound_step form answer s line
step_unless (Some fault) form answer s line = ends s (row_error.Bad fault)

-- row_step form answer s p: the answer to a row in a state, and the state after it
abbrev pub row_step : Form → (Option ℕ → Answer) → State → Piece → Step
row_step form answer s p = step_unless (malformed form s.number p) form answer s p.0

-- ---- the answer to rows

-- rows_then last form answer s rows: the answers to rows in order, up to the first error that ends it, and else what is
-- last in the state after them
abbrev pub rows_then : (State → Answer) → Form → (Option ℕ → Answer) → State → List Piece → Answer
rows_then last form answer s [] = last s
rows_then last form answer s (p ∷ ps) =
    then_answer (row_step form answer s p).answer.output (row_step form answer s p).answer.ending
    (rows_then last form answer (row_step form answer s p).after ps)

-- kept_ending kept: a run that went on ends with the first error, and the number of others
abbrev pub kept_ending : Option FirstError → Result (Unit {0}) AnswerError
kept_ending None = Ok tt
kept_ending (Some k) = Err (ending_by.AtRowAndMore k.number k.error k.more)

-- end_of choice s columns: the answer at the end of a list: the kept errors; if the header did not come, the empty rows
-- alone, or, for a column that has a name, its error
abbrev pub end_of : Choice → State → Option Columns → Answer
end_of choice s (Some columns) = record { output = []; ending = kept_ending s.kept }
end_of (After k) s None = written s.pending
end_of (Named name) s None = record { output = []; ending = Err (ending_by.Column NotFound) }

-- rows_answer form answer rows: the answer to the rows of a list
abbrev pub rows_answer : Form → (Option ℕ → Answer) → List Piece → Answer
rows_answer form answer rows = rows_then (λ s. end_of form.choice s s.columns) form answer (start form) rows

-- begun_answer form answer rows: the answer to the first rows of a list, of which more may come
abbrev pub begun_answer : Form → (Option ℕ → Answer) → List Piece → Answer
begun_answer form answer rows = rows_then (λ s. written []) form answer (start form) rows

-- list_answer form answer bytes: the answer to the list in these bytes, row by row
abbrev pub list_answer : Form → (Option ℕ → Answer) → List ℕ → Answer
list_answer form answer bytes = rows_answer form answer (list_rows form.quotes bytes)
