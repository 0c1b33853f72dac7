-- Laws of rows with answers.
use Rattle.std.specs.Prelude.{codes, ◌≡◌, ℕ, ◌==◌, ◌⊎◌, Bool, true, false, List, [], ◌∷◌, ◌++◌, Option, None, Some, Result, Ok, Err, ⊤, if◌then◌else◌}
use Rattle.std.specs.List.{flat_map}
use Rattle.h3_index.specs.declared.error.H3Error.{H3Error}
use Rattle.h3_lines.specs.Answer.{Answer, refused, written}
use Rattle.h3_lines.specs.RunError.{row_error_name}
use Rattle.h3_lines.specs.declared.run_error.AnswerError.{AnswerError}
use Rattle.h3_lines.specs.declared.run_error.AnswerError.TheVariants as ending_by
use Rattle.h3_lines.specs.declared.run_error.RowError.TheVariants as row_error
use Rattle.h3_lines.specs.declared.run_error.RowFault.{RowFault}
use Rattle.h3_lines.specs.Pieces.{Piece, cut, inside_after, is_uncut, pieces_of, rows_of}
use Rattle.h3_rows.specs.Areas.{IsOneField}
use Rattle.h3_rows.specs.Row.{is_empty_row, lacking_last, list_rows, mark_of, next_number, quotes_are_sound, returns_of, row_body, row_ending, unmarked}
use Rattle.h3_rows.specs.RowsAnswer.{Form, State, answered_with, header_with, row_cell, row_step, row_with, rows_then, rows_with, unanswered}
use Rattle.h3_rows.specs.declared.state.Columns.{Columns}
use Rattle.h3_rows.specs.declared.row_cell.RowCell.{RowCell}
use Rattle.h3_rows.specs.declared.row_cell.RowCell.TheVariants.{Index, Missing}

-- ---- each row is in the output

-- numbered n rows: the rows, each with its number; the first has the number n
abbrev pub numbered : ℕ → List Piece → List (ℕ × Piece)
numbered n [] = []
numbered n (p ∷ ps) = (n, p) ∷ numbered (next_number n p.0) ps

-- answered_so form line output ending: the row with each of the answers of a function, or with an empty one and the
-- error's name if it has an error
abbrev pub answered_so : Form → List ℕ → List ℕ → Result (Unit {0}) AnswerError → List ℕ
answered_so form line output (Ok u) = answered_with form line output
answered_so form line output (Err (ending_by.Call e)) = unanswered form line (row_error_name (row_error.Call e))
answered_so form line output (Err e) = answered_with form line output

-- with_own form answer line said: the row with the answers to what it says of its cell; with an empty one if it says
-- nothing, or is faulty
abbrev pub with_own : Form → (Option ℕ → Answer) → List ℕ → Result RowCell RowFault → List ℕ
with_own form answer line (Err fault) = unanswered form line (row_error_name (row_error.Bad fault))
with_own form answer line (Ok Missing) = unanswered form line (codes "missing")
with_own form answer line (Ok (Index index)) =
    answered_so form line (answer (Some index)).output (answer (Some index)).ending

-- own_lines form answer columns r: what is in the output for a row, which has a number: an empty row as it is, and any
-- other with the answers to its own cell, after the byte order mark before the first row of a list
abbrev pub own_lines : Form → (Option ℕ → Answer) → Columns → ℕ × Piece → List ℕ
own_lines form answer columns r =
    if is_empty_row r.0 (row_body r.1.0) then r.1.0 ++ 10 ∷ []
    else mark_of r.0 (row_body r.1.0)
    ++ with_own form answer (unmarked r.0 r.1.0) (row_cell form r.0 columns (row_body r.1.0))

-- RowsStand: if no row ends the answer, what is written for rows after a header, or without one, is `own_lines` of each
-- of them by its own cell alone, in order, and nothing else
abbrev pub RowsStand : Type 0
RowsStand =
    (form : Form) (answer : Option ℕ → Answer) (columns : Columns) (s : State) (rows : List Piece)
    → s.columns ≡ Some columns → (rows_then (λ t. written []) form answer s rows).ending ≡ Ok tt
    → (rows_then (λ t. written []) form answer s rows).output
    ≡ flat_map (own_lines form answer columns) (numbered s.number rows)

-- IsWholeOrRefused a: an answer without an error, or the error of a call alone
abbrev pub IsWholeOrRefused : Answer → Type 0
IsWholeOrRefused a = (a.ending ≡ Ok tt) ⊎ ((e : H3Error) × (a ≡ refused e))

-- RowsStandUntil: if a function's answers are whole or refused, what is written for rows after a header, or without
-- one, is `own_lines` of each row before the one that ends the answer, by its own cell alone, in order, and nothing
-- else; if the answer has no error, for each of all rows
abbrev pub RowsStandUntil : Type 0
RowsStandUntil =
    (form : Form) (answer : Option ℕ → Answer) (columns : Columns) (s : State) (rows : List Piece)
    → ((index : Option ℕ) → IsWholeOrRefused (answer index)) → s.columns ≡ Some columns → s.pending ≡ []
    → (done : List Piece) × (more : List Piece) × (rows ≡ done ++ more)
    × ((rows_then (λ t. written []) form answer s rows).output
    ≡ flat_map (own_lines form answer columns) (numbered s.number done))
    × ((rows_then (λ t. written []) form answer s rows).ending ≡ Ok tt → more ≡ [])

-- HeaderStands: what is written for a header, if it does not end the answer, is the empty rows that are held back, the
-- header, whole, and the names of the new columns; the rows after it are those of `RowsStand`
abbrev pub HeaderStands : Type 0
HeaderStands =
    (form : Form) (answer : Option ℕ → Answer) (s : State) (p : Piece) → s.columns ≡ None
    → is_empty_row s.number (row_body p.0) ≡ false → (row_step form answer s p).answer.ending ≡ Ok tt
    → ((row_step form answer s p).answer.output ≡ s.pending ++ header_with form.separator p.0 form.names)
    × ((row_step form answer s p).after.pending ≡ [])
    × ((columns : Columns) × ((row_step form answer s p).after.columns ≡ Some columns))

-- RowsGiveBack: the rows of a list, each with a line feed, are the list, but for the ending that its last row lacked
abbrev pub RowsGiveBack : Type 0
RowsGiveBack = (quotes : Bool) (bytes : List ℕ) →
    let ended : List ℕ = bytes ++ lacking_last [] (pieces_of quotes bytes) in
    let whole : List ℕ = flat_map (λ p. p.0 ++ 10 ∷ []) (list_rows quotes bytes) in
    (whole ≡ ended) ⊎ (whole ≡ ended ++ 10 ∷ [])

-- ---- a row with its answer

-- RowsAreWhole: a row and its ending are what was cut off, and its line feed
abbrev pub RowsAreWhole : Type 0
RowsAreWhole = (line : List ℕ) → row_body line ++ row_ending line ≡ line ++ 10 ∷ []

-- MarksAreKept: the byte order mark before a row, and the row without it, are the row as it came
abbrev pub MarksAreKept : Type 0
MarksAreKept = (number : ℕ) (line : List ℕ) → mark_of number (row_body line) ++ unmarked number line ≡ line

-- FieldsAreKept: the fields of a row with an answer are those of the row, and then the answer; so taking the column
-- away gives the row back
abbrev pub FieldsAreKept : Type 0
FieldsAreKept =
    (separator : ℕ) (quotes : Bool) (row a : List ℕ) → (34 == separator) ≡ false → inside_after quotes false row ≡ false
    → is_uncut separator quotes false a ≡ true → inside_after quotes false a ≡ false
    → cut separator quotes false (row ++ separator ∷ a) ≡ cut separator quotes false row ++ (a, false) ∷ []

-- PairsAreKept: the fields of a row with an answer of two parts are those of the row, and then the two; so taking the
-- two columns away gives the row back
abbrev pub PairsAreKept : Type 0
PairsAreKept =
    (separator : ℕ) (quotes : Bool) (row a b : List ℕ) → (34 == separator) ≡ false
    → inside_after quotes false row ≡ false
    → is_uncut separator quotes false a ≡ true → inside_after quotes false a ≡ false
    → is_uncut separator quotes false b ≡ true → inside_after quotes false b ≡ false
    → cut separator quotes false (row ++ (separator ∷ (a ++ (separator ∷ b)))) ≡ cut separator quotes false row ++ (
      a,
      false,
    ) ∷ (b, false) ∷ []

-- RowsReadBack: what is read of the output is, row for row, the row with its answer: a row's bytes, without their line
-- feed, with an answer that has no line feed and no quote, are one row of the output
abbrev pub RowsReadBack : Type 0
RowsReadBack =
    (separator : ℕ) (quotes : Bool) (line a rest : List ℕ) → (34 == separator) ≡ false → (10 == separator) ≡ false
    → is_uncut 10 quotes false line ≡ true → inside_after quotes false line ≡ false → is_uncut 10 quotes false a ≡ true
    → inside_after quotes false a ≡ false
    → rows_of quotes (row_with separator line a ++ rest)
    ≡ (row_body line ++ (separator ∷ (a ++ returns_of line)), false) ∷ rows_of quotes rest

-- TextsStandOnce: a row stands once with a text as its answer, and with what is after it, if no line feed outside
-- quotes is in the text and no quote in it stays open
abbrev pub TextsStandOnce : Type 0
TextsStandOnce =
    (separator : ℕ) (quotes : Bool) (after row text : List ℕ) → is_uncut 10 quotes false text ≡ true
    → inside_after quotes false text ≡ false
    → rows_with separator quotes after row (text ++ 10 ∷ []) ≡ row_with separator row (text ++ after)

-- TextsAreKept: the fields of a row with a text that is one field are those of the row, and then the text; so taking
-- the column away gives the row back
abbrev pub TextsAreKept : Type 0
TextsAreKept =
    (separator : ℕ) (quotes : Bool) (row text : List ℕ) → (34 == separator) ≡ false
    → inside_after quotes false row ≡ false → IsOneField separator quotes text
    → cut separator quotes false (row ++ separator ∷ text) ≡ cut separator quotes false row ++ (text, false) ∷ []

-- TextsStaySound: a row whose quotes are sound, with a text beside it that no separator cuts, and whose quotes are
-- sound and closed, is a row whose quotes are sound
abbrev pub TextsStaySound : Type 0
TextsStaySound =
    (separator : ℕ) (row text : List ℕ) → (34 == separator) ≡ false → inside_after true false row ≡ false
    → quotes_are_sound separator row ≡ true
    → is_uncut separator true false text ≡ true → inside_after true false text ≡ false
    → quotes_are_sound separator text ≡ true → quotes_are_sound separator (row ++ separator ∷ text) ≡ true

-- rows and answers of which none has a line feed outside quotes, or a quote that stays open
abbrev pub AreRows : Bool → List (List ℕ × List ℕ) → Type 0
AreRows quotes [] = ⊤
AreRows quotes (r ∷ rs) =
    (is_uncut 10 quotes false r.0 ≡ true) × (inside_after quotes false r.0 ≡ false)
    × (is_uncut 10 quotes false r.1 ≡ true) × (inside_after quotes false r.1 ≡ false) × AreRows quotes rs

-- the rows, each with its answer, one after another
abbrev pub all_with : ℕ → List (List ℕ × List ℕ) → List ℕ
all_with separator [] = []
all_with separator (r ∷ rs) = row_with separator r.0 r.1 ++ all_with separator rs

-- what each of them is, read again
abbrev pub read_again : ℕ → List (List ℕ × List ℕ) → List Piece
read_again separator [] = []
read_again separator (r ∷ rs) = (row_body r.0 ++ (separator ∷ (r.1 ++ returns_of r.0)), false) ∷ read_again separator rs

-- OutputReadsBack: rows with their answers are, read again, as many rows, each with its answer; taking that away gives
-- the rows back
abbrev pub OutputReadsBack : Type 0
OutputReadsBack =
    (separator : ℕ) (quotes : Bool) (rows : List (List ℕ × List ℕ)) → (34 == separator) ≡ false
    → (10 == separator) ≡ false → AreRows quotes rows
    → rows_of quotes (all_with separator rows) ≡ read_again separator rows
