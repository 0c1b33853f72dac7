-- How a row is put into the block and answered. Private contracts and proofs alone cite this file.
use Rattle.std.specs.Prelude.{◌≡◌, ℕ, ◌+◌, ◌==◌, ◌&&◌, get_or, not, Bool, true, false, List, [], ◌∷◌, ◌++◌, length, take, drop, replicate, Option, None, Some}
use Rattle.std.specs.List.{count_by}
use Rattle.h3_index.specs.Text.{is_blank}
use Rattle.h3_lines.specs.Answer.{Answer, before, written}
use Rattle.h3_lines.specs.Answering.{Breaks, EndsBy, Moves, Puts}
use Rattle.h3_lines.specs.EachLine.{then_answer}
use Rattle.h3_lines.specs.Write.{SinkUse}
use Rattle.h3_lines.specs.declared.run_error.RunError.{RunError}
use Rattle.h3_lines.specs.Pieces.{Piece, Uncut, cut, inside_after}
use Rattle.h3_rows.specs.Row.{returns_of}
use Rattle.h3_rows.specs.RowForm.{form_with}
use Rattle.h3_rows.specs.declared.job.RowJob.{RowJob}
use Rattle.h3_rows.specs.RowsAnswer.{Form, State, Step, goes_on, row_step, rows_with}
use Rattle.h3_rows.specs.declared.state.Columns.{Columns}
use Rattle.h3_rows.specs.declared.state.RowState.{RowState}

-- ---- fields that are looked through

-- the fields that bytes are cut into; none where no bytes are left
abbrev pub fields_left : ℕ → Bool → Option (List ℕ) → List Piece
fields_left separator quotes None = []
fields_left separator quotes (Some bytes) = cut separator quotes false bytes

-- how many bytes are left, and one more
abbrev pub bytes_left : Option (List ℕ) → ℕ
bytes_left None = 0
bytes_left (Some bytes) = length bytes + 1

-- what there is, if there is anything
abbrev pub listed : {A : Type 0} → Option A → List A
listed None = []
listed (Some value) = value ∷ []

-- what a name in two parts may end in: nothing, or bytes that do not begin with a blank and end in neither a blank nor
-- a quote
abbrev pub is_tail : List ℕ → Bool
is_tail [] = true
is_tail (b ∷ bs) =
    not (is_blank b) && (not (is_blank (get_or (b ∷ bs) (length bs) 0)) && not (get_or (b ∷ bs) (length bs) 0 == 34))

-- ---- the bytes in the block: before a header the empty rows, and after it answers that are held back

abbrev pub pending_of : Option Columns → List ℕ → List ℕ
pending_of None bytes = bytes
pending_of (Some k) bytes = []

abbrev pub held_of : Option Columns → List ℕ → List ℕ
held_of None bytes = []
held_of (Some k) bytes = bytes

-- the state, with these bytes in the block
abbrev pub state_of : RowState → List ℕ → State
state_of s bytes =
    record { number = s.number; columns = s.columns; pending = pending_of s.columns bytes; kept = s.kept }

-- ---- rows that are answered

-- the form of a job's rows; `counts_quotes` says whether quotes count in the answers of its function
abbrev pub form_of_job : {F : Type 0} → (F → Bool) → RowJob F → Form
form_of_job counts_quotes job = form_with (counts_quotes job.function.now) job.options.now job.name.now job.is_pair

-- a row is answered by bytes alone, which are put after what is held back, and the state after it is this
pub record StepsTo {S : Type 0} (taken : S → Option (List ℕ)) (failed : S → Bool) (step : Step) (w : State)
    (held held' : List ℕ) (s t : S) : Type 0 where
  pub text : List ℕ
  pub is : step ≡ record { answer = written text; after = w }
  pub moves : Moves taken failed (held ++ text) held' s t

-- a row ends the answer so, or a write fails, whatever comes after the row
abbrev pub StepEnds : Step → List ℕ → RunError → SinkUse → Type 0
StepEnds step held e out =
    (next : Answer) → EndsBy (before held (then_answer step.answer.output step.answer.ending next)) e out

-- the bytes begin with a row of so many bytes that has no line feed, which ends in so many carriage returns, and its
-- answer, bytes alone, is put after what is held back
pub record PutsPlain (form : Form) (answer : Option ℕ → Answer) (s : RowState) (bytes held held' : List ℕ)
    (size returns : ℕ) : Type 0 where
  pub row : List ℕ
  pub after : List ℕ
  pub split : bytes ≡ row ++ 10 ∷ after
  pub size_is : length row ≡ size
  pub ending : returns_of row ≡ replicate returns 13
  pub whole : Uncut 10 form.quotes false row false
  pub feedless : count_by (λ b. b == 10) row ≡ 0
  pub text : List ℕ
  pub is : row_step form answer (state_of s held) (row, false) ≡ goes_on (state_of s held) row text
  pub put : held' ≡ held ++ text

-- the bytes of a block from one place on, so many
abbrev pub mark_in : ℕ → ℕ → List ℕ → List ℕ
mark_in end size block = drop end (take (end + size) block)

-- ---- the answer to a row's cell

-- PutsShort quotes a old new at end: the same as `Puts`, and after the answer no place is inside quotes
pub record PutsShort (quotes : Bool) (a : Answer) (old new : List ℕ) (at end : ℕ) : Type 0 where
  pub puts : Puts a old new at end
  pub closed : inside_after quotes false puts.text ≡ false

-- an answer is bytes alone, and the row is put once for each of its lines, with bytes after it, after what is held back
pub record PutsBeside {S : Type 0} (taken : S → Option (List ℕ)) (failed : S → Bool) (answer : Answer) (separator : ℕ)
    (quotes : Bool) (after line held held' : List ℕ) (s t : S) : Type 0 where
  pub text : List ℕ
  pub is : answer ≡ written text
  pub moves : Moves taken failed (held ++ rows_with separator quotes after line text) held' s t

-- the same, and a write fails
pub record BreaksBeside (answer : Answer) (separator : ℕ) (quotes : Bool) (after line held : List ℕ) (sink : SinkUse)
    (e : RunError) : Type 0 where
  pub text : List ℕ
  pub is : answer ≡ written text
  pub breaks : Breaks (held ++ rows_with separator quotes after line text) sink e

-- in any state a row is answered by the same bytes alone, which are put after what is held back
pub record PutsCell {S : Type 0} (taken : S → Option (List ℕ)) (failed : S → Bool) (step : State → Step)
    (line held held' : List ℕ) (s t : S) : Type 0 where
  pub text : List ℕ
  pub is : (state : State) → step state ≡ goes_on state line text
  pub moves : Moves taken failed (held ++ text) held' s t

-- the same, and a write fails
pub record BreaksCell (step : State → Step) (line held : List ℕ) (sink : SinkUse) (e : RunError) : Type 0 where
  pub text : List ℕ
  pub is : (state : State) → step state ≡ goes_on state line text
  pub breaks : Breaks (held ++ text) sink e
