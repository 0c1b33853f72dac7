-- How the answering of a list ends, row by row.
use Rattle.std.specs.Prelude.{◌≡◌, ℕ, ◌⊎◌, Bool, List, length, Option, Result, Ok, Err}
use Rattle.std.specs.Io.KnownBytes.{Keeps}
use Rattle.h3_lines.specs.Answer.{Answer}
use Rattle.h3_lines.specs.Ending.{AnswersAll, EndsEarly, list_at}
use Rattle.h3_lines.specs.Write.{IsLeft, SinkUse}
use Rattle.h3_lines.specs.declared.run_error.AnswerError.{AnswerError}
use Rattle.h3_lines.specs.declared.run_error.Fault.TheVariants.{Memory, Read, Write}
use Rattle.h3_lines.specs.declared.run_error.RunError.{RunError}
use Rattle.h3_lines.specs.declared.run_error.RunError.TheVariants.{Error, Fault}
use Rattle.h3_lines.specs.Pieces.{Piece, pieces_of}
use Rattle.h3_rows.specs.Row.{list_rows}

-- What is answered to the rows of a list, `whole`, and to the first rows of one of which more may come, `begun`: by
-- `rows_answer` and `begun_answer` of a form and a function.

-- by_rows quotes whole list: the answer to the rows of a list
abbrev pub by_rows : Bool → (List Piece → Answer) → List ℕ → Answer
by_rows quotes whole list = whole (list_rows quotes list)

-- EndsRowsEarly quotes whole begun ..: how the answering of a list, row by row, ends before the list does; of a row
-- that has not ended before the last page, or that a read fault cuts, at most 1,114,111 bytes were read
abbrev pub EndsRowsEarly : Bool → (List Piece → Answer) → (List Piece → Answer) → Option (List ℕ) → Option (List ℕ)
    → Bool → RunError → SinkUse → Type 0
EndsRowsEarly quotes whole begun old new has e out =
    EndsEarly (pieces_of quotes) (λ p. length p.0) 1114111 begun (by_rows quotes whole) old new has e out

-- EndsAtRow quotes whole begun ..: how the answering of a list, row by row, ends with the error of a row, not with one
-- that the list has at its end
abbrev pub EndsAtRow : Bool → (List Piece → Answer) → (List Piece → Answer) → Option (List ℕ) → Option (List ℕ) → Bool
    → AnswerError → SinkUse → Type 0
EndsAtRow quotes whole begun old new has e out =
    (early : EndsRowsEarly quotes whole begun old new has (Error e) out)
    × ((begun (list_rows quotes (list_at early.0))).ending ≡ Err e)

-- EndsRowsLate quotes whole begun ..: how the answering of a list, row by row, ends at its end: all of it is read, and
-- no row of it ends the answer
abbrev pub EndsRowsLate : Bool → (List Piece → Answer) → (List Piece → Answer) → Option (List ℕ) → Option (List ℕ)
    → RunError
    → SinkUse → Type 0
EndsRowsLate quotes whole begun old new e out =
    (all : AnswersAll (by_rows quotes whole) old new (Err e) out) × ((begun (list_rows quotes all.list)).ending ≡ Ok tt)

-- EndsRows quotes whole begun ..: how the answering of a list, row by row, ends
--
-- How the answering of a list ends that is read from a source with the bytes old left, and new after it. Where a row
-- ends the answer or a write fails, nothing is read beyond the page. At the end of a list of which no row ends the
-- answer an error may come too: the first one of a run that went on, or that of a column whose header did not come; or
-- a write fails.
abbrev pub EndsRows : Bool → (List Piece → Answer) → (List Piece → Answer) → Option (List ℕ) → Option (List ℕ) → Bool
    → Bool → Result (Unit {0}) RunError → SinkUse → Type 0
EndsRows quotes whole begun old new had has (Ok u) out =
    (has ≡ had) × AnswersAll (by_rows quotes whole) old new (Ok u) out
EndsRows quotes whole begun old new had has (Err (Error e)) out =
    (has ≡ had)
    × (EndsRowsLate quotes whole begun old new (Error e) out
    ⊎ EndsAtRow quotes whole begun old new has e out)
EndsRows quotes whole begun old new had has (Err (Fault Write)) out =
    (has ≡ had)
    × (EndsRowsLate quotes whole begun old new (Fault Write) out
    ⊎ EndsRowsEarly quotes whole begun old new has (Fault Write) out)
EndsRows quotes whole begun old new had has (Err (Fault Read)) out =
    EndsRowsEarly quotes whole begun old new has (Fault Read) out
EndsRows quotes whole begun old new had has (Err (Fault Memory)) out = (has ≡ had) × Keeps old new × IsLeft out
