-- The answer to a list of which each line is answered on its own: for each line that is not blank what a function of
-- one index answers to the index that the line parses as, in order, up to the first error, which is reported with its
-- line.
use Rattle.std.specs.Prelude.{◌≡◌, ℕ, ◌+◌, ◌==◌, nat_lt, Bool, List, [], ◌∷◌, length, Option, Result, Ok, Err, if◌then◌else◌}
use Rattle.std.specs.Io.KnownBytes.{Keeps}
use Rattle.h3_index.specs.Text.{parsed_index, trimmed}
use Rattle.h3_index.specs.declared.error.H3Error.{H3Error}
use Rattle.h3_index.specs.declared.error.H3Error.TheVariants.{Failed}
use Rattle.h3_lines.specs.declared.run_error.AnswerError.{AnswerError}
use Rattle.h3_lines.specs.declared.run_error.AnswerError.TheVariants.{Call, At}
use Rattle.h3_lines.specs.declared.run_error.Fault.TheVariants.{Memory, Read, Write}
use Rattle.h3_lines.specs.declared.run_error.RunError.{RunError}
use Rattle.h3_lines.specs.declared.run_error.RunError.TheVariants.{Error, Fault}
use Rattle.h3_lines.specs.Answer.{Answer, before, refused, written}
use Rattle.h3_lines.specs.Ending.{AnswersAll, EndsEarly}
use Rattle.h3_lines.specs.List.{lines_of}
use Rattle.h3_lines.specs.Write.{IsLeft, SinkUse}

-- how the answer to the line with this number ends: an H3 error is reported with the number
abbrev pub ending_at : ℕ → Result (Unit {0}) AnswerError → Result (Unit {0}) AnswerError
ending_at number (Ok u) = Ok u
ending_at number (Err (Call e)) = Err (At number e)
ending_at number (Err e) = Err e

-- these bytes, and then the next answer where they do not end in an error
abbrev pub then_answer : List ℕ → Result (Unit {0}) AnswerError → Answer → Answer
then_answer output (Ok u) next = before output next
then_answer output (Err e) next = record { output = output; ending = Err e }

-- line_answer answer line: the answer to a line: an error where it has more than 64 bytes, nothing where it is blank,
-- and else the answer to the index that it parses as, or to none
abbrev pub line_answer : (Option ℕ → Answer) → List ℕ → Answer
line_answer answer line =
    if nat_lt 64 (length line) then refused Failed else if length (trimmed line)
    == 0 then written [] else answer (parsed_index line)

-- the answer to the line with this number, and then the next answer
abbrev pub followed_by : ℕ → Answer → Answer → Answer
followed_by number a next = then_answer a.output (ending_at number a.ending) next

-- lines_answer answer n lines: the answers to lines, of which the first has the number n, up to the first error, which
-- stands at its line
abbrev pub lines_answer : (Option ℕ → Answer) → ℕ → List (List ℕ) → Answer
lines_answer answer number [] = written []
lines_answer answer number (line ∷ lines) =
    followed_by number (line_answer answer line) (lines_answer answer (number + 1) lines)

-- list_answer answer bytes: the answer to the list in these bytes, line by line; the first line is 1, and blank lines
-- count
abbrev pub list_answer : (Option ℕ → Answer) → List ℕ → Answer
list_answer answer bytes = lines_answer answer 1 (lines_of bytes)

-- ---- how it ends

-- IsAtLine e: it is an H3 error at a line of the list
abbrev pub IsAtLine : AnswerError → Type 0
IsAtLine e = (line : ℕ) × (error : H3Error) × (e ≡ At line error)

-- EndsLinesEarly answer ..: how the answering of a list, line by line, ends before the list does; of a line that a read
-- fault cuts, at most 64 bytes were read
abbrev pub EndsLinesEarly : (Option ℕ → Answer) → Option (List ℕ) → Option (List ℕ) → Bool → RunError → SinkUse → Type 0
EndsLinesEarly answer old new has e out =
    EndsEarly lines_of length 64 (lines_answer answer 1) (list_answer answer) old new has e out

-- EndsEach answer ..: how the answering of a list, line by line, ends
--
-- How the answering of a list ends that is read from a source with the bytes old left, and new after it. Where a line
-- has an error or a write fails, nothing is read beyond the page.
abbrev pub EndsEach : (Option ℕ → Answer) → Option (List ℕ) → Option (List ℕ) → Bool → Bool → Result (Unit {0}) RunError
    → SinkUse → Type 0
EndsEach answer old new had has (Ok u) out = (has ≡ had) × AnswersAll (list_answer answer) old new (Ok u) out
EndsEach answer old new had has (Err (Error e)) out =
    (has ≡ had) × IsAtLine e × EndsLinesEarly answer old new has (Error e) out
EndsEach answer old new had has (Err (Fault Write)) out =
    (has ≡ had) × EndsLinesEarly answer old new has (Fault Write) out
EndsEach answer old new had has (Err (Fault Read)) out = EndsLinesEarly answer old new has (Fault Read) out
EndsEach answer old new had has (Err (Fault Memory)) out = (has ≡ had) × Keeps old new × IsLeft out
