-- The list of cells in the bytes of an input, where the error of a faulty line is reported with the number of the line.
use Rattle.std.specs.Prelude.{◌≡◌, ℕ, ◌+◌, List, [], ◌∷◌, ⊤, Option, Result, Ok, Err}
use Rattle.h3_index.specs.Cell.{Address}
use Rattle.h3_index.specs.declared.error.H3Error.{H3Error}
use Rattle.h3_lines.specs.List.{Says, itself, lines_of, said_as}
use Rattle.h3_lines.specs.declared.run_error.AnswerError.{AnswerError}
use Rattle.h3_lines.specs.declared.run_error.AnswerError.TheVariants.{Call, At}
use Rattle.h3_lines.specs.declared.run_error.Fault.TheVariants.{Memory, Read, Write}
use Rattle.h3_lines.specs.declared.run_error.RunError.{RunError}
use Rattle.h3_lines.specs.declared.run_error.RunError.TheVariants.{Error, Fault}

-- this number, where a line says an error; else the later one
abbrev pub number_of_fault : ℕ → Result (Option Address) H3Error → ℕ → ℕ
number_of_fault number (Err e) later = number
number_of_fault number (Ok said) later = later

-- faulty_from says n lines: the number of the first faulty one of lines, of which the first has the number n
abbrev pub faulty_from : Says → ℕ → List (List ℕ) → ℕ
faulty_from says number [] = number
faulty_from says number (line ∷ lines) =
    number_of_fault number (said_as says line) (faulty_from says (number + 1) lines)

-- faulty_line_as says bytes: the number of the first faulty line of a list, if this is taken for its indexes; the first
-- line is 1, and blank lines count
abbrev pub faulty_line_as : Says → List ℕ → ℕ
faulty_line_as says bytes = faulty_from says 1 (lines_of bytes)

-- faulty_line bytes: the number of the first faulty line of a list of cells
abbrev pub faulty_line : List ℕ → ℕ
faulty_line bytes = faulty_line_as itself bytes

-- RefusesAt: `RefusesList`, where the list's own error is reported with this number of a line
--
-- a refusal fits the list: an error is the list's own, reported with this number, out of memory says nothing of it, and
-- a read fault comes only where reads fail
abbrev pub RefusesAt : Type 0 → Result (List Address) H3Error → ℕ → RunError → Type 0
RefusesAt read_fails list number (Error e) = (error : H3Error) × (list ≡ Err error) × (e ≡ At number error)
RefusesAt read_fails list number (Fault Memory) = ⊤
RefusesAt read_fails list number (Fault Read) = read_fails
RefusesAt read_fails list number (Fault Write) = ⊥

-- without_line: an error without the number of its line
abbrev pub without_line : AnswerError → AnswerError
without_line (At line e) = Call e
without_line e = e

-- without_number: a refusal reported without the number of its line
abbrev pub without_number : RunError → RunError
without_number (Error e) = Error (without_line e)
without_number (Fault f) = Fault f
