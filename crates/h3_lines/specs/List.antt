-- The list of cells in the bytes of an input, one cell a line.
use Rattle.std.specs.Prelude.{◌≡◌, ℕ, ◌==◌, nat_lt, false, List, [], ◌∷◌, length, ⊤, Option, None, Some, Result, Ok, Err, if◌then◌else◌}
use Rattle.h3_index.specs.Cell.{Address}
use Rattle.h3_index.specs.CellNumber.{cell_in}
use Rattle.h3_index.specs.Text.{parsed_index, trimmed}
use Rattle.h3_index.specs.declared.error.H3Error.{H3Error}
use Rattle.h3_index.specs.declared.error.H3Error.TheVariants.{Failed, CellInvalid}
use Rattle.h3_lines.specs.Pieces.{lines_in, pieces_of}
use Rattle.h3_lines.specs.declared.run_error.AnswerError.TheVariants.{Call}
use Rattle.h3_lines.specs.declared.run_error.Fault.TheVariants.{Memory, Read, Write}
use Rattle.h3_lines.specs.declared.run_error.RunError.{RunError}
use Rattle.h3_lines.specs.declared.run_error.RunError.TheVariants.{Error, Fault}

-- ---- lines

-- lines_of bytes: the bytes split at each line feed: what follows the last one is a line too, if an empty one
abbrev pub lines_of : List ℕ → List (List ℕ)
lines_of bytes = lines_in (pieces_of false bytes)

-- ---- what a line says: a cell, or nothing, or why it is faulty

abbrev pub said_by_cell : Option Address → Result (Option Address) H3Error
said_by_cell None = Err CellInvalid
said_by_cell (Some cell) = Ok (Some cell)

-- Says: what is taken for each index of a list: a cell, nothing, or an error
abbrev pub Says : Type 0
Says = ℕ → Result (Option Address) H3Error

-- itself index: the cell that has the index, or `CellInvalid` if none has it
abbrev pub itself : Says
itself index = said_by_cell (cell_in index)

-- said_for says index: what is taken for an index; a text that has none is faulty
abbrev pub said_for : Says → Option ℕ → Result (Option Address) H3Error
said_for says None = Err Failed
said_for says (Some index) = says index

-- said_as says line: what a line says, if this is taken for its index: a line of more than 64 bytes is faulty, also one
-- of blanks; any other of blanks alone is skipped
abbrev pub said_as : Says → List ℕ → Result (Option Address) H3Error
said_as says line =
    if nat_lt 64 (length line) then Err Failed else if length (trimmed line)
    == 0 then Ok None else said_for says (parsed_index line)

-- said_by line: what a line says of which the cell itself is taken
abbrev pub said_by : List ℕ → Result (Option Address) H3Error
said_by line = said_as itself line

-- ---- the list

-- what a line says, before what the lines after it say
abbrev pub said_before : Result (Option Address) H3Error → Result (List Address) H3Error → Result (List Address) H3Error
said_before (Err e) later = Err e
said_before (Ok None) later = later
said_before (Ok (Some cell)) (Ok cells) = Ok (cell ∷ cells)
said_before (Ok (Some cell)) (Err e) = Err e

-- cells_said says lines: what is taken for the cells of the lines; the first faulty line decides
abbrev pub cells_said : Says → List (List ℕ) → Result (List Address) H3Error
cells_said says [] = Ok []
cells_said says (line ∷ lines) = said_before (said_as says line) (cells_said says lines)

-- listed_as says bytes: what is taken for the cells that the lines of an input parse as, or the error of the first
-- faulty line
abbrev pub listed_as : Says → List ℕ → Result (List Address) H3Error
listed_as says bytes = cells_said says (lines_of bytes)

-- listed_cells bytes: the cells that the lines of an input parse as, or the error of the first faulty line
abbrev pub listed_cells : List ℕ → Result (List Address) H3Error
listed_cells bytes = listed_as itself bytes

-- ---- why it is not read

-- RefusesList: which refusals a list may end with: its own error, out of memory, or a read fault where reads fail
--
-- a refusal fits the list: an error is the list's own, out of memory says nothing of it, and a read fault comes only
-- where reads fail
abbrev pub RefusesList : Type 0 → Result (List Address) H3Error → RunError → Type 0
RefusesList read_fails list (Error e) = (error : H3Error) × (list ≡ Err error) × (e ≡ Call error)
RefusesList read_fails list (Fault Memory) = ⊤
RefusesList read_fails list (Fault Read) = read_fails
RefusesList read_fails list (Fault Write) = ⊥
