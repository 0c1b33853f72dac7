-- Cells that are taken as the rows, or the lines, of a list are read. Of this file public contracts cite `cell_list`
-- and `cells_before` alone. The type C is of what is taken for a cell: the cell, or the cell with its name.
use Rattle.std.specs.Prelude.{◌≡◌, ⊤, ℕ, ◌+◌, List, [], ◌∷◌, ◌++◌, Option, None, Some, Result, Ok, Err}
use Rattle.h3_index.specs.Cell.{Address}
use Rattle.h3_index.specs.declared.error.H3Error.{H3Error}
use Rattle.h3_lines.specs.List.{Says, said_as}
use Rattle.h3_lines.specs.Pieces.{Piece}
use Rattle.h3_lines.specs.declared.run_error.AnswerError.{AnswerError}
use Rattle.h3_lines.specs.declared.run_error.AnswerError.TheVariants.{At}
use Rattle.h3_lines.specs.declared.run_error.Fault.TheVariants.{Memory, Read, Write}
use Rattle.h3_lines.specs.declared.run_error.RunError.{RunError}
use Rattle.h3_lines.specs.declared.run_error.RunError.TheVariants.{Error, Fault}

-- cell_list cell: a cell alone, or none
abbrev pub cell_list : Option Address → List Address
cell_list None = []
cell_list (Some cell) = cell ∷ []

-- cells_before cells later: these cells, before the later ones
abbrev pub cells_before : {C : Type 0} → List C → Result (List C) AnswerError → Result (List C) AnswerError
cells_before cells (Ok later) = Ok (cells ++ later)
cells_before cells (Err e) = Err e

-- ---- rows that are read: `cells_of last v rows` are their cells in the state v, or the error of the first that has
-- one, and then what is last

-- from the one state to the other these rows are read, which have these cells and no error
abbrev pub HaveCells : {C L N : Type 0} → (L → N → List Piece → Result (List C) AnswerError) → N → List Piece → List C
    → N → Type 0
HaveCells {L = L} cells_of v rows cells w =
    (last : L) (more : List Piece) → cells_of last v (rows ++ more) ≡ cells_before cells (cells_of last w more)

-- a refusal fits cells: their own error, or out of memory
abbrev pub IsRefusal : {C : Type 0} → Result (List C) AnswerError → RunError → Type 0
IsRefusal cells (Error e) = cells ≡ Err e
IsRefusal cells (Fault Memory) = ⊤
IsRefusal cells (Fault Read) = ⊥
IsRefusal cells (Fault Write) = ⊥

-- a refusal fits the cells of these rows in this state, whatever is last
abbrev pub RefusesCells : {C L N : Type 0} → (L → N → List Piece → Result (List C) AnswerError) → N → List Piece
    → RunError → Type 0
RefusesCells {L = L} cells_of v rows e = (last : L) → IsRefusal (cells_of last v rows) e

-- ---- rows that are lines

-- what the line with this number says, before the cells of the lines after it
abbrev pub read_before : ℕ → Result (Option Address) H3Error → Result (List Address) AnswerError
    → Result (List Address) AnswerError
read_before number (Err e) later = Err (At number e)
read_before number (Ok cell) later = cells_before (cell_list cell) later

-- LineState: what is taken for an index, and the number of the next line
abbrev pub LineState : Type 0
LineState = Says × ℕ

-- what is taken for the cells of rows as lines, of which the first has this number, or the error of the first faulty
-- one, at its number; nothing is last
abbrev pub cells_from : Unit {0} → LineState → List Piece → Result (List Address) AnswerError
cells_from last v [] = Ok []
cells_from last v (p ∷ ps) = read_before v.1 (said_as v.0 p.0) (cells_from last (v.0, v.1 + 1) ps)
