-- Disks and rings: the cells that a walk of steps writes, up to the first refused step, and then the error.
use Rattle.std.specs.Prelude.{ℕ, ◌==◌, List, [], ◌∷◌, replicate, Bool, if◌then◌else◌, Option, Some, None, Result, Ok, Err}
use Rattle.std.specs.List.{flat_map}
use Rattle.h3_index.specs.Cell.{Address, number_of}
use Rattle.h3_index.specs.declared.error.H3Error.{H3Error}
use Rattle.h3_index.specs.declared.error.H3Error.TheVariants.{Pentagon}
use Rattle.h3_directions.specs.declared.direction.Direction.{Direction}
use Rattle.h3_directions.specs.declared.direction.Direction.TheVariants.{I}
use Rattle.h3_table.specs.Links.{Links}
use Rattle.h3_grid.specs.Moves.{Move, moves, sides}
use Rattle.h3_grid.specs.Steps.{State, state, step_of}

-- the rest of a walk from the state that a step leads to, or the error where the step is refused
abbrev pub or_refused : {A : Type 0} → Option State → (State → List (Result A H3Error)) → List (Result A H3Error)
or_refused None rest = Err Pentagon ∷ []
or_refused (Some s) rest = rest s

-- ---- disks

-- the cell is written, with its ring, where the move writes
abbrev pub noted : Bool → Address → ℕ → List (Result (Address × ℕ) H3Error) → List (Result (Address × ℕ) H3Error)
noted written c r rest = if written then Ok (c, r) ∷ rest else rest

-- the cells that moves from a state write, with their rings, up to the first step that is refused, and then the error
unfoldable pub followed : Links → State → List Move → List (Result (Address × ℕ) H3Error)
followed link s [] = []
followed link s (m ∷ ms) =
    or_refused (step_of link s m.direction) (λ t. noted m.written t.cell m.ring (followed link t ms))

-- disk link c k: the cells that the moves lead to and write, with their rings, up to the first step that is refused,
-- and then the error
--
-- the disk of radius k around c: c, and what the moves write from c with rotation 0
unfoldable pub disk : Links → Address → ℕ → List (Result (Address × ℕ) H3Error)
disk link c k = Ok (c, 0) ∷ followed link (state c 0) (moves k)

-- ---- rings

-- nothing more where the last step of a ring leads to its first cell, or else the error. Cells are equal where their
-- numbers are
abbrev pub closed : Address → Address → List (Result Address H3Error)
closed first c = if number_of c == number_of first then [] else Err Pentagon ∷ []

-- the cells of all steps but the last, which has to close the ring
unfoldable pub ring_round : Links → Address → State → List Direction → List (Result Address H3Error)
ring_round link first s [] = []
ring_round link first s (d ∷ []) = or_refused (step_of link s d) (λ t. closed first t.cell)
ring_round link first s (d ∷ e ∷ ds) = or_refused (step_of link s d) (λ t. Ok t.cell ∷ ring_round link first t (e ∷ ds))

-- the state after steps that write nothing
unfoldable pub stepped : Links → Option State → List Direction → Option State
stepped link None ds = None
stepped link (Some s) [] = Some s
stepped link (Some s) (d ∷ ds) = stepped link (step_of link s d) ds

-- ring link c k: the same of a ring, which ends with the error too where its last step does not lead to its first cell
--
-- the ring of radius k around c: out to it by k steps I, and around it by k steps for each side
unfoldable pub ring : Links → Address → ℕ → List (Result Address H3Error)
ring link c k =
    or_refused (stepped link (Some (state c 0)) (replicate k I))
    (λ s. Ok s.cell ∷ ring_round link s.cell s (flat_map (replicate k) sides))
