-- Sums of a cell and a direction.
use Rattle.std.specs.Prelude.{◌≡◌, ℕ, List, length, Option, Some, None}
use Rattle.h3_index.specs.Cell.{Address, IsCell}
use Rattle.h3_directions.specs.declared.direction.Direction.{Direction}
use Rattle.h3_lattice.specs.declared.moved.Moved.{Moved}
use Rattle.h3_lattice.specs.declared.moved.Moved.TheVariants.{Inside, Across}
use Rattle.h3_directions.specs.Eisenstein.{sum_of}
use Rattle.h3_directions.specs.Direction.{unit_of, value_of}
use Rattle.h3_lattice.specs.Digits.{IsDigits}
use Rattle.h3_lattice.specs.Expansion.{place, IsExpansion}

-- IsSum ds d u es: the place of ds plus the direction has an expansion by the digits es, and by the unit u or 0
abbrev pub IsSum : List ℕ → Direction → Option Direction → List ℕ → Type 0
IsSum ds direction out es =
    IsExpansion (sum_of (place ds) (unit_of direction)) (length ds) (value_of out) es

-- IsMoved cell d r: r is the sum of the cell and the direction: a cell of the same base cell, or a border of it and
-- digits
abbrev pub IsMoved : Address → Direction → Moved → Type 0
IsMoved cell direction (Inside moved) =
    (moved.base ≡ cell.base) × IsSum cell.digits direction None moved.digits × IsCell moved
IsMoved cell direction (Across border ds) = IsSum cell.digits direction (Some border) ds × IsDigits ds
