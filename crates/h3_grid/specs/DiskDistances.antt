-- Distances, counted in neighbors.
use Rattle.std.specs.Prelude.{◌↔◌, ◌≤◌, ℕ, suc, List, Contains}
use Rattle.h3_index.specs.Cell.{Address, IsCell}
use Rattle.h3_directions.specs.declared.direction.Direction.{Direction}
use Rattle.h3_directions.specs.Eisenstein.{Eisenstein, sum_of, zero_point}
use Rattle.h3_directions.specs.Direction.{unit_of}
use Rattle.h3_table.specs.Links.{IsSound, Links}
use Rattle.h3_grid.specs.Laws.{WritesCells}
use Rattle.h3_grid.specs.Moves.{spiral}
use Rattle.h3_grid.specs.Neighbors.{AreNeighbors}

-- a path of at most n neighbors joins c to a cell
pub data Joins (link : Links) (c : Address) : ℕ → Address → Type 0 where
  stay : (n : ℕ) → Joins link c n c
  go_on : (n : ℕ) (x y : Address) → Joins link c n x → AreNeighbors link x y → Joins link c (suc n) y

-- a cell is written with a ring of at most j
pub record IsWritten (cells : List (Address × ℕ)) (j : ℕ) (y : Address) : Type 0 where
  pub ring : ℕ
  pub within : ring ≤ j
  pub item : Contains cells (y, ring)

-- HasDistances link c k cells: for each j up to k, the cells written with a ring of at most j are those that a path of
-- at most j neighbors joins to c
abbrev pub HasDistances : Links → Address → ℕ → List (Address × ℕ) → Type 0
HasDistances link c k cells = (j : ℕ) → j ≤ k → (y : Address) → IsWritten cells j y ↔ Joins link c j y

-- RingsAreDistances: a disk of which no step is refused has distances, over sound links
abbrev pub RingsAreDistances : Type 0
RingsAreDistances =
    (link : Links) (c : Address) (k : ℕ) (cells : List (Address × ℕ)) → IsSound link → IsCell c
    → WritesCells link c k cells → HasDistances link c k cells

-- a sum of at most n units
pub data IsSumOfUnits : ℕ → Eisenstein → Type 0 where
  no_unit : (n : ℕ) → IsSumOfUnits n zero_point
  one_more : (n : ℕ) (z : Eisenstein) (d : Direction) → IsSumOfUnits n z → IsSumOfUnits (suc n) (sum_of z (unit_of d))

-- SpiralsHoldSums: the spiral has each sum of at most k units, and nothing else
abbrev pub SpiralsHoldSums : Type 0
SpiralsHoldSums = (k : ℕ) (z : Eisenstein) → Contains (spiral k) z ↔ IsSumOfUnits k z
