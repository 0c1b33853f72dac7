-- Laws of steps and of disks, and of the spiral that their moves describe.
use Rattle.std.specs.Prelude.{◌≡◌, ◌≢◌, ℕ, ◌+◌, ◌*◌, ◌<◌, Some, List, ◌∷◌, length, map, All, AllPairs, Ok}
use Rattle.std.specs.Int.Digits.{AllBelowBase}
use Rattle.h3_index.specs.Cell.{Address, IsCell}
use Rattle.h3_directions.specs.declared.direction.Direction.{Direction}
use Rattle.h3_directions.specs.Eisenstein.{sum_of, zero_point}
use Rattle.h3_directions.specs.Direction.{opposite, turned, turned_once}
use Rattle.h3_lattice.specs.Expansion.{place}
use Rattle.h3_table.specs.Links.{IsHexagonBase, IsSound, Links}
use Rattle.h3_grid.specs.Moves.{moves, spiral, sums_from}
use Rattle.h3_grid.specs.Steps.{State, step_of}
use Rattle.h3_grid.specs.Walks.{disk}

-- ---- steps

-- a cell in a hexagon base cell, and a rotation
pub record IsState (s : State) : Type 0 where
  pub hexagon : IsHexagonBase s.cell.base
  pub digits : AllBelowBase 7 s.cell.digits
  pub few : s.rotation < 6

-- OverSoundLinks Law: the law of steps holds where the links are sound
abbrev pub OverSoundLinks : (Links → Type 0) → Type 0
OverSoundLinks Law = (link : Links) → IsSound link → Law link

-- StepsReachStates: a step leads to a cell in a hexagon base cell, with a rotation of 0 to 5
abbrev pub StepsReachStates : Links → Type 0
StepsReachStates link = (x y : State) (d : Direction) → IsState x → step_of link x d ≡ Some y → IsState y

-- StepsReverse: the opposite step leads back and undoes the rotation
abbrev pub StepsReverse : Links → Type 0
StepsReverse link =
    (x y : State) (d : Direction) → IsState x → step_of link x d ≡ Some y → step_of link y (opposite d) ≡ Some x

-- StepsDiffer: steps in different directions lead to different cells
abbrev pub StepsDiffer : Links → Type 0
StepsDiffer link =
    (x y z : State) (d e : Direction) → IsState x → step_of link x d ≡ Some y → step_of link x e ≡ Some z
    → y.cell ≡ z.cell → d ≡ e

-- StepsLeave: no step stays
abbrev pub StepsLeave : Links → Type 0
StepsLeave link = (x y : State) (d : Direction) → IsState x → step_of link x d ≡ Some y → y.cell ≢ x.cell

-- StepsCloseTriangles: the cells in a direction and in the next one are a step apart
abbrev pub StepsCloseTriangles : Links → Type 0
StepsCloseTriangles link =
    (x y z : State) (d : Direction) → IsState x → step_of link x d ≡ Some y → step_of link x (turned_once d) ≡ Some z
    → step_of link y (turned 2 d) ≡ Some z

-- ---- disks

-- no move of the disk of radius k around c is refused, and it writes these cells, with their rings
abbrev pub WritesCells : Links → Address → ℕ → List (Address × ℕ) → Type 0
WritesCells link c k cells = disk link c k ≡ map (λ i. Ok i) cells

-- IfWritten link c k P: P holds of the cells of the disk, where none of its moves is refused
abbrev pub IfWritten : Links → Address → ℕ → (List (Address × ℕ) → Type 0) → Type 0
IfWritten link c k P = (cells : List (Address × ℕ)) → WritesCells link c k cells → P cells

-- DisksHaveSizes: such a disk has 3k(k + 1) + 1 cells
abbrev pub DisksHaveSizes : Type 0
DisksHaveSizes =
    (link : Links) (c : Address) (k : ℕ) (cells : List (Address × ℕ)) → WritesCells link c k cells
    → length cells ≡ 3 * k * (k + 1) + 1

-- MovesFollowTheSpiral: the moves up to the m-th write add up to the m-th place of the spiral
abbrev pub MovesFollowTheSpiral : Type 0
MovesFollowTheSpiral = (k : ℕ) → zero_point ∷ sums_from zero_point (moves k) ≡ spiral k

-- SpiralsHaveSizes: the spiral has 3k(k + 1) + 1 places
abbrev pub SpiralsHaveSizes : Type 0
SpiralsHaveSizes = (k : ℕ) → length (spiral k) ≡ 3 * k * (k + 1) + 1

-- SpiralsAreSimple: its places differ
abbrev pub SpiralsAreSimple : Type 0
SpiralsAreSimple = (k : ℕ) → AllPairs (λ y z. y ≢ z) (spiral k)

-- IsChartedInside c k cells: the cells differ, and the place of the m-th is the origin's plus the m-th of the spiral
pub record IsChartedInside (c : Address) (k : ℕ) (cells : List (Address × ℕ)) : Type 0 where
  pub places : map (λ i. place i.0.digits) cells ≡ map (λ z. sum_of (place c.digits) z) (spiral k)
  pub once : AllPairs (λ x y. x.0 ≢ y.0) cells

-- DisksInsideAreCharted: it is so where all cells are in the origin's base cell, over sound links
abbrev pub DisksInsideAreCharted : Type 0
DisksInsideAreCharted =
    (link : Links) (c : Address) (k : ℕ) (cells : List (Address × ℕ)) → IsSound link → IsCell c
    → WritesCells link c k cells → All (λ i. i.0.base ≡ c.base) cells
    → IsChartedInside c k cells
