-- Neighbors.
--
-- Two cells of one resolution are neighbors where a step leads from the one to the other, as H3's `areNeighborCells`
-- has it outside pentagon base cells. Here no step starts or ends in a pentagon base cell, so a cell in one has no
-- neighbors.
use Rattle.std.specs.Prelude.{◌≡◌, ◌≢◌, ◌↔◌, ◌==◌, ◌&&◌, ◌||◌, Bool, true, false, not, if◌then◌else◌, Option, Some, None, is_some, Result, Ok, Err, option_map}
use Rattle.std.specs.List.{find}
use Rattle.h3_index.specs.Cell.{Address, IsCell, is_pentagon_base, number_of, resolution}
use Rattle.h3_index.specs.declared.error.H3Error.{H3Error}
use Rattle.h3_index.specs.declared.error.H3Error.TheVariants.{Pentagon, ResMismatch}
use Rattle.h3_directions.specs.declared.direction.Direction.{Direction}
use Rattle.h3_directions.specs.Direction.{directions}
use Rattle.h3_table.specs.Links.{Links}
use Rattle.h3_grid.specs.Steps.{state, step_of}

-- neighbor link x d: the cell of the step of x, with rotation 0, in the direction d; none where the step is refused
unfoldable pub neighbor : Links → Address → Direction → Option Address
neighbor link x d = option_map (λ s. s.cell) (step_of link (state x 0) d)

-- AreNeighbors link x y: y is the neighbor of x in some direction
pub record AreNeighbors (link : Links) (x y : Address) : Type 0 where
  pub direction : Direction
  pub leads : neighbor link x direction ≡ Some y

-- ---- as functions

-- cells are equal where their numbers are
abbrev pub is_same : Address → Address → Bool
is_same x y = number_of x == number_of y

-- there is a cell, and it is y
abbrev pub is_some_same : Address → Option Address → Bool
is_some_same y None = false
is_some_same y (Some z) = is_same z y

-- the direction in which y is the neighbor of x, if there is one
unfoldable pub direction_to : Links → Address → Address → Option Direction
direction_to link x y = find (λ d. is_some_same y (neighbor link x d)) directions

-- pair_refusal twice x y: the error of two cells: their resolutions differ; else, for one cell given twice, the error
-- `twice`, if any; else either is in a pentagon base cell
unfoldable pub pair_refusal : Option H3Error → Address → Address → Option H3Error
pair_refusal twice x y =
    if not (resolution x == resolution y) then Some ResMismatch
    else (if is_same x y then twice
    else (if is_pentagon_base x.base || is_pentagon_base y.base then Some Pentagon
    else None))

-- a result, unless there is an error
abbrev pub unless_refused : {A : Type 0} → Option H3Error → Result A H3Error → Result A H3Error
unless_refused None r = r
unless_refused (Some e) r = Err e

-- neighbor_refusal x y: the same, where one cell given twice is no error
abbrev pub neighbor_refusal : Address → Address → Option H3Error
neighbor_refusal x y = pair_refusal None x y

-- are_neighbors link x y: whether two cells are neighbors, or that error
unfoldable pub are_neighbors : Links → Address → Address → Result Bool H3Error
are_neighbors link x y =
    unless_refused (neighbor_refusal x y) (Ok (not (is_same x y) && is_some (direction_to link x y)))

-- ---- laws of neighbors over links

-- DirectionsAreFound: the function that looks for the direction finds it, and it is the only one
abbrev pub DirectionsAreFound : Links → Type 0
DirectionsAreFound link =
    (x y : Address) (d : Direction) → IsCell x → IsCell y
    → (direction_to link x y ≡ Some d) ↔ (neighbor link x d ≡ Some y)

-- NeighborsAreFound: `are_neighbors` is true exactly of neighbors
abbrev pub NeighborsAreFound : Links → Type 0
NeighborsAreFound link =
    (x y : Address) → IsCell x → IsCell y → (are_neighbors link x y ≡ Ok true) ↔ AreNeighbors link x y

-- DirectionsDiffer: no two directions lead to one cell
abbrev pub DirectionsDiffer : Links → Type 0
DirectionsDiffer link =
    (x y : Address) (d e : Direction) → IsCell x → neighbor link x d ≡ Some y → neighbor link x e ≡ Some y → d ≡ e

-- NeighborsDiffer: no cell is its own neighbor
abbrev pub NeighborsDiffer : Links → Type 0
NeighborsDiffer link = (x y : Address) (d : Direction) → IsCell x → neighbor link x d ≡ Some y → y ≢ x

-- NeighborsAreMutual: of two cells each is the other's neighbor, or neither is
abbrev pub NeighborsAreMutual : Links → Type 0
NeighborsAreMutual link = (x y : Address) → IsCell x → IsCell y → AreNeighbors link x y ↔ AreNeighbors link y x

-- BothOrdersAgree: two cells have the same result in either order, errors included
abbrev pub BothOrdersAgree : Links → Type 0
BothOrdersAgree link = (x y : Address) → IsCell x → IsCell y → are_neighbors link x y ≡ are_neighbors link y x
