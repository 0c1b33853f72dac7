-- Directed edges between neighbors.
--
-- H3's directed edges: an edge leaves its origin in one of the six directions, and leads to the neighbor there, its
-- destination.
use Rattle.std.specs.Prelude.{◌≡◌, ◌↔◌, ◌<◌, List, map, Option, Some, None, Result, Ok, Err, AllPairs, Contains, ok_or, option_and_then}
use Rattle.std.specs.List.{filter}
use Rattle.h3_index.specs.Cell.{Address}
use Rattle.h3_index.specs.Edge.{DirectedEdge, IsEdge, directed_edge, has_edge}
use Rattle.h3_index.specs.declared.error.H3Error.{H3Error}
use Rattle.h3_index.specs.declared.error.H3Error.TheVariants.{NotNeighbors, Pentagon}
use Rattle.h3_directions.specs.declared.direction.Direction.{Direction}
use Rattle.h3_directions.specs.Direction.{digit_of, direction_of, directions}
use Rattle.h3_table.specs.Links.{Links}
use Rattle.h3_grid.specs.Neighbors.{direction_to, neighbor, pair_refusal, unless_refused}

-- IsDestination link e y: y is the neighbor of the edge's origin in its direction
pub record IsDestination (link : Links) (e : DirectedEdge) (y : Address) : Type 0 where
  pub direction : Direction
  pub digit_is : e.direction ≡ digit_of direction
  pub leads : neighbor link e.origin direction ≡ Some y

-- IsEdgeBetween link x y e: the edge leaves x and leads to y
pub record IsEdgeBetween (link : Links) (x y : Address) (e : DirectedEdge) : Type 0 where
  pub valid : IsEdge e
  pub leaves : e.origin ≡ x
  pub leads : IsDestination link e y

-- ---- as functions

-- edge_refusal x y: the error of two cells: `pair_refusal`, where one cell given twice is `NotNeighbors`
--
-- the error with which two cells are refused before a direction is looked for, if they are
abbrev pub edge_refusal : Address → Address → Option H3Error
edge_refusal x y = pair_refusal (Some NotNeighbors) x y

abbrev pub edge_toward : Address → Option Direction → Result DirectedEdge H3Error
edge_toward x None = Err NotNeighbors
edge_toward x (Some d) = Ok (directed_edge x (digit_of d))

-- edge_between link x y: that edge, or the error
unfoldable pub edge_between : Links → Address → Address → Result DirectedEdge H3Error
edge_between link x y = unless_refused (edge_refusal x y) (edge_toward x (direction_to link x y))

-- edge_destination link e: the cell to which an edge leads, or the error
unfoldable pub edge_destination : Links → DirectedEdge → Result Address H3Error
edge_destination link e = ok_or (option_and_then (neighbor link e.origin) (direction_of e.direction)) Pentagon

-- ---- the edges of a cell

-- edges_from c: the edges that leave a cell, in ascending direction
unfoldable pub edges_from : Address → List DirectedEdge
edges_from c = map (directed_edge c) (filter (has_edge c) (map digit_of directions))

-- ListsEdges c edges: the list holds the edges that leave a cell and nothing else, and ascends
pub record ListsEdges (c : Address) (edges : List DirectedEdge) : Type 0 where
  pub each : (e : DirectedEdge) → Contains edges e ↔ (IsEdge e × (e.origin ≡ c))
  pub ascending : AllPairs (λ a b. a.direction < b.direction) edges
