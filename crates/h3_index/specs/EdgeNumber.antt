-- What the fields of a number say of a directed edge.
use Rattle.std.specs.Prelude.{ℕ, ◌≡◌, ◌/◌, ◌%◌, ◌^◌, ◌==◌, Bool, ◌&&◌, Option, Some, None, if◌then◌else◌}
use Rattle.h3_index.specs.CellNumber.{address_in, is_cell}
use Rattle.h3_index.specs.Edge.{DirectedEdge, IsEdge, directed_edge, edge_number, has_edge}

-- the three bits that depend on the mode
abbrev pub direction_in : ℕ → ℕ
direction_in m = m / 2 ^ 56 % 8

-- directed_edge_in m: the origin and the direction that the fields of a number say
unfoldable pub directed_edge_in : ℕ → DirectedEdge
directed_edge_in m = directed_edge (address_in m) (direction_in m)

-- IsEdgeNumber m: the number is that of an edge, the one that its fields say
pub record IsEdgeNumber (m : ℕ) : Type 0 where
  pub is : edge_number (directed_edge_in m) ≡ m
  pub valid : IsEdge (directed_edge_in m)

-- the test of `IsEdge`
abbrev pub is_edge : DirectedEdge → Bool
is_edge e = is_cell e.origin && has_edge e.origin e.direction

-- edge_in m: the edge with this number, if there is one
unfoldable pub edge_in : ℕ → Option DirectedEdge
edge_in m =
    if is_edge (directed_edge_in m) && edge_number (directed_edge_in m) == m then Some (directed_edge_in m) else None
