-- What an `Edges` has still to give.
use Rattle.std.specs.Prelude.{◌-◌, List, map}
use Rattle.std.specs.List.{range_with_len}
use Rattle.h3_index.specs.Edge.{DirectedEdge, directed_edge}
use Rattle.h3_grid.specs.declared.iter.Edges.{Edges}

-- edges_left s: the edges that an `Edges` has still to give
unfoldable pub edges_left : Edges → List DirectedEdge
edges_left walk = map (directed_edge walk.origin) (range_with_len walk.direction (7 - walk.direction))
