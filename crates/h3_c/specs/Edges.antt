-- The edges of a cell in C's memory.
use Rattle.std.specs.Prelude.{ℕ, ◌-◌, List, ◌++◌, length, map, replicate, Result, Ok, if◌then◌else◌}
use Rattle.h3_index.specs.Cell.{Address}
use Rattle.h3_index.specs.Edge.{DirectedEdge, directed_edge, edge_number, has_edge}
use Rattle.h3_index.specs.declared.error.H3Error.{H3Error}
use Rattle.h3_functions.specs.Inspection.{for_value}

-- six_places edges: the edges' indexes, after as many nulls as are missing to six
abbrev pub six_places : List DirectedEdge → List ℕ
six_places edges = replicate (6 - length edges) 0 ++ map edge_number edges

-- edges_or_nulls outcome: the same, or the error
abbrev pub edges_or_nulls : Result (List DirectedEdge) H3Error → Result (List ℕ) H3Error
edges_or_nulls edges = for_value (λ es. Ok (six_places es)) edges

-- edge_or_null c d: the index of the cell's edge in a direction, or null. Private contracts alone cite it
abbrev pub edge_or_null : Address → ℕ → ℕ
edge_or_null c d = if has_edge c d then edge_number (directed_edge c d) else 0
