-- What H3's functions on neighbors and directed edges return for indexes, and for the links of a base cell table where
-- they need them. Which pairs of cells and which edges are refused is this project's own.
use Rattle.std.specs.Prelude.{ℕ, Bool, List, is_some, ok_or, Result, Ok}
use Rattle.h3_index.specs.Cell.{Address}
use Rattle.h3_index.specs.Edge.{DirectedEdge}
use Rattle.h3_index.specs.EdgeNumber.{edge_in}
use Rattle.h3_index.specs.declared.error.H3Error.{H3Error}
use Rattle.h3_index.specs.declared.error.H3Error.TheVariants.{DirEdgeInvalid}
use Rattle.h3_table.specs.Links.{Links}
use Rattle.h3_grid.specs.DirectedEdges.{edge_between, edge_destination, edges_from}
use Rattle.h3_grid.specs.Neighbors.{are_neighbors}
use Rattle.h3_functions.specs.Inspection.{cell_from, for_value}

-- ---- the values of indexes

-- edge_from index: the edge with an index, or `DirEdgeInvalid` where no edge has it
abbrev pub edge_from : ℕ → Result DirectedEdge H3Error
edge_from index = ok_or (edge_in index) DirEdgeInvalid

-- pair_of a b: both cells, or the error of the first, and then that of the second
abbrev pub pair_of : Result Address H3Error → Result Address H3Error → Result (Address × Address) H3Error
pair_of a b = for_value (λ c. for_value (λ to. Ok (c, to)) b) a

-- ---- over the links of a table

-- are_neighbor_cells link cells: whether two cells are neighbors, by `are_neighbors` of `h3_grid`
abbrev pub are_neighbor_cells : Links → Address × Address → Result Bool H3Error
are_neighbor_cells link cells = are_neighbors link cells.0 cells.1

-- cells_to_directed_edge link cells: the edge between two cells, by `edge_between`
abbrev pub cells_to_directed_edge : Links → Address × Address → Result DirectedEdge H3Error
cells_to_directed_edge link cells = edge_between link cells.0 cells.1

-- get_directed_edge_destination link e: the cell to which an edge leads, by `edge_destination`
abbrev pub get_directed_edge_destination : Links → DirectedEdge → Result Address H3Error
get_directed_edge_destination link edge = edge_destination link edge

-- ---- without a table

-- is_valid_directed_edge index: whether an edge has the index
abbrev pub is_valid_directed_edge : ℕ → Bool
is_valid_directed_edge index = is_some (edge_in index)

-- get_directed_edge_origin index: the cell that the edge leaves, or the error
abbrev pub get_directed_edge_origin : ℕ → Result Address H3Error
get_directed_edge_origin index = for_value (λ e. Ok e.origin) (edge_from index)

-- origin_to_directed_edges index: the edges that leave the cell, or the error
abbrev pub origin_to_directed_edges : ℕ → Result (List DirectedEdge) H3Error
origin_to_directed_edges index = for_value (λ c. Ok (edges_from c)) (cell_from index)
