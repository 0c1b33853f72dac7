-- H3's functions over a base cell table, for indexes.
use Rattle.std.specs.Prelude.{ℕ, ℤ, Bool, Option, Some, None, Result, Ok, Err, ◌==◌, if◌then◌else◌}
use Rattle.h3_index.specs.Cell.{Address}
use Rattle.h3_index.specs.Edge.{DirectedEdge, edge_number}
use Rattle.h3_index.specs.declared.error.H3Error.{H3Error}
use Rattle.h3_index.specs.declared.error.H3Error.TheVariants.{Failed}
use Rattle.h3_table.specs.BaseTable.{link_of}
use Rattle.h3_directions.specs.Direction.{digit_of}
use Rattle.h3_table.specs.Links.{Links}
use Rattle.h3_directions.specs.declared.error.TableError.{TableError}
use Rattle.h3_directions.specs.declared.error.TableError.TheVariants as fault
use Rattle.h3_functions.specs.Edges.{are_neighbor_cells as are_neighbors, cells_to_directed_edge as edge_between, edge_from, get_directed_edge_destination as edge_destination, pair_of}
use Rattle.h3_functions.specs.Inspection.{cell_from, for_value}
use Rattle.h3_functions.specs.Walks.{Walk, grid_disk_distances_unsafe as disk_distances, grid_disk_unsafe as disk, grid_ring_unsafe as ring}
use Rattle.h3_c.specs.declared.tables.Table.{Table}
use Rattle.h3_c.specs.declared.tables.TableFault.{TableFault}

-- ---- why a table file is refused

-- error_code error: a table's error in numbers: which it is, its record or base cell, and its direction
abbrev pub error_code : TableError → TableFault
error_code fault.Read = record { code = 1; direction = 0; at = 0 }
error_code fault.Memory = record { code = 2; direction = 0; at = 0 }
error_code (fault.Form row) = record { code = 3; direction = 0; at = row }
error_code (fault.Range row) = record { code = 4; direction = 0; at = row }
error_code (fault.Repeated row) = record { code = 5; direction = 0; at = row }
error_code fault.Missing = record { code = 6; direction = 0; at = 0 }
error_code (fault.Neighbours b) = record { code = 7; direction = 0; at = b }
error_code (fault.Reversal b d) = record { code = 8; direction = digit_of d; at = b }
error_code (fault.Corner b d) = record { code = 9; direction = digit_of d; at = b }

-- fault_code error: the same, or 0 where there is none
abbrev pub fault_code : Option TableError → TableFault
fault_code None = record { code = 0; direction = 0; at = 0 }
fault_code (Some e) = error_code e

-- ---- what is returned over a table

-- links_from table: the links of a table, or `Failed` where its file was refused
abbrev pub links_from : Table → Result Links H3Error
links_from table = if table.accepted == 0 then Err Failed else Ok (link_of table.links)

-- over_table f table value: what is returned over the links of a table for a value, or the error of the table, and then
-- that of the value
abbrev pub over_table : {A B : Type 0} → (Links → A → Result B H3Error) → Table → Result A H3Error → Result B H3Error
over_table f table value = for_value (λ link. for_value (λ x. f link x) value) (links_from table)

-- are_neighbor_cells table a b: `are_neighbor_cells` of `h3_functions`, over a table and for indexes
abbrev pub are_neighbor_cells : Table → ℕ → ℕ → Result Bool H3Error
are_neighbor_cells table a b = over_table are_neighbors table (pair_of (cell_from a) (cell_from b))

-- cells_to_directed_edge table a b: `cells_to_directed_edge` of `h3_functions`, over a table and for indexes
abbrev pub cells_to_directed_edge : Table → ℕ → ℕ → Result DirectedEdge H3Error
cells_to_directed_edge table a b = over_table edge_between table (pair_of (cell_from a) (cell_from b))

-- get_directed_edge_destination table index: `get_directed_edge_destination` of `h3_functions`, over a table and for an
-- index
abbrev pub get_directed_edge_destination : Table → ℕ → Result Address H3Error
get_directed_edge_destination table index = over_table edge_destination table (edge_from index)

-- edge_index_of outcome: the edge's index, or the error
abbrev pub edge_index_of : Result DirectedEdge H3Error → Result ℕ H3Error
edge_index_of edge = for_value (λ e. Ok (edge_number e)) edge

-- ---- walks over a table

-- grid_disk_unsafe table index k: the walk of `h3_functions`, over a table and for an index
abbrev pub grid_disk_unsafe : Table → ℕ → ℤ → Walk Address
grid_disk_unsafe table index k = over_table (λ link c. disk link c k) table (cell_from index)

-- grid_disk_distances_unsafe table index k: the walk of `h3_functions`, over a table and for an index
abbrev pub grid_disk_distances_unsafe : Table → ℕ → ℤ → Walk (Address × ℕ)
grid_disk_distances_unsafe table index k = over_table (λ link c. disk_distances link c k) table (cell_from index)

-- grid_ring_unsafe table index k: the walk of `h3_functions`, over a table and for an index
abbrev pub grid_ring_unsafe : Table → ℕ → ℤ → Walk Address
grid_ring_unsafe table index k = over_table (λ link c. ring link c k) table (cell_from index)
