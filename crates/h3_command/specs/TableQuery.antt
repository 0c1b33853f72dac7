-- The answer to what is asked of a base cell table. Private contracts and proofs alone cite this file.
use Rattle.h3_table.specs.Links.{Links}
use Rattle.h3_lines.specs.Answer.{Answer, answer_or_error, cell_line, edge_line, printed, ring_line, truth_line, walked}
use Rattle.h3_functions.specs.Edges.{are_neighbor_cells, cells_to_directed_edge, get_directed_edge_destination}
use Rattle.h3_functions.specs.Walks.{grid_disk_distances_unsafe, grid_disk_unsafe, grid_ring_unsafe}
use Rattle.h3_command.specs.declared.table_query.TableQuery.{TableQuery}
use Rattle.h3_command.specs.declared.table_query.TableQuery.TheVariants.{EdgeBetween, EdgeDestination, GridDisk, GridDiskDistances, GridRing, Neighbors}

-- the answer, for the links of the table
abbrev pub table_answer : TableQuery → Links → Answer
table_answer (GridDisk c k) link = answer_or_error (walked cell_line) (grid_disk_unsafe link c k)
table_answer (GridDiskDistances c k) link = answer_or_error (walked ring_line) (grid_disk_distances_unsafe link c k)
table_answer (GridRing c k) link = answer_or_error (walked cell_line) (grid_ring_unsafe link c k)
table_answer (Neighbors c to) link = printed truth_line (are_neighbor_cells link (c, to))
table_answer (EdgeBetween origin destination) link =
    printed edge_line (cells_to_directed_edge link (origin, destination))
table_answer (EdgeDestination edge) link = printed cell_line (get_directed_edge_destination link edge)
