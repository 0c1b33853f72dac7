-- The answers about neighbors and edges at worked values, by computation.
use Rattle.std.specs.Prelude.{◌≡◌, ℕ, List, [], ◌∷◌, ◌++◌, map, codes, None, Some, Err, refl}
use Rattle.h3_index.specs.Cell.{number_of}
use Rattle.h3_index.specs.CellNumber.{address_in, cell_in}
use Rattle.h3_index.specs.Edge.{edge_number}
use Rattle.h3_index.specs.EdgeNumber.{directed_edge_in, edge_in}
use Rattle.h3_index.specs.Text.{parsed_index, text_of}
use Rattle.h3_index.specs.declared.error.H3Error.TheVariants.{CellInvalid, DirEdgeInvalid, Failed, NotNeighbors, Pentagon, ResMismatch}
use Rattle.h3_lattice.specs.Digits.{cell_of}
use Rattle.h3_table.specs.Fields.{records_of}
use Rattle.h3_table.specs.Links.{Links}
use Rattle.h3_table.specs.Table.{table_fault}
use Rattle.h3_table.specs.Vectors.{test_link}
use Rattle.h3_table.specs.declared.vectors.TestTable.TheVariants.{Plain}
use Rattle.h3_directions.specs.declared.error.TableError.TheVariants as fault
use Rattle.h3_grid.specs.DirectedEdges.{edge_between, edge_destination, edges_from}
use Rattle.h3_grid.specs.Neighbors.{are_neighbors, neighbor, pair_refusal}
use Rattle.h3_grid.specs.Steps.{candidates, digit_lists, found_sum, step_of}
use Rattle.h3_lines.specs.Answer.{refused, table_refused, written}
use Rattle.h3_lines.specs.EachLine.{list_answer}
use Rattle.h3_lines.specs.declared.run_error.AnswerError.TheVariants.{At}
use Rattle.h3_command.specs.Answer.{answer, request}
use Rattle.h3_command.specs.Answer.Request.{plain}
use Rattle.h3_command.specs.TableLists.{destination_answer}
use Rattle.h3_functions.specs.Edges.{are_neighbor_cells, cells_to_directed_edge}
use Rattle.h3_requests.specs.declared.command.Command.TheVariants.{AreNeighborCells, CellsToDirectedEdge, ForOne, GetDirectedEdgeDestination, GetDirectedEdgeDestinations}
use Rattle.h3_requests.specs.declared.command.IndexFunction.TheVariants.{GetDirectedEdgeOrigin, IsValidDirectedEdge, OriginToDirectedEdges}

-- an edge; direction 1 at a pentagon; a cell
which_are_edges : map (λ (index : ℕ). answer (ForOne IsValidDirectedEdge (Some index)) [] [])
    (0x115283473fffffff ∷ 0x11009fffffffffff ∷ 0x85283473fffffff ∷ [])
    ≡ map written ((codes "true" ++ 10 ∷ []) ∷ (codes "false" ++ 10 ∷ []) ∷ (codes "false" ++ 10 ∷ []) ∷ [])
unfolding edge_in directed_edge_in edge_number address_in number_of
which_are_edges = refl

origin : answer (ForOne GetDirectedEdgeOrigin (Some 0x115283473fffffff)) [] []
    ≡ written (codes "85283473fffffff" ++ 10 ∷ [])
unfolding edge_in directed_edge_in edge_number address_in number_of text_of
origin = refl

-- a pentagon has no edge in direction 1
edges_of_a_pentagon : answer (ForOne OriginToDirectedEdges (Some 0x8009fffffffffff)) [] []
    ≡ written (codes "12009fffffffffff" ++ 10 ∷ codes "13009fffffffffff" ++ 10 ∷ codes "14009fffffffffff" ++ 10
    ∷ codes "15009fffffffffff" ++ 10 ∷ codes "16009fffffffffff" ++ 10 ∷ [])
unfolding edges_from edge_number cell_in address_in number_of text_of
edges_of_a_pentagon = refl

-- a hexagon has six, in a pentagon base cell too
edges_of_a_hexagon : answer (ForOne OriginToDirectedEdges (Some 0x8108bffffffffff)) [] []
    ≡ written (codes "11108bffffffffff" ++ 10 ∷ codes "12108bffffffffff" ++ 10 ∷ codes "13108bffffffffff" ++ 10
    ∷ codes "14108bffffffffff" ++ 10 ∷ codes "15108bffffffffff" ++ 10 ∷ codes "16108bffffffffff" ++ 10 ∷ [])
unfolding edges_from edge_number cell_in address_in number_of text_of
edges_of_a_hexagon = refl

-- ---- which words are refused

-- the first word decides before the second, and no table is read where either is refused
first_word_first : request (AreNeighborCells (Some 0x81087ffffffffff) None) ≡ plain (refused CellInvalid)
unfolding cell_in address_in number_of
first_word_first = refl

second_word : request (CellsToDirectedEdge (Some 0x85283473fffffff) None) ≡ plain (refused Failed)
unfolding cell_in address_in number_of
second_word = refl

no_edge : request (GetDirectedEdgeDestination (Some 0x11009fffffffffff)) ≡ plain (refused DirEdgeInvalid)
unfolding edge_in directed_edge_in edge_number address_in number_of
no_edge = refl

-- ---- which pairs of cells are refused, over every table

-- cells of two resolutions; one cell given twice, also in a pentagon base cell; two, one of them in a pentagon base
-- cell
pairs_refused : (link : Links)
    → map (cells_to_directed_edge link) ((cell_of 20 (0 ∷ []), cell_of 20 []) ∷ (cell_of 20 [], cell_of 20 [])
    ∷ (cell_of 4 [], cell_of 4 []) ∷ (cell_of 4 [], cell_of 8 []) ∷ [])
    ≡ Err ResMismatch ∷ Err NotNeighbors ∷ Err NotNeighbors ∷ Err Pentagon ∷ []
unfolding edge_between pair_refusal number_of
pairs_refused link = refl

pairs_refused_too : (link : Links)
    → map (are_neighbor_cells link) ((cell_of 20 (0 ∷ []), cell_of 20 []) ∷ (cell_of 4 [], cell_of 8 []) ∷ [])
    ≡ Err ResMismatch ∷ Err Pentagon ∷ []
unfolding are_neighbors pair_refusal number_of
pairs_refused_too link = refl

-- ---- a list over a table

-- the cell to which the edge on each line leads, and the line of one into a pentagon base cell
over_the_plain_table : list_answer (destination_answer (test_link Plain))
    (codes "1413d3ffffffffff" ++ 10 ∷ 10 ∷ codes "11021fffffffffff" ++ 10 ∷ codes "1413d3ffffffffff")
    ≡ record { output = codes "813ebffffffffff" ++ 10 ∷ []; ending = Err (At 3 Pentagon) }
unfolding edge_destination neighbor step_of found_sum candidates digit_lists edge_in directed_edge_in edge_number
    address_in number_of parsed_index text_of
over_the_plain_table = refl

-- where the table is refused, the list has no part in the answer
no_table : (list file : List ℕ) → table_fault (records_of file) ≡ Some (fault.Form 1)
    → answer GetDirectedEdgeDestinations list file ≡ table_refused (fault.Form 1)
no_table list file is = rw is refl
