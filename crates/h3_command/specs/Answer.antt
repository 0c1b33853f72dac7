-- The request of a command, and the answer to it.
use Rattle.std.specs.Prelude.{ℕ, ℤ, Bool, true, false, not, refl, List, [], is_some, Option, None, Some, Result, Ok, Err, codes, string_bytes}
use Rattle.std.specs.Result.{is_ok}
use Rattle.h3_index.specs.Cell.{Address}
use Rattle.h3_index.specs.declared.error.H3Error.{H3Error}
use Rattle.h3_table.specs.Fields.{records_of}
use Rattle.h3_table.specs.Links.{Links}
use Rattle.h3_table.specs.Table.{links_of, table_fault}
use Rattle.h3_directions.specs.declared.error.TableError.{TableError}
use Rattle.h3_lines.specs.Answer.{Answer, answer_or_error, cell_line, cell_lines, edge_line, edge_lines, number_line, printed, refused, ring_line, table_refused, truth_line, walked, written}
use Rattle.h3_lines.specs.List.{Says, itself, listed_as, listed_cells}
use Rattle.h3_lines.specs.Numbered.{faulty_line_as}
use Rattle.h3_lines.specs.declared.run_error.AnswerError.TheVariants.{At}
use Rattle.h3_lines.specs.declared.run_error.CellFile.{CellFile}
use Rattle.h3_lines.specs.declared.run_error.CellFile.TheVariants.{Region, Zones}
use Rattle.h3_functions.specs.Edges.{are_neighbor_cells, cells_to_directed_edge, get_directed_edge_destination, origin_to_directed_edges, pair_of}
use Rattle.h3_functions.specs.Hierarchy.{cell_to_children, child_pos_to_cell}
use Rattle.h3_functions.specs.Inspection.{for_value}
use Rattle.h3_functions.specs.Outcome.{function_name, outcome_of}
use Rattle.h3_functions.specs.declared.outcome.Outcome.{Outcome}
use Rattle.h3_functions.specs.declared.outcome.Outcome.TheVariants.{Cell, Count, Edges, Number, Truth}
use Rattle.h3_functions.specs.Resolutions.{get_num_cells, get_pentagons, get_res0_cells}
use Rattle.h3_functions.specs.Sets.{compact_cells, uncompact_cells, uncompact_cells_size}
use Rattle.h3_functions.specs.Walks.{grid_disk_distances_unsafe, grid_disk_unsafe, grid_ring_unsafe}
use Rattle.h3_set.specs.Compacted.{compacted}
use Rattle.h3_regions.specs.Algebra.{difference, intersection}
use Rattle.h3_command.specs.AreaCounts.{area_counts_answer}
use Rattle.h3_command.specs.Areas.{area_answer, areas_of_file}
use Rattle.h3_command.specs.By.{by_answer}
use Rattle.h3_command.specs.Files.{counts_answer, covered_answer, file_cells, unless_refused, zone_answer}
use Rattle.h3_command.specs.Required.{cell_given, edge_given, index_given}
use Rattle.h3_command.specs.LongAnswers.{between_parts, children_for, disk_distances_for, disk_for, ring_for}
use Rattle.h3_command.specs.ParentSums.{parent_sums_answer}
use Rattle.h3_command.specs.Parents.{parent_at, parent_counts_answer}
use Rattle.h3_command.specs.TableLists.{destination_answer}
use Rattle.h3_requests.specs.declared.command.IndexFunction.{IndexFunction}
use Rattle.h3_requests.specs.declared.command.Command.{Command}
use Rattle.h3_requests.specs.declared.command.Command.TheVariants as command
use Rattle.h3_requests.specs.declared.rows.AreaOptions.{AreaOptions}
use Rattle.h3_requests.specs.declared.rows.CellField.{CellField}
use Rattle.h3_requests.specs.declared.rows.RowOptions.{RowOptions}
use Rattle.h3_requests.specs.declared.rows.Tables.{Tables}
use Rattle.h3_lines.specs.Pieces.{rows_of}
use Rattle.h3_rows.specs.Cells.{cells_of}
use Rattle.h3_rows.specs.Named.{Entry, Table, named_cells, names_table, table_as, table_of}
use Rattle.h3_rows.specs.RowsAnswer.{Form}
use Rattle.h3_rows.specs.declared.table.FieldContent.TheVariants as content
use Rattle.h3_command.specs.SumAnswers.{area_sums_answer}
use Rattle.h3_command.specs.Rows.{area_form, file_form, list_form, list_form_as, listed_answer, pair_form, rows_form}
use Rattle.h3_command.specs.ZoneSums.{zone_sums_answer}

-- ListRequest: what is asked of a list on standard input, which is bare or has rows in a form: an answer about its
-- cells as a whole; the same, where an error of a bare list is reported with its line, and this is taken for the index
-- of a line; an answer to each of its lines or rows; or one about its rows, of which a second field is read too
pub data ListRequest : Type 0 where
  of_whole : Option Form → (List Address → Answer) → ListRequest
  of_numbered : Says → Option Form → (List Address → Answer) → ListRequest
  of_lines : Option Form → (Option ℕ → Answer) → ListRequest
  of_rows : Table → (List Entry → Answer) → ListRequest

-- Request: what a command reads and writes: an answer that its words alone fix; one about the links of a base cell
-- table; or what is asked of the list, alone or once something else is read: the links of a table, a file of cells,
-- which may have rows in a form, or a table of zones with names, whose areas may overlap if that is said
pub data Request : Type 0 where
  plain : Answer → Request
  of_table : (Links → Answer) → Request
  of_list : ListRequest → Request
  after_table : (Links → ListRequest) → Request
  after_file : CellFile → Option Form → (List Address → ListRequest) → Request
  after_areas : Bool → Table → (List Entry → ListRequest) → Request

-- with_table about r: the request about a value and a table; where there is an error in place of the value, the answer
-- is that error, and the table is not read
abbrev pub with_table : {A : Type 0} → (A → Links → Answer) → Result A H3Error → Request
with_table about (Ok value) = of_table (about value)
with_table about (Err e) = plain (refused e)

-- shown outcome: the lines of what a function of one index returns, or its error
abbrev pub shown : Outcome → Answer
shown (Truth is) = printed truth_line is
shown (Number number) = printed number_line number
shown (Count count) = printed number_line count
shown (Cell cell) = printed cell_line cell
shown (Edges index) = printed edge_lines (origin_to_directed_edges index)

-- answer_for function word: what the command of a function of one index answers, or `Failed` where the word has no
-- index
abbrev pub answer_for : IndexFunction → Option ℕ → Answer
answer_for function word = answer_or_error (λ h. shown (outcome_of function h)) (index_given word)

-- zones_request tables areas: the request of `cellsToZones`: the zone of each cell, or the names of its areas if the
-- zones have names
abbrev pub zones_request : Tables → Option AreaOptions → Request
zones_request tables None =
    after_file Zones (file_form tables)
    (λ zones. of_lines (rows_form tables.list (codes "zone")) (zone_answer zones))
zones_request tables (Some areas) =
    after_areas areas.overlapping (names_table areas.table)
    (λ entries. of_lines (area_form tables.list areas.table.rows.quotes entries)
    (area_answer areas.table.rows.quotes (string_bytes areas.none) entries))

-- summed list field: the rows of a list and the field of their numbers, if the list has rows and the field is given
abbrev pub summed : Option RowOptions → Option CellField → Option (RowOptions × CellField)
summed None field = None
summed (Some list) None = None
summed (Some list) (Some field) = Some (list, field)

-- area_counts_request areas list sum: what is read and written for the counts of cells in areas, and of their numbers
abbrev pub area_counts_request : AreaOptions → Option RowOptions → Option (RowOptions × CellField) → Request
area_counts_request areas list None =
    after_areas areas.overlapping (names_table areas.table)
    (λ entries. of_numbered itself (list_form list) (area_counts_answer areas list entries))
area_counts_request areas list (Some sum) =
    after_areas areas.overlapping (names_table areas.table)
    (λ entries. of_rows (table_of sum.0 sum.1 content.Number) (area_sums_answer areas sum.0 entries))

-- zone_counts_request tables sum: what is read and written for the counts of cells in zones without names, and of their
-- numbers
abbrev pub zone_counts_request : Tables → Option (RowOptions × CellField) → Request
zone_counts_request tables None =
    after_file Zones (file_form tables) (λ zones. of_numbered itself (list_form tables.list) (counts_answer zones))
zone_counts_request tables (Some sum) =
    after_file Zones (file_form tables)
    (λ zones. of_rows (table_of sum.0 sum.1 content.Number) (zone_sums_answer tables.file sum.0 zones))

-- counts_request tables areas: what is read and written for the counts of cells: how many lie in each zone, or, if the
-- zones have names, in each area
abbrev pub counts_request : Tables → Option AreaOptions → Request
counts_request tables None = zone_counts_request tables (summed tables.list tables.sum)
counts_request tables (Some areas) = area_counts_request areas tables.list (summed tables.list tables.sum)

-- parents_request r list sum: what is asked of a list for the counts of its cells by their ancestors at a resolution,
-- and of their numbers
abbrev pub parents_request : ℤ → Option RowOptions → Option (RowOptions × CellField) → ListRequest
parents_request res list None =
    of_numbered (parent_at res) (list_form_as (parent_at res) list) (parent_counts_answer list)
parents_request res list (Some sum) =
    of_rows (table_as (parent_at res) sum.0 sum.1 content.Number) (parent_sums_answer sum.0)

-- by_request by list function otherwise: what is asked of a list for an answer about its cells by a function: if a
-- field divides the list's rows, about those of each of the field's values; or else what is given
abbrev pub by_request : Option CellField → Option RowOptions → (List Address → Result (List Address) H3Error)
    → ListRequest → ListRequest
by_request None list function otherwise = otherwise
by_request (Some field) None function otherwise = otherwise
by_request (Some field) (Some rows) function otherwise =
    of_rows (table_of rows field content.Text) (by_answer rows function)

-- combined_request tables function region: what is asked of a list for one list of its cells and a region's; or, if a
-- field divides its rows, for one of the region's cells and those of each of the field's values
abbrev pub combined_request : Tables → (List Address → List Address → List Address) → List Address → ListRequest
combined_request tables function region =
    by_request tables.by tables.list (λ cells. Ok (function region cells))
    (of_numbered itself (list_form tables.list) (λ cells. written (cell_lines (function region cells))))

-- request_of tables command: what a command reads and writes, of which the list and the file of cells have rows, or
-- bare lines
abbrev pub request_of : Tables → Command → Request
request_of tables (command.ForOne function index) = plain (answer_for function index)
request_of tables (command.GetNumCells res) = plain (printed number_line (get_num_cells res))
request_of tables command.GetRes0Cells = plain (written (cell_lines get_res0_cells))
request_of tables (command.GetPentagons res) = plain (printed cell_lines (get_pentagons res))
request_of tables (command.CellToChildren cell res) =
    plain (printed cell_lines (for_value (λ h. cell_to_children h res) (index_given cell)))
request_of tables (command.ChildPosToCell position cell res) =
    plain (printed cell_line (for_value (λ h. child_pos_to_cell position h res) (index_given cell)))
request_of tables (command.GridDiskUnsafe cell k) =
    with_table (λ c link. answer_or_error (walked cell_line) (grid_disk_unsafe link c k)) (cell_given cell)
request_of tables (command.GridDiskDistancesUnsafe cell k) =
    with_table (λ c link. answer_or_error (walked ring_line) (grid_disk_distances_unsafe link c k)) (cell_given cell)
request_of tables (command.GridRingUnsafe cell k) =
    with_table (λ c link. answer_or_error (walked cell_line) (grid_ring_unsafe link c k)) (cell_given cell)
request_of tables (command.AreNeighborCells cell to) =
    with_table (λ cells link. printed truth_line (are_neighbor_cells link cells))
    (pair_of (cell_given cell) (cell_given to))
request_of tables (command.CellsToDirectedEdge cell to) =
    with_table (λ cells link. printed edge_line (cells_to_directed_edge link cells))
    (pair_of (cell_given cell) (cell_given to))
request_of tables (command.GetDirectedEdgeDestination edge) =
    with_table (λ e link. printed cell_line (get_directed_edge_destination link e)) (edge_given edge)
request_of tables (command.ForEach function) =
    of_list (of_lines (rows_form tables.list (function_name function)) (answer_for function))
request_of tables (command.CellsToChildren res) =
    of_list (of_lines (rows_form tables.list (codes "cellToChildren")) (children_for res))
request_of tables command.CompactCells =
    of_list (by_request tables.by tables.list compact_cells
    (of_whole (list_form tables.list) (λ cells. printed cell_lines (compact_cells cells))))
request_of tables (command.UncompactCells res) =
    of_list (by_request tables.by tables.list (uncompact_cells res)
    (of_whole (list_form tables.list) (λ cells. printed cell_lines (uncompact_cells res cells))))
request_of tables (command.UncompactCellsSize res) =
    of_list (of_numbered itself (list_form tables.list) (λ cells. printed number_line (uncompact_cells_size res cells)))
request_of tables command.UniteCells =
    of_list (by_request tables.by tables.list (λ cells. Ok (compacted cells))
    (of_numbered itself (list_form tables.list) (λ cells. written (cell_lines (compacted cells)))))
request_of tables (command.CountCellsInParents res) =
    of_list (parents_request res tables.list (summed tables.list tables.sum))
request_of tables command.IntersectCells =
    after_file Region (file_form tables) (combined_request tables (λ region cells. intersection cells region))
request_of tables command.SubtractCells =
    after_file Region (file_form tables) (combined_request tables (λ region cells. difference cells region))
request_of tables command.AreCoveredCells =
    after_file Region (file_form tables)
    (λ region. of_lines (rows_form tables.list (codes "isCovered")) (covered_answer region))
request_of tables command.CellsToZones = zones_request tables tables.areas
request_of tables command.CountCellsInZones = counts_request tables tables.areas
request_of tables (command.GridDisksUnsafe k) =
    after_table (λ link. of_lines (rows_form tables.list (codes "gridDiskUnsafe")) (disk_for link k))
request_of tables (command.GridDisksDistancesUnsafe k) =
    after_table (λ link. of_lines (pair_form tables.list) (disk_distances_for (between_parts tables.list) link k))
request_of tables (command.GridRingsUnsafe k) =
    after_table (λ link. of_lines (rows_form tables.list (codes "gridRingUnsafe")) (ring_for link k))
request_of tables command.GetDirectedEdgeDestinations =
    after_table
    (λ link. of_lines (rows_form tables.list (codes "getDirectedEdgeDestination")) (destination_answer link))

-- request command: the same of a command whose list and file have bare lines
abbrev pub request : Command → Request
request c =
    request_of
    (record { list = None; sum = None; by = None; file = None; areas = None; sum_counted = refl; by_counted = refl }) c

-- reads_list r: the request reads the list
abbrev pub reads_list : Request → Bool
reads_list (plain a) = false
reads_list (of_table about) = false
reads_list (of_list list) = true
reads_list (after_table then_list) = true
reads_list (after_file f rows then_list) = true
reads_list (after_areas overlapping table then_list) = true

-- reads_table r: it reads the table, or a file of cells in its place
abbrev pub reads_table : Request → Bool
reads_table (plain a) = false
reads_table (of_table about) = true
reads_table (of_list list) = false
reads_table (after_table then_list) = true
reads_table (after_file f rows then_list) = true
reads_table (after_areas overlapping table then_list) = true

-- reads_list_after r file: the list is read where the bytes of the table, or of the file of cells, are these: not where
-- the file is refused that comes before it
abbrev pub reads_list_after : Request → List ℕ → Bool
reads_list_after (after_table then_list) file = not (is_some (table_fault (records_of file)))
reads_list_after (after_file f rows then_list) file = is_ok (file_cells f rows file)
reads_list_after (after_areas overlapping table then_list) file = is_ok (areas_of_file overlapping table file)
reads_list_after r file = reads_list r

-- takes_memory r: it takes memory
abbrev pub takes_memory : Request → Bool
takes_memory (plain a) = false
takes_memory (of_table about) = true
takes_memory (of_list list) = true
takes_memory (after_table then_list) = true
takes_memory (after_file f rows then_list) = true
takes_memory (after_areas overlapping table then_list) = true

-- ---- the answer

-- answer_or_error_at n about r: the answer about a list's cells, or its error, reported with the number n of a line
abbrev pub answer_or_error_at : ℕ → (List Address → Answer) → Result (List Address) H3Error → Answer
answer_or_error_at line about (Ok cells) = about cells
answer_or_error_at line about (Err e) = record { output = []; ending = Err (At line e) }

-- an answer, or an error of the table in its place
abbrev pub unless_faulty : Option TableError → Answer → Answer
unless_faulty None a = a
unless_faulty (Some e) a = table_refused e

-- about_table about file: the answer about the links of the table in a file, or the file's first error
abbrev pub about_table : (Links → Answer) → List ℕ → Answer
about_table about file = unless_faulty (table_fault (records_of file)) (about (links_of (records_of file)))

-- about_rows form about list: the answer about the cells of the rows in a list of bytes, or the error of the first row
-- that ends the list, reported with its number, or of the column that a header lacks
abbrev pub about_rows : Form → (List Address → Answer) → List ℕ → Answer
about_rows form about list = unless_refused about (cells_of form (rows_of form.quotes list))

-- about_list form about list: the answer about the cells in a list of bytes, or the error of the first faulty line; or
-- about those of its rows
abbrev pub about_list : Option Form → (List Address → Answer) → List ℕ → Answer
about_list None about list = answer_or_error about (listed_cells list)
about_list (Some form) about list = about_rows form about list

-- about_numbered_list says form about list: the same, where the error of a faulty line is reported with its number. On
-- bare lines this is taken for the indexes of the cells; over rows, what their form says.
abbrev pub about_numbered_list : Says → Option Form → (List Address → Answer) → List ℕ → Answer
about_numbered_list says None about list = answer_or_error_at (faulty_line_as says list) about (listed_as says list)
about_numbered_list says (Some form) about list = about_rows form about list

-- about_table_rows table about list: the answer about the entries of the rows in a list of bytes: each a cell and its
-- second field; or the error of the first row that ends the list, reported with its number, or of a column that a
-- header lacks
abbrev pub about_table_rows : Table → (List Entry → Answer) → List ℕ → Answer
about_table_rows table about list = unless_refused about (named_cells table (rows_of table.form.quotes list))

-- answer_of_list r list: what is answered to what is asked of a list, for its bytes
abbrev pub answer_of_list : ListRequest → List ℕ → Answer
answer_of_list (of_whole form about) list = about_list form about list
answer_of_list (of_numbered says form about) list = about_numbered_list says form about list
answer_of_list (of_lines form about) list = listed_answer form about list
answer_of_list (of_rows table about) list = about_table_rows table about list

-- answer_to r list file: the answer to a request, for the bytes of its list and those of its table, or of a file of
-- cells in its place: where a file that comes before the list is refused, the list has no part in the answer
abbrev pub answer_to : Request → List ℕ → List ℕ → Answer
answer_to (plain a) list file = a
answer_to (of_table about) list file = about_table about file
answer_to (of_list r) list file = answer_of_list r list
answer_to (after_table then_list) list file = about_table (λ link. answer_of_list (then_list link) list) file
answer_to (after_file f rows then_list) list file =
    unless_refused (λ cells. answer_of_list (then_list cells) list) (file_cells f rows file)
answer_to (after_areas overlapping table then_list) list file =
    unless_refused (λ entries. answer_of_list (then_list entries) list) (areas_of_file overlapping table file)

-- the answer to a command. Examples alone cite it.
abbrev pub answer : Command → List ℕ → List ℕ → Answer
answer c list file = answer_to (request c) list file
