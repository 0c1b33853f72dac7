-- H3's functions of one index: their names, and what each returns.
use Rattle.std.specs.Prelude.{ℕ, List, Ok, codes}
use Rattle.h3_requests.specs.declared.command.IndexFunction.{IndexFunction}
use Rattle.h3_requests.specs.declared.command.IndexFunction.TheVariants as each
use Rattle.h3_functions.specs.Edges as edges
use Rattle.h3_functions.specs.Hierarchy as hierarchy
use Rattle.h3_functions.specs.Inspection as inspection
use Rattle.h3_functions.specs.declared.outcome.Outcome.{Outcome}
use Rattle.h3_functions.specs.declared.outcome.Outcome.TheVariants.{Cell, Count, Edges, Number, Truth}

-- a function of one index: its name, and what it returns for an index, by its kind
pub record Function : Type 0 where
  pub name : List ℕ
  pub outcome : ℕ → Outcome

-- function_of function: the name of each function of one index, and what it returns; for the edges of a cell that is
-- the index, of which `origin_to_directed_edges` says them
abbrev pub function_of : IndexFunction → Function
function_of each.IsValidCell =
    record { name = codes "isValidCell"; outcome = λ index. Truth (Ok (inspection.is_valid_cell index)) }
function_of each.IsValidDirectedEdge =
    record { name = codes "isValidDirectedEdge"; outcome = λ index. Truth (Ok (edges.is_valid_directed_edge index)) }
function_of each.GetResolution =
    record { name = codes "getResolution"; outcome = λ index. Number (inspection.get_resolution index) }
function_of each.GetBaseCellNumber =
    record { name = codes "getBaseCellNumber"; outcome = λ index. Number (inspection.get_base_cell_number index) }
function_of each.IsPentagon =
    record { name = codes "isPentagon"; outcome = λ index. Truth (inspection.is_pentagon index) }
function_of each.IsResClassIII =
    record { name = codes "isResClassIII"; outcome = λ index. Truth (inspection.is_res_class_iii index) }
function_of (each.CellToParent res) =
    record { name = codes "cellToParent"; outcome = λ index. Cell (hierarchy.cell_to_parent index res) }
function_of (each.CellToCenterChild res) =
    record { name = codes "cellToCenterChild"; outcome = λ index. Cell (hierarchy.cell_to_center_child index res) }
function_of (each.CellToLastChild res) =
    record { name = codes "cellToLastChild"; outcome = λ index. Cell (hierarchy.cell_to_last_child index res) }
function_of (each.CellToChildrenSize res) =
    record { name = codes "cellToChildrenSize"; outcome = λ index. Count (hierarchy.cell_to_children_size index res) }
function_of (each.CellToChildPos res) =
    record { name = codes "cellToChildPos"; outcome = λ index. Count (hierarchy.cell_to_child_pos index res) }
function_of each.GetDirectedEdgeOrigin =
    record { name = codes "getDirectedEdgeOrigin"; outcome = λ index. Cell (edges.get_directed_edge_origin index) }
function_of each.OriginToDirectedEdges = record { name = codes "originToDirectedEdges"; outcome = λ index. Edges index }

-- outcome_of function index: what a function of one index returns, by its kind
abbrev pub outcome_of : IndexFunction → ℕ → Outcome
outcome_of function index = (function_of function).outcome index

-- function_name function: the name of H3's function, which the new column of rows has in a header
abbrev pub function_name : IndexFunction → List ℕ
function_name function = (function_of function).name
