-- The cells and edges that texts parse as.
--
-- H3's `stringToH3` reads the index; `isValidCell` and `isValidDirectedEdge` say whether it is one of a cell or an
-- edge.
use Rattle.std.specs.Prelude.{ℕ, List, Option, None, Some, Result, Ok, Err}
use Rattle.h3_index.specs.Cell.{Address}
use Rattle.h3_index.specs.CellNumber.{cell_in}
use Rattle.h3_index.specs.Edge.{DirectedEdge}
use Rattle.h3_index.specs.EdgeNumber.{edge_in}
use Rattle.h3_index.specs.Text.{parsed_index}
use Rattle.h3_index.specs.declared.error.H3Error.{H3Error}
use Rattle.h3_index.specs.declared.error.H3Error.TheVariants.{CellInvalid, DirEdgeInvalid, Failed}

-- of_index says e index: `Failed` for no index, e for one that says nothing, else what it says
abbrev pub of_index : {A : Type 0} → (ℕ → Option A) → H3Error → Option ℕ → Result A H3Error
of_index says e None = Err Failed
of_index says e (Some index) = elim (says index) [
  | None ↦ Err e
  | Some x ↦ Ok x
]

-- cell_of_text bytes: the cell that a text parses as; `Failed` where it parses as no index, `CellInvalid` for the index
-- of no cell
abbrev pub cell_of_text : List ℕ → Result Address H3Error
cell_of_text text = of_index cell_in CellInvalid (parsed_index text)

-- edge_of_text bytes: the same for an edge, with `DirEdgeInvalid`
abbrev pub edge_of_text : List ℕ → Result DirectedEdge H3Error
edge_of_text text = of_index edge_in DirEdgeInvalid (parsed_index text)
