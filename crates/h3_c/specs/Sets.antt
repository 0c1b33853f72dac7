-- H3's functions on sets of cells, for lists of indexes.
use Rattle.std.specs.Prelude.{ℕ, ℤ, List, [], ◌∷◌, Option, None, Some, Result, ok_or}
use Rattle.h3_index.specs.Cell.{Address}
use Rattle.h3_index.specs.CellNumber.{cell_in}
use Rattle.h3_index.specs.declared.error.H3Error.{H3Error}
use Rattle.h3_index.specs.declared.error.H3Error.TheVariants.{CellInvalid}
use Rattle.h3_functions.specs.Inspection.{for_value}
use Rattle.h3_functions.specs.Sets.{compact_cells as compact, uncompact_cells as uncompact}

-- joined c cells: a list with one more in front, where both are there
abbrev pub joined : Option Address → Option (List Address) → Option (List Address)
joined None rest = None
joined (Some c) None = None
joined (Some c) (Some cs) = Some (c ∷ cs)

-- cells_in indexes: the cells with these indexes, if each is that of a cell
unfoldable pub cells_in : List ℕ → Option (List Address)
cells_in [] = Some []
cells_in (h ∷ hs) = joined (cell_in h) (cells_in hs)

-- for_cells f indexes: what is returned for these cells, or `CellInvalid`
abbrev pub for_cells : (List Address → Result (List Address) H3Error) → List ℕ → Result (List Address) H3Error
for_cells f hs = for_value f (ok_or (cells_in hs) CellInvalid)

-- compact_cells indexes: `compact_cells` of `h3_functions`, for the cells with these indexes
abbrev pub compact_cells : List ℕ → Result (List Address) H3Error
compact_cells hs = for_cells compact hs

-- uncompact_cells indexes r: `uncompact_cells` of `h3_functions`, for the cells with these indexes
abbrev pub uncompact_cells : List ℕ → ℤ → Result (List Address) H3Error
uncompact_cells hs res = for_cells (uncompact res) hs
