-- What the iterators over the cells of resolution 0 and over pentagons have left.
use Rattle.std.specs.Prelude.{◌-◌, List, drop, map}
use Rattle.std.specs.List.{range_with_len}
use Rattle.h3_index.specs.Cell.{Address}
use Rattle.h3_index.specs.Count.{base_cell, pentagons}
use Rattle.h3_functions.specs.declared.bases.BaseCells.{BaseCells}
use Rattle.h3_functions.specs.declared.bases.Pentagons.{Pentagons}

-- base_cells_left s: the cells of resolution 0 that the iterator has left
--
-- those of the next base cell and the ones after it
unfoldable pub base_cells_left : BaseCells → List Address
base_cells_left s = map base_cell (range_with_len s.next (122 - s.next))

-- pentagons_left s: the pentagons that the iterator has left
--
-- all pentagons of the resolution but those that came before the next
unfoldable pub pentagons_left : Pentagons → List Address
pentagons_left s = drop s.next (pentagons s.res)
