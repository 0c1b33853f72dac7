-- What a `DiskCells` has still to give.
use Rattle.std.specs.Prelude.{List, map, Result}
use Rattle.h3_index.specs.Cell.{Address}
use Rattle.h3_index.specs.declared.error.H3Error.{H3Error}
use Rattle.h3_grid.specs.Disks.{disk_left}
use Rattle.h3_functions.specs.Walks.{without_ring}
use Rattle.h3_functions.specs.declared.disk_cells.DiskCells.{DiskCells}

-- disk_cells_left s: the items that the iterator over a disk's cells has left
abbrev pub disk_cells_left : DiskCells → List (Result Address H3Error)
disk_cells_left s = map without_ring (disk_left s.disk)
