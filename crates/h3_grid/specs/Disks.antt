-- What a `Disk` has still to give.
use Rattle.std.specs.Prelude.{ℕ, List, ◌∷◌, Result, Ok, if◌then◌else◌}
use Rattle.h3_index.specs.Cell.{Address}
use Rattle.h3_index.specs.declared.error.H3Error.{H3Error}
use Rattle.h3_table.specs.BaseTable.{link_of}
use Rattle.h3_grid.specs.declared.disks.Disk.{Disk}
use Rattle.h3_grid.specs.Counters.{moves_left}
use Rattle.h3_grid.specs.Steps.{state}
use Rattle.h3_grid.specs.Walks.{followed}

-- disk_left walk: the items that a `Disk` has still to give
--
-- the cells that are still to come, with their rings, and the error where a step is refused
unfoldable pub disk_left : Disk → List (Result (Address × ℕ) H3Error)
disk_left walk =
    let rest =
    followed (link_of walk.table.now) (state walk.cell walk.rotation)
    (moves_left walk.ring walk.steps walk.sides walk.rings) in
    if walk.begun then rest else Ok (walk.cell, 0) ∷ rest
