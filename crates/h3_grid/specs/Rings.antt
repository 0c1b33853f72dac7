-- What a `Ring` has still to give.
use Rattle.std.specs.Prelude.{List, ◌∷◌, replicate, Some, Result, Ok, if◌then◌else◌}
use Rattle.h3_index.specs.Cell.{Address}
use Rattle.h3_index.specs.declared.error.H3Error.{H3Error}
use Rattle.h3_directions.specs.declared.direction.Direction.TheVariants.{I}
use Rattle.h3_table.specs.BaseTable.{link_of}
use Rattle.h3_grid.specs.declared.rings.Ring.{Ring}
use Rattle.h3_grid.specs.Counters.{directions_left}
use Rattle.h3_grid.specs.Steps.{state}
use Rattle.h3_grid.specs.Walks.{or_refused, ring_round, stepped}

-- ring_left walk: the items that a `Ring` has still to give
--
-- the cells that are still to come, and the error where a move or the closing test is refused
unfoldable pub ring_left : Ring → List (Result Address H3Error)
ring_left walk =
    let link = link_of walk.table.now in
    let left = directions_left walk.radius walk.steps walk.sides in
    if walk.begun then ring_round link walk.first (state walk.cell walk.rotation) left
    else or_refused (stepped link (Some (state walk.cell 0)) (replicate walk.radius I))
    (λ s. Ok s.cell ∷ ring_round link s.cell s left)
