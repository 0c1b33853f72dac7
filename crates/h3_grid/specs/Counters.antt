-- What the counters of the walks mean. Public contracts cite these definitions only by what a walk has left.
use Rattle.std.specs.Prelude.{ℕ, ◌+◌, ◌-◌, List, ◌++◌, drop, replicate, slice_index_or}
use Rattle.std.specs.List.{flat_map, range_with_len}
use Rattle.h3_directions.specs.declared.direction.Direction.{Direction}
use Rattle.h3_directions.specs.declared.direction.Direction.TheVariants.{I}
use Rattle.h3_grid.specs.Moves.{Move, ring_moves, side_moves, sides, write}

-- the direction of the side that has this many sides after it
abbrev pub side_before : ℕ → Direction
side_before sides_left = slice_index_or sides (5 - sides_left) I

-- the moves of a disk that are left: steps of this side, sides of this ring, and rings
unfoldable pub moves_left : ℕ → ℕ → ℕ → ℕ → List Move
moves_left ring steps sides_left rings =
    replicate steps (write ring (side_before sides_left))
    ++ (flat_map (side_moves ring) (drop (6 - sides_left) sides)
    ++ flat_map ring_moves (range_with_len (ring + 1) rings))

-- the directions of the steps that are left around a ring: steps of this side, and sides
unfoldable pub directions_left : ℕ → ℕ → ℕ → List Direction
directions_left radius steps sides_left =
    replicate steps (side_before sides_left) ++ flat_map (replicate radius) (drop (6 - sides_left) sides)
