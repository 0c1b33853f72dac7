use Rattle.std.proofs.Common.{◌≡◌, true, drop, slice_index}
use Rattle.std.specs.List.{list_all}
use Rattle.h3_directions.specs.Direction.{directions}
use Rattle.h3_table.specs.FormatTwo.{is_link_two}
use Rattle.h3_table.specs.Links.{is_hexagon_base}
use Rattle.h3_table.proofs.format_two.in_range.Given as goal

abbrev pub invariant-loop-direction : goal.invariant-loop-direction
invariant-loop-direction l = (is_hexagon_base (slice_index l.numbers 0) ≡ true)
    × (list_all (is_link_two l.numbers) directions
    ≡ list_all (is_link_two l.numbers) (drop l.direction-index directions))
