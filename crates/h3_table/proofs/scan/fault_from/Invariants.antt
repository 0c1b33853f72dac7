use Rattle.std.proofs.Common.{◌≡◌, drop}
use Rattle.h3_directions.specs.Direction.{directions}
use Rattle.h3_table.specs.Checks.{in_directions}
use Rattle.h3_table.proofs.scan.fault_from.Given as goal

abbrev pub invariant-loop-direction : goal.invariant-loop-direction
invariant-loop-direction g l =
    in_directions (g.A.AtLink.fault_of l.asked l.fn.base) directions
    ≡ in_directions (g.A.AtLink.fault_of l.asked l.fn.base) (drop l.direction-index directions)
