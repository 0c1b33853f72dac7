use Rattle.std.proofs.Common.{◌≡◌}
use Rattle.h3_directions.specs.Direction.{turned}
use Rattle.h3_lattice.proofs.direction.turn.Given as goal

abbrev pub invariant-loop-done : goal.invariant-loop-done
invariant-loop-done l = l.turned ≡ turned l._done l.fn.direction
