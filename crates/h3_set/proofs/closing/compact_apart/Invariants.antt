use Rattle.std.proofs.Common.{◌-◌, length}
use Rattle.h3_set.specs.Closing.{IsClosing}
use Rattle.h3_set.proofs.closing.compact_apart.Given as goal

abbrev pub invariant-loop-i : goal.invariant-loop-i
invariant-loop-i l = IsClosing l.fn.cells l.cells l.written l.i

abbrev pub decreases-loop-i : goal.decreases-loop-i
decreases-loop-i l = length l.fn.cells - l.i
