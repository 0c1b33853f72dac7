use Rattle.std.proofs.Common.{◌-◌, ◌≤◌, List, length}
use Rattle.h3_index.specs.Cell.{Address}
use Rattle.h3_set.specs.Closing.{IsClosing}
use Rattle.h3_set.proofs.closing.close_ahead.Given as goal

abbrev pub invariant-loop-i : goal.invariant-loop-i
invariant-loop-i l =
    record {
      further : l.fn.read ≤ l.i;
      behind : l.w ≤ l.i;
      within : l.i ≤ length l.cells;
      closing : (all : List Address) → IsClosing all l.fn.cells l.fn.written l.fn.read → IsClosing all l.cells l.w l.i;
    }

abbrev pub decreases-loop-i : goal.decreases-loop-i
decreases-loop-i l = length l.cells - l.i
