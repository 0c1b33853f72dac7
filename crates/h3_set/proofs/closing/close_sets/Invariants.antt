use Rattle.std.proofs.Common.{◌≡◌, ◌-◌, ◌<◌, ◌≤◌, length, take}
use Rattle.h3_set.specs.Closing.{HasNoSet, ReducesTo}
use Rattle.h3_set.proofs.closing.close_sets.Given as goal

abbrev pub invariant-loop-len : goal.invariant-loop-len
invariant-loop-len l =
    record {
      some : 0 < l.len;
      within : l.len ≤ length l.cells;
      fewer : l.len ≤ l.before;
      leads : ReducesTo l.fn.cells (take l.len l.cells);
      closed : HasNoSet (take (l.len - 1) l.cells);
      done : l.len ≡ l.before → HasNoSet (take l.len l.cells);
    }

abbrev pub decreases-loop-len : goal.decreases-loop-len
decreases-loop-len l = l.before
