use Rattle.std.proofs.Common.{◌+◌, ◌-◌, ◌≤◌, length}
use Rattle.h3_regions.specs.Intersection.{IsSeen}
use Rattle.h3_regions.proofs.intersection.merge_to.Given as goal

abbrev pub invariant-loop-i : goal.invariant-loop-i
invariant-loop-i l = record {
  seen : IsSeen l.first l.second l.slots l.i l.j l.written;
  on_first : l.fn.from.0 ≤ l.i;
  on_second : l.fn.from.1 ≤ l.j;
}

abbrev pub decreases-loop-i : goal.decreases-loop-i
decreases-loop-i l = (length l.first - l.i) + (length l.second - l.j)
