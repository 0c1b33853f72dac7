use Rattle.std.proofs.Common.{◌+◌, ◌-◌, ◌≤◌, length}
use Rattle.h3_regions.specs.Intersection.{IsSeen}
use Rattle.h3_regions.proofs.intersection.write_shared.Given as goal

abbrev pub invariant-loop-i : goal.invariant-loop-i
invariant-loop-i l = record {
  seen : IsSeen l.first l.second l.slots l.i l.j l.written;
  some : 1 ≤ l.stride;
  most : l.stride ≤ 4096;
}

abbrev pub decreases-loop-i : goal.decreases-loop-i
decreases-loop-i l = (length l.first - l.i) + (length l.second - l.j)
