use Rattle.std.proofs.Common.{◌≡◌, ◌++◌, replicate, drop}
use Rattle.h3_c.proofs.zones.clear.Given as goal

abbrev pub invariant-loop-count : goal.invariant-loop-count
invariant-loop-count l = l.counts ≡ replicate l.count-index 0 ++ drop l.count-index l.initial.counts
