use Rattle.std.proofs.Common.{get_or}
use Rattle.h3_regions.specs.Listed.{IsWritten}
use Rattle.h3_regions.proofs.areas.write_all.Given as goal

abbrev pub invariant-loop-r : goal.invariant-loop-r
invariant-loop-r l = IsWritten l.pairs l.fn.cell l.r (get_or l.starts l.r 0) l.written l.numbers
