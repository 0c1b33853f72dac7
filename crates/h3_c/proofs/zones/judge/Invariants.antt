use Rattle.std.proofs.Common.{◌≢◌, take, None}
use Rattle.h3_c.specs.Sets.{cells_in}
use Rattle.h3_c.proofs.zones.judge.Given as goal

abbrev pub invariant-loop-i : goal.invariant-loop-i
invariant-loop-i l = cells_in (take l.i l.indexes) ≢ None
