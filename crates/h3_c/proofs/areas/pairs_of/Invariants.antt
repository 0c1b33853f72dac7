use Rattle.std.proofs.Common.{◌≡◌, take, zip}
use Rattle.h3_c.proofs.areas.pairs_of.Given as goal

abbrev pub invariant-loop-i : goal.invariant-loop-i
invariant-loop-i l = l.pairs.items ≡ zip (take l.i l.cells) (take l.i l.areas)
