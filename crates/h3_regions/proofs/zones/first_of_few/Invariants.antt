use Rattle.h3_regions.proofs.SearchLaws.{IsCounted}
use Rattle.h3_regions.proofs.zones.first_of_few.Given as goal

abbrev pub invariant-loop-i : goal.invariant-loop-i
invariant-loop-i l = IsCounted l.cells l.key l.from l.i l.first
