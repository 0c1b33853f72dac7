use Rattle.h3_regions.proofs.AddingLaws.{IsAdding}
use Rattle.h3_regions.proofs.area_counting.add_each.Given as goal

abbrev pub invariant-loop-i : goal.invariant-loop-i
invariant-loop-i l = IsAdding l.numbers l.initial.counts l.counts l.i
