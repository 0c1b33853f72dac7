use Rattle.h3_regions.proofs.OutermostLaws.{IsKeepingPairs}
use Rattle.h3_regions.proofs.apart.keep_outermost.Given as goal

abbrev pub invariant-loop-i : goal.invariant-loop-i
invariant-loop-i l = IsKeepingPairs l.initial.pairs l.pairs l.i l.top

abbrev pub decreases-loop-i : goal.decreases-loop-i
decreases-loop-i l = l.i
