use Rattle.h3_regions.proofs.CountingLaws.{IsCounting}
use Rattle.h3_regions.proofs.counting.count_each.Given as goal

abbrev pub invariant-loop-cell : goal.invariant-loop-cell
invariant-loop-cell l = IsCounting l.zones l.cells l.counts l.others l.cell-index
