use Rattle.h3_regions.proofs.CountingLaws.{IsCounting}
use Rattle.h3_regions.proofs.counting.count_each_indexed.Given as goal

abbrev pub invariant-loop-cell : goal.invariant-loop-cell
invariant-loop-cell l = IsCounting l.index l.cells l.counts l.outside l.cell-index
