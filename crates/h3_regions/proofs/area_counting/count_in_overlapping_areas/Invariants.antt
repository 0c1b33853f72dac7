use Rattle.std.proofs.Common.{◌≤◌, length}
use Rattle.h3_regions.proofs.AddingLaws.{IsCountingAll}
use Rattle.h3_regions.proofs.area_counting.count_in_overlapping_areas.Given as goal

abbrev pub invariant-loop-cell : goal.invariant-loop-cell
invariant-loop-cell l =
    (length l.areas ≤ length l.numbers)
    × IsCountingAll l.areas l.cells (length l.fn.counts) l.counts l.none l.cell-index
