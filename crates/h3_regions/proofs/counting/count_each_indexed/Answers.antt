use Rattle.std.specs.List.{count_by}
use Rattle.h3_set.specs.Coverage.{is_ancestor}
use Rattle.h3_regions.proofs.CountingLaws.{as_counts, counted, uncounted}
use Rattle.h3_regions.proofs.LeavingLaws.{take_whole}
use Rattle.h3_regions.proofs.counting.count_each_indexed.Goals as goal
use Rattle.h3_regions.proofs.counting.count_each_indexed.Goals.{in-Some, in-None}

pub loop-cell-preserved : goal.loop-cell-preserved
loop-cell-preserved c =
    elim c.match-place_of.branch [
      | in-Some w ↦
          rw (w.counts-is, w.outside-is) (counted c.coverages_decide_lists.ensures.ancestors c.args.index.now
          c.args.cells.now c.loop-cell.counts c.loop-cell.outside c.loop-cell.cell-index c.cell-item.result
          c.loop-cell-test.true c.cell-item.is c.loop-cell.invariant w.in-Some.place w.in-Some.ensures.found.0
          w.in-Some.ensures.found.1 w.in-Some.ensures.one)
      | in-None w ↦
          rw (w.counts-is, w.outside-is) (uncounted c.coverages_decide_lists.ensures.ancestors c.args.index.now
          c.args.cells.now c.loop-cell.counts c.loop-cell.outside c.loop-cell.cell-index c.cell-item.result
          c.loop-cell-test.true c.cell-item.is c.loop-cell.invariant w.in-None.ensures.one)
    ]

pub returns-clause-counts : goal.returns-clause-counts
returns-clause-counts c =
    let whole = take_whole c.args.cells.now c.loop-cell.cell-index c.loop-cell-test.false in
    as_counts (λ a. count_by (λ x. is_ancestor a x) c.args.cells.now) c.args.index.now c.loop-cell.counts
    c.loop-cell.invariant.size (λ i d lt. rw whole at (c.loop-cell.invariant.each i d lt))
