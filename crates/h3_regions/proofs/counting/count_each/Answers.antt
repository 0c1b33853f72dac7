use Rattle.std.proofs.Common.{◌<◌, length, arith}
use Rattle.std.specs.List.{count_by}
use Rattle.h3_set.specs.Coverage.{is_ancestor}
use Rattle.h3_regions.proofs.CountingLaws.{as_counts, counted, counting_begins, uncounted, within_all}
use Rattle.h3_regions.proofs.LeavingLaws.{take_whole}
use Rattle.h3_regions.proofs.counting.count_each.Goals as goal
use Rattle.h3_regions.proofs.counting.count_each.Goals.{in-Some, in-None}

pub loop-cell-init : goal.loop-cell-init
loop-cell-init c = rw c.requires.zero (counting_begins c.args.zones.now c.args.cells.now)

pub overflow_add-counts : goal.overflow_add-counts
overflow_add-counts c =
    let inv = c.loop-cell.invariant in
    let room : c.in-Some.i < length c.loop-cell.counts = omega (arith, inv.size, c.in-Some.ensures.found.0) in
    omega (arith, within_all c.loop-cell.counts c.in-Some.i room, inv.total)

pub loop-cell-preserved : goal.loop-cell-preserved
loop-cell-preserved c =
    elim c.match-place_near.branch [
      | in-Some w ↦
          rw (w.counts-is, w.others-is) (counted c.coverages_decide_lists.ensures.ancestors c.args.zones.now
          c.args.cells.now c.loop-cell.counts c.loop-cell.others c.loop-cell.cell-index c.cell-item.result
          c.loop-cell-test.true c.cell-item.is c.loop-cell.invariant w.in-Some.i w.in-Some.ensures.found.0
          w.in-Some.ensures.found.1 w.in-Some.ensures.one)
      | in-None w ↦
          rw (w.counts-is, w.others-is) (uncounted c.coverages_decide_lists.ensures.ancestors c.args.zones.now
          c.args.cells.now c.loop-cell.counts c.loop-cell.others c.loop-cell.cell-index c.cell-item.result
          c.loop-cell-test.true c.cell-item.is c.loop-cell.invariant w.in-None.ensures.one)
    ]

pub returns-clause-counts : goal.returns-clause-counts
returns-clause-counts c =
    let whole = take_whole c.args.cells.now c.loop-cell.cell-index c.loop-cell-test.false in
    as_counts (λ a. count_by (λ x. is_ancestor a x) c.args.cells.now) c.args.zones.now c.loop-cell.counts
    c.loop-cell.invariant.size (λ i d lt. rw whole at (c.loop-cell.invariant.each i d lt))

pub returns-clause-others : goal.returns-clause-others
returns-clause-others c =
    let whole = take_whole c.args.cells.now c.loop-cell.cell-index c.loop-cell-test.false in
    rw whole at c.loop-cell.invariant.none
