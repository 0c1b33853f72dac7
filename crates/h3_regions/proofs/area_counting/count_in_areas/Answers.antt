use Rattle.std.proofs.Common.{◌≡◌, ◌<◌, length, Some, None, arith, take_all}
use Rattle.h3_regions.specs.AreaCounting.{count_in_area}
use Rattle.h3_regions.proofs.AreaCountingLaws.{as_numbered, counted, counting_begins, counts_in_parts, small_number, uncounted}
use Rattle.h3_regions.proofs.CountingLaws.{within_all}
use Rattle.h3_regions.proofs.area_counting.count_in_areas.Goals as goal
use Rattle.h3_regions.proofs.area_counting.count_in_areas.Goals.{in-Some, in-None}

pub loop-cell-init : goal.loop-cell-init
loop-cell-init c =
    rw c.clear.ensures (counting_begins c.args.areas.now c.args.cells.now (length c.args.counts.now))

pub overflow_add-counts : goal.overflow_add-counts
overflow_add-counts c =
    let inv = c.loop-cell.invariant in
    let small =
    small_number c.args.areas.now
    (length c.args.counts.now) c.cell-item.result c.in-Some.area c.requires c.in-Some.ensures.lies in
    let room : c.in-Some.area < length c.loop-cell.counts = omega (arith, small, inv.size_is) in
    omega (arith, within_all c.loop-cell.counts c.in-Some.area room, inv.total, c.loop-cell-test.true)

pub overflow_add-none : goal.overflow_add-none
overflow_add-none c =
    let inv = c.loop-cell.invariant in
    omega (arith, inv.total, c.loop-cell-test.true)

pub loop-cell-preserved : goal.loop-cell-preserved
loop-cell-preserved c =
    elim c.match-area_near.branch [
      | in-Some w ↦
          let small =
          small_number c.args.areas.now
          (length c.args.counts.now) c.cell-item.result w.in-Some.area c.requires w.in-Some.ensures.lies in
          rw (w.counts-is, w.none-is)
          (counted c.coverages_decide_lists.ensures.ancestors c.args.areas.now c.args.cells.now
          (length c.args.counts.now) c.loop-cell.counts c.loop-cell.none c.loop-cell.cell-index c.cell-item.result
          c.loop-cell-test.true c.cell-item.is c.loop-cell.invariant w.in-Some.area small w.in-Some.ensures.lies
          (λ m h. let e : Some w.in-Some.area ≡ Some m = w.in-Some.ensures.one m h in cc))
      | in-None w ↦
          rw (w.counts-is, w.none-is)
          (uncounted c.coverages_decide_lists.ensures.ancestors c.args.areas.now c.args.cells.now
          (length c.args.counts.now) c.loop-cell.counts c.loop-cell.none c.loop-cell.cell-index c.cell-item.result
          c.loop-cell-test.true c.cell-item.is c.loop-cell.invariant
          (λ m h. let e : None ≡ Some m = w.in-None.ensures.one m h in cc))
    ]

pub returns-clause-counts : goal.returns-clause-counts
returns-clause-counts c =
    let whole = take_all c.loop-cell.cell-index c.args.cells.now c.loop-cell-test.false in
    as_numbered (count_in_area c.args.areas.now c.args.cells.now) c.loop-cell.counts
    (length c.args.counts.now) c.loop-cell.invariant.size_is (λ n lt. rw whole at (c.loop-cell.invariant.each n lt))

pub returns-clause-others : goal.returns-clause-others
returns-clause-others c =
    let whole = take_all c.loop-cell.cell-index c.args.cells.now c.loop-cell-test.false in
    rw whole at c.loop-cell.invariant.others

pub returns-clause-parts : goal.returns-clause-parts
returns-clause-parts c = counts_in_parts
