use Rattle.std.proofs.Common.{◌<◌, length, take, arith, take_all}
use Rattle.std.proofs.lemmas.List.{length-take}
use Rattle.std.proofs.lemmas.List.Elements.{Contains-get_or}
use Rattle.h3_regions.specs.AreaCounting.{count_in_area}
use Rattle.h3_regions.proofs.AddingLaws.{all_begins, areas_once, each_few, few, none_next, some_next}
use Rattle.h3_regions.proofs.AreaCountingLaws.{as_numbered, counts_in_parts, small_number}
use Rattle.h3_regions.proofs.area_counting.count_in_overlapping_areas.Goals as goal
use Rattle.h3_regions.proofs.area_counting.count_in_overlapping_areas.Goals.{then-found-eq0, else-found-eq0}

pub loop-cell-init : goal.loop-cell-init
loop-cell-init c = (
  c.requires.numbers,
  rw c.clear.ensures (all_begins c.args.areas.now c.args.cells.now (length c.args.counts.now)),
)

pub overflow_add-none : goal.overflow_add-none
overflow_add-none c =
    omega (
      arith,
      few c.args.areas.now c.args.cells.now (length c.args.counts.now) c.loop-cell.counts c.loop-cell.none
          c.loop-cell.cell-index c.loop-cell-test.true c.loop-cell.invariant.1,
    )

pub add_each-requires-clause-small : goal.add_each-requires-clause-small
add_each-requires-clause-small c = λ k d lt.
    let list = take c.areas_of-found.result c.areas_of-found.new.numbers in
    let lies = (c.areas_of-found.ensures.are.each _).0 (Contains-get_or list k d lt) in
    let small = small_number c.args.areas.now (length c.args.counts.now) c.cell-item.result _ c.requires.counts lies in
    omega (arith, small, c.loop-cell.invariant.1.size_is)

pub add_each-requires-clause-once : goal.add_each-requires-clause-once
add_each-requires-clause-once c =
    areas_once c.args.areas.now c.cell-item.result
    (take c.areas_of-found.result c.areas_of-found.new.numbers) c.areas_of-found.ensures.are

pub add_each-requires-clause-room : goal.add_each-requires-clause-room
add_each-requires-clause-room c = λ k d lt.
    let h =
    each_few c.args.areas.now c.args.cells.now (length c.args.counts.now) c.loop-cell.counts c.loop-cell.none
    c.loop-cell.cell-index c.loop-cell-test.true c.loop-cell.invariant.1 k d lt in
    omega (arith, h)

pub loop-cell-preserved : goal.loop-cell-preserved
loop-cell-preserved c =
    let list = take c.areas_of-found.result c.areas_of-found.new.numbers in
    let size = length-take c.areas_of-found.result c.areas_of-found.new.numbers in (
      omega (arith, c.loop-cell.invariant.0, c.areas_of-found.auto.numbers),
      elim c.if-found-eq0.branch [
        | then-found-eq0 w ↦
            rw w.none-is
            (none_next c.args.areas.now c.args.cells.now (length c.args.counts.now) c.loop-cell.counts c.loop-cell.none
            c.loop-cell.cell-index c.loop-cell-test.true c.loop-cell.invariant.1
            c.coverages_decide_lists.ensures.ancestors c.cell-item.result c.cell-item.is list
            c.areas_of-found.ensures.are c.add_each.new.counts c.add_each.auto.counts c.add_each.ensures.more
            c.add_each.ensures.same (omega (arith, size, w.if-found-eq0.true)))
        | else-found-eq0 w ↦
            let some : 0 < length (take c.areas_of-found.result c.areas_of-found.new.numbers) =
            omega (arith, size, w.if-found-eq0.false, c.areas_of-found.ensures.fewer) in
            rw w.none-is
            (some_next c.args.areas.now c.args.cells.now (length c.args.counts.now) c.loop-cell.counts c.loop-cell.none
            c.loop-cell.cell-index c.loop-cell-test.true c.loop-cell.invariant.1
            c.coverages_decide_lists.ensures.ancestors c.cell-item.result c.cell-item.is list
            c.areas_of-found.ensures.are c.add_each.new.counts c.add_each.auto.counts c.add_each.ensures.more
            c.add_each.ensures.same some)
      ],
    )

pub returns-clause-counts : goal.returns-clause-counts
returns-clause-counts c =
    let whole = take_all c.loop-cell.cell-index c.args.cells.now c.loop-cell-test.false in
    as_numbered (count_in_area c.args.areas.now c.args.cells.now) c.loop-cell.counts
    (length c.args.counts.now) c.loop-cell.invariant.1.size_is (λ n lt. rw whole at (c.loop-cell.invariant.1.each n lt))

pub returns-clause-others : goal.returns-clause-others
returns-clause-others c =
    let whole = take_all c.loop-cell.cell-index c.args.cells.now c.loop-cell-test.false in
    rw whole at c.loop-cell.invariant.1.others

pub returns-clause-parts : goal.returns-clause-parts
returns-clause-parts c = counts_in_parts
