use Rattle.std.proofs.Common.{◌+◌, ◌-◌, take, drop, refl, arith, sym}
use Rattle.h3_index.specs.Cell.{resolution}
use Rattle.h3_regions.specs.Difference.{left_of, left_of_all}
use Rattle.h3_regions.proofs.LeavingLaws.{one_then, take_whole, too_many}
use Rattle.h3_regions.proofs.difference.leave_all.Goals as goal

pub returns-in-None-clause-none : goal.returns-in-None-clause-none
unfolding left_of_all
returns-in-None-clause-none c = λ _.
    let is = one_then c.args.cells.now c.loop-cell.cell-index c.cell-item.result c.loop-cell-test.true c.cell-item.is in
    let full =
    too_many (λ a. left_of c.args.others.now (15 - resolution a) a) c.args.slots.now 0
    (take c.loop-cell.cell-index c.args.cells.now) c.loop-cell.slots c.loop-cell.count c.cell-item.result
    c.loop-cell.invariant (drop (c.loop-cell.cell-index + 1) c.args.cells.now) (omega arith)
    (c.in-None.ensures.none refl) in
    omega (arith, rw (sym is) at full)

pub returns-clause-left : goal.returns-clause-left
unfolding left_of_all
returns-clause-left c =
    let all = take_whole c.args.cells.now c.loop-cell.cell-index c.loop-cell-test.false in
    rw all at c.loop-cell.invariant.put
