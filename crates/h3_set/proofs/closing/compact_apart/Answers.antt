use Rattle.std.proofs.Common.{◌≡◌, IsPermutation, length, take, arith, subst, sym}
use Rattle.std.proofs.lemmas.List.{length-drop}
use Rattle.h3_set.specs.Closing.{HasNoSet, IsClosing, IsRising}
use Rattle.h3_set.specs.Compacted.{compacted}
use Rattle.h3_set.proofs.EndLaws.{before_written, last_written, one_stands, pass_begins, pass_ends, pass_goes_on, written_rises}
use Rattle.h3_set.proofs.OverlapLaws.{apart_rises, rising_order}
use Rattle.h3_set.proofs.closing.compact_apart.Goals as goal
use Rattle.h3_set.proofs.closing.compact_apart.Goals.{After-loop-i}

pub loop-i-init : goal.loop-i-init
loop-i-init c =
    pass_begins c.cells_form_trees.ensures c.args.cells.now (record {
      valid = c.requires.valid;
      rises =
          apart_rises c.cells_form_intervals.ensures c.args.cells.now c.requires.valid c.requires.in_order
          c.requires.apart;
    })

pub close-len-requires-clause-last : goal.close-len-requires-clause-last
close-len-requires-clause-last c =
    last_written c.loop-i.cells c.loop-i.written c.index-cells-i.result
    (omega (arith, c.loop-i.invariant.behind, c.loop-i-test.true))

pub close-len-requires-clause-closed : goal.close-len-requires-clause-closed
close-len-requires-clause-closed c =
    let inv = c.loop-i.invariant in
    subst HasNoSet
    (sym (before_written c.loop-i.cells c.loop-i.written c.index-cells-i.result
    (omega (arith, inv.behind, c.loop-i-test.true))))
    inv.closed

pub close-len-requires-clause-rising : goal.close-len-requires-clause-rising
close-len-requires-clause-rising c =
    let tree = c.cells_form_trees.ensures in
    let all = c.args.cells.now in
    let inv = c.loop-i.invariant in
    let x = c.index-cells-i.result in
    written_rises tree c.cells_form_intervals.ensures all c.loop-i.cells c.loop-i.written c.loop-i.i 1 x inv
    c.loop-i-test.true (omega arith) (omega (arith, length-drop c.loop-i.i c.loop-i.cells, c.loop-i-test.true))
    (one_stands tree all c.loop-i.cells c.loop-i.written c.loop-i.i inv c.loop-i-test.true x c.index-cells-i.is)

pub close_ahead-requires-clause-closing : goal.close_ahead-requires-clause-closing
close_ahead-requires-clause-closing c =
    let tree = c.cells_form_trees.ensures in
    let all = c.args.cells.now in
    let inv = c.loop-i.invariant in
    let x = c.index-cells-i.result in
    let made = c.close-len.ensures in
    let here =
    pass_goes_on tree c.cells_form_intervals.ensures all c.loop-i.cells c.loop-i.written c.loop-i.i 1 x inv
    c.loop-i-test.true (omega arith) (omega (arith, length-drop c.loop-i.i c.loop-i.cells, c.loop-i-test.true))
    (one_stands tree all c.loop-i.cells c.loop-i.written c.loop-i.i inv c.loop-i-test.true x c.index-cells-i.is)
    c.close-len.new.cells c.close-len.result c.close-len.auto.cells made.within made.leads made.closed in
    (all, here)

pub loop-i-preserved-then-len-written : goal.loop-i-preserved-then-len-written
loop-i-preserved-then-len-written c =
    let tree = c.cells_form_trees.ensures in
    let all = c.args.cells.now in
    let inv = c.loop-i.invariant in
    let x = c.index-cells-i.result in
    let made = c.close-len.ensures in
    let here =
    pass_goes_on tree c.cells_form_intervals.ensures all c.loop-i.cells c.loop-i.written c.loop-i.i 1 x inv
    c.loop-i-test.true (omega arith) (omega (arith, length-drop c.loop-i.i c.loop-i.cells, c.loop-i-test.true))
    (one_stands tree all c.loop-i.cells c.loop-i.written c.loop-i.i inv c.loop-i-test.true x c.index-cells-i.is)
    c.close-len.new.cells c.close-len.result c.close-len.auto.cells made.within made.leads made.closed in
    c.close_ahead.ensures.closing all here

pub loop-i-preserved : goal.loop-i-preserved
loop-i-preserved c =
    let tree = c.cells_form_trees.ensures in
    let all = c.args.cells.now in
    let inv = c.loop-i.invariant in
    let x = c.index-cells-i.result in
    let made = c.close-len.ensures in
    let here =
    pass_goes_on tree c.cells_form_intervals.ensures all c.loop-i.cells c.loop-i.written c.loop-i.i 1 x inv
    c.loop-i-test.true (omega arith) (omega (arith, length-drop c.loop-i.i c.loop-i.cells, c.loop-i-test.true))
    (one_stands tree all c.loop-i.cells c.loop-i.written c.loop-i.i inv c.loop-i-test.true x c.index-cells-i.is)
    c.close-len.new.cells c.close-len.result c.close-len.auto.cells made.within made.leads made.closed in
    here

-- what is written at the end
ended : (c : After-loop-i)
    → IsRising (take c.loop-i.written c.loop-i.cells)
    × IsPermutation (compacted c.args.cells.now) (take c.loop-i.written c.loop-i.cells)
ended c =
    let inv = c.loop-i.invariant in
    let end : c.loop-i.i ≡ length c.loop-i.cells = omega (arith, inv.within, c.loop-i-test.false) in
    pass_ends c.cells_form_trees.ensures c.cells_are_listed.ensures c.cells_form_intervals.ensures c.args.cells.now
    c.loop-i.cells c.loop-i.written
    (record {
      valid = c.requires.valid;
      rises =
          apart_rises c.cells_form_intervals.ensures c.args.cells.now c.requires.valid c.requires.in_order
          c.requires.apart;
    })
    (subst (IsClosing c.args.cells.now c.loop-i.cells c.loop-i.written) end inv)

pub returns-clause-list : goal.returns-clause-list
returns-clause-list c = (ended c).1

pub returns-clause-in_order : goal.returns-clause-in_order
returns-clause-in_order c =
    let h = (ended c).0 in
    rising_order c.cells_form_intervals.ensures (take c.loop-i.written c.loop-i.cells) h.valid h.rises
