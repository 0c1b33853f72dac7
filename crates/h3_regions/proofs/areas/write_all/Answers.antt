use Rattle.std.proofs.Common.{arith, get_or, ◌+◌}
use Rattle.h3_regions.proofs.WritingLaws.{all_written, none_between, none_written}
use Rattle.h3_regions.proofs.areas.write_all.Goals as goal
use Rattle.h3_regions.proofs.areas.write_all.Goals.{then-from-to, else-from-to}

pub loop-r-init : goal.loop-r-init
loop-r-init c =
    none_written c.args.pairs.now c.args.cell _ c.args.numbers.now c.requires.room (c.requires.starts 0 0 (omega arith))

pub loop-r-preserved : goal.loop-r-preserved
loop-r-preserved c = elim c.if-from-to.branch [
  | then-from-to w ↦ rw (w.numbers-is, w.written-is) (rw c.from-in-loop-r.ensures at w.write_at-written.ensures)
  | else-from-to w ↦
      rw (w.numbers-is, w.written-is)
      (none_between c.args.pairs.now c.args.cell c.loop-r.r (get_or c.args.starts.now c.loop-r.r 0)
      (get_or c.args.starts.now (c.loop-r.r + 1) 0) c.loop-r.written c.loop-r.numbers
      (rw (c.from.ensures, c.from-in-loop-r.ensures) at w.if-from-to.false)
      (c.requires.starts (c.loop-r.r + 1) 0
      (omega (arith, c.loop-r-test.true, c.resolution-r-end.ensures.number, c.requires.valid.coarse)))
      c.loop-r.invariant)
]

pub returns-clause-are : goal.returns-clause-are
returns-clause-are c =
    all_written c.cells_form_trees.ensures c.args.pairs.now c.args.cell c.loop-r.r _ c.loop-r.written c.loop-r.numbers
    (omega (arith, c.loop-r-test.false, c.resolution-r-end.ensures.number)) c.loop-r.invariant
