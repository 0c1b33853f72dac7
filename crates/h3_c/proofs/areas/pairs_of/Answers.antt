use Rattle.std.proofs.Common.{◌∙◌, arith, rules}
use Rattle.h3_c.proofs.PlaceLaws.{pairs_all, pairs_next}
use Rattle.h3_c.proofs.areas.pairs_of.Goals as goal

pub loop-i-preserved : goal.loop-i-preserved
loop-i-preserved c =
    let more =
    pairs_next c.args.cells.now c.args.areas.now c.loop-i.pairs.items c.loop-i.i c.index-cells-i.result
    c.loop-i-test.true c.requires c.loop-i.invariant c.index-cells-i.is in
    search (rules, more, c.push.ensures.items, c.if-is_err.ensures)

pub returns-clause-pairs : goal.returns-clause-pairs
returns-clause-pairs c =
    c.loop-i.invariant
    ∙ pairs_all c.args.cells.now c.args.areas.now c.loop-i.i (omega (arith, c.loop-i-test.false))
    (omega (arith, c.loop-i.auto.i-end, c.requires))
