use Rattle.std.proofs.Common.{arith}
use Rattle.h3_regions.proofs.ListLaws.{as_map}
use Rattle.h3_regions.proofs.apart.write_cells.Goals as goal

pub returns : goal.returns
returns c =
    as_map (λ p. p.0) c.args.pairs.now c.loop-i.cells c.loop-i.invariant.0
    (λ k e d lt. c.loop-i.invariant.1 k d e (omega (arith, lt, c.loop-i-test.false)))
