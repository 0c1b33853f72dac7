use Rattle.std.proofs.Common.{arith}
use Rattle.h3_regions.proofs.zone_table.keep_within.Goals as goal

pub returns : goal.returns
returns c k d within =
    c.loop-i.invariant.0 k d (omega arith) (omega (arith, within, c.loop-i.invariant.1, c.loop-i-test.false))
