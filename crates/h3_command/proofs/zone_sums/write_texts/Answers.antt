use Rattle.std.proofs.Common.{arith}
use Rattle.h3_command.proofs.SummedZones.{are_texts}
use Rattle.h3_command.proofs.zone_sums.write_texts.Goals as goal

pub returns-clause-texts : goal.returns-clause-texts
returns-clause-texts c =
    are_texts c.args.zones.now c.loop-i.blocks c.loop-i.invariant.0
    (λ k d e lt. c.loop-i.invariant.1 k d e (omega (arith, lt, c.loop-i-test.false)))

pub returns-clause-within : goal.returns-clause-within
returns-clause-within c = λ k d lt.
    c.loop-i.invariant.2 k d (omega (arith, lt, c.loop-i.invariant.0, c.loop-i-test.false))
