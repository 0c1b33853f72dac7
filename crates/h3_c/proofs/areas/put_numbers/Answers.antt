use Rattle.std.proofs.Common.{refl}
use Rattle.h3_c.specs.Lists.{laid_over}
use Rattle.h3_c.proofs.PlaceLaws.{numbers_next}
use Rattle.h3_c.proofs.areas.put_numbers.Goals as goal

pub loop-i-init : goal.loop-i-init
unfolding laid_over
loop-i-init c = refl

pub loop-i-preserved : goal.loop-i-preserved
loop-i-preserved c =
    numbers_next c.args.pairs.now c.args.numbers.now c.loop-i.numbers c.loop-i.i c.index-pairs-i.result
    c.loop-i-test.true c.requires c.loop-i.invariant
