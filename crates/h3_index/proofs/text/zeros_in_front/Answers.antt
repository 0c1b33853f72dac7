use Rattle.std.proofs.Common.{arith, inl, inr, lit≤, refl}
use Rattle.h3_index.proofs.WriteLaws.{rest_is, zeros_counted}
use Rattle.h3_index.proofs.text.zeros_in_front.Goals as goal

pub returns-then-index-lt16-clause-rest : goal.returns-then-index-lt16-clause-rest
returns-then-index-lt16-clause-rest c = rest_is c.args.index 15 (lit≤ tt) c.if-index-lt16.true (inl refl)

pub returns-else-index-lt16-clause-small : goal.returns-else-index-lt16-clause-small
returns-else-index-lt16-clause-small c = (zeros_counted c.args.index (omega arith) c.ranges.index.fits).1

pub returns-else-index-lt16-clause-rest : goal.returns-else-index-lt16-clause-rest
returns-else-index-lt16-clause-rest c =
    let counted = zeros_counted c.args.index (omega arith) c.ranges.index.fits in
    rest_is c.args.index _ counted.0 counted.1 (inr counted.2)
