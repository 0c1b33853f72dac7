use Rattle.h3_c.proofs.DescendantLaws.{unit_is}
use Rattle.h3_c.proofs.descendants.unit_at.Goals as goal

pub returns : goal.returns
returns c = unit_is c.args.r
