use Rattle.std.proofs.Common.{◌∙◌}
use Rattle.h3_index.proofs.EdgeLaws.{origin_inside}
use Rattle.h3_index.proofs.MoveLaws.{made_is, made_valid}
use Rattle.h3_index.proofs.edge.Edge.origin.Goals as goal

pub from_number-requires : goal.from_number-requires
from_number-requires c =
    let o = origin_inside c.args.self _ _ c.self.invariant c.self.view_is c.origin_number.ensures in
    made_valid _ _ o.valid o.is

pub returns-clause-is : goal.returns-clause-is
returns-clause-is c =
    let o = origin_inside c.args.self _ _ c.self.invariant c.self.view_is c.origin_number.ensures in
    c.from_number.ensures ∙ made_is _ _ o.valid o.is
