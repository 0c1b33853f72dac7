use Rattle.std.proofs.Common.{sym, ◌∙◌}
use Rattle.h3_grid.specs.Iter.{edges_left}
use Rattle.h3_grid.proofs.DirectedEdgeLaws.{from_one, from_two, listed}
use Rattle.h3_grid.proofs.iter.Edges.from.Goals as goal

pub returns-then-is_pentagon-clause-items : goal.returns-then-is_pentagon-clause-items
unfolding edges_left
returns-then-is_pentagon-clause-items c = from_two c.args.origin (sym c.is_pentagon.ensures ∙ c.if-is_pentagon.true)

pub returns-then-is_pentagon-clause-listed : goal.returns-then-is_pentagon-clause-listed
returns-then-is_pentagon-clause-listed c = listed c.args.origin c.resolution-resolution.ensures.valid

pub returns-clause-items : goal.returns-clause-items
unfolding edges_left
returns-clause-items c = from_one c.args.origin (sym c.is_pentagon.ensures ∙ c.if-is_pentagon.false)

pub returns-clause-listed : goal.returns-clause-listed
returns-clause-listed c = listed c.args.origin c.resolution-resolution.ensures.valid
