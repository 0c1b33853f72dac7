use Rattle.std.proofs.Common.{◌/◌, ◌^◌}
use Rattle.std.proofs.lemmas.Nat.{and_mask}
use Rattle.h3_index.proofs.EdgeLaws.{direction-in}
use Rattle.h3_index.proofs.edge.Edge.direction.Goals as goal

pub returns-clause-number : goal.returns-clause-number
returns-clause-number c = rw (← c.self.view_is, direction-in) (and_mask (c.self.inside.raw / 2 ^ 56) 3)
