use Rattle.std.proofs.Common.{subst}
use Rattle.h3_index.specs.Edge.{IsEdge}
use Rattle.h3_grid.specs.Iter.{edges_left}
use Rattle.h3_grid.proofs.DirectedEdgeLaws.{ended, next_edge, past_end}
use Rattle.h3_grid.proofs.ListLaws.{progresses}
use Rattle.h3_grid.proofs.iter.EdgesIterator.next.Goals as goal

pub returns-in-Ok-clause-steps : goal.returns-in-Ok-clause-steps
unfolding edges_left
returns-in-Ok-clause-steps c =
    let w = c.args.self.now in
    let made = c.in-Ok.ensures.made in
    next_edge w.origin w.direction c.in-Ok.edge (subst IsEdge made.0 made.1).direction_small made.0

pub returns-in-Ok-clause-goes : goal.returns-in-Ok-clause-goes
returns-in-Ok-clause-goes c = progresses edges_left c.args.self.now _ _ (returns-in-Ok-clause-steps c)

pub returns-in-Err-clause-steps : goal.returns-in-Err-clause-steps
unfolding edges_left
returns-in-Err-clause-steps c =
    let w = c.args.self.now in
    let none =
    ended w.origin w.direction
    (past_end w.origin w.direction _ w.some w.at_most w.not_deleted c.in-Err.ensures.refused) in
    (none, none)
