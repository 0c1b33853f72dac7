use Rattle.h3_grid.proofs.InsideLaws.{SumLaws}
use Rattle.h3_grid.proofs.LatticeLaws.{StepLawsHold}
use Rattle.h3_grid.proofs.NeighborLaws.{both_agree, directions_found, directions_differ, neighbors_differ, neighbors_found, neighbors_mutual}
use Rattle.h3_grid.proofs.neighbors.neighbors_are_lawful.Goals as goal

steps : (c : goal.After-sums_are_lawful) → StepLawsHold
steps c =
    let s = c.steps_are_lawful.ensures in
    let t = c.turns_add_up.ensures in
    record {
      reach = s.states;
      reverse = s.reverse;
      close = s.triangles;
      turns = t.directions;
      six = t.six;
      opposites = t.opposite;
    }

sums : (c : goal.After-sums_are_lawful) → SumLaws
sums c = let u = c.sums_are_lawful.ensures in record { exist = u.exist; unique = u.unique; turn = u.turn }

pub returns-clause-found : goal.returns-clause-found
returns-clause-found c = λ link sound.
    directions_found (steps c) (sums c) link sound c.numbers_are_unique.ensures c.steps_are_lawful.ensures.differ

pub returns-clause-one_direction : goal.returns-clause-one_direction
returns-clause-one_direction c = λ link sound.
    directions_differ (steps c) (sums c) link sound c.numbers_are_unique.ensures c.steps_are_lawful.ensures.differ

pub returns-clause-mutual : goal.returns-clause-mutual
returns-clause-mutual c = λ link sound. neighbors_mutual (steps c) (sums c) link sound

pub returns-clause-both : goal.returns-clause-both
returns-clause-both c = λ link sound.
    both_agree (steps c) (sums c) link sound c.numbers_are_unique.ensures c.steps_are_lawful.ensures.differ

pub returns-clause-differ : goal.returns-clause-differ
returns-clause-differ c = λ link sound.
    neighbors_differ (steps c) (sums c) link sound c.numbers_are_unique.ensures c.steps_are_lawful.ensures.differ
    c.steps_are_lawful.ensures.leave

pub returns-clause-related : goal.returns-clause-related
returns-clause-related c = λ link sound.
    neighbors_found (steps c) (sums c) link sound c.numbers_are_unique.ensures c.steps_are_lawful.ensures.differ
    c.steps_are_lawful.ensures.leave
