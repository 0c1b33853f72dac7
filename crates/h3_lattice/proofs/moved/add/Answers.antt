use Rattle.h3_lattice.proofs.ExpansionLaws.{expansions_are_unique, places_are_sums}
use Rattle.h3_lattice.proofs.moved.add.Goals as goal

pub returns-clause-unique : goal.returns-clause-unique
returns-clause-unique c = expansions_are_unique

pub returns-clause-places : goal.returns-clause-places
returns-clause-places c = places_are_sums
