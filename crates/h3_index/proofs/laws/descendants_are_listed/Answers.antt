use Rattle.h3_index.proofs.DescendantLaws.{listed, rising_descendants, size_hexagon, size_pentagon}
use Rattle.h3_index.proofs.laws.descendants_are_listed.Goals as goal

pub returns-clause-members : goal.returns-clause-members
returns-clause-members c = listed

pub returns-clause-ascending : goal.returns-clause-ascending
returns-clause-ascending c = rising_descendants

pub returns-clause-hexagons : goal.returns-clause-hexagons
returns-clause-hexagons c = size_hexagon

pub returns-clause-pentagons : goal.returns-clause-pentagons
returns-clause-pentagons c = size_pentagon
