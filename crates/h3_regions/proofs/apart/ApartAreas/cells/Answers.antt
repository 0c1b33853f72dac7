use Rattle.std.proofs.Common.{◌≡◌, map, subst}
use Rattle.h3_regions.proofs.ApartLaws.{zones}
use Rattle.h3_regions.proofs.apart.ApartAreas.cells.Goals as goal

pub returns-clause-is : goal.returns-clause-is
returns-clause-is c = subst (λ l. c.self.inside.cells.now ≡ map (λ p. p.0) l) c.self.view_is c.self.invariant.cells_are

pub returns-clause-zones : goal.returns-clause-zones
returns-clause-zones c = zones c.self.inside.pairs.now c.self.inside.cells.now c.self.invariant
