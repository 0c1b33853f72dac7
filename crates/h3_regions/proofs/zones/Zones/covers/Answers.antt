use Rattle.std.proofs.Common.{◌≡◌, Contains, true, false, refl, sym, subst}
use Rattle.h3_index.specs.Cell.{resolution}
use Rattle.h3_set.specs.Coverage.{IsCovered}
use Rattle.h3_regions.proofs.RegionLaws.{covered_at, none_above}
use Rattle.h3_regions.proofs.zones.Zones.covers.Goals as goal

pub returns-in-Some : goal.returns-in-Some
returns-in-Some c = (
  (λ t.
      subst (λ l. IsCovered l (resolution c.args.cell) c.args.cell) c.self.view_is (covered_at c.self.inside.cells.now
      c.args.cell c.in-Some.field-0 c.in-Some.ensures.valid c.in-Some.ensures.found.0 c.in-Some.ensures.found.1)),
  (λ h. refl),
)

pub returns-in-None : goal.returns-in-None
returns-in-None c = (
  (λ t. let e : false ≡ true = t in cc),
  (λ h.
      absurd (none_above c.self.inside.cells.now c.args.cell c.in-None.ensures.one h.by
      (subst (λ l. Contains l h.by) (sym c.self.view_is) h.member) h.below.under)),
)
