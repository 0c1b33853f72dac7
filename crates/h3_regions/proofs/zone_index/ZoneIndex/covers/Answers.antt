use Rattle.std.proofs.Common.{◌≡◌, true, false, refl}
use Rattle.h3_regions.proofs.RegionLaws.{covered_at, none_above}
use Rattle.h3_regions.proofs.zone_index.ZoneIndex.covers.Goals as goal

pub returns-in-Some : goal.returns-in-Some
returns-in-Some c = (
  (λ t.
      covered_at c.args.self.now c.args.cell c.in-Some.field-0 c.in-Some.ensures.valid c.in-Some.ensures.found.0
      c.in-Some.ensures.found.1),
  (λ h. refl),
)

pub returns-in-None : goal.returns-in-None
returns-in-None c = (
  (λ t. let e : false ≡ true = t in cc),
  (λ h. absurd (none_above c.args.self.now c.args.cell c.in-None.ensures.one h.by h.member h.below.under)),
)
