use Rattle.std.proofs.Common.{◌≡◌, Some, ◌∙◌, refl, sym, ap, subst, get_or}
use Rattle.h3_set.specs.Coverage.{IsApart}
use Rattle.h3_regions.proofs.RegionLaws.{none_above, one_above}
use Rattle.h3_regions.proofs.ZoneLaws.{zone_at, zone_nowhere}
use Rattle.h3_regions.proofs.zone_index.ZoneIndex.zone_of.Goals as goal
use Rattle.h3_regions.proofs.zone_index.ZoneIndex.zone_of.Goals.{After-index-self-i}

-- the cell at the place, in the list that contracts see
there : (c : After-index-self-i) → get_or c.args.self.now c.in-Some.i c.index-self-i.result ≡ c.index-self-i.result
there c =
    subst (λ l. get_or l c.in-Some.i c.index-self-i.result ≡ c.index-self-i.result) c.self.view_is
    (sym c.index-self-i.is)

pub returns-in-Some-clause-one : goal.returns-in-Some-clause-one
returns-in-Some-clause-one c = λ a m above.
    ap Some (sym c.index-self-i.is ∙ sym (there c))
    ∙ one_above c.args.self.now c.args.cell c.in-Some.i c.in-Some.ensures.one c.index-self-i.result a m above

pub returns-in-None-clause-one : goal.returns-in-None-clause-one
returns-in-None-clause-one c = λ a m above.
    absurd (none_above c.args.self.now c.args.cell c.in-None.ensures.one a m above)

pub returns-in-Some-clause-is : goal.returns-in-Some-clause-is
returns-in-Some-clause-is c =
    ap Some (sym c.index-self-i.is)
    ∙ zone_at c.cells_form_trees.ensures c.coverages_decide_lists.ensures.ancestors c.args.self.now _
    c.index-self-i.result c.args.cell c.in-Some.i refl (subst IsApart c.self.view_is c.self.invariant.zones.apart)
    c.in-Some.ensures.found.0 (there c) c.in-Some.ensures.found.1

pub returns-in-None-clause-is : goal.returns-in-None-clause-is
returns-in-None-clause-is c =
    zone_nowhere c.cells_form_trees.ensures c.coverages_decide_lists.ensures.ancestors c.args.self.now _ c.args.cell
    refl c.in-None.ensures.one
