use Rattle.std.proofs.Common.{◌≡◌, slice_get, Contains, Some, ◌∙◌, sym, ap, subst, get_or}
use Rattle.std.proofs.lemmas.Option.{slice_get-get_or}
use Rattle.h3_regions.proofs.RegionLaws.{none_above, one_above}
use Rattle.h3_regions.proofs.ZoneLaws.{zone_at, zone_nowhere}
use Rattle.h3_regions.proofs.zones.Zones.zone_near.Goals as goal

pub returns-in-Some-clause-one : goal.returns-in-Some-clause-one
returns-in-Some-clause-one c = λ a m above.
    one_above c.self.inside.cells.now c.args.cell c.in-Some.found c.in-Some.ensures.one c.index-self-found.result a
    (subst (λ l. Contains l a) (sym c.self.view_is) m) above

pub returns-in-None-clause-one : goal.returns-in-None-clause-one
returns-in-None-clause-one c = λ a m above.
    absurd (none_above c.self.inside.cells.now c.args.cell c.in-None.ensures.one a
    (subst (λ l. Contains l a) (sym c.self.view_is) m) above)

pub returns-in-Some-clause-is : goal.returns-in-Some-clause-is
returns-in-Some-clause-is c =
    ap Some (sym c.index-self-found.is)
    ∙ zone_at c.cells_form_trees.ensures c.coverages_decide_lists.ensures.ancestors c.self.inside.cells.now _
    c.index-self-found.result c.args.cell c.in-Some.found c.self.view_is c.self.invariant.apart
    c.in-Some.ensures.found.0 (sym c.index-self-found.is) c.in-Some.ensures.found.1

pub returns-in-None-clause-is : goal.returns-in-None-clause-is
returns-in-None-clause-is c =
    zone_nowhere c.cells_form_trees.ensures c.coverages_decide_lists.ensures.ancestors c.self.inside.cells.now _
    c.args.cell c.self.view_is c.in-None.ensures.one

pub returns-in-Some-clause-place : goal.returns-in-Some-clause-place
returns-in-Some-clause-place c =
    let found =
    slice_get-get_or c.self.inside.cells.now c.in-Some.found c.index-self-found.result c.in-Some.ensures.found.0 in
    subst
    (λ l.
    slice_get l c.place_near.new.place
    ≡ Some (get_or c.self.inside.cells.now c.in-Some.found c.index-self-found.result))
    c.self.view_is (ap (slice_get c.self.inside.cells.now) (sym c.in-Some.ensures.there) ∙ found)
