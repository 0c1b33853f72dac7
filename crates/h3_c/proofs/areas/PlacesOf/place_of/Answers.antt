use Rattle.std.proofs.Common.{◌≡◌, ◌-◌, ◌^◌, ◌∙◌, sym, subst, arith, get_or}
use Rattle.h3_c.specs.Areas.{beside}
use Rattle.h3_c.proofs.PlaceLaws.{any_default, beside_no_zone, beside_zone, get_or_past}
use Rattle.h3_c.proofs.areas.PlacesOf.place_of.Goals as goal

pub returns-in-None : goal.returns-in-None
returns-in-None c =
    sym (subst (λ l. beside l c.args.self.now.places.now c.args.cell ≡ 2 ^ 64 - 1) c.zones-zones.ensures
    (beside_no_zone c.coverages_decide_lists.ensures.ancestors c.zones-zones.result c.args.self.now.places.now
    c.args.cell c.in-None.ensures.one))

pub returns-then-place-self : goal.returns-then-place-self
returns-then-place-self c =
    let numbers = c.args.self.now.places.now in
    let found =
    beside_zone c.coverages_decide_lists.ensures.ancestors c.zones-zones.result numbers c.args.cell
    c.cells-cells.ensures.zones c.in-Some.field-0 c.zone_near.new.place c.in-Some.ensures.place
    c.in-Some.ensures.found.1 c.in-Some.ensures.one in
    sym (subst (λ l. beside l numbers c.args.cell ≡ get_or numbers c.zone_near.new.place (2 ^ 64 - 1))
    c.zones-zones.ensures found
    ∙ get_or_past numbers c.zone_near.new.place (2 ^ 64 - 1) (omega (arith, c.if-place-self.true)))

pub returns : goal.returns
returns c =
    let numbers = c.args.self.now.places.now in
    let found =
    beside_zone c.coverages_decide_lists.ensures.ancestors c.zones-zones.result numbers c.args.cell
    c.cells-cells.ensures.zones c.in-Some.field-0 c.zone_near.new.place c.in-Some.ensures.place
    c.in-Some.ensures.found.1 c.in-Some.ensures.one in
    c.from.ensures ∙ any_default numbers c.zone_near.new.place 0 (2 ^ 64 - 1) (omega (arith, c.if-place-self.false))
    ∙ sym (subst (λ l. beside l numbers c.args.cell
    ≡ get_or numbers c.zone_near.new.place (2 ^ 64 - 1)) c.zones-zones.ensures found)
