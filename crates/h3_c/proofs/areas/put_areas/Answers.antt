use Rattle.std.proofs.Common.{length, map, ap, ◌∙◌, arith, subst}
use Rattle.std.proofs.lemmas.List.{length-map}
use Rattle.h3_regions.specs.Zones.{IsZones}
use Rattle.h3_c.specs.Lists.{indexes, laid_over}
use Rattle.h3_c.proofs.PlaceLaws.{area_found, no_area_found}
use Rattle.h3_c.proofs.areas.put_areas.Goals as goal

pub returns-in-Ok-clause-put : goal.returns-in-Ok-clause-put
returns-in-Ok-clause-put c = λ e.
    let size = ap length c.cells-cells.ensures.is ∙ length-map c.in-Ok.areas (λ p. p.0) in
    record {
      areas = c.in-Ok.areas;
      chosen = c.in-Ok.ensures.chosen;
      alike = c.in-Ok.ensures.alike;
      in_order = subst IsZones c.cells-cells.ensures.is c.cells-cells.ensures.zones;
      fewer = omega (arith, size, c.in-Ok.ensures.fewer);
      size = size;
      written = c.put_slice.ensures.list ∙ ap (λ l. laid_over (indexes l) c.args.zones.now) c.cells-cells.ensures.is;
      numbers_written =
          c.put_numbers.ensures ∙ ap (λ l. laid_over (map (λ p. p.1) l) c.args.numbers.now) c.pairs.ensures;
      found =
          λ x n h. area_found c.coverages_decide_lists.ensures.ancestors c.areas_are_lawful.ensures.one c.in-Ok.areas
          c.args.pairs.now c.in-Ok.ensures.alike c.in-Ok.ensures.apart x n h;
      nowhere =
          λ x none. no_area_found c.coverages_decide_lists.ensures.ancestors c.areas_are_lawful.ensures.one
          c.in-Ok.areas c.args.pairs.now c.in-Ok.ensures.alike c.in-Ok.ensures.apart x none;
    }
