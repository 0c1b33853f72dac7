use Rattle.std.proofs.lemmas.List.Sorted.{IsPermutation-sym}
use Rattle.h3_regions.proofs.AlgebraLaws.{permuted_covers}
use Rattle.h3_regions.proofs.zones.Zones.of.Goals as goal

pub returns-in-Ok-clause-covers : goal.returns-in-Ok-clause-covers
returns-in-Ok-clause-covers c = λ r le x.
    let alike = c.coverages_decide_lists.ensures.alike c.args.cells.now r c.are_cells.ensures le x in
    let same = c.order_zones.ensures.same in (
      (λ h.
          alike.0 (permuted_covers c.order_zones.new.cells c.args.cells.now r
          (IsPermutation-sym c.args.cells.now c.order_zones.new.cells same) x h)),
      (λ h. permuted_covers c.args.cells.now c.order_zones.new.cells r same x (alike.1 h)),
    )
