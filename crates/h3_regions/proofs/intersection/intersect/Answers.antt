use Rattle.std.specs.List.Sorted.{IsPermutation}
use Rattle.std.proofs.Common.{take, Contains, sym, subst}
use Rattle.h3_set.specs.Coverage.{IsCovered}
use Rattle.h3_regions.specs.Algebra.{intersection}
use Rattle.h3_regions.specs.Intersection.{HoldsShared}
use Rattle.h3_regions.proofs.SharedLaws.{shared_covers, shared_region}
use Rattle.h3_regions.proofs.DecidedLaws.{intersection_list}
use Rattle.h3_regions.proofs.intersection.intersect.Goals as goal
use Rattle.h3_regions.proofs.intersection.intersect.Goals.{After-slots-1}

found : (c : After-slots-1)
    → HoldsShared c.args.first.now c.args.second.now (take c.write_shared-count.result c.write_shared-count.new.slots)
found c = rw (c.cells.ensures.is, c.cells-2.ensures.is) at c.write_shared-count.ensures.shared

pub over-requires : goal.over-requires
over-requires c =
    shared_region c.cells_form_trees.ensures c.args.first.now c.args.second.now
    (take c.write_shared-count.result c.write_shared-count.new.slots) c.cells.ensures.region
    c.cells-2.ensures.region (found c)

pub returns-clause-cells : goal.returns-clause-cells
returns-clause-cells c = λ x. (
  (λ m. (found c.before).shared x (subst (λ l. Contains l x) c.over.ensures m)),
  (λ s. subst (λ l. Contains l x) (sym c.over.ensures) ((found c.before).all x s)),
)

pub returns-clause-covers : goal.returns-clause-covers
returns-clause-covers c = λ r x.
    let both =
    shared_covers c.cells_form_trees.ensures c.args.first.now c.args.second.now
    (take c.write_shared-count.result c.write_shared-count.new.slots) c.cells.ensures.region
    c.cells-2.ensures.region (found c.before) r x in (
      (λ h. both.0 (subst (λ l. IsCovered l r x) c.over.ensures h)),
      (λ h. subst (λ l. IsCovered l r x) (sym c.over.ensures) (both.1 h)),
    )

pub returns-clause-list : goal.returns-clause-list
returns-clause-list c =
    let both =
    shared_covers c.cells_form_trees.ensures c.args.first.now c.args.second.now
    (take c.write_shared-count.result c.write_shared-count.new.slots) c.cells.ensures.region
    c.cells-2.ensures.region (found c.before) in
    let region =
    shared_region c.cells_form_trees.ensures c.args.first.now c.args.second.now
    (take c.write_shared-count.result c.write_shared-count.new.slots) c.cells.ensures.region
    c.cells-2.ensures.region (found c.before) in
    let laws = c.coverages_decide_lists.ensures in
    subst (IsPermutation (intersection c.args.first.now c.args.second.now)) (sym c.over.ensures)
    (intersection_list c.cells_form_trees.ensures laws.ancestors laws.another_order laws.decide c.args.first.now
    c.args.second.now (take c.write_shared-count.result c.write_shared-count.new.slots)
    c.cells.ensures.region.valid c.cells-2.ensures.region.valid region (λ x. both 15 x))
