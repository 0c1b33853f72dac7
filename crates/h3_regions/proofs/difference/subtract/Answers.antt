use Rattle.std.specs.List.Sorted.{IsPermutation}
use Rattle.std.proofs.Common.{◌≡◌, ◌+◌, ◌*◌, ◌<◌, ◌≤◌, length, take, refl, arith, ◌∙◌, sym, ap, subst}
use Rattle.std.proofs.lemmas.List.{length-take}
use Rattle.std.proofs.lemmas.List.Sorted.{length_permutation}
use Rattle.h3_set.specs.Coverage.{IsCovered}
use Rattle.h3_regions.specs.Algebra.{difference}
use Rattle.h3_regions.specs.Region.{IsRegion}
use Rattle.h3_regions.specs.Difference.{left_of_all}
use Rattle.h3_regions.proofs.CoverageLaws.{fine_within}
use Rattle.h3_regions.proofs.LeftLaws.{rest_covers, rest_region}
use Rattle.h3_regions.proofs.RoomLaws.{small}
use Rattle.h3_regions.proofs.DecidedLaws.{difference_list}
use Rattle.h3_regions.proofs.difference.subtract.Goals as goal
use Rattle.h3_regions.proofs.difference.subtract.Goals.{After-leave_all}

pub over-requires : goal.over-requires
over-requires c =
    let is : take c.in-Some.count c.leave_all.new.slots ≡ left_of_all c.args.first.now c.args.second.now =
    rw (c.cells.ensures.is, c.cells-2.ensures.is) at c.in-Some.ensures.left in
    subst IsRegion (sym is) (rest_region c.cells_form_trees.ensures c.cells_form_intervals.ensures
    c.coverages_decide_lists.ensures.ancestors c.args.second.now c.cells-2.ensures.region c.args.first.now
    c.cells.ensures.region)

pub returns-in-Some-clause-covers : goal.returns-in-Some-clause-covers
returns-in-Some-clause-covers c = λ r fine x.
    let left = rw (c.cells.ensures.is, c.cells-2.ensures.is) at c.in-Some.ensures.left in
    let is : c.over.result ≡ left_of_all c.args.first.now c.args.second.now = c.over.ensures ∙ left in
    let both =
    rest_covers c.cells_form_trees.ensures c.cells_form_intervals.ensures c.coverages_decide_lists.ensures.ancestors
    c.args.second.now c.cells-2.ensures.region c.args.first.now c.cells.ensures.region r fine x in (
      (λ h. both.0 (subst (λ l. IsCovered l r x) is h)),
      (λ h. subst (λ l. IsCovered l r x) (sym is) (both.1 h)),
    )

-- the list of the difference is what is left, in another order
left_list : (c : After-leave_all)
    → IsPermutation (difference c.args.first.now c.args.second.now) (left_of_all c.args.first.now c.args.second.now)
left_list c =
    let laws = c.coverages_decide_lists.ensures in
    let region =
    rest_region c.cells_form_trees.ensures c.cells_form_intervals.ensures laws.ancestors c.args.second.now
    c.cells-2.ensures.region c.args.first.now c.cells.ensures.region in
    let fine = fine_within c.args.second.now c.cells-2.ensures.region.valid in
    difference_list c.cells_form_trees.ensures laws.ancestors laws.another_order laws.decide c.args.first.now
    c.args.second.now (left_of_all c.args.first.now c.args.second.now) c.cells.ensures.region.valid
    c.cells-2.ensures.region.valid region (λ x.
    rest_covers c.cells_form_trees.ensures c.cells_form_intervals.ensures laws.ancestors c.args.second.now
    c.cells-2.ensures.region c.args.first.now c.cells.ensures.region 15 fine x)

-- they have as many cells
size : (c : After-leave_all)
    → length (left_of_all c.args.first.now c.args.second.now) ≡ length (difference c.args.first.now c.args.second.now)
size c =
    length_permutation (difference c.args.first.now c.args.second.now) (left_of_all c.args.first.now c.args.second.now)
    (left_list c)

few : (c : After-leave_all)
    → length (difference c.args.first.now c.args.second.now) ≤ length c.args.first.now + 90 * length c.args.second.now
few c =
    omega (
      arith,
      size c,
      small c.cells_form_trees.ensures c.cells_form_intervals.ensures c.coverages_decide_lists.ensures.ancestors
          c.descendants_are_listed.ensures.hexagons c.descendants_are_listed.ensures.pentagons c.args.second.now
          c.cells-2.ensures.region c.args.first.now c.cells.ensures.region,
    )

pub returns-in-Some-clause-list : goal.returns-in-Some-clause-list
returns-in-Some-clause-list c =
    let left = rw (c.cells.ensures.is, c.cells-2.ensures.is) at c.in-Some.ensures.left in
    let is : c.over.result ≡ left_of_all c.args.first.now c.args.second.now = c.over.ensures ∙ left in
    subst (IsPermutation (difference c.args.first.now c.args.second.now)) (sym is) (left_list c.before.before.before)

pub returns-in-Some-clause-none : goal.returns-in-Some-clause-none
returns-in-Some-clause-none c =
    let left : take c.in-Some.count c.leave_all.new.slots ≡ left_of_all c.args.first.now c.args.second.now =
    rw (c.cells.ensures.is, c.cells-2.ensures.is) at c.in-Some.ensures.left in
    let room : length (difference c.args.first.now c.args.second.now) ≤ length c.args.slots.now =
    omega (
      arith,
      size c.before.before.before,
      ap length left,
      length-take c.in-Some.count c.leave_all.new.slots,
      c.in-Some.ensures.within,
    ) in
    ((λ e. absurd (cc)), (λ lt. absurd (omega (arith, room, lt))))

pub returns-in-Some-clause-few : goal.returns-in-Some-clause-few
returns-in-Some-clause-few c = few c.before.before.before

pub returns-in-None-clause-none : goal.returns-in-None-clause-none
returns-in-None-clause-none c =
    let short : length c.args.slots.now < length (left_of_all c.args.first.now c.args.second.now) =
    rw (c.cells.ensures.is, c.cells-2.ensures.is) at (c.in-None.ensures.none refl) in
    ((λ e. omega (arith, short, size c.before.before)), (λ lt. refl))

pub returns-in-None-clause-few : goal.returns-in-None-clause-few
returns-in-None-clause-few c = few c.before.before
