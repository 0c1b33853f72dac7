use Rattle.std.proofs.Common.{◌≡◌, ◌<◌, length, Some, None, arith}
use Rattle.h3_regions.proofs.AreaCountingLaws.{small_number}
use Rattle.h3_regions.proofs.AreaNextLaws.{one_in_area, one_in_none}
use Rattle.h3_regions.proofs.CountingLaws.{one_more, within_all}
use Rattle.h3_regions.proofs.area_counting.count_next_in_areas.Goals as goal

pub overflow_add-counts : goal.overflow_add-counts
overflow_add-counts c =
    let small =
    small_number c.args.areas.now (length c.args.counts.now) c.args.cell c.in-Some.area c.requires.small
    c.in-Some.ensures.lies in
    omega (arith, within_all c.args.counts.now c.in-Some.area small, c.requires.few)

pub returns-in-Some-clause-one : goal.returns-in-Some-clause-one
returns-in-Some-clause-one c =
    let small =
    small_number c.args.areas.now (length c.args.counts.now) c.args.cell c.in-Some.area c.requires.small
    c.in-Some.ensures.lies in
    omega (arith, one_more c.args.counts.now c.in-Some.area small)

pub returns-in-Some-clause-next : goal.returns-in-Some-clause-next
returns-in-Some-clause-next c =
    let small =
    small_number c.args.areas.now (length c.args.counts.now) c.args.cell c.in-Some.area c.requires.small
    c.in-Some.ensures.lies in
    one_in_area c.coverages_decide_lists.ensures.ancestors c.args.areas.now c.args.counts.now c.args.none c.args.cell
    c.in-Some.area small c.in-Some.ensures.lies
    (λ m h. let e : Some c.in-Some.area ≡ Some m = c.in-Some.ensures.one m h in cc)

pub returns-in-None-clause-next : goal.returns-in-None-clause-next
returns-in-None-clause-next c =
    one_in_none c.coverages_decide_lists.ensures.ancestors c.args.areas.now c.args.counts.now c.args.none c.args.cell
    (λ m h. let e : None ≡ Some m = c.in-None.ensures.one m h in cc)
