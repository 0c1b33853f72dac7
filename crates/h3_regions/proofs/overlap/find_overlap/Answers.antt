use Rattle.std.proofs.Common.{sym}
use Rattle.h3_regions.proofs.OverlapLaws.{first_of_all, never_apart}
use Rattle.h3_regions.proofs.overlap.find_overlap.Goals as goal

pub unreachable-requires : goal.unreachable-requires
unreachable-requires c =
    never_apart c.args.cells.now c.apart_length-place.result c.apart_length-place.ensures.within
    c.coverages_decide_lists.ensures.overlaps c.index-cells-place.result (sym c.index-cells-place.is)
    c.apart_length-place.ensures.apart c.in-None.ensures.none c.apart_length-place.ensures.next

pub returns-clause-found : goal.returns-clause-found
returns-clause-found c =
    first_of_all c.args.cells.now c.apart_length-place.result c.apart_length-place.ensures.within c.in-Some.earlier
    c.index-cells-place.result (sym c.index-cells-place.is) c.apart_length-place.ensures.apart
    c.in-Some.ensures.found
