use Rattle.h3_regions.proofs.DecidedLaws.{difference_same, intersection_same}
use Rattle.h3_regions.proofs.laws.coverages_decide_combinations.Goals as goal

pub returns-clause-intersections : goal.returns-clause-intersections
returns-clause-intersections c a b list va vb valid covers =
    intersection_same c.cells_form_trees.ensures c.coverages_decide_lists.ensures.ancestors
    c.coverages_decide_lists.ensures.decide a b list va vb valid covers

pub returns-clause-differences : goal.returns-clause-differences
returns-clause-differences c a b list va vb valid covers =
    difference_same c.cells_form_trees.ensures c.coverages_decide_lists.ensures.ancestors
    c.coverages_decide_lists.ensures.decide a b list va vb valid covers
