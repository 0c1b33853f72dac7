use Rattle.h3_regions.proofs.AlgebraLaws.{at_one_resolution, unique}
use Rattle.h3_regions.proofs.laws.coverages_decide_regions.Goals as goal

pub returns-clause-at_one_resolution : goal.returns-clause-at_one_resolution
returns-clause-at_one_resolution c = at_one_resolution c.cells_form_trees.ensures

pub returns-clause-unique : goal.returns-clause-unique
returns-clause-unique c = unique c.coverages_decide_lists.ensures.decide c.coverages_decide_lists.ensures.reduced

pub returns-clause-alike : goal.returns-clause-alike
returns-clause-alike c = c.coverages_decide_lists.ensures.alike
