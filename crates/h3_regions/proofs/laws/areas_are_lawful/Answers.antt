use Rattle.h3_regions.proofs.AreaCountingLaws.{counts_in_parts, tested}
use Rattle.h3_regions.proofs.PermutedLaws.{areas_are_listed, areas_in_any_order, one_at_most}
use Rattle.h3_regions.proofs.ClashLaws.{clashes_found}
use Rattle.h3_regions.proofs.AreaSumLaws.{add_up, alike_areas}
use Rattle.h3_regions.proofs.laws.areas_are_lawful.Goals as goal

pub returns-clause-listed : goal.returns-clause-listed
returns-clause-listed c = areas_are_listed c.cells_form_trees.ensures c.coverages_decide_lists.ensures.ancestors

pub returns-clause-tested : goal.returns-clause-tested
returns-clause-tested c = tested c.coverages_decide_lists.ensures.ancestors

pub returns-clause-in_any_order : goal.returns-clause-in_any_order
returns-clause-in_any_order c = areas_in_any_order c.cells_form_trees.ensures c.coverages_decide_lists.ensures.ancestors

pub returns-clause-one : goal.returns-clause-one
returns-clause-one c = one_at_most c.cells_form_trees.ensures c.coverages_decide_lists.ensures.ancestors

pub returns-clause-clashes : goal.returns-clause-clashes
returns-clause-clashes c = clashes_found c.coverages_decide_lists.ensures.ancestors

pub returns-clause-parts : goal.returns-clause-parts
returns-clause-parts c = counts_in_parts

pub returns-clause-add_up : goal.returns-clause-add_up
returns-clause-add_up c = add_up c.coverages_decide_lists.ensures.ancestors c.cells_form_trees.ensures

pub returns-clause-alike : goal.returns-clause-alike
returns-clause-alike c = alike_areas c.coverages_decide_lists.ensures.ancestors c.cells_form_trees.ensures
