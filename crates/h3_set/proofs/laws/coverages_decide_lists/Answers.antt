use Rattle.h3_set.proofs.OverlapLaws.{overlaps_found}
use Rattle.h3_set.proofs.PartitionLaws.{compacted_alike, compacted_made, coverages_decide, in_parts, reduced_made, reduced_reordered}
use Rattle.h3_set.proofs.PermutedLaws.{apart_permuted}
use Rattle.h3_set.proofs.TestLaws.{ancestor_decides}
use Rattle.h3_set.proofs.laws.coverages_decide_lists.Goals as goal

pub returns-clause-compacted : goal.returns-clause-compacted
returns-clause-compacted c = compacted_made c.cells_form_trees.ensures c.cells_are_listed.ensures

pub returns-clause-alike : goal.returns-clause-alike
returns-clause-alike c = compacted_alike c.cells_form_trees.ensures c.cells_are_listed.ensures

pub returns-clause-decide : goal.returns-clause-decide
returns-clause-decide c = coverages_decide c.cells_form_trees.ensures c.cells_are_listed.ensures

pub returns-clause-overlaps : goal.returns-clause-overlaps
returns-clause-overlaps c = overlaps_found

pub returns-clause-reordered : goal.returns-clause-reordered
returns-clause-reordered c = apart_permuted

pub returns-clause-ancestors : goal.returns-clause-ancestors
returns-clause-ancestors c = λ a x. ((λ t. (ancestor_decides a x).0 t), (λ h. (ancestor_decides a x).1 h))

pub returns-clause-reduced : goal.returns-clause-reduced
returns-clause-reduced c = reduced_made c.cells_form_trees.ensures c.cells_are_listed.ensures

pub returns-clause-another_order : goal.returns-clause-another_order
returns-clause-another_order c = reduced_reordered c.cells_form_trees.ensures c.cells_are_listed.ensures

pub returns-clause-parts : goal.returns-clause-parts
returns-clause-parts c = in_parts c.cells_form_trees.ensures c.cells_are_listed.ensures
