use Rattle.h3_tree.proofs.LastChildLaws.{ranges}
use Rattle.h3_tree.proofs.laws.children_form_ranges.Goals as goal

pub returns : goal.returns
returns c = ranges c.cells_form_trees.ensures
