use Rattle.h3_tree.proofs.SiblingGroupLaws.{descendants-children}
use Rattle.h3_tree.proofs.laws.descendants_are_children.Goals as goal

pub returns : goal.returns
returns c = descendants-children
