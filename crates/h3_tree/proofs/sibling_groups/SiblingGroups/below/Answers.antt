use Rattle.std.proofs.Common.{◌-◌, ◌∙◌, ap, arith}
use Rattle.std.specs.List.{flat_map}
use Rattle.h3_index.specs.Descendants.{children}
use Rattle.h3_tree.specs.SiblingGroups.{parents_left}
use Rattle.h3_tree.proofs.SiblingGroupLaws.{all_coarse, descendants-children}
use Rattle.h3_tree.proofs.sibling_groups.SiblingGroups.below.Goals as goal

pub invariant_of-result : goal.invariant_of-result
invariant_of-result c = record {
  coarse =
      all_coarse _ c.args.cell (c.args.r - 1) (omega (arith, c.requires.finer, c.requires.at_most_fifteen))
      c.children_at.ensures.members;
}

pub returns-clause-parents : goal.returns-clause-parents
unfolding parents_left
returns-clause-parents c = c.children_at.ensures.list

pub returns-clause-list : goal.returns-clause-list
unfolding parents_left
returns-clause-list c =
    ap (flat_map children) c.children_at.ensures.list ∙ descendants-children c.args.cell c.args.r c.requires.finer
