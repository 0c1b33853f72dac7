use Rattle.h3_tree.proofs.descendants.children_at.Goals as goal

pub returns-clause-members : goal.returns-clause-members
returns-clause-members c = λ x.
    rw c.below.ensures.list (c.descendants_are_listed.ensures.members c.args.cell c.args.r c.below.ensures.valid
    c.requires.not_coarser c.requires.at_most_fifteen x)
