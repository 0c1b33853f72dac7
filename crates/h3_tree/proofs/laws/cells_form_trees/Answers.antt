use Rattle.h3_tree.proofs.AncestorLaws.{trees}
use Rattle.h3_tree.proofs.laws.cells_form_trees.Goals as goal

pub returns : goal.returns
returns c =
    trees c.cuts_are_cells.ensures c.descendants_are_listed.ensures.members c.descendants_are_listed.ensures.ascending
    c.paths_are_chains.ensures
