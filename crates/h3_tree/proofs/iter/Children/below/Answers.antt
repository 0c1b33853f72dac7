use Rattle.std.proofs.Common.{◌-◌, length}
use Rattle.h3_index.specs.Cell.{is_pentagon}
use Rattle.h3_tree.specs.Children.{children_left}
use Rattle.h3_tree.proofs.FollowingLaws.{cells_from-descendants}
use Rattle.h3_tree.proofs.iter.Children.below.Goals as goal

pub returns-clause-list : goal.returns-clause-list
unfolding children_left
returns-clause-list c =
    rw (c.size_at.ensures.count, c.center_descendant-next.ensures.is) (cells_from-descendants c.args.cell c.args.r
    (c.paths_are_chains.ensures (is_pentagon c.args.cell) (c.args.r - length c.args.cell.digits)))
