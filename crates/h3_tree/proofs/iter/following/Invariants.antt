use Rattle.h3_tree.proofs.FollowingLaws.{IsSixesFrom}
use Rattle.h3_tree.proofs.iter.following.Given as goal

abbrev pub invariant-loop-r : goal.invariant-loop-r
invariant-loop-r l = IsSixesFrom l.cell.digits l.r

abbrev pub decreases-loop-r : goal.decreases-loop-r
decreases-loop-r l = l.r
