use Rattle.h3_tree.proofs.WalkLaws.{IsReached}
use Rattle.h3_tree.proofs.positions.member_at.Given as goal

abbrev pub invariant-loop-level : goal.invariant-loop-level
invariant-loop-level l = IsReached l.fn.cell l.r l.position l.level l.left l.member
