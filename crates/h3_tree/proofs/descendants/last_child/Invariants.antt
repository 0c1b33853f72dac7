use Rattle.std.proofs.Common.{◌-◌}
use Rattle.h3_index.specs.Cell.{resolution}
use Rattle.h3_tree.proofs.LastChildLaws.{IsOnWay}
use Rattle.h3_tree.proofs.descendants.last_child.Given as goal

abbrev pub invariant-loop-last : goal.invariant-loop-last
invariant-loop-last l = IsOnWay l.fn.cell l.r l.last

abbrev pub decreases-loop-last : goal.decreases-loop-last
decreases-loop-last l = l.r - resolution l.last
