use Rattle.std.proofs.Common.{◌-◌, arith}
use Rattle.h3_tree.proofs.SizeLaws.{sevens_some}
use Rattle.h3_tree.proofs.descendants.size_at.Goals as goal

pub overflow_sub-result : goal.overflow_sub-result
overflow_sub-result c =
    rw c.power_of_seven-sevens.ensures.is (omega (arith, sevens_some (c.args.r - c.resolution.result)))
