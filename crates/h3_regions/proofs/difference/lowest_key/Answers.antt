use Rattle.std.proofs.Common.{◌-◌, arith}
use Rattle.std.proofs.Math.Nat.{one-le-pow}
use Rattle.h3_index.specs.Cell.{resolution}
use Rattle.h3_regions.proofs.difference.lowest_key.Goals as goal

pub overflow_sub-last_digit_step : goal.overflow_sub-last_digit_step
overflow_sub-last_digit_step c =
    omega (arith, c.last_digit_step.ensures.is, one-le-pow (15 - resolution c.args.cell) 8 (omega arith))

pub returns : goal.returns
returns c =
    omega (
      arith,
      c.saturating_sub.ensures,
      c.post_order_key.ensures.is,
      c.last_digit_step.ensures.is,
      one-le-pow (15 - resolution c.args.cell) 8 (omega arith),
    )
