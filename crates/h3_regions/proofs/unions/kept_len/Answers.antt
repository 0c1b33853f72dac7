use Rattle.std.proofs.Common.{◌-◌, ◌+◌, ◌^◌, ◌≤◌, arith}
use Rattle.std.proofs.Math.Nat.{one-le-pow}
use Rattle.h3_index.specs.Cell.{resolution}
use Rattle.h3_tree.specs.PostOrder.{post_order_key}
use Rattle.h3_regions.proofs.KeepingLaws.{staying_above}
use Rattle.h3_regions.proofs.unions.kept_len.Goals as goal

pub returns-then-key-post_order_key-clause-stay : goal.returns-then-key-post_order_key-clause-stay
returns-then-key-post_order_key-clause-stay c =
    let far : post_order_key c.index-kept-n.result + 8 ^ (15 - resolution c.args.cell) ≤ post_order_key c.args.cell =
    omega (
      arith,
      c.if-key-post_order_key.true,
      c.post_order_key.ensures.is,
      c.post_order_key-key.ensures.is,
      c.last_digit_step-last_digit_step.ensures.is,
      one-le-pow (15 - resolution c.args.cell) 8 (omega arith),
    ) in
    staying_above c.cells_form_intervals.ensures c.args.kept.now c.args.cell c.index-kept-n.result c.loop-n.n
    c.requires.valid c.requires.in_order c.post_order_key-key.ensures.valid c.loop-n-test.true c.loop-n.invariant.0
    c.index-kept-n.is far
