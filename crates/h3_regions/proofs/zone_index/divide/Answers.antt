use Rattle.std.proofs.Common.{◌<◌, ◌^◌, arith}
use Rattle.std.proofs.lemmas.Nat.{mod_below}
use Rattle.h3_index.specs.Cell.{Address, number_of}
use Rattle.h3_tree.specs.PostOrder.{post_order_key}
use Rattle.h3_regions.proofs.zone_index.divide.Goals as goal

small : (c : Address) → post_order_key c < 2 ^ 52
unfolding post_order_key
small c = mod_below (number_of c) (2 ^ 52) (omega arith)

pub shift_of-shift-requires : goal.shift_of-shift-requires
shift_of-shift-requires c =
    omega (arith, small c.index-cells-cells.result, c.post_order_key.ensures.is, c.saturating_sub-span.ensures)
