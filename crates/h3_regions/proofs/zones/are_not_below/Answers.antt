use Rattle.std.proofs.Common.{arith}
use Rattle.h3_regions.proofs.SearchLaws.{not_below_where}
use Rattle.h3_regions.proofs.zones.are_not_below.Goals as goal

pub returns-else-place-cells : goal.returns-else-place-cells
returns-else-place-cells c =
    not_below_where c.args.cells.now c.requires.zones c.args.key c.args.place c.post_order_key.result
    c.index-cells-place.result (omega (arith, c.if-place-cells.false, c.requires.within)) c.index-cells-place.is
    c.post_order_key.ensures.is
