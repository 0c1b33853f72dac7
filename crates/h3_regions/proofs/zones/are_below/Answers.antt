use Rattle.std.proofs.Common.{arith}
use Rattle.h3_regions.proofs.SearchLaws.{below_where}
use Rattle.h3_regions.proofs.zones.are_below.Goals as goal

pub returns-else-place-eq0 : goal.returns-else-place-eq0
returns-else-place-eq0 c =
    below_where c.args.cells.now c.requires.zones c.args.key c.args.place c.post_order_key.result
    c.index-cells-place.result (omega (arith, c.if-place-eq0.false)) c.requires.within c.index-cells-place.is
    c.post_order_key.ensures.is
