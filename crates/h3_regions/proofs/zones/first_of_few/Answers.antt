use Rattle.std.specs.Int.{from_bool}
use Rattle.std.proofs.Common.{◌≡◌, ◌<◌, length, nat_lt, arith, ◌∙◌, ap}
use Rattle.h3_tree.specs.PostOrder.{post_order_key}
use Rattle.h3_regions.proofs.SearchLaws.{counted, counted_more}
use Rattle.h3_regions.proofs.zones.first_of_few.Goals as goal

pub loop-i-preserved : goal.loop-i-preserved
loop-i-preserved c =
    let lt : c.loop-i.i < length c.args.cells.now = omega (arith, c.requires.within) in
    let passed : c.from-first.result ≡ from_bool (nat_lt (post_order_key c.index-cells-i.result) c.args.key) =
    c.from-first.ensures ∙ ap (λ r. from_bool (nat_lt r c.args.key)) c.post_order_key.ensures.is in
    counted_more c.args.cells.now c.requires.zones c.args.key c.args.from c.loop-i.i c.loop-i.first c.from-first.result
    c.index-cells-i.result lt c.index-cells-i.is passed c.loop-i.invariant

pub returns : goal.returns
returns c =
    let last : c.loop-i.i ≡ c.args.to = omega (arith, c.requires.in_order) in
    counted c.args.cells.now c.requires.zones c.args.key c.args.from c.args.to c.loop-i.first c.requires.within
    c.requires.after (rw last at c.loop-i.invariant)
