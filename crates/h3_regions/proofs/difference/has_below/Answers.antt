use Rattle.std.proofs.Common.{◌≡◌, ◌<◌, ◌≤◌, ◌↔◌, length, true, nat_le, arith, sym}
use Rattle.h3_tree.specs.PostOrder.{post_order_key}
use Rattle.h3_regions.proofs.TestLaws.{at_most_decides, end_has_none, told_below}
use Rattle.h3_regions.proofs.difference.has_below.Goals as goal

pub returns-then-first-cells : goal.returns-then-first-cells
returns-then-first-cells c =
    sym (end_has_none c.coverages_decide_lists.ensures.ancestors c.cells_form_trees.ensures
    c.cells_form_intervals.ensures c.args.cells.now c.requires.region c.args.cell c.post_order_key-key.ensures.valid
    c.args.first c.requires.first c.if-first-cells.true)

pub returns : goal.returns
returns c =
    let lt : c.args.first < length c.args.cells.now = omega (arith, c.if-first-cells.false, c.requires.first.within) in
    let decides : (nat_le c.post_order_key.result c.post_order_key-key.result ≡ true)
    ↔ (post_order_key c.index-cells-first.result ≤ post_order_key c.args.cell) =
    rw (c.post_order_key.ensures.is, c.post_order_key-key.ensures.is)
    (at_most_decides (post_order_key c.index-cells-first.result) (post_order_key c.args.cell)) in
    told_below c.coverages_decide_lists.ensures.ancestors c.cells_form_trees.ensures c.cells_form_intervals.ensures
    c.args.cells.now c.requires.region c.args.cell c.post_order_key-key.ensures.valid c.args.first c.requires.first
    lt c.index-cells-first.result c.index-cells-first.is
    (nat_le c.post_order_key.result c.post_order_key-key.result) decides
