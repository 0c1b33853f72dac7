use Rattle.std.proofs.Common.{◌≡◌, ◌-◌, ◌<◌, ◌∙◌, ℕ, arith, drop, get_or, length}
use Rattle.std.proofs.lemmas.List.{length-drop, length-take-le}
use Rattle.h3_command.specs.ByValue.{part_of}
use Rattle.h3_command.proofs.CuttingLists.{next_ordered, next_within, one_cut}
use Rattle.h3_command.proofs.by_region.cut_lists.Goals as goal

pub loop-k-preserved : goal.loop-k-preserved
loop-k-preserved c =
    let kind = c.args.kind in
    let region = c.args.region.now in
    let old = c.args.cells.now in
    let begun = c.args.parts.now in
    let cells = c.loop-k.cells in
    let parts = c.loop-k.parts in
    let made = c.loop-k.made.items in
    let k = c.loop-k.k in
    let inv = c.loop-k.invariant in
    let lt : c.loop-k.k < length c.args.parts.now = omega (arith, c.loop-k-test.true, c.loop-k.invariant.size_is) in
    let p : ℕ × ℕ = get_or c.loop-k.parts c.loop-k.k (0, 0) in
    let order = next_ordered kind region old begun cells parts made k lt c.requires inv in
    let within = next_within kind region old begun cells parts made k lt c.requires inv in
    let own : length (part_of c.loop-k.cells p) ≡ p.1 - p.0 =
    length-take-le (p.1 - p.0) (drop p.0 c.loop-k.cells)
    (omega (arith, length-drop p.0 c.loop-k.cells, order, within)) in
    let begin_is : c.len-begin.result ≡ length c.loop-k.made.items =
    omega (arith, c.len-begin.ensures, c.loop-k.made.ok) in
    let end_is : c.len.result ≡ length c.cut_value.new.made.items =
    omega (arith, c.len.ensures, c.cut_value.new.made.ok) in
    one_cut kind region old begun cells parts made k lt c.requires inv c.cut_value.new.cells c.cut_value.new.made.items
    c.len-begin.result c.len.result begin_is end_is (c.cut_value.auto.cells ∙ own) c.in_ok-cut_value.ensures.ok
