use Rattle.std.proofs.Common.{◌≡◌, ◌+◌, ◌<◌, ◌≤◌, length, arith, ◌∙◌, sym, get_or}
use Rattle.std.proofs.lemmas.Bool.{both_ways}
use Rattle.h3_index.specs.Cell.{Address}
use Rattle.h3_tree.specs.PostOrder.{post_order_key as key}
use Rattle.h3_regions.proofs.ListLaws.{any_default}
use Rattle.h3_regions.proofs.IntersectionLaws.{subtract_cell, turned, write}
use Rattle.h3_regions.proofs.intersection.merge_to.Goals as goal
use Rattle.h3_regions.proofs.intersection.merge_to.Goals.{then-is_below, else-is_below, then-is_below-2, else-is_below-2}

pub loop-i-preserved-then-post_order_key : goal.loop-i-preserved-then-post_order_key
loop-i-preserved-then-post_order_key c =
    let tree = c.cells_form_trees.ensures in
    let intervals = c.cells_form_intervals.ensures in
    let a = c.args.first.now in
    let b = c.args.second.now in
    let x = c.index-first-i.result in
    let y = c.index-second-j.result in
    let li : c.loop-i.i < length c.args.first.now = omega (arith, c.loop-i-test.true, c.requires.within_first) in
    let lj : c.loop-i.j < length c.args.second.now = omega (arith, c.if-j-to.true, c.requires.within_second) in
    let x_is : (d : Address) → get_or c.args.first.now c.loop-i.i d ≡ c.index-first-i.result =
    λ d. any_default c.args.first.now c.loop-i.i d c.index-first-i.result li ∙ sym c.index-first-i.is in
    let y_is : (d : Address) → get_or c.args.second.now c.loop-i.j d ≡ c.index-second-j.result =
    λ d. any_default c.args.second.now c.loop-i.j d c.index-second-j.result lj ∙ sym c.index-second-j.is in
    let le : key c.index-first-i.result ≤ key c.index-second-j.result =
    omega (arith, c.if-post_order_key.true, c.post_order_key.ensures.is, c.post_order_key-in-loop-i.ensures.is) in
    record {
      seen = elim c.if-is_below.branch [
        | then-is_below w ↦
            rw (w.slots-is, w.written-is) (write tree intervals a b c.loop-i.slots c.requires.first_list
            c.requires.second_list c.loop-i.i c.loop-i.j c.loop-i.written c.loop-i.invariant.seen x y li lj x_is
            y_is le (c.is_below.ensures.0 w.if-is_below.true))
        | else-is_below w ↦
            rw (w.slots-is, w.written-is) (subtract_cell tree intervals a b c.loop-i.slots c.requires.first_list
            c.requires.second_list c.loop-i.i c.loop-i.j c.loop-i.written c.loop-i.invariant.seen x y li lj x_is
            y_is le (λ above. both_ways c.is_below.result w.if-is_below.false (c.is_below.ensures.1 above)))
      ];
      on_first = omega (arith, c.loop-i.invariant.on_first);
      on_second = c.loop-i.invariant.on_second;
    }

pub loop-i-preserved : goal.loop-i-preserved
loop-i-preserved c =
    let tree = c.cells_form_trees.ensures in
    let intervals = c.cells_form_intervals.ensures in
    let a = c.args.first.now in
    let b = c.args.second.now in
    let x = c.index-first-i.result in
    let y = c.index-second-j.result in
    let li : c.loop-i.i < length c.args.first.now = omega (arith, c.loop-i-test.true, c.requires.within_first) in
    let lj : c.loop-i.j < length c.args.second.now = omega (arith, c.if-j-to.true, c.requires.within_second) in
    let x_is : (d : Address) → get_or c.args.first.now c.loop-i.i d ≡ c.index-first-i.result =
    λ d. any_default c.args.first.now c.loop-i.i d c.index-first-i.result li ∙ sym c.index-first-i.is in
    let y_is : (d : Address) → get_or c.args.second.now c.loop-i.j d ≡ c.index-second-j.result =
    λ d. any_default c.args.second.now c.loop-i.j d c.index-second-j.result lj ∙ sym c.index-second-j.is in
    let le : key c.index-second-j.result ≤ key c.index-first-i.result =
    omega (arith, c.if-post_order_key.false, c.post_order_key.ensures.is, c.post_order_key-in-loop-i.ensures.is) in
    let s = turned a b c.loop-i.slots c.loop-i.i c.loop-i.j c.loop-i.written c.loop-i.invariant.seen in
    record {
      seen = elim c.if-is_below-2.branch [
        | then-is_below-2 w ↦
            rw (w.slots-is, w.written-is) (turned b a _ (c.loop-i.j + 1) c.loop-i.i _
            (write tree intervals b a c.loop-i.slots c.requires.second_list c.requires.first_list c.loop-i.j
            c.loop-i.i c.loop-i.written s y x lj li y_is x_is le
            (c.is_below-else-post_order_key.ensures.0 w.if-is_below-2.true)))
        | else-is_below-2 w ↦
            rw (w.slots-is, w.written-is) (turned b a _ (c.loop-i.j + 1) c.loop-i.i _
            (subtract_cell tree intervals b a c.loop-i.slots c.requires.second_list c.requires.first_list c.loop-i.j
            c.loop-i.i c.loop-i.written s y x lj li y_is x_is le
            (λ above. both_ways c.is_below-else-post_order_key.result w.if-is_below-2.false
            (c.is_below-else-post_order_key.ensures.1 above))))
      ];
      on_first = c.loop-i.invariant.on_first;
      on_second = omega (arith, c.loop-i.invariant.on_second);
    }
