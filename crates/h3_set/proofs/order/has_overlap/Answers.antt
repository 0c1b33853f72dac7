use Rattle.std.proofs.Common.{◌≡◌, ◌+◌, ◌-◌, ◌^◌, ◌<◌, length, get_or, arith, ◌∙◌, sym, inl, inr}
use Rattle.std.proofs.lemmas.Bool.{cases_lt}
use Rattle.h3_index.specs.Cell.{Address, resolution}
use Rattle.h3_tree.specs.PostOrder.{post_order_key as key}
use Rattle.h3_set.proofs.KeyLaws.{block_small, key_small}
use Rattle.h3_set.proofs.OverlapLaws.{by_neighbors, none_where, not_before, overlap_at}
use Rattle.h3_set.proofs.TreeLaws.{any_default}
use Rattle.h3_set.proofs.order.has_overlap.Goals as goal
use Rattle.h3_set.proofs.order.has_overlap.Goals.{After-last_digit_step}

pub overflow_add-post_order_key : goal.overflow_add-post_order_key
overflow_add-post_order_key c =
    omega (
      arith,
      c.post_order_key-in-loop-i.ensures.is,
      key_small c.index-cells-i.result,
      c.last_digit_step.ensures.is,
      block_small (resolution c.index-cells-i-in-loop-i.result),
    )

-- the two neighbors, whatever the default
before : (c : After-last_digit_step) (d : Address) → get_or c.args.cells.now (c.loop-i.i - 1) d ≡ c.index-cells-i.result
before c d =
    let lt : c.loop-i.i < length c.args.cells.now = omega arith in
    any_default c.args.cells.now (c.loop-i.i - 1) d c.index-cells-i.result (omega (arith, lt)) ∙ sym c.index-cells-i.is

here : (c : After-last_digit_step) (d : Address)
    → get_or c.args.cells.now c.loop-i.i d ≡ c.index-cells-i-in-loop-i.result
here c d =
    let lt : c.loop-i.i < length c.args.cells.now = omega arith in
    any_default c.args.cells.now c.loop-i.i d c.index-cells-i-in-loop-i.result lt ∙ sym c.index-cells-i-in-loop-i.is

pub returns-then-post_order_key-last_digit_step : goal.returns-then-post_order_key-last_digit_step
returns-then-post_order_key-last_digit_step c =
    let cells = c.args.cells.now in
    let i = c.loop-i.i in
    let d = c.index-cells-i.result in
    let lt : c.loop-i.i < length c.args.cells.now = omega arith in
    let back : c.loop-i.i - 1 < length c.args.cells.now = omega (arith, lt) in
    let key_is : key (get_or c.args.cells.now c.loop-i.i d)
    < key (get_or c.args.cells.now (c.loop-i.i - 1) d) + 8 ^ (15 - resolution (get_or c.args.cells.now c.loop-i.i d)) =
    rw (before c.before d, here c.before d) (omega (
      arith,
      c.if-post_order_key-last_digit_step.true,
      c.post_order_key.ensures.is,
      c.post_order_key-in-loop-i.ensures.is,
      c.last_digit_step.ensures.is,
    )) in
    sym (overlap_at cells (i - 1) i d (omega arith) lt (not_before c.cells_form_intervals.ensures _ _
    (c.requires.valid (i - 1) d back) (c.requires.valid i d lt) (c.requires.in_order (i - 1) i d (omega arith) lt)
    key_is))

pub loop-i-preserved : goal.loop-i-preserved
loop-i-preserved c = λ k d pos lt.
    elim (cases_lt k c.loop-i.i) [
      | inl less ↦ c.loop-i.invariant k d pos less
      | inr not ↦
          let is : k ≡ c.loop-i.i = omega (arith, lt, not) in
          rw (is, before c.before d, here c.before d) (omega (
            arith,
            c.if-post_order_key-last_digit_step.false,
            c.post_order_key.ensures.is,
            c.post_order_key-in-loop-i.ensures.is,
            c.last_digit_step.ensures.is,
          ))
    ]

pub returns : goal.returns
returns c =
    sym (none_where c.args.cells.now (by_neighbors c.cells_form_intervals.ensures c.args.cells.now c.requires.valid
    c.requires.in_order (λ k d pos lt. c.loop-i.invariant k d pos (omega (arith, lt)))))
