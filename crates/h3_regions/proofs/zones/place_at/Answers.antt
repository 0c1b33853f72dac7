use Rattle.std.proofs.Common.{◌-◌, ◌<◌, length, Some, arith, ◌∙◌, sym, ap}
use Rattle.std.proofs.Math.Nat.{one-le-pow}
use Rattle.h3_index.specs.Cell.{resolution}
use Rattle.h3_regions.proofs.ListLaws.{any_default}
use Rattle.h3_regions.proofs.SearchLaws.{only_place, stands_near}
use Rattle.h3_regions.proofs.zones.place_at.Goals as goal

pub returns-then-post_order_key-key-clause-one : goal.returns-then-post_order_key-key-clause-one
returns-then-post_order_key-key-clause-one c = λ i lt above.
    sym (ap Some (only_place c.args.cells.now c.requires.zones c.cells_form_intervals.ensures c.args.cell
    c.post_order_key-key.ensures.valid c.args.first c.requires.first i lt above))

pub returns-else-post_order_key-key-clause-one : goal.returns-else-post_order_key-key-clause-one
returns-else-post_order_key-key-clause-one c = λ i li above.
    let lt : c.args.first < length c.args.cells.now = omega (arith, c.if-first-cells.false, c.requires.first.within) in
    let near = stands_near c.args.cells.now c.requires.zones c.cells_form_intervals.ensures c.args.cell
    c.post_order_key-key.ensures.valid c.args.first c.requires.first lt c.index-cells-first.result
    (λ d. any_default c.args.cells.now c.args.first d c.index-cells-first.result lt ∙ sym c.index-cells-first.is) i
    li above in
    absurd (omega (
      arith,
      near,
      c.if-post_order_key-key.false,
      c.post_order_key-key.ensures.is,
      c.post_order_key.ensures.is,
      c.last_digit_step.ensures.is,
      one-le-pow (15 - resolution c.index-cells-first.result) 8 (omega arith),
    ))
