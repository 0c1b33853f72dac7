use Rattle.std.proofs.Common.{◌≡◌, ◌-◌, ◌<◌, ◌∙◌, length, take, drop, arith, sym, ap}
use Rattle.std.proofs.lemmas.List.{get_or-take, length-take, take_rest}
use Rattle.h3_index.specs.Descendants.{ancestor_at}
use Rattle.h3_set.specs.Compacted.{parent_of}
use Rattle.h3_set.proofs.EndLaws.{first_left}
use Rattle.h3_set.proofs.Seen.{IsRoundSoFar}
use Rattle.h3_set.proofs.SeenLaws.{round_from, round_to}
use Rattle.h3_set.proofs.MergeLaws.{merge_cases_in_order, merge_run_in_order}
use Rattle.h3_set.proofs.merge.merge_runs.Goals as goal
use Rattle.h3_set.proofs.merge.merge_runs.Goals.{then-count-gt0, else-count-gt0}

pub siblings_at_front-count-requires-clause-first : goal.siblings_at_front-count-requires-clause-first
siblings_at_front-count-requires-clause-first c =
    first_left c.loop-i.cells c.loop-i.i c.index-cells-i.result c.index-cells-i.is

pub overflow_add-i : goal.overflow_add-i
overflow_add-i c =
    let count = c.siblings_at_front-count.result in
    let left = take (length c.loop-i.cells - c.loop-i.i) (drop c.loop-i.i c.loop-i.cells) in
    let found = c.siblings_at_front-count.ensures in
    omega (
      arith,
      found.count c.if-count-gt0.true,
      ap length (found.siblings c.if-count-gt0.true),
      length-take count left,
      length-take (length c.loop-i.cells - c.loop-i.i) (drop c.loop-i.i c.loop-i.cells),
    )

pub loop-i-preserved : goal.loop-i-preserved
loop-i-preserved c =
    let tree = c.cells_form_trees.ensures in
    let all = c.args.cells.now in
    let now = c.loop-i.cells in
    let x = c.index-cells-i.result in
    let inv = c.loop-i.invariant.merging in
    let lt : c.loop-i.i < length c.loop-i.cells = omega (arith, inv.so_far.size) in
    let tail : take (length c.loop-i.cells - c.loop-i.i) (drop c.loop-i.i c.loop-i.cells)
    ≡ drop c.loop-i.i c.loop-i.cells =
    take_rest c.loop-i.cells c.loop-i.i in
    let found = c.siblings_at_front-count in
    elim c.if-count-gt0.branch [
      | then-count-gt0 w ↦
          let level = found.ensures.level w.if-count-gt0.true in
          let above : w.ancestor_at.result ≡ parent_of x =
          w.ancestor_at.ensures.is ∙ ap (λ k. ancestor_at x (k - 1)) (sym level) in
          rw (w.cells-is, w.i-is, above) (merge_run_in_order tree c.cells_form_intervals.ensures all c.args.level
          c.requires.some_level c.requires.apart c.requires.in_order c.requires.valid c.loop-i.i c.loop-i.written
          now x inv lt c.index-cells-i.is level found.result w.if-count-gt0.true
          (found.ensures.count w.if-count-gt0.true) (rw tail at (found.ensures.siblings w.if-count-gt0.true))
          c.loop-i.invariant.in_order c.loop-i.invariant.before)
      | else-count-gt0 w ↦
          rw (w.cells-is, w.i-is) (merge_cases_in_order tree c.cells_form_intervals.ensures all c.args.level
          c.requires.some_level c.requires.apart c.requires.in_order c.requires.valid c.loop-i.i c.loop-i.written
          now x inv lt c.index-cells-i.is (λ level h. found.ensures.none (omega arith) level (rw (← tail) at h))
          c.loop-i.invariant.in_order c.loop-i.invariant.before)
    ]

pub returns-clause-fewer : goal.returns-clause-fewer
returns-clause-fewer c = omega (arith, c.loop-i.invariant.merging.inside, c.loop-i.invariant.merging.so_far.behind)

pub returns-clause-members : goal.returns-clause-members
returns-clause-members c =
    let tree = c.cells_form_trees.ensures in
    let last : c.loop-i.i ≡ length c.args.cells.now =
    omega (arith, c.loop-i.invariant.merging.so_far.size, c.loop-i.invariant.merging.inside) in
    let done : IsRoundSoFar c.args.cells.now c.args.level (length c.args.cells.now)
    (take c.loop-i.written c.loop-i.cells) =
    rw (← last) c.loop-i.invariant.merging.so_far.written in
    λ x. (round_from tree c.args.cells.now c.args.level _ done x, round_to tree c.args.cells.now c.args.level _ done x)

pub returns-clause-in_order : goal.returns-clause-in_order
returns-clause-in_order c = λ a b d less within.
    let inv = c.loop-i.invariant in
    let last : b < c.loop-i.written = omega (arith, within, length-take c.loop-i.written c.loop-i.cells) in
    rw (
      get_or-take c.loop-i.written c.loop-i.cells a d (omega arith),
      get_or-take c.loop-i.written c.loop-i.cells b d last,
    )
    (inv.in_order a b d less last)
