use Rattle.std.proofs.Common.{◌≡◌, ◌+◌, ◌-◌, ◌≤◌, ◌++◌, List, length, take, drop, set, arith, ap, sym, subst}
use Rattle.std.proofs.lemmas.List.{length-take, take_rest}
use Rattle.h3_index.specs.Cell.{Address}
use Rattle.h3_index.specs.Descendants.{descendants}
use Rattle.h3_set.specs.Closing.{HasNoSet, IsClosing, StandsFor}
use Rattle.h3_set.specs.Compacted.{parent_of}
use Rattle.h3_set.proofs.EndLaws.{before_written, first_left, last_written, pass_goes_on, set_stands, written_rises}
use Rattle.h3_set.proofs.closing.close_ahead.Goals as goal
use Rattle.h3_set.proofs.closing.close_ahead.Goals.{After-close-w, After-ancestor_at-parent}

pub loop-i-init : goal.loop-i-init
loop-i-init c = record {
  further = omega arith;
  behind = c.requires.closing.1.behind;
  within = c.requires.closing.1.within;
  closing = λ _ h. h;
}

pub bounds-cells-i : goal.bounds-cells-i
bounds-cells-i c = c.loop-i-test.true

pub returns-then-count-eq0-clause-closing : goal.returns-then-count-eq0-clause-closing
returns-then-count-eq0-clause-closing c = c.loop-i.invariant.closing

pub returns-clause-closing : goal.returns-clause-closing
returns-clause-closing c = c.loop-i.invariant.closing

pub returns-then-count-eq0-clause-further : goal.returns-then-count-eq0-clause-further
returns-then-count-eq0-clause-further c = c.loop-i.invariant.further

pub returns-clause-further : goal.returns-clause-further
returns-clause-further c = c.loop-i.invariant.further

pub siblings_at_front-count-requires-clause-first : goal.siblings_at_front-count-requires-clause-first
siblings_at_front-count-requires-clause-first c =
    first_left c.loop-i.cells c.loop-i.i c.index-cells-i.result c.index-cells-i.is

-- the set that comes next
found : (c : After-ancestor_at-parent)
    → take c.siblings_at_front-count.result (drop c.loop-i.i c.loop-i.cells)
    ≡ descendants (parent_of c.index-cells-i.result) c.args.level
found c =
    let tail : take (length c.loop-i.cells - c.loop-i.i) (drop c.loop-i.i c.loop-i.cells)
    ≡ drop c.loop-i.i c.loop-i.cells =
    take_rest c.loop-i.cells c.loop-i.i in
    rw tail at (c.siblings_at_front-count.ensures.siblings (omega (arith, c.if-count-eq0.false)))

fits : (c : After-ancestor_at-parent) → c.siblings_at_front-count.result ≤ length (drop c.loop-i.i c.loop-i.cells)
fits c =
    omega (
      arith,
      ap length (found c),
      length-take c.siblings_at_front-count.result (drop c.loop-i.i c.loop-i.cells),
      c.siblings_at_front-count.ensures.count (omega (arith, c.if-count-eq0.false)),
    )

stands : (c : After-ancestor_at-parent) (all : List Address) → IsClosing all c.loop-i.cells c.loop-i.w c.loop-i.i
    → StandsFor c.ancestor_at-parent.result (take c.siblings_at_front-count.result (drop c.loop-i.i c.loop-i.cells))
stands c all inv =
    set_stands c.cells_form_trees.ensures all c.loop-i.cells c.loop-i.w c.loop-i.i inv c.loop-i-test.true
    c.index-cells-i.result c.index-cells-i.is c.args.level c.siblings_at_front-count.result
    c.ancestor_at-parent.result c.requires.some_level
    (c.siblings_at_front-count.ensures.level (omega (arith, c.if-count-eq0.false))) c.ancestor_at-parent.ensures.is
    c.ancestor_at-parent.ensures.valid (found c)

-- a list that the pass goes over
inv_at : (c : After-ancestor_at-parent) → IsClosing c.requires.closing.0 c.loop-i.cells c.loop-i.w c.loop-i.i
inv_at c = c.loop-i.invariant.closing c.requires.closing.0 c.requires.closing.1

pub close-w-requires-clause-last : goal.close-w-requires-clause-last
close-w-requires-clause-last c =
    last_written c.loop-i.cells c.loop-i.w c.ancestor_at-parent.result
    (omega (arith, (inv_at c.before).behind, c.loop-i-test.true))

pub close-w-requires-clause-rising : goal.close-w-requires-clause-rising
close-w-requires-clause-rising c =
    let all = c.requires.closing.0 in
    let inv = inv_at c.before in
    written_rises c.cells_form_trees.ensures c.cells_form_intervals.ensures all c.loop-i.cells c.loop-i.w c.loop-i.i
    c.siblings_at_front-count.result c.ancestor_at-parent.result inv c.loop-i-test.true
    (omega (arith, c.if-count-eq0.false)) (fits c.before) (stands c.before all inv)

pub close-w-requires-clause-closed : goal.close-w-requires-clause-closed
close-w-requires-clause-closed c =
    let inv = inv_at c.before in
    subst HasNoSet
    (sym (before_written c.loop-i.cells c.loop-i.w c.ancestor_at-parent.result
    (omega (arith, inv.behind, c.loop-i-test.true))))
    inv.closed

-- any such list, after the write
goes_on : (c : After-close-w) (all : List Address) → IsClosing all c.loop-i.cells c.loop-i.w c.loop-i.i
    → IsClosing all
    (c.close-w.new.cells ++ drop (c.loop-i.w + 1) (set c.loop-i.cells c.loop-i.w c.ancestor_at-parent.result))
    c.close-w.result (c.loop-i.i + c.siblings_at_front-count.result)
goes_on c all inv =
    let made = c.close-w.ensures in
    pass_goes_on c.cells_form_trees.ensures c.cells_form_intervals.ensures all c.loop-i.cells c.loop-i.w c.loop-i.i
    c.siblings_at_front-count.result c.ancestor_at-parent.result inv c.loop-i-test.true
    (omega (arith, c.if-count-eq0.false)) (fits c.before.before) (stands c.before.before all inv)
    c.close-w.new.cells c.close-w.result c.close-w.auto.cells made.within made.leads made.closed

pub loop-i-preserved : goal.loop-i-preserved
loop-i-preserved c =
    let here = goes_on c.before c.requires.closing.0 (inv_at c.before.before.before) in
    record {
      further = omega (arith, c.loop-i.invariant.further);
      behind = here.behind;
      within = here.within;
      closing = λ all h. goes_on c.before all (c.loop-i.invariant.closing all h);
    }
