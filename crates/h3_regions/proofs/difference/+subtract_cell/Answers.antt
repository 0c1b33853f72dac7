use Rattle.std.specs.Iterator.{Yields, YieldsFirst}
use Rattle.std.proofs.Common.{◌≡◌, ◌+◌, ◌-◌, ◌<◌, ◌++◌, length, take, true, false, refl, arith, ◌∙◌, sym, ap}
use Rattle.std.proofs.lemmas.List.{take_more_set}
use Rattle.h3_index.specs.Cell.{resolution}
use Rattle.h3_index.specs.Descendants.{children}
use Rattle.h3_tree.specs.Children.{children_left}
use Rattle.h3_set.specs.Coverage.{is_covered}
use Rattle.h3_regions.specs.Difference.{has_below, left_of}
use Rattle.h3_regions.proofs.LeavingLaws.{append-nil, left_gone, left_of_children, left_whole, listed_child, next_is, one_more, so_far_is, splits_coarse, too_many}
use Rattle.h3_regions.proofs.difference.+subtract_cell.Goals as goal

pub returns-then-is_covered-clause-left : goal.returns-then-is_covered-clause-left
returns-then-is_covered-clause-left t c =
    rw
    (left_gone c.args.others.now (15 - resolution c.args.cell) c.args.cell
    (sym c.is_covered.ensures.is ∙ c.if-is_covered.true))
    (sym (append-nil (take c.args.written c.args.slots.now)))

pub returns-then-written-slots-clause-none : goal.returns-then-written-slots-clause-none
returns-then-written-slots-clause-none t c = λ _.
    let whole =
    left_whole c.args.others.now (15 - resolution c.args.cell) c.args.cell
    (sym c.is_covered.ensures.is ∙ c.if-is_covered.false) (sym c.has_below.ensures ∙ c.if-not-has_below.true) in
    omega (arith, ap length whole, c.if-written-slots.true)

pub returns-then-not-has_below-clause-left : goal.returns-then-not-has_below-clause-left
returns-then-not-has_below-clause-left t c =
    let whole =
    left_whole c.args.others.now (15 - resolution c.args.cell) c.args.cell
    (sym c.is_covered.ensures.is ∙ c.if-is_covered.false) (sym c.has_below.ensures ∙ c.if-not-has_below.true) in
    let room : c.args.written < length c.args.slots.now = omega (arith, c.requires.room, c.if-written-slots.false) in
    rw whole (take_more_set c.args.slots.now c.args.written c.args.cell room)

pub children_at-child-items-requires-clause-at_most_fifteen :
    goal.children_at-child-items-requires-clause-at_most_fifteen
children_at-child-items-requires-clause-at_most_fifteen t c =
    omega (
      arith,
      c.resolution.ensures.number,
      splits_coarse c.cells_form_trees.ensures c.coverages_decide_lists.ensures.ancestors c.args.others.now
          c.args.cell c.requires.others c.is_covered.ensures.valid
          (sym c.is_covered.ensures.is ∙ c.if-is_covered.false) (sym c.has_below.ensures ∙ c.if-not-has_below.false),
    )

pub subtract_cell-requires : goal.subtract_cell-requires
subtract_cell-requires t c =
    let coarse : resolution c.args.cell < 15 =
    splits_coarse c.cells_form_trees.ensures c.coverages_decide_lists.ensures.ancestors c.args.others.now
    c.args.cell c.requires.others c.is_covered.ensures.valid
    (sym c.is_covered.ensures.is ∙ c.if-is_covered.false)
    (sym c.has_below.ensures ∙ c.if-not-has_below.false) in
    let so_far : Yields (YieldsFirst children_left) c.into_iter-child-iterator.result c.loop-child.yielded
    c.loop-child.child-iterator =
    c.loop-child.yielded_by in
    let level = listed_child c.cells_form_trees.ensures c.args.cell c.in-Some.child c.loop-child.yielded _
    c.is_covered.ensures.valid coarse (next_is c.args.cell (c.resolution.result + 1) (resolution c.args.cell)
    c.children_at-child-items.result c.into_iter-child-iterator.result (omega (arith, c.resolution.ensures.number))
    c.children_at-child-items.ensures.list c.into_iter-child-iterator.ensures.into_iter_gives c.loop-child.yielded
    c.loop-child.child-iterator _ so_far c.in-Some.child c.in-Some.ensures.steps) in (
      omega (arith, level, coarse, c.decreases),
      (c.requires.others, omega (arith, c.loop-child.invariant.within, c.loop-child.invariant.size)),
    )

pub loop-child-preserved : goal.loop-child-preserved
loop-child-preserved t c =
    let coarse : resolution c.args.cell < 15 =
    splits_coarse c.cells_form_trees.ensures c.coverages_decide_lists.ensures.ancestors c.args.others.now
    c.args.cell c.requires.others c.is_covered.ensures.valid
    (sym c.is_covered.ensures.is ∙ c.if-is_covered.false)
    (sym c.has_below.ensures ∙ c.if-not-has_below.false) in
    let so_far : Yields (YieldsFirst children_left) c.into_iter-child-iterator.result c.loop-child.yielded
    c.loop-child.child-iterator =
    c.loop-child.yielded_by in
    let level = listed_child c.cells_form_trees.ensures c.args.cell c.in-Some.child c.loop-child.yielded _
    c.is_covered.ensures.valid coarse (next_is c.args.cell (c.resolution.result + 1) (resolution c.args.cell)
    c.children_at-child-items.result c.into_iter-child-iterator.result (omega (arith, c.resolution.ensures.number))
    c.children_at-child-items.ensures.list c.into_iter-child-iterator.ensures.into_iter_gives c.loop-child.yielded
    c.loop-child.child-iterator _ so_far c.in-Some.child c.in-Some.ensures.steps) in
    let fuel : 15 - resolution c.in-Some.child ≡ 14 - resolution c.args.cell = omega (arith, level) in
    one_more (left_of c.args.others.now (14 - resolution c.args.cell)) c.args.slots.now c.args.written
    c.loop-child.yielded c.loop-child.slots c.loop-child.count c.in-Some.child c.loop-child.invariant
    c.subtract_cell.new.slots c.in-Some-subtract_cell.more c.subtract_cell.auto.slots
    c.in-Some-subtract_cell.ensures.within (rw fuel at c.in-Some-subtract_cell.ensures.left)

pub returns-in-None-subtract_cell-clause-none : goal.returns-in-None-subtract_cell-clause-none
returns-in-None-subtract_cell-clause-none t c = λ _.
    let covered : is_covered c.args.others.now c.args.cell ≡ false =
    sym c.is_covered.ensures.is ∙ c.if-is_covered.false in
    let below : has_below c.args.others.now c.args.cell ≡ true = sym c.has_below.ensures ∙ c.if-not-has_below.false in
    let coarse : resolution c.args.cell < 15 =
    splits_coarse c.cells_form_trees.ensures c.coverages_decide_lists.ensures.ancestors c.args.others.now
    c.args.cell c.requires.others c.is_covered.ensures.valid covered below in
    let so_far : Yields (YieldsFirst children_left) c.into_iter-child-iterator.result c.loop-child.yielded
    c.loop-child.child-iterator =
    c.loop-child.yielded_by in
    let list =
    next_is c.args.cell (c.resolution.result + 1) (resolution c.args.cell) c.children_at-child-items.result
    c.into_iter-child-iterator.result (omega (arith, c.resolution.ensures.number))
    c.children_at-child-items.ensures.list c.into_iter-child-iterator.ensures.into_iter_gives
    c.loop-child.yielded c.loop-child.child-iterator _ so_far c.in-Some.child c.in-Some.ensures.steps in
    let level =
    listed_child c.cells_form_trees.ensures c.args.cell c.in-Some.child c.loop-child.yielded _
    c.is_covered.ensures.valid coarse list in
    let fuel : 15 - resolution c.in-Some.child ≡ 14 - resolution c.args.cell = omega (arith, level) in
    let full =
    too_many (left_of c.args.others.now (14 - resolution c.args.cell)) c.args.slots.now c.args.written
    c.loop-child.yielded c.loop-child.slots c.loop-child.count c.in-Some.child c.loop-child.invariant _
    c.requires.room (rw fuel at (c.in-None-subtract_cell.ensures.none refl)) in
    rw (left_of_children c.args.others.now c.args.cell coarse covered below, list) full

pub returns-clause-left : goal.returns-clause-left
returns-clause-left t c =
    let covered : is_covered c.args.others.now c.args.cell ≡ false =
    sym c.is_covered.ensures.is ∙ c.if-is_covered.false in
    let below : has_below c.args.others.now c.args.cell ≡ true = sym c.has_below.ensures ∙ c.if-not-has_below.false in
    let coarse : resolution c.args.cell < 15 =
    splits_coarse c.cells_form_trees.ensures c.coverages_decide_lists.ensures.ancestors c.args.others.now
    c.args.cell c.requires.others c.is_covered.ensures.valid covered below in
    let so_far : Yields (YieldsFirst children_left) c.into_iter-child-iterator.result c.loop-child.yielded
    c.loop-child.child-iterator =
    c.loop-child.yielded_by in
    let list : children c.args.cell ≡ c.loop-child.yielded =
    so_far_is c.args.cell (c.resolution.result + 1) (resolution c.args.cell) c.children_at-child-items.result
    c.into_iter-child-iterator.result (omega (arith, c.resolution.ensures.number))
    c.children_at-child-items.ensures.list c.into_iter-child-iterator.ensures.into_iter_gives
    c.loop-child.yielded c.loop-child.child-iterator c.loop-child.child-iterator so_far
    ∙ ap (λ l. c.loop-child.yielded ++ l) c.in-None.ensures.steps.0 ∙ append-nil c.loop-child.yielded in
    rw (left_of_children c.args.others.now c.args.cell coarse covered below, list) c.loop-child.invariant.put
