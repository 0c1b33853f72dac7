use Rattle.std.proofs.Common.{◌≡◌, ◌+◌, ◌<◌, ◌≤◌, length, arith, ◌∙◌, sym, ap, subst, get_or}
use Rattle.std.proofs.lemmas.Bool.{both_ways}
use Rattle.h3_index.specs.Cell.{number_of}
use Rattle.h3_index.specs.Descendants.{ancestor_at}
use Rattle.h3_regions.specs.Listed.{IsFirstOf}
use Rattle.h3_regions.proofs.ListLaws.{any_default}
use Rattle.h3_regions.proofs.WritingLaws.{begin_before, end_after, passed, written, writing_begins, wrote}
use Rattle.h3_regions.proofs.areas.write_at.Goals as goal
use Rattle.h3_regions.proofs.areas.write_at.Goals.{After-raw-number, then-not-has, else-not-has}

pub first_between-place-requires-clause-before : goal.first_between-place-requires-clause-before
first_between-place-requires-clause-before c =
    let e : c.raw-number.result ≡ number_of (ancestor_at c.args.cell c.args.r) =
    c.raw-number.ensures.number ∙ ap number_of c.ancestor_at-ancestor.ensures.is in
    rw e (begin_before c.cells_form_trees.ensures c.cells_form_intervals.ensures c.numbers_are_unique.ensures
    c.coverages_decide_lists.ensures.ancestors c.args.pairs.now c.requires.listed c.args.cell c.requires.valid
    c.args.r c.requires.coarse c.args.from c.requires.written.start)

pub first_between-place-requires-clause-after : goal.first_between-place-requires-clause-after
first_between-place-requires-clause-after c =
    let e : c.raw-number.result ≡ number_of (ancestor_at c.args.cell c.args.r) =
    c.raw-number.ensures.number ∙ ap number_of c.ancestor_at-ancestor.ensures.is in
    rw e (end_after c.cells_form_trees.ensures c.cells_form_intervals.ensures c.numbers_are_unique.ensures
    c.coverages_decide_lists.ensures.ancestors c.args.pairs.now c.requires.listed c.args.cell c.requires.valid
    c.args.r c.requires.coarse c.args.to c.requires.end)

pub loop-place-init : goal.loop-place-init
loop-place-init c =
    let e : c.raw-number.result ≡ number_of (ancestor_at c.args.cell c.args.r) =
    c.raw-number.ensures.number ∙ ap number_of c.ancestor_at-ancestor.ensures.is in
    let f =
    subst (λ n. IsFirstOf c.args.pairs.now n c.first_between-place.result) e c.first_between-place.ensures.first in (
      c.first_between-place.ensures.high,
      writing_begins c.cells_form_trees.ensures c.cells_form_intervals.ensures c.numbers_are_unique.ensures
          c.coverages_decide_lists.ensures.ancestors c.args.pairs.now c.requires.listed c.args.cell c.requires.valid
          c.args.r
          c.requires.coarse c.args.from c.args.written c.first_between-place.result c.args.numbers.now
          c.requires.written f c.first_between-place.ensures.low,
    )

pub slice_bounds-has-end : goal.slice_bounds-has-end
slice_bounds-has-end c =
    let i = c.loop-place.invariant.1 in
    omega (arith, i.fewer, i.room, i.within)

pub bounds-numbers-count : goal.bounds-numbers-count
bounds-numbers-count c =
    let i = c.loop-place.invariant.1 in
    omega (arith, i.fewer, i.room, c.loop-place-test.true, c.requires.end.within)

pub overflow_add-count : goal.overflow_add-count
overflow_add-count c =
    let i = c.loop-place.invariant.1 in
    omega (arith, i.fewer, i.room, c.loop-place-test.true, c.requires.end.within)

pub loop-place-preserved : goal.loop-place-preserved
loop-place-preserved c =
    let e : c.raw-number.result ≡ number_of (ancestor_at c.args.cell c.args.r) =
    c.raw-number.ensures.number ∙ ap number_of c.ancestor_at-ancestor.ensures.is in
    let room : c.loop-place.place < length c.args.pairs.now =
    omega (arith, c.loop-place-test.true, c.requires.end.within) in
    let pair = get_or c.args.pairs.now c.loop-place.place c.index-pairs-place-in-loop-place.result in
    let is =
    any_default c.args.pairs.now c.loop-place.place c.index-pairs-place-in-loop-place.result pair
    room in
    let number : number_of (get_or c.args.pairs.now c.loop-place.place c.index-pairs-place-in-loop-place.result).0
    ≡ number_of (ancestor_at c.args.cell c.args.r) =
    ap (λ p. number_of p.0) (any_default c.args.pairs.now c.loop-place.place _ _ room)
    ∙ sym c.raw.ensures.number ∙ c.if-raw-number.true ∙ e in
    let next : c.loop-place.place + 1 ≤ c.args.to = omega (arith, c.loop-place-test.true) in
    elim c.if-not-has.branch [
      | then-not-has w ↦
          rw (w.numbers-is, w.count-is) (
            next,
            wrote c.cells_form_trees.ensures c.cells_form_intervals.ensures c.numbers_are_unique.ensures
                c.coverages_decide_lists.ensures.ancestors c.args.pairs.now c.requires.listed c.args.cell
                c.requires.valid c.args.r c.requires.coarse c.first_between-place.result c.loop-place.place
                c.loop-place.count c.loop-place.numbers c.loop-place.invariant.1 pair room is number
                (λ m. both_ways c.has.result w.if-not-has.true (c.has.ensures.1 m)),
          )
      | else-not-has w ↦
          rw (w.numbers-is, w.count-is) (
            next,
            passed c.cells_form_trees.ensures c.cells_form_intervals.ensures c.numbers_are_unique.ensures
                c.coverages_decide_lists.ensures.ancestors c.args.pairs.now c.requires.listed c.args.cell
                c.requires.valid c.args.r c.requires.coarse c.first_between-place.result c.loop-place.place
                c.loop-place.count c.loop-place.numbers c.loop-place.invariant.1 pair room is number
                (c.has.ensures.0 w.if-not-has.false),
          )
    ]

pub returns-else-raw-number : goal.returns-else-raw-number
returns-else-raw-number c =
    let e : c.raw-number.result ≡ number_of (ancestor_at c.args.cell c.args.r) =
    c.raw-number.ensures.number ∙ ap number_of c.ancestor_at-ancestor.ensures.is in
    let f =
    subst (λ n. IsFirstOf c.args.pairs.now n c.first_between-place.result) e c.first_between-place.ensures.first in
    written c.cells_form_trees.ensures c.cells_form_intervals.ensures c.numbers_are_unique.ensures
    c.coverages_decide_lists.ensures.ancestors c.args.pairs.now c.requires.listed c.args.cell c.requires.valid c.args.r
    c.requires.coarse c.first_between-place.result c.loop-place.place c.args.to c.loop-place.count c.loop-place.numbers
    f
    c.loop-place.invariant.1 c.loop-place.invariant.0 c.requires.end
    (λ lt d h.
    c.if-raw-number.false
    (c.raw.ensures.number
    ∙ ap (λ p. number_of p.0)
    (any_default c.args.pairs.now c.loop-place.place _ d (omega (arith, lt, c.requires.end.within)))
    ∙ h ∙ sym e))

pub returns-after-loop-place : goal.returns-after-loop-place
returns-after-loop-place c =
    let e : c.raw-number.result ≡ number_of (ancestor_at c.args.cell c.args.r) =
    c.raw-number.ensures.number ∙ ap number_of c.ancestor_at-ancestor.ensures.is in
    let f =
    subst (λ n. IsFirstOf c.args.pairs.now n c.first_between-place.result) e c.first_between-place.ensures.first in
    written c.cells_form_trees.ensures c.cells_form_intervals.ensures c.numbers_are_unique.ensures
    c.coverages_decide_lists.ensures.ancestors c.args.pairs.now c.requires.listed c.args.cell c.requires.valid c.args.r
    c.requires.coarse c.first_between-place.result c.loop-place.place c.args.to c.loop-place.count c.loop-place.numbers
    f
    c.loop-place.invariant.1 c.loop-place.invariant.0 c.requires.end
    (λ lt d h. omega (arith, lt, c.loop-place-test.false))
