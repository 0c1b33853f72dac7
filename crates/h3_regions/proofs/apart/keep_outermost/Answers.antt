use Rattle.std.proofs.Common.{◌≡◌, ◌+◌, ◌-◌, ◌<◌, length, arith, sym, subst, inl, inr}
use Rattle.std.proofs.lemmas.Bool.{both_ways}
use Rattle.h3_regions.proofs.OutermostLaws.{alike_kept, apart_all, dropped_at, IsKeepingPairs, kept, not_above, not_later, outer_kept, refused_at}
use Rattle.h3_regions.proofs.apart.keep_outermost.Goals as goal
use Rattle.h3_regions.proofs.apart.keep_outermost.Goals.{else-top-pairs-via-then-top-pairs+else-is_below, else-top-pairs-via-else-top-pairs}

pub is_below-requires : goal.is_below-requires
is_below-requires c =
    let back : c.loop-i.i ≡ c.loop-i.i - 1 + 1 = omega (arith, c.loop-i-test.true) in
    let inv = subst (λ k. IsKeepingPairs c.args.pairs.now c.loop-i.pairs k c.loop-i.top) back c.loop-i.invariant in
    let i = c.loop-i.invariant in
    not_later c.cells_form_trees.ensures c.cells_form_intervals.ensures c.args.pairs.now c.requires.valid
    c.requires.in_order c.loop-i.pairs (c.loop-i.i - 1) c.loop-i.top inv c.index-pairs-i.result
    (omega (arith, i.low, i.high, i.size, c.loop-i-test.true)) c.index-pairs-i.is c.loop-i.top c.index-pairs-top.result
    (omega arith) (omega (arith, c.if-top-pairs.true, i.size))

pub returns-then-pair-pairs-clause-refused : goal.returns-then-pair-pairs-clause-refused
returns-then-pair-pairs-clause-refused c =
    let back : c.loop-i.i ≡ c.loop-i.i - 1 + 1 = omega (arith, c.loop-i-test.true) in
    let inv = subst (λ k. IsKeepingPairs c.args.pairs.now c.loop-i.pairs k c.loop-i.top) back c.loop-i.invariant in
    let i = c.loop-i.invariant in
    refused_at c.cells_form_trees.ensures c.cells_form_intervals.ensures c.args.pairs.now c.requires.valid
    c.requires.in_order c.loop-i.pairs (c.loop-i.i - 1) c.loop-i.top inv c.index-pairs-i.result
    (omega (arith, i.low, i.high, i.size, c.loop-i-test.true)) c.index-pairs-i.is c.if-top-pairs.true
    c.index-pairs-top.result c.index-pairs-top-then-is_below.result (c.is_below.ensures.0 c.if-is_below.true)
    c.if-pair-pairs.true

pub loop-i-preserved-then-is_below : goal.loop-i-preserved-then-is_below
loop-i-preserved-then-is_below c =
    let back : c.loop-i.i ≡ c.loop-i.i - 1 + 1 = omega (arith, c.loop-i-test.true) in
    let inv = subst (λ k. IsKeepingPairs c.args.pairs.now c.loop-i.pairs k c.loop-i.top) back c.loop-i.invariant in
    let i = c.loop-i.invariant in
    dropped_at c.cells_form_trees.ensures c.cells_form_intervals.ensures c.args.pairs.now c.requires.valid
    c.requires.in_order c.loop-i.pairs (c.loop-i.i - 1) c.loop-i.top inv c.index-pairs-i.result
    (omega (arith, i.low, i.high, i.size, c.loop-i-test.true)) c.index-pairs-i.is c.if-top-pairs.true
    c.index-pairs-top.result c.index-pairs-top-then-is_below.result (c.is_below.ensures.0 c.if-is_below.true)
    c.if-pair-pairs.false

pub loop-i-preserved : goal.loop-i-preserved
loop-i-preserved c =
    let back : c.loop-i.i ≡ c.loop-i.i - 1 + 1 = omega (arith, c.loop-i-test.true) in
    let inv = subst (λ k. IsKeepingPairs c.args.pairs.now c.loop-i.pairs k c.loop-i.top) back c.loop-i.invariant in
    let i = c.loop-i.invariant in
    let lt : c.loop-i.i - 1 < length c.loop-i.pairs = omega (arith, i.low, i.high, i.size, c.loop-i-test.true) in
    subst (λ l. IsKeepingPairs c.args.pairs.now l (c.loop-i.i - 1) (c.loop-i.top - 1)) (sym c.swap.ensures.after)
    (kept c.cells_form_trees.ensures c.cells_form_intervals.ensures c.args.pairs.now c.requires.valid
    c.requires.in_order c.loop-i.pairs (c.loop-i.i - 1) c.loop-i.top inv c.index-pairs-i.result lt
    c.index-pairs-i.is
    (elim c.else-top-pairs.branch [
      | else-top-pairs-via-then-top-pairs+else-is_below w ↦
          inr (
            w.if-top-pairs.true,
            not_above c.cells_form_trees.ensures c.cells_form_intervals.ensures c.args.pairs.now c.requires.valid
                c.requires.in_order c.loop-i.pairs (c.loop-i.i - 1) c.loop-i.top inv c.index-pairs-i.result lt
                c.index-pairs-i.is w.if-top-pairs.true w.index-pairs-top.result
                (λ over. both_ways w.is_below.result w.if-is_below.false (w.is_below.ensures.1 over)),
          )
      | else-top-pairs-via-else-top-pairs w ↦ inl (omega (arith, w.if-top-pairs.false, i.high, i.size))
    ]))

pub returns-clause-apart : goal.returns-clause-apart
returns-clause-apart c =
    let end : c.loop-i.i ≡ 0 = omega (arith, c.loop-i-test.false) in
    apart_all c.cells_form_trees.ensures c.cells_form_intervals.ensures c.args.pairs.now c.requires.valid
    c.requires.in_order c.loop-i.pairs c.loop-i.top
    (subst (λ k. IsKeepingPairs c.args.pairs.now c.loop-i.pairs k c.loop-i.top) end c.loop-i.invariant)

pub returns-clause-outer : goal.returns-clause-outer
returns-clause-outer c =
    let end : c.loop-i.i ≡ 0 = omega (arith, c.loop-i-test.false) in
    outer_kept c.cells_form_trees.ensures c.cells_form_intervals.ensures c.args.pairs.now c.requires.valid
    c.requires.in_order c.loop-i.pairs c.loop-i.top
    (subst (λ k. IsKeepingPairs c.args.pairs.now c.loop-i.pairs k c.loop-i.top) end c.loop-i.invariant)

pub returns-clause-alike : goal.returns-clause-alike
returns-clause-alike c =
    let end : c.loop-i.i ≡ 0 = omega (arith, c.loop-i-test.false) in
    alike_kept c.cells_form_trees.ensures c.cells_form_intervals.ensures c.args.pairs.now c.requires.valid
    c.requires.in_order c.loop-i.pairs c.loop-i.top
    (subst (λ k. IsKeepingPairs c.args.pairs.now c.loop-i.pairs k c.loop-i.top) end c.loop-i.invariant)
