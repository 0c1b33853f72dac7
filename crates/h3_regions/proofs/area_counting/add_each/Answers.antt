use Rattle.std.proofs.Common.{arith}
use Rattle.h3_regions.proofs.AddingLaws.{added, added_all, added_none, adding_begins, untouched}
use Rattle.h3_regions.proofs.area_counting.add_each.Goals as goal

pub loop-i-init : goal.loop-i-init
loop-i-init c = adding_begins c.args.numbers.now c.args.counts.now

pub bounds-counts-numbers : goal.bounds-counts-numbers
bounds-counts-numbers c =
    omega (arith, c.requires.small c.loop-i.i 0 c.loop-i-test.true, c.loop-i.invariant.size)

pub loop-i-preserved : goal.loop-i-preserved
loop-i-preserved c =
    added c.args.numbers.now c.args.counts.now c.loop-i.counts c.loop-i.i c.requires.once c.loop-i.invariant 0
    c.loop-i-test.true (omega (arith, c.requires.small c.loop-i.i 0 c.loop-i-test.true, c.loop-i.invariant.size))

pub overflow_add-counts : goal.overflow_add-counts
overflow_add-counts c =
    let small = c.requires.small c.loop-i.i 0 c.loop-i-test.true in
    let old =
    untouched c.args.numbers.now c.args.counts.now c.loop-i.counts c.loop-i.i c.requires.once c.loop-i.invariant 0
    c.loop-i-test.true (omega (arith, small, c.loop-i.invariant.size)) in
    omega (arith, old, c.requires.room _ 0 small)

pub returns-clause-more : goal.returns-clause-more
returns-clause-more c = λ n m.
    added_all c.args.numbers.now c.args.counts.now c.loop-i.counts c.loop-i.i c.requires.once c.loop-i.invariant n
    c.loop-i-test.false m

pub returns-clause-same : goal.returns-clause-same
returns-clause-same c = λ n miss.
    added_none c.args.numbers.now c.args.counts.now c.loop-i.counts c.loop-i.i c.requires.once c.loop-i.invariant n miss
