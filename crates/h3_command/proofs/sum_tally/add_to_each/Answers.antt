use Rattle.std.proofs.Common.{arith, subst}
use Rattle.h3_numbers.specs.declared.sum.Sum.{Sum}
use Rattle.h3_command.specs.SumTally.{IsOneMore}
use Rattle.h3_command.proofs.Summing.{changed, changed_all, changed_none, changing_begins}
use Rattle.h3_command.proofs.sum_tally.add_to_each.Goals as goal

pub loop-i-init : goal.loop-i-init
loop-i-init c = changing_begins Sum (IsOneMore c.args.number) c.args.places.now c.args.sums.now

pub returns-clause-more : goal.returns-clause-more
returns-clause-more c = λ n d m.
    changed_all Sum (IsOneMore c.args.number) c.args.places.now c.args.sums.now c.loop-i.sums c.loop-i.i c.requires.once
    c.loop-i.invariant n d
    c.loop-i-test.false m

pub returns-clause-same : goal.returns-clause-same
returns-clause-same c = λ n d miss.
    changed_none Sum (IsOneMore c.args.number) c.args.places.now c.args.sums.now c.loop-i.sums c.loop-i.i
    c.requires.once
    c.loop-i.invariant n d miss

pub loop-i-preserved : goal.loop-i-preserved
loop-i-preserved c =
    let small = c.requires.small c.loop-i.i 0 c.loop-i-test.true in
    let own : IsOneMore c.args.number c.index-sums-place.result c.plus.result =
    record { count = c.plus.ensures.count; units = c.plus.ensures.units } in
    changed Sum (IsOneMore c.args.number) c.args.places.now c.args.sums.now c.loop-i.sums c.loop-i.i c.requires.once
    c.loop-i.invariant 0
    c.loop-i-test.true (omega (arith, small, c.loop-i.invariant.size)) c.index-sums-place.result c.plus.result
    (subst (λ o. IsOneMore c.args.number o c.plus.result) c.index-sums-place.is own)
