use Rattle.std.proofs.Common.{◌≡◌, ◌++◌, length, take_all, append-nil, sym, ap, ◌∙◌, arith}
use Rattle.h3_c.specs.Lists.{laid_over}
use Rattle.h3_c.proofs.Laid.{length-laid_over}
use Rattle.h3_c.proofs.OverlappingLaws.{after-full, after-next}
use Rattle.h3_c.proofs.overlapping.put_numbers_from.Goals as goal

pub loop-i-init : goal.loop-i-init
loop-i-init c = λ before first long is. is ∙ ap (λ l. laid_over l first) (sym (append-nil before))

pub loop-i-preserved : goal.loop-i-preserved
loop-i-preserved c = λ before first long is.
    let same : length c.loop-i.out ≡ length c.args.out.now = c.loop-i.auto.out in
    let room : length first ≡ length c.args.out.now = sym (ap length is ∙ length-laid_over before first) in
    after-next before c.args.numbers.now first c.loop-i.out c.args.place c.loop-i.i long c.loop-i-test.true
    (omega (arith, room, same, c.if-place-i.false)) (c.loop-i.invariant before first long is)

pub returns-then-place-i : goal.returns-then-place-i
returns-then-place-i c = λ before first long is.
    let same : length c.loop-i.out ≡ length c.args.out.now = c.loop-i.auto.out in
    let room : length first ≡ length c.args.out.now = sym (ap length is ∙ length-laid_over before first) in
    c.loop-i.invariant before first long is
    ∙ after-full before c.args.numbers.now first c.args.place c.loop-i.i long (omega (arith, c.loop-i-test.true))
    (omega (arith, room, same, c.if-place-i.true))

pub returns : goal.returns
returns c = λ before first long is.
    c.loop-i.invariant before first long is
    ∙ ap (λ l. laid_over (before ++ l) first)
    (take_all c.loop-i.i c.args.numbers.now (omega (arith, c.loop-i-test.false)))
