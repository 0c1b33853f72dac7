use Rattle.std.proofs.Common.{◌≡◌, ◌+◌, ℕ, arith, get_or, refl}
use Rattle.h3_command.proofs.Summing.{changed, changed_all, changed_none, changing_begins}
use Rattle.h3_command.proofs.overlap_tally.add_one_to_each.Goals as goal

pub loop-i-init : goal.loop-i-init
loop-i-init c = changing_begins ℕ (λ a b. b ≡ a + 1) c.args.places.now c.args.counts.now

pub returns-clause-more : goal.returns-clause-more
returns-clause-more c = λ n d m.
    changed_all ℕ (λ a b. b ≡ a + 1) c.args.places.now c.args.counts.now c.loop-i.counts c.loop-i.i c.requires.once
    c.loop-i.invariant n d
    c.loop-i-test.false m

pub returns-clause-same : goal.returns-clause-same
returns-clause-same c = λ n d miss.
    changed_none ℕ (λ a b. b ≡ a + 1) c.args.places.now c.args.counts.now c.loop-i.counts c.loop-i.i c.requires.once
    c.loop-i.invariant n d miss

pub loop-i-preserved : goal.loop-i-preserved
loop-i-preserved c =
    let small = c.requires.small c.loop-i.i 0 c.loop-i-test.true in
    let place = get_or c.args.places.now c.loop-i.i 0 in
    changed ℕ (λ a b. b ≡ a + 1) c.args.places.now c.args.counts.now c.loop-i.counts c.loop-i.i c.requires.once
    c.loop-i.invariant 0
    c.loop-i-test.true (omega (arith, small, c.loop-i.invariant.size)) 0 (get_or c.loop-i.counts place 0 + 1) refl
