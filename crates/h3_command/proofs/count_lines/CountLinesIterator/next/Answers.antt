use Rattle.std.proofs.Common.{◌≡◌, ◌-◌, ◌==◌, ◌++◌, ◌∷◌, [], ◌∙◌, None, ap, sym, arith, length, true, false, get_or}
use Rattle.std.proofs.lemmas.Bool.{eq-eqb, ne_eqb}
use Rattle.h3_index.specs.Cell.{resolution}
use Rattle.h3_command.specs.CountLines.{lines_left, others_line}
use Rattle.h3_command.proofs.CountPasses.{given, next_pass, no_passes, passed}
use Rattle.h3_command.proofs.count_lines.CountLinesIterator.next.Goals as goal

pub loop-self-preserved-then-place-self : goal.loop-self-preserved-then-place-self
unfolding lines_left
loop-self-preserved-then-place-self c =
    let s = c.loop-self.self in
    sym (ap (λ l. l ++ others_line s.others)
    (next_pass s.passes s.place s.zones.now s.counts.now (omega arith) (omega arith)))
    ∙ c.loop-self.invariant

pub loop-self-preserved : goal.loop-self-preserved
unfolding lines_left
loop-self-preserved c =
    let s = c.loop-self.self in
    let z = get_or s.zones.now s.place c.index-self-place.result in
    let other : (resolution z == 16 - s.passes) ≡ false =
    ne_eqb (resolution z) (16 - s.passes) (λ e. c.if-resolution-self.false (c.resolution.ensures.number ∙ e)) in
    sym (ap (λ l. l ++ others_line s.others) (passed s.passes s.place s.zones.now s.counts.now c.index-self-place.result
    (omega arith) (omega arith) s.size other))
    ∙ c.loop-self.invariant

pub returns-then-resolution-self-clause-steps : goal.returns-then-resolution-self-clause-steps
unfolding lines_left
returns-then-resolution-self-clause-steps c =
    let s = c.loop-self.self in
    let z = get_or s.zones.now s.place c.index-self-place.result in
    let own : (resolution z == 16 - s.passes) ≡ true =
    eq-eqb (resolution z) (16 - s.passes) (sym c.resolution.ensures.number ∙ c.if-resolution-self.true) in
    sym c.loop-self.invariant
    ∙ ap (λ l. l ++ others_line s.others) (given s.passes s.place s.zones.now s.counts.now c.index-self-place.result
    (omega arith) (omega arith) s.size own)

pub returns-then-resolution-self-clause-goes : goal.returns-then-resolution-self-clause-goes
returns-then-resolution-self-clause-goes c =
    let fewer = ap length (returns-then-resolution-self-clause-steps c) in
    record { on = λ _. (tt, tt, omega (arith, fewer)); keeps = tt; rests = λ _. tt }

pub returns-in-Some-clause-steps : goal.returns-in-Some-clause-steps
unfolding lines_left
returns-in-Some-clause-steps c =
    let s = c.loop-self.self in
    let none = no_passes s.passes s.place s.zones.now s.counts.now (omega arith) in
    sym c.loop-self.invariant ∙ ap (λ l. l ++ others_line s.others) none ∙ ap others_line c.in-Some.is
    ∙ ap (λ l. (None, c.in-Some.others) ∷ (l ++ [])) (sym none)

pub returns-in-Some-clause-goes : goal.returns-in-Some-clause-goes
returns-in-Some-clause-goes c =
    let fewer = ap length (returns-in-Some-clause-steps c) in
    record { on = λ _. (tt, tt, omega (arith, fewer)); keeps = tt; rests = λ _. tt }

pub returns-in-None-clause-steps : goal.returns-in-None-clause-steps
unfolding lines_left
returns-in-None-clause-steps c =
    let s = c.loop-self.self in
    let nothing =
    ap (λ l. l ++ others_line s.others) (no_passes s.passes s.place s.zones.now s.counts.now (omega arith))
    ∙ ap others_line c.in-None.is in
    (sym c.loop-self.invariant ∙ nothing, nothing)
