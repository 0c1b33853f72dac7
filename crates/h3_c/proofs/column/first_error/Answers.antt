use Rattle.std.proofs.Common.{◌≡◌, ◌∙◌, ◌++◌, ◌∷◌, [], ◌+◌, length, map, take, refl, sym, ap, arith}
use Rattle.std.proofs.lemmas.List.{length-map}
use Rattle.h3_c.specs.Column.{first_code}
use Rattle.h3_c.proofs.Columns.{code-ok, found, place-none, up_to-next, whole}
use Rattle.h3_c.proofs.column.first_error.Goals as goal

pub loop-place-init : goal.loop-place-init
unfolding first_code
loop-place-init g c = refl

pub returns-in-Err-clause-code : goal.returns-in-Err-clause-code
returns-in-Err-clause-code g c =
    let first =
    found (λ h. g.Q.ColumnFunction.outcome c.args.question.now h) c.args.indexes.now c.loop-place.place
    c.in-Err.error c.loop-place-test.true c.loop-place.invariant (sym c.in-Err.is ∙ c.ask.ensures) in
    c.from.ensures ∙ c.number.ensures ∙ sym first.0

pub returns-in-Err-clause-place : goal.returns-in-Err-clause-place
returns-in-Err-clause-place g c =
    let first =
    found (λ h. g.Q.ColumnFunction.outcome c.args.question.now h) c.args.indexes.now c.loop-place.place
    c.in-Err.error c.loop-place-test.true c.loop-place.invariant (sym c.in-Err.is ∙ c.ask.ensures) in
    sym first.1

pub loop-place-preserved : goal.loop-place-preserved
loop-place-preserved g c =
    let rs = map (λ h. g.Q.ColumnFunction.outcome c.args.question.now h) (take c.loop-place.place c.args.indexes.now) in
    let more : map (λ h. g.Q.ColumnFunction.outcome c.args.question.now h)
    (take (c.loop-place.place + 1) c.args.indexes.now)
    ≡ rs ++ c.ask.result ∷ [] =
    up_to-next (λ h. g.Q.ColumnFunction.outcome c.args.question.now h) c.args.indexes.now c.loop-place.place
    c.ask.result c.loop-place-test.true c.ask.ensures in
    rw (more, c.in_default.is) (code-ok rs c.in_default.field-0 c.loop-place.invariant)

pub returns-clause-code : goal.returns-clause-code
returns-clause-code g c =
    let hs = c.args.indexes.now in
    let end : c.loop-place.place ≡ length hs = omega (arith, c.loop-place.auto.place-end, c.loop-place-test.false) in
    let all : map (λ h. g.Q.ColumnFunction.outcome c.args.question.now h) (take c.loop-place.place hs)
    ≡ map (λ h. g.Q.ColumnFunction.outcome c.args.question.now h) hs =
    ap (λ n. map (λ h. g.Q.ColumnFunction.outcome c.args.question.now h) (take n hs)) end
    ∙ whole (λ h. g.Q.ColumnFunction.outcome c.args.question.now h) hs in
    sym (sym (ap first_code all) ∙ c.loop-place.invariant)

pub returns-clause-place : goal.returns-clause-place
returns-clause-place g c =
    let hs = c.args.indexes.now in
    let end : c.loop-place.place ≡ length hs = omega (arith, c.loop-place.auto.place-end, c.loop-place-test.false) in
    let all : map (λ h. g.Q.ColumnFunction.outcome c.args.question.now h) (take c.loop-place.place hs)
    ≡ map (λ h. g.Q.ColumnFunction.outcome c.args.question.now h) hs =
    ap (λ n. map (λ h. g.Q.ColumnFunction.outcome c.args.question.now h) (take n hs)) end
    ∙ whole (λ h. g.Q.ColumnFunction.outcome c.args.question.now h) hs in
    let none : first_code (map (λ h. g.Q.ColumnFunction.outcome c.args.question.now h) hs) ≡ 0 =
    sym (ap first_code all) ∙ c.loop-place.invariant in
    sym (place-none (map (λ h. g.Q.ColumnFunction.outcome c.args.question.now h) hs) none
    ∙ length-map hs (λ h. g.Q.ColumnFunction.outcome c.args.question.now h))
