use Rattle.std.proofs.Common.{◌≡◌, ◌∙◌, ◌++◌, ◌∷◌, [], ◌+◌, ◌<◌, ◌==◌, length, map, take, refl, sym, ap, arith}
use Rattle.std.specs.Result.{result_unwrap_or}
use Rattle.h3_c.specs.Column.{first_code}
use Rattle.h3_c.specs.Lists.{laid_over}
use Rattle.h3_c.proofs.Columns.{few-next, length-up_to, missed-next, tells, up_to-next, values-next, whole}
use Rattle.h3_c.proofs.column.fill_values.Goals as goal
use Rattle.h3_c.proofs.column.fill_values.Goals.{in-Ok, in-Err}

pub loop-i-init : goal.loop-i-init
unfolding first_code laid_over
loop-i-init g c = record { few = omega arith; whole = refl; values = refl }

pub loop-i-preserved : goal.loop-i-preserved
loop-i-preserved g c =
    let hs = c.args.indexes.now in
    let i = c.loop-i.i in
    let r = c.ask-answer.result in
    let rs = map (λ h. g.Q.ColumnFunction.outcome c.args.question.now h) (take i hs) in
    let more : map (λ h. g.Q.ColumnFunction.outcome c.args.question.now h) (take (i + 1) hs) ≡ rs ++ r ∷ [] =
    up_to-next (λ h. g.Q.ColumnFunction.outcome c.args.question.now h) hs i r c.loop-i-test.true c.ask-answer.ensures in
    let long : length rs ≡ i =
    length-up_to (λ h. g.Q.ColumnFunction.outcome c.args.question.now h) hs i (omega (arith, c.loop-i-test.true)) in
    let room : length rs < length c.args.out.now = omega (arith, long, c.loop-i-test.true, c.requires.room) in
    let put : c.match-answer.out ≡ result_unwrap_or r c.args.missing = elim c.match-answer.branch [
      | in-Ok w ↦ w.out-is ∙ sym (ap (λ r. result_unwrap_or r c.args.missing) w.in-Ok.is)
      | in-Err w ↦ w.out-is ∙ sym (ap (λ r. result_unwrap_or r c.args.missing) w.in-Err.is)
    ] in
    record {
      few = rw c.from.ensures (few-next c.loop-i.missed i _ c.loop-i.invariant.few);
      whole =
          rw (more, c.from.ensures, c.is_err.ensures.value) (missed-next c.loop-i.missed rs r c.loop-i.invariant.whole);
      values =
          values-next c.args.missing rs r c.args.out.now c.loop-i.out i c.match-answer.out long room
          c.loop-i.invariant.values put
          ∙ ap (λ rs. laid_over (map (λ r. result_unwrap_or r c.args.missing) rs) c.args.out.now) (sym more);
    }

pub returns-clause-values : goal.returns-clause-values
returns-clause-values g c =
    let hs = c.args.indexes.now in
    let end : c.loop-i.i ≡ length hs = omega (arith, c.loop-i.auto.i-end, c.loop-i-test.false) in
    let all : map (λ h. g.Q.ColumnFunction.outcome c.args.question.now h) (take c.loop-i.i hs)
    ≡ map (λ h. g.Q.ColumnFunction.outcome c.args.question.now h) hs =
    ap (λ n. map (λ h. g.Q.ColumnFunction.outcome c.args.question.now h) (take n hs)) end
    ∙ whole (λ h. g.Q.ColumnFunction.outcome c.args.question.now h) hs in
    c.loop-i.invariant.values
    ∙ ap (λ rs. laid_over (map (λ r. result_unwrap_or r c.args.missing) rs) c.args.out.now) all

pub returns-clause-none : goal.returns-clause-none
returns-clause-none g c =
    let hs = c.args.indexes.now in
    let end : c.loop-i.i ≡ length hs = omega (arith, c.loop-i.auto.i-end, c.loop-i-test.false) in
    let all : map (λ h. g.Q.ColumnFunction.outcome c.args.question.now h) (take c.loop-i.i hs)
    ≡ map (λ h. g.Q.ColumnFunction.outcome c.args.question.now h) hs =
    ap (λ n. map (λ h. g.Q.ColumnFunction.outcome c.args.question.now h) (take n hs)) end
    ∙ whole (λ h. g.Q.ColumnFunction.outcome c.args.question.now h) hs in
    tells (c.loop-i.missed == 0) _ (c.loop-i.invariant.whole ∙ ap (λ rs. first_code rs == 0) all)
