use Rattle.std.proofs.Common.{◌≡◌, ◌∙◌, ◌++◌, ◌∷◌, [], ◌+◌, length, map, take, refl, sym, ap, arith}
use Rattle.std.specs.Result.{result_unwrap_or}
use Rattle.h3_c.specs.Column.{first_code}
use Rattle.h3_c.specs.Lists.{laid_over}
use Rattle.h3_c.specs.Starts.{greatest_place, sizes_of, starts_from}
use Rattle.h3_c.proofs.Columns.{few-next, missed-next, up_to-next}
use Rattle.h3_c.proofs.StartLaws.{ended, ended-starts, length-sizes, sizes-next, starts-first, starts-next, stopped, stopped-starts, total, total-nil, total-snoc}
use Rattle.h3_c.proofs.starts.put_starts.Goals as goal

pub loop-i-init : goal.loop-i-init
unfolding first_code
loop-i-init g c =
    record {
      few = omega arith;
      whole = refl;
      end = sym total-nil;
      within = omega arith;
      put = starts-first c.args.starts.now (omega (arith, c.requires.room));
    }

pub loop-i-preserved : goal.loop-i-preserved
loop-i-preserved g c =
    let hs = c.args.indexes.now in
    let i = c.loop-i.i in
    let r = c.ask-answer.result in
    let size = c.unwrap_or-size.result in
    let rs = map (λ h. g.Q.ColumnFunction.outcome c.args.question.now h) (take i hs) in
    let ns = sizes_of rs in
    let more : map (λ h. g.Q.ColumnFunction.outcome c.args.question.now h) (take (i + 1) hs) ≡ rs ++ r ∷ [] =
    up_to-next (λ h. g.Q.ColumnFunction.outcome c.args.question.now h) hs i r c.loop-i-test.true c.ask-answer.ensures in
    let next : sizes_of (map (λ h. g.Q.ColumnFunction.outcome c.args.question.now h) (take (i + 1) hs))
    ≡ ns ++ size ∷ [] =
    sizes-next (λ h. g.Q.ColumnFunction.outcome c.args.question.now h) hs i r c.loop-i-test.true c.ask-answer.ensures
    ∙ ap (λ n. ns ++ n ∷ []) (sym c.unwrap_or-size.ensures) in
    let long : length ns ≡ i =
    length-sizes (λ h. g.Q.ColumnFunction.outcome c.args.question.now h) hs i (omega (arith, c.loop-i-test.true)) in
    let sum : total (sizes_of (map (λ h. g.Q.ColumnFunction.outcome c.args.question.now h) (take (i + 1) hs)))
    ≡ total ns + size =
    ap total next ∙ total-snoc ns size in
    record {
      few = rw c.from-missed.ensures (few-next c.loop-i.missed i _ c.loop-i.invariant.few);
      whole =
          rw (
            more,
            c.from-missed.ensures,
            c.is_err.ensures.value,
          ) (missed-next c.loop-i.missed rs r c.loop-i.invariant.whole);
      end = omega (arith, sum, c.loop-i.invariant.end);
      within = omega (arith, c.if-size-end.false, c.loop-i.invariant.within);
      put =
          starts-next ns size i c.loop-i.end c.args.starts.now c.loop-i.starts long
          (omega (arith, c.loop-i-test.true, c.requires.room)) c.loop-i.invariant.end c.loop-i.invariant.put
          ∙ ap (λ l. laid_over (starts_from 0 l) c.args.starts.now) (sym next);
    }

pub returns-then-size-end-clause-fitting : goal.returns-then-size-end-clause-fitting
returns-then-size-end-clause-fitting g c =
    let own = c.unwrap_or-size.ensures ∙ ap (λ r. result_unwrap_or r 0) c.ask-answer.ensures in
    sym (stopped (λ h. g.Q.ColumnFunction.outcome c.args.question.now h) c.args.indexes.now c.loop-i.i c.loop-i.end
    c.unwrap_or-size.result greatest_place c.loop-i-test.true c.loop-i.invariant.end c.loop-i.invariant.within own
    (omega (arith, c.if-size-end.true, c.loop-i.invariant.within)))

pub returns-then-size-end-clause-starts : goal.returns-then-size-end-clause-starts
returns-then-size-end-clause-starts g c =
    let own = c.unwrap_or-size.ensures ∙ ap (λ r. result_unwrap_or r 0) c.ask-answer.ensures in
    let fits =
    stopped (λ h. g.Q.ColumnFunction.outcome c.args.question.now h) c.args.indexes.now c.loop-i.i c.loop-i.end
    c.unwrap_or-size.result greatest_place c.loop-i-test.true c.loop-i.invariant.end c.loop-i.invariant.within own
    (omega (arith, c.if-size-end.true, c.loop-i.invariant.within)) in
    c.loop-i.invariant.put
    ∙ ap (λ l. laid_over l c.args.starts.now) (sym (stopped-starts (λ h. g.Q.ColumnFunction.outcome c.args.question.now
    h) c.args.indexes.now c.loop-i.i _ c.loop-i-test.true fits))

pub returns-clause-fitting : goal.returns-clause-fitting
returns-clause-fitting g c =
    let last : c.loop-i.i ≡ length c.args.indexes.now = omega (arith, c.loop-i.auto.i-end, c.loop-i-test.false) in
    sym (ended (λ h. g.Q.ColumnFunction.outcome c.args.question.now h) c.args.indexes.now c.loop-i.i c.loop-i.end
    greatest_place last c.loop-i.invariant.end c.loop-i.invariant.within)

pub returns-clause-starts : goal.returns-clause-starts
returns-clause-starts g c =
    let last : c.loop-i.i ≡ length c.args.indexes.now = omega (arith, c.loop-i.auto.i-end, c.loop-i-test.false) in
    let fits =
    ended (λ h. g.Q.ColumnFunction.outcome c.args.question.now h) c.args.indexes.now c.loop-i.i c.loop-i.end
    greatest_place last c.loop-i.invariant.end c.loop-i.invariant.within in
    c.loop-i.invariant.put
    ∙ ap (λ l. laid_over l c.args.starts.now) (sym (ended-starts
    (λ h. g.Q.ColumnFunction.outcome c.args.question.now h) c.args.indexes.now c.loop-i.i _ last fits))
