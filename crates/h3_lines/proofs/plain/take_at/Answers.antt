use Rattle.std.proofs.Common.{◌≡◌, ◌≤◌, ◌∷◌, ◌++◌, ◌+◌, [], drop, get_or, suc, take, subst, sym, arith}
use Rattle.std.proofs.Math.Seq.{split_at}
use Rattle.std.proofs.lemmas.List.{take_more}
use Rattle.std.proofs.lemmas.Result.{err_from_is_err_and}
use Rattle.h3_lines.specs.Splitting.{ParseAll}
use Rattle.h3_lines.proofs.PlainRows.{parse_none, together_refused, together_then}
use Rattle.h3_lines.proofs.plain.take_at.Goals as goal

pub loop-i-init : goal.loop-i-init
loop-i-init g c = record {
  took =
      λ lines all. subst (λ ls. g.J.JobContract.taken c.args.job.now ls c.args.job.now) (sym (parse_none lines all))
      (g.met.J.JobContract.none_taken c.args.job.now);
  counted = omega arith;
}

pub returns-in_err-take_index-clause-err : goal.returns-in_err-take_index-clause-err
returns-in_err-take_index-clause-err g c =
    let p = err_from_is_err_and c.from_residual.result c.from_residual.ensures.1 in
    let i = c.loop-i.i in
    let indexes = c.args.indexes.now in
    let whole : indexes ≡ take i indexes ++ get_or indexes i 0 ∷ drop (suc i) indexes =
    split_at indexes i 0 (omega (arith, c.loop-i-test.true)) in
    rw (p.1, p.2) (λ lines all later.
    together_refused g.J.JobContract.taken g.J.JobContract.refused g.met.J.JobContract.refused_then (take i indexes)
    (get_or indexes i 0) (drop (suc i) indexes) c.loop-i.invariant.took
    c.in_err-take_index.ensures.err lines (subst (λ is. ParseAll lines is) whole all) later)

pub loop-i-preserved : goal.loop-i-preserved
loop-i-preserved g c =
    let i = c.loop-i.i in
    let indexes = c.args.indexes.now in
    let more : take (i + 1) indexes ≡ take i indexes ++ get_or indexes i 0 ∷ [] =
    take_more indexes i 0 (omega (arith, c.loop-i-test.true)) in
    let before : g.J.JobContract.count c.loop-i.job ≤ g.J.JobContract.count c.args.job.now + i =
    c.loop-i.invariant.counted in
    record {
      took =
          λ lines all. together_then g.J.JobContract.taken g.met.J.JobContract.taken_then (take i indexes)
          (get_or indexes i 0) c.loop-i.invariant.took c.in_ok-take_index.ensures.ok lines
          (subst (λ is. ParseAll lines is) more all);
      counted = omega (arith, before, c.in_ok-take_index.ensures.counted);
    }
