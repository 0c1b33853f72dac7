use Rattle.std.proofs.Common.{arith}
use Rattle.std.proofs.lemmas.Result.{err_from_is_err_and}
use Rattle.h3_lines.proofs.TakenRows.{goes_none, goes_refused, goes_settled, goes_then}
use Rattle.h3_lines.proofs.splitting.take_first.Goals as goal

pub loop-after-init : goal.loop-after-init
loop-after-init g c = record {
  goes = goes_none c.args.quotes g.J.JobContract.taken c.args.bytes.now (g.met.J.JobContract.none_taken _);
  fewer = omega arith;
  counted = omega arith;
}

pub loop-after-preserved : goal.loop-after-preserved
loop-after-preserved g c = record {
  goes =
      goes_then c.args.quotes g.J.JobContract.taken g.met.J.JobContract.taken_then c.loop-after.invariant.goes
      (rw c.in-Some.is at c.in_ok-after.ensures.some);
  fewer = omega (arith, c.loop-after.invariant.fewer, rw c.in-Some.is at c.in_ok-after.ensures.fewer);
  counted = omega (arith, c.loop-after.invariant.counted, rw c.in-Some.is at c.in_ok-after.ensures.counted);
}

pub returns-in_err-after-clause-err : goal.returns-in_err-after-clause-err
returns-in_err-after-clause-err g c =
    let p = err_from_is_err_and c.from_residual.result c.from_residual.ensures.1 in
    rw (p.1, p.2) (λ rest. goes_refused c.args.quotes g.J.JobContract.taken g.J.JobContract.refused
    g.met.J.JobContract.refused_then rest c.loop-after.invariant.goes (c.in_err-after.ensures.err rest))

pub returns-clause-ok : goal.returns-clause-ok
returns-clause-ok g c =
    goes_settled c.args.quotes g.J.JobContract.taken g.met.J.JobContract.taken_then c.loop-after.invariant.goes
    (rw c.in_default.is at c.in_ok-after.ensures.none)
