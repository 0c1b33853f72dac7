use Rattle.std.proofs.Common.{arith}
use Rattle.std.proofs.lemmas.Result.{err_from_is_err_and}
use Rattle.h3_lines.proofs.TakenRows.{cut_length, goes_cut, goes_none, goes_refused, goes_then, refused_cut}
use Rattle.h3_lines.proofs.splitting.take_rows.Goals as goal

pub loop-left-init : goal.loop-left-init
loop-left-init g c = record {
  goes = goes_none c.args.quotes g.J.JobContract.taken c.args.bytes.now (g.met.J.JobContract.none_taken _);
  counted = omega arith;
}

pub loop-left-preserved : goal.loop-left-preserved
loop-left-preserved g c =
    let bytes = c.in_ok-left.left.now in
    let cuts = c.in-Ok.ensures.cut in
    let both = g.met.J.JobContract.taken_then in
    let first = goes_then c.args.quotes g.J.JobContract.taken both c.loop-left.invariant.goes c.in_ok-left.ensures.ok in
    record {
      goes =
          goes_then c.args.quotes g.J.JobContract.taken both first
          (goes_cut c.args.quotes g.J.JobContract.taken bytes c.in-Ok.row.now c.in-Ok.after.now cuts
          c.in_ok-take-in-Ok.ensures.ok);
      counted =
          omega (
            arith,
            c.loop-left.invariant.counted,
            c.in_ok-left.ensures.counted,
            c.in_ok-take-in-Ok.ensures.counted,
            cut_length _ _ _ _ cuts.split,
          );
    }

pub returns-in_err-left-clause-err : goal.returns-in_err-left-clause-err
returns-in_err-left-clause-err g c =
    let p = err_from_is_err_and c.from_residual.result c.from_residual.ensures.1 in
    rw (p.1, p.2) (λ rest. goes_refused c.args.quotes g.J.JobContract.taken g.J.JobContract.refused
    g.met.J.JobContract.refused_then rest c.loop-left.invariant.goes (c.in_err-left.ensures.err rest))

pub returns-in_err-take-in-Ok-clause-err : goal.returns-in_err-take-in-Ok-clause-err
returns-in_err-take-in-Ok-clause-err g c =
    let p = err_from_is_err_and c.from_residual-in_err-take-in-Ok.result c.from_residual-in_err-take-in-Ok.ensures.1 in
    let first =
    goes_then c.args.quotes g.J.JobContract.taken g.met.J.JobContract.taken_then c.loop-left.invariant.goes
    c.in_ok-left.ensures.ok in
    rw (p.1, p.2) (λ rest.
    goes_refused c.args.quotes g.J.JobContract.taken g.J.JobContract.refused g.met.J.JobContract.refused_then rest
    first
    (refused_cut c.args.quotes g.J.JobContract.refused c.in_ok-left.left.now c.in-Ok.row.now c.in-Ok.after.now rest
    c.in-Ok.ensures.cut c.in_err-take-in-Ok.ensures.err))

pub returns-in-Err-clause-ok : goal.returns-in-Err-clause-ok
returns-in-Err-clause-ok g c =
    goes_then c.args.quotes g.J.JobContract.taken g.met.J.JobContract.taken_then c.loop-left.invariant.goes
    c.in_ok-left.ensures.ok
