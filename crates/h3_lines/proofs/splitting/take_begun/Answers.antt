use Rattle.std.proofs.lemmas.Result.{err_from_is_err_and, IfErr-weaker, IfOk-weaker}
use Rattle.h3_lines.proofs.TakenRows.{goes_cut, goes_refused, goes_then, refused_cut}
use Rattle.h3_lines.proofs.splitting.take_begun.Goals as goal

pub returns-in_err-take-in-Ok-clause-err : goal.returns-in_err-take-in-Ok-clause-err
returns-in_err-take-in-Ok-clause-err g c =
    let p = err_from_is_err_and c.from_residual.result c.from_residual.ensures.1 in
    rw (p.1, p.2) (λ rest. refused_cut c.args.quotes g.J.JobContract.refused c.args.bytes.now c.in-Ok.row.now
    c.in-Ok.after.now rest c.in-Ok.ensures.cut c.in_err-take-in-Ok.ensures.err)

pub returns-in_ok-take-in-Ok-clause-ok : goal.returns-in_ok-take-in-Ok-clause-ok
returns-in_ok-take-in-Ok-clause-ok g c =
    let first =
    goes_cut c.args.quotes g.J.JobContract.taken c.args.bytes.now c.in-Ok.row.now c.in-Ok.after.now
    c.in-Ok.ensures.cut c.in_ok-take-in-Ok.ensures.ok in
    IfOk-weaker c.take_rows-in-Ok.result _ _
    (λ p goes. goes_then c.args.quotes g.J.JobContract.taken g.met.J.JobContract.taken_then first goes)
    c.take_rows-in-Ok.ensures.ok

pub returns-in_ok-take-in-Ok-clause-err : goal.returns-in_ok-take-in-Ok-clause-err
returns-in_ok-take-in-Ok-clause-err g c =
    let first =
    goes_cut c.args.quotes g.J.JobContract.taken c.args.bytes.now c.in-Ok.row.now c.in-Ok.after.now
    c.in-Ok.ensures.cut c.in_ok-take-in-Ok.ensures.ok in
    IfErr-weaker c.take_rows-in-Ok.result _ _ (λ e refuses rest. goes_refused c.args.quotes g.J.JobContract.taken
    g.J.JobContract.refused g.met.J.JobContract.refused_then rest first
    (refuses rest)) c.take_rows-in-Ok.ensures.err
