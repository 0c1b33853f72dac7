use Rattle.std.proofs.Common.{◌≡◌, ◌<◌, false, [], length}
use Rattle.std.proofs.lemmas.Result.{err_from_is_err_and, on_ok_weaker, IfErr-weaker}
use Rattle.h3_lines.proofs.Lengths.{empty_from_test, some_from_test}
use Rattle.h3_lines.proofs.TakenRows.{last_refused, last_taken, refused_settled, taken_settled}
use Rattle.h3_lines.proofs.splitting.take_last.Goals as goal

pub returns-then-is_empty-clause-ok : goal.returns-then-is_empty-clause-ok
returns-then-is_empty-clause-ok g c =
    let none : c.args.row.now ≡ [] =
    empty_from_test c.args.row.now c.is_empty.result c.is_empty.ensures c.if-is_empty.true in
    rw none c.settle.ensures.ok

pub returns-then-is_empty-clause-err : goal.returns-then-is_empty-clause-err
returns-then-is_empty-clause-err g c =
    let none : c.args.row.now ≡ [] =
    empty_from_test c.args.row.now c.is_empty.result c.is_empty.ensures c.if-is_empty.true in
    rw none (IfErr-weaker c.settle.result _ _ (λ e refuses. refuses []) c.settle.ensures.err)

pub returns-in_err-take-clause-err : goal.returns-in_err-take-clause-err
returns-in_err-take-clause-err g c =
    let p = err_from_is_err_and c.from_residual.result c.from_residual.ensures.1 in
    let some : 0 < length c.args.row.now =
    some_from_test c.args.row.now c.is_empty.result c.is_empty.ensures c.if-is_empty.false in
    rw (p.1, p.2) (last_refused c.args.row.now c.args.inside some g.J.JobContract.refused c.in_err-take.ensures.err)

pub returns-clause-ok : goal.returns-clause-ok
returns-clause-ok g c =
    let some : 0 < length c.args.row.now =
    some_from_test c.args.row.now c.is_empty.result c.is_empty.ensures c.if-is_empty.false in
    let took = last_taken c.args.row.now c.args.inside some g.J.JobContract.taken c.in_ok-take.ensures.ok in
    on_ok_weaker c.settle-2.result
    (taken_settled false g.J.JobContract.taken g.met.J.JobContract.taken_then took) c.settle-2.ensures.ok

pub returns-clause-err : goal.returns-clause-err
returns-clause-err g c =
    let some : 0 < length c.args.row.now =
    some_from_test c.args.row.now c.is_empty.result c.is_empty.ensures c.if-is_empty.false in
    let took = last_taken c.args.row.now c.args.inside some g.J.JobContract.taken c.in_ok-take.ensures.ok in
    IfErr-weaker c.settle-2.result _ _ (λ e refuses. refused_settled false g.J.JobContract.taken g.J.JobContract.refused
    g.met.J.JobContract.refused_then took (refuses [])) c.settle-2.ensures.err
