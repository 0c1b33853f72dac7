use Rattle.std.proofs.Common.{◌≡◌, refl, replicate, rules, subst, sym, take}
use Rattle.std.proofs.lemmas.Result.{err_from_is_err_and}
use Rattle.h3_rows.specs.Answering.{form_of_job, state_of}
use Rattle.h3_rows.specs.Row.{returns_of}
use Rattle.h3_rows.specs.RowsAnswer.{row_step, rows_then}
use Rattle.h3_rows.proofs.Returns.{returns_of_row}
use Rattle.h3_rows.proofs.each.RowAnswersJob.take.Goals as goal

pub returns-in_err-end-clause-err : goal.returns-in_err-end-clause-err
returns-in_err-end-clause-err g c =
    let p = err_from_is_err_and c.from_residual.result c.from_residual.ensures.1 in
    let v = c.args.self.now in
    let form = form_of_job g.F.RowFunction.counts_quotes v.job.now in
    let answer = g.F.RowFunction.answer_of v.job.now.function.now in
    let step = row_step form answer (state_of v.state (take v.end v.block)) (c.args.row.now, c.args.inside) in
    let ends = rw c.row_of-row.ensures at c.in_err-end.ensures.err in
    rw (p.1, p.2) (λ later. (λ last. ends (rows_then last form answer step.after later), refl))

pub returns-clause-ok : goal.returns-clause-ok
returns-clause-ok g c =
    let r = c.row_of-row.result in
    let same : replicate r.returns 13 ≡ returns_of c.args.row.now =
    subst (λ l. replicate r.returns 13 ≡ returns_of l) c.row_of-row.ensures
    (sym (returns_of_row r.body.now r.returns r.bare)) in
    (search (rules), refl, refl, same)
