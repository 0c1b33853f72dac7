use Rattle.std.proofs.Common.{◌∷◌, ◌++◌, take, ap, append-nil, refl, ◌∙◌}
use Rattle.std.proofs.lemmas.Result.{err_from_is_err_and, IfOk-weaker, IfErr-weaker}
use Rattle.h3_lines.specs.Write.{sink_use}
use Rattle.h3_rows.specs.Answering.{form_of_job}
use Rattle.h3_rows.proofs.Parts.{breaks_first, breaks_last, moves_two}
use Rattle.h3_rows.proofs.put.put_empty_answer.Goals as goal

pub returns-in_err-after_row-clause-err : goal.returns-in_err-after_row-clause-err
returns-in_err-after_row-clause-err g c =
    let p = err_from_is_err_and c.from_residual.result c.from_residual.ensures.1 in
    let sep = c.args.job.now.options.now.separator in
    rw (p.1, p.2) (breaks_first (take c.args.end c.args.block.now) c.args.row.body.now
    (sep ∷ (form_of_job g.F.RowFunction.counts_quotes c.args.job.now).empty) _
    (sink_use g.W.Sink.taken g.W.Sink.has_failed c.args.out.now c.put_bytes.new.out) _
    refl c.in_err-after_row.ensures.err)

pub returns-clause-ok : goal.returns-clause-ok
returns-clause-ok g c =
    let sep = c.args.job.now.options.now.separator in
    let is = ap (λ l. c.args.row.body.now ++ (sep ∷ l)) (append-nil _ ∙ c.empty_size.ensures.empty sep) in
    IfOk-weaker c.put_field.result _ _ (λ last k. moves_two g.W.Sink.taken g.W.Sink.has_failed (take c.args.end
    c.args.block.now) c.args.row.body.now _ _ _ _ _ _ _ is c.in_ok-after_row.ensures.ok k) c.put_field.ensures.ok

pub returns-clause-err : goal.returns-clause-err
returns-clause-err g c =
    let sep = c.args.job.now.options.now.separator in
    let is = ap (λ l. c.args.row.body.now ++ (sep ∷ l)) (append-nil _ ∙ c.empty_size.ensures.empty sep) in
    IfErr-weaker c.put_field.result _ _ (λ e k. breaks_last g.W.Sink.taken g.W.Sink.has_failed (take c.args.end
    c.args.block.now) c.args.row.body.now _ _ _ _ _ _ _ is c.in_ok-after_row.ensures.ok k) c.put_field.ensures.err
