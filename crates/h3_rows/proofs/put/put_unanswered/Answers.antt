use Rattle.std.proofs.Common.{take}
use Rattle.std.proofs.lemmas.Result.{err_from_is_err_and, IfOk-weaker, IfErr-weaker}
use Rattle.h3_lines.specs.Write.{sink_use}
use Rattle.h3_rows.specs.Answering.{form_of_job}
use Rattle.h3_rows.proofs.Parts.{breaks_first, breaks_second, breaks_third, moves_three}
use Rattle.h3_rows.proofs.Naming.{unanswered_parts}
use Rattle.h3_rows.proofs.put.put_unanswered.Goals as goal

pub returns-in_err-after_answer-clause-err : goal.returns-in_err-after_answer-clause-err
returns-in_err-after_answer-clause-err g c =
    let p = err_from_is_err_and c.from_residual.result c.from_residual.ensures.1 in
    let is = unanswered_parts (form_of_job g.F.RowFunction.counts_quotes c.args.job.now) c.args.row c.args.error.now in
    rw (p.1, p.2) (breaks_first (take c.args.end c.args.block.now) _ _ _
    (sink_use g.W.Sink.taken g.W.Sink.has_failed c.args.out.now c.put_empty_answer.new.out) _
    is c.in_err-after_answer.ensures.err)

pub returns-in_err-after_error-clause-err : goal.returns-in_err-after_error-clause-err
returns-in_err-after_error-clause-err g c =
    let p =
    err_from_is_err_and c.from_residual-in_err-after_error.result c.from_residual-in_err-after_error.ensures.1 in
    let is = unanswered_parts (form_of_job g.F.RowFunction.counts_quotes c.args.job.now) c.args.row c.args.error.now in
    rw (p.1, p.2) (breaks_second g.W.Sink.taken g.W.Sink.has_failed
    (take c.args.end c.args.block.now) _ _ _ _ _ _ _ _ _ is c.in_ok-after_answer.ensures.ok
    (c.in_err-after_error.ensures.err c.args.job.now.name.now c.args.job.now.is_pair))

pub returns-clause-ok : goal.returns-clause-ok
returns-clause-ok g c =
    let is = unanswered_parts (form_of_job g.F.RowFunction.counts_quotes c.args.job.now) c.args.row c.args.error.now in
    IfOk-weaker c.put_ending.result _ _ (λ last k. moves_three g.W.Sink.taken g.W.Sink.has_failed
    (take c.args.end c.args.block.now) _ _ _ _ _ _ _ _ _ _ _ is c.in_ok-after_answer.ensures.ok
    (c.in_ok-after_error.ensures.ok c.args.job.now.name.now c.args.job.now.is_pair) k) c.put_ending.ensures.ok

pub returns-clause-err : goal.returns-clause-err
returns-clause-err g c =
    let is = unanswered_parts (form_of_job g.F.RowFunction.counts_quotes c.args.job.now) c.args.row c.args.error.now in
    IfErr-weaker c.put_ending.result _ _ (λ e k. breaks_third g.W.Sink.taken g.W.Sink.has_failed
    (take c.args.end c.args.block.now) _ _ _ _ _ _ _ _ _ _ _ is c.in_ok-after_answer.ensures.ok
    (c.in_ok-after_error.ensures.ok c.args.job.now.name.now c.args.job.now.is_pair) k) c.put_ending.ensures.err
