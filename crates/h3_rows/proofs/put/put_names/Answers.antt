use Rattle.std.proofs.Common.{take}
use Rattle.std.proofs.lemmas.Result.{err_from_is_err_and, IfOk-weaker, IfErr-weaker}
use Rattle.h3_lines.specs.Write.{sink_use}
use Rattle.h3_rows.proofs.Naming.{names_by_parts}
use Rattle.h3_rows.proofs.Parts.{breaks_first, breaks_second, breaks_third, moves_three}
use Rattle.h3_rows.proofs.put.put_names.Goals as goal

pub returns-in_err-after_first-clause-err : goal.returns-in_err-after_first-clause-err
returns-in_err-after_first-clause-err g c =
    let p = err_from_is_err_and c.from_residual.result c.from_residual.ensures.1 in
    let is =
    names_by_parts c.args.job.now.options.now.separator _ _ _ _ _ c.answer_names.ensures.names
    c.error_name-error.ensures.names in
    rw (p.1, p.2) (breaks_first (take c.args.end c.args.block.now) _ _ _
    (sink_use g.W.Sink.taken g.W.Sink.has_failed c.args.out.now c.put_name.new.out) _
    is c.in_err-after_first.ensures.err)

pub returns-in_err-after_second-clause-err : goal.returns-in_err-after_second-clause-err
returns-in_err-after_second-clause-err g c =
    let p =
    err_from_is_err_and c.from_residual-in_err-after_second.result c.from_residual-in_err-after_second.ensures.1 in
    let is =
    names_by_parts c.args.job.now.options.now.separator _ _ _ _ _ c.answer_names.ensures.names
    c.error_name-error.ensures.names in
    rw (p.1, p.2) (breaks_second g.W.Sink.taken g.W.Sink.has_failed (take c.args.end c.args.block.now) _ _ _ _ _ _ _ _ _
    is c.in_ok-after_first.ensures.ok c.in_err-after_second.ensures.err)

pub returns-clause-ok : goal.returns-clause-ok
returns-clause-ok g c =
    let is =
    names_by_parts c.args.job.now.options.now.separator _ _ _ _ _ c.answer_names.ensures.names
    c.error_name-error.ensures.names in
    IfOk-weaker c.put_name-3.result _ _ (λ last k. moves_three g.W.Sink.taken g.W.Sink.has_failed (take c.args.end
    c.args.block.now) _ _ _ _ _ _ _ _ _ _ _ is c.in_ok-after_first.ensures.ok
    c.in_ok-after_second.ensures.ok k) c.put_name-3.ensures.ok

pub returns-clause-err : goal.returns-clause-err
returns-clause-err g c =
    let is =
    names_by_parts c.args.job.now.options.now.separator _ _ _ _ _ c.answer_names.ensures.names
    c.error_name-error.ensures.names in
    IfErr-weaker c.put_name-3.result _ _ (λ e k. breaks_third g.W.Sink.taken g.W.Sink.has_failed (take c.args.end
    c.args.block.now) _ _ _ _ _ _ _ _ _ _ _ is c.in_ok-after_first.ensures.ok
    c.in_ok-after_second.ensures.ok k) c.put_name-3.ensures.err
