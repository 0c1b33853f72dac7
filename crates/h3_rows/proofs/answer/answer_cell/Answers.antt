use Rattle.std.proofs.Common.{codes, IfOk, ◌≡◌, ◌++◌, ◌∷◌, [], Ok, Err, Some, ap, ◌∙◌, refl, subst, take}
use Rattle.std.proofs.lemmas.Result.{err_from_is_err_and}
use Rattle.h3_lines.specs.Answering.{Breaks}
use Rattle.h3_lines.specs.Write.{sink_use}
use Rattle.h3_rows.specs.Answering.{PutsBeside, form_of_job}
use Rattle.h3_rows.specs.Line.{line_of}
use Rattle.h3_rows.specs.RowsAnswer.{answered_with, error_field, rows_with, unanswered}
use Rattle.h3_rows.specs.declared.row_cell.RowCell.TheVariants.{Index, Missing}
use Rattle.h3_rows.proofs.Naming.{puts_cell}
use Rattle.h3_rows.proofs.answer.answer_cell.Goals as goal

pub returns-in_err-put-in-Ok-Index-clause-err : goal.returns-in_err-put-in-Ok-Index-clause-err
returns-in_err-put-in-Ok-Index-clause-err g c =
    let p = err_from_is_err_and c.from_residual.result c.from_residual.ensures.1 in
    let r = c.args.row in
    let form = form_of_job g.F.RowFunction.counts_quotes c.args.job.now in
    let field : c.in-Ok-Index.field-0 ≡ Index c.in-Ok-Index.index = rw c.in-Ok-Index.is at c.in-Ok-Index.field-0-is in
    let whole : c.args.said ≡ Ok c.in-Ok-Index.field-0 = c.in-Ok-Index.is in
    let said : c.args.said ≡ Ok (Index c.in-Ok-Index.index) = whole ∙ ap Ok field in
    let b = c.in_err-put-in-Ok-Index.ensures.err in
    let sep = c.args.job.now.options.now.separator in
    let held = take c.args.end c.args.block.now in
    let after : take c.after_size.result (sep ∷ []) ≡ error_field form [] =
    c.after_size.ensures.after c.args.job.now.name.now c.args.job.now.is_pair in
    let out = sink_use g.W.Sink.taken g.W.Sink.has_failed c.args.out.now c.put_beside.new.out in
    rw (p.1, p.2) record {
      text = answered_with form (line_of r) b.text;
      is = λ s. rw (said, b.is) refl;
      breaks = subst
          (λ l. Breaks (held ++ rows_with sep form.quoted_answers l (line_of r) b.text) out
          c.in_err-put-in-Ok-Index.field-0.0) after b.breaks;
    }

pub returns-in_err-last-in-Ok-Missing-clause-err : goal.returns-in_err-last-in-Ok-Missing-clause-err
returns-in_err-last-in-Ok-Missing-clause-err g c =
    let p =
    err_from_is_err_and c.from_residual-in_err-last-in-Ok-Missing.result
    c.from_residual-in_err-last-in-Ok-Missing.ensures.1 in
    let r = c.args.row in
    let form = form_of_job g.F.RowFunction.counts_quotes c.args.job.now in
    let field : c.in-Ok-Missing.field-0 ≡ Missing = rw c.in-Ok-Missing.is at c.in-Ok-Missing.field-0-is in
    let whole : c.args.said ≡ Ok c.in-Ok-Missing.field-0 = c.in-Ok-Missing.is in
    let said : c.args.said ≡ Ok Missing = whole ∙ ap Ok field in
    rw (p.1, p.2) record {
      text = unanswered form (line_of r) (codes "missing");
      is = λ s. rw said refl;
      breaks = c.in_err-last-in-Ok-Missing.ensures.err;
    }

pub returns-in-Ok-clause-ok : goal.returns-in-Ok-clause-ok
returns-in-Ok-clause-ok g c =
    let r = c.args.row in
    let form = form_of_job g.F.RowFunction.counts_quotes c.args.job.now in
    let field : c.in-Ok-Index.field-0 ≡ Index c.in-Ok-Index.index = rw c.in-Ok-Index.is at c.in-Ok-Index.field-0-is in
    let whole : c.args.said ≡ Ok c.in-Ok-Index.field-0 = c.in-Ok-Index.is in
    let said : c.args.said ≡ Ok (Index c.in-Ok-Index.index) = whole ∙ ap Ok field in
    let sep = c.args.job.now.options.now.separator in
    let held = take c.args.end c.args.block.now in
    let answer = g.F.RowFunction.answer_of c.args.job.now.function.now in
    let after : take c.after_size.result (sep ∷ []) ≡ error_field form [] =
    c.after_size.ensures.after c.args.job.now.name.now c.args.job.now.is_pair in
    puts_cell form answer c.args.said (line_of r) held _ (take c.after_size.result (sep ∷
    [])) c.in-Ok-Index.index g.W.Sink.taken g.W.Sink.has_failed c.args.out.now c.put_beside.new.out said after
    (subst (λ o. IfOk o (λ last. PutsBeside g.W.Sink.taken g.W.Sink.has_failed (answer (Some c.in-Ok-Index.index)) sep
    form.quoted_answers (take c.after_size.result (sep ∷ [])) (line_of r) held (take last c.put_beside.new.block)
    c.args.out.now c.put_beside.new.out)) c.in-Ok.is c.in_ok-put-in-Ok-Index.ensures.ok)

pub returns-in-Err-put-clause-faulty : goal.returns-in-Err-put-clause-faulty
returns-in-Err-put-clause-faulty g c s =
    let r = c.args.row in
    let form = form_of_job g.F.RowFunction.counts_quotes c.args.job.now in
    let field : c.in-Ok-Index.field-0 ≡ Index c.in-Ok-Index.index = rw c.in-Ok-Index.is at c.in-Ok-Index.field-0-is in
    let whole : c.args.said ≡ Ok c.in-Ok-Index.field-0 = c.in-Ok-Index.is in
    let said : c.args.said ≡ Ok (Index c.in-Ok-Index.index) = whole ∙ ap Ok field in
    let refuses = rw c.in-Err-put.is at c.in_ok-put-in-Ok-Index.ensures.refused in
    rw (said, refuses) refl

pub returns-in_ok-last-in-Ok-Missing-clause-ok : goal.returns-in_ok-last-in-Ok-Missing-clause-ok
returns-in_ok-last-in-Ok-Missing-clause-ok g c =
    let r = c.args.row in
    let form = form_of_job g.F.RowFunction.counts_quotes c.args.job.now in
    let field : c.in-Ok-Missing.field-0 ≡ Missing = rw c.in-Ok-Missing.is at c.in-Ok-Missing.field-0-is in
    let whole : c.args.said ≡ Ok c.in-Ok-Missing.field-0 = c.in-Ok-Missing.is in
    let said : c.args.said ≡ Ok Missing = whole ∙ ap Ok field in
    record {
      text = unanswered form (line_of r) (codes "missing");
      is = λ s. rw said refl;
      moves = c.in_ok-last-in-Ok-Missing.ensures.ok;
    }

pub returns-in-Err-clause-faulty : goal.returns-in-Err-clause-faulty
returns-in-Err-clause-faulty g c s =
    let r = c.args.row in
    let form = form_of_job g.F.RowFunction.counts_quotes c.args.job.now in
    let said : c.args.said ≡ Err c.in-Err.fault = c.in-Err.is in
    rw said refl
