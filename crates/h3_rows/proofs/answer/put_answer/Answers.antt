use Rattle.std.proofs.Common.{◌≡◌, ◌∙◌, None, Some, ap, false, refl, subst, sym, take, true}
use Rattle.std.proofs.lemmas.Result.{IfErr-weaker, IfOk-weaker}
use Rattle.h3_lines.specs.Write.{sink_use}
use Rattle.h3_lines.specs.declared.run_error.RowError.TheVariants.{Bad}
use Rattle.h3_rows.specs.Answering.{StepEnds, StepsTo, form_of_job, held_of, state_of}
use Rattle.h3_rows.specs.Line.{line_of}
use Rattle.h3_rows.specs.Row.{is_empty_row, read_of, row_body}
use Rattle.h3_rows.specs.RowsAnswer.{columns_in, empty_step, ends, filled_step, free_columns, header_step, malformed, row_step}
use Rattle.h3_rows.proofs.Returns.{body_of_row}
use Rattle.h3_rows.proofs.Steps.{refused_ends}
use Rattle.h3_rows.proofs.answer.put_answer.Goals as goal

pub returns-in-Some-clause-err : goal.returns-in-Some-clause-err
returns-in-Some-clause-err g c =
    let s = c.args.state in
    let held = take c.args.end c.args.block.now in
    let form = form_of_job g.F.RowFunction.counts_quotes c.args.job.now in
    let answer = g.F.RowFunction.answer_of c.args.job.now.function.now in
    let fails : malformed form s.number (line_of c.args.row, c.args.inside) ≡ Some c.in-Some.fault =
    sym c.malformed.ensures ∙ c.in-Some.is in
    let step = row_step form answer (state_of s held) (line_of c.args.row, c.args.inside) in
    let is : step ≡ ends (state_of s held) (Bad c.in-Some.fault) = rw fails refl in
    refused_ends step s held (Bad c.in-Some.fault) _
    (sink_use g.W.Sink.taken g.W.Sink.has_failed c.args.out.now c.refuse_row.new.out) is c.refuse_row.ensures

pub returns-then-is_empty-clause-ok : goal.returns-then-is_empty-clause-ok
returns-then-is_empty-clause-ok g c =
    let s = c.args.state in
    let r = c.args.row in
    let held = take c.args.end c.args.block.now in
    let form = form_of_job g.F.RowFunction.counts_quotes c.args.job.now in
    let answer = g.F.RowFunction.answer_of c.args.job.now.function.now in
    let body = body_of_row r.body.now r.returns r.bare in
    let sound : malformed form s.number (line_of r, c.args.inside) ≡ None = sym c.malformed.ensures ∙ c.in_default.is in
    let read : read_of s.number (row_body (line_of r)) ≡ c.read_of.result.now =
    ap (read_of s.number) body ∙ sym c.read_of.ensures in
    let empty : is_empty_row s.number (row_body (line_of r)) ≡ true =
    rw read (sym c.is_empty.ensures ∙ c.if-is_empty.true) in
    let empty_row = empty_step (state_of s held) (line_of r) s.columns in
    let is : row_step form answer (state_of s held) (line_of r, c.args.inside) ≡ empty_row = rw (sound, empty) refl in
    IfOk-weaker c.put_empty.result _ _ (λ q h. subst (λ x. StepsTo g.W.Sink.taken g.W.Sink.has_failed x (state_of q.1
    (take q.0 c.put_empty.new.block)) (held_of s.columns held) (held_of q.1.columns
    (take q.0 c.put_empty.new.block)) c.args.out.now c.put_empty.new.out) (sym is) h) c.put_empty.ensures.ok

pub returns-in-None-clause-ok : goal.returns-in-None-clause-ok
returns-in-None-clause-ok g c =
    let s = c.args.state in
    let r = c.args.row in
    let held = take c.args.end c.args.block.now in
    let form = form_of_job g.F.RowFunction.counts_quotes c.args.job.now in
    let answer = g.F.RowFunction.answer_of c.args.job.now.function.now in
    let body = body_of_row r.body.now r.returns r.bare in
    let sound : malformed form s.number (line_of r, c.args.inside) ≡ None = sym c.malformed.ensures ∙ c.in_default.is in
    let read : read_of s.number (row_body (line_of r)) ≡ c.read_of.result.now =
    ap (read_of s.number) body ∙ sym c.read_of.ensures in
    let filled : is_empty_row s.number (row_body (line_of r)) ≡ false =
    rw read (sym c.is_empty.ensures ∙ c.if-is_empty.false) in
    let header =
    header_step form (state_of s held) (line_of r) (free_columns form (read_of s.number (row_body (line_of r)))
    (columns_in form (read_of s.number (row_body (line_of r))))) in
    let is : row_step form answer (state_of s held) (line_of r, c.args.inside) ≡ header =
    rw (sound, filled, c.in-None.is) refl in
    IfOk-weaker c.put_header.result _ _ (λ q h. subst (λ x. StepsTo g.W.Sink.taken g.W.Sink.has_failed x (state_of q.1
    (take q.0 c.put_header.new.block)) (held_of s.columns held) (held_of q.1.columns
    (take q.0 c.put_header.new.block)) c.args.out.now c.put_header.new.out) (sym is) h) c.put_header.ensures.ok

pub returns-in-Some-columns-clause-ok : goal.returns-in-Some-columns-clause-ok
returns-in-Some-columns-clause-ok g c =
    let s = c.args.state in
    let r = c.args.row in
    let held = take c.args.end c.args.block.now in
    let form = form_of_job g.F.RowFunction.counts_quotes c.args.job.now in
    let answer = g.F.RowFunction.answer_of c.args.job.now.function.now in
    let body = body_of_row r.body.now r.returns r.bare in
    let sound : malformed form s.number (line_of r, c.args.inside) ≡ None = sym c.malformed.ensures ∙ c.in_default.is in
    let read : read_of s.number (row_body (line_of r)) ≡ c.read_of.result.now =
    ap (read_of s.number) body ∙ sym c.read_of.ensures in
    let filled : is_empty_row s.number (row_body (line_of r)) ≡ false =
    rw read (sym c.is_empty.ensures ∙ c.if-is_empty.false) in
    let cell = filled_step form answer (state_of s held) (line_of r) (Some c.in-Some-columns.columns) in
    let is : row_step form answer (state_of s held) (line_of r, c.args.inside) ≡ cell =
    rw (sound, filled, c.in-Some-columns.is) refl in
    IfOk-weaker c.put_filled.result _ _ (λ q h. subst (λ x. StepsTo g.W.Sink.taken g.W.Sink.has_failed x (state_of q.1
    (take q.0 c.put_filled.new.block)) (held_of s.columns held) (held_of q.1.columns
    (take q.0 c.put_filled.new.block)) c.args.out.now c.put_filled.new.out) (sym is) h) c.put_filled.ensures.ok

pub returns-then-is_empty-clause-err : goal.returns-then-is_empty-clause-err
returns-then-is_empty-clause-err g c =
    let s = c.args.state in
    let r = c.args.row in
    let held = take c.args.end c.args.block.now in
    let form = form_of_job g.F.RowFunction.counts_quotes c.args.job.now in
    let answer = g.F.RowFunction.answer_of c.args.job.now.function.now in
    let body = body_of_row r.body.now r.returns r.bare in
    let sound : malformed form s.number (line_of r, c.args.inside) ≡ None = sym c.malformed.ensures ∙ c.in_default.is in
    let read : read_of s.number (row_body (line_of r)) ≡ c.read_of.result.now =
    ap (read_of s.number) body ∙ sym c.read_of.ensures in
    let empty : is_empty_row s.number (row_body (line_of r)) ≡ true =
    rw read (sym c.is_empty.ensures ∙ c.if-is_empty.true) in
    let empty_row = empty_step (state_of s held) (line_of r) s.columns in
    let is : row_step form answer (state_of s held) (line_of r, c.args.inside) ≡ empty_row = rw (sound, empty) refl in
    IfErr-weaker c.put_empty.result _ _ (λ e h. subst
    (λ x. StepEnds x (held_of s.columns held) e (sink_use g.W.Sink.taken g.W.Sink.has_failed c.args.out.now
    c.put_empty.new.out)) (sym is) h) c.put_empty.ensures.err

pub returns-in-None-clause-err : goal.returns-in-None-clause-err
returns-in-None-clause-err g c =
    let s = c.args.state in
    let r = c.args.row in
    let held = take c.args.end c.args.block.now in
    let form = form_of_job g.F.RowFunction.counts_quotes c.args.job.now in
    let answer = g.F.RowFunction.answer_of c.args.job.now.function.now in
    let body = body_of_row r.body.now r.returns r.bare in
    let sound : malformed form s.number (line_of r, c.args.inside) ≡ None = sym c.malformed.ensures ∙ c.in_default.is in
    let read : read_of s.number (row_body (line_of r)) ≡ c.read_of.result.now =
    ap (read_of s.number) body ∙ sym c.read_of.ensures in
    let filled : is_empty_row s.number (row_body (line_of r)) ≡ false =
    rw read (sym c.is_empty.ensures ∙ c.if-is_empty.false) in
    let header =
    header_step form (state_of s held) (line_of r) (free_columns form (read_of s.number (row_body (line_of r)))
    (columns_in form (read_of s.number (row_body (line_of r))))) in
    let is : row_step form answer (state_of s held) (line_of r, c.args.inside) ≡ header =
    rw (sound, filled, c.in-None.is) refl in
    IfErr-weaker c.put_header.result _ _ (λ e h. subst
    (λ x. StepEnds x (held_of s.columns held) e (sink_use g.W.Sink.taken g.W.Sink.has_failed c.args.out.now
    c.put_header.new.out)) (sym is) h) c.put_header.ensures.err

pub returns-in-Some-columns-clause-err : goal.returns-in-Some-columns-clause-err
returns-in-Some-columns-clause-err g c =
    let s = c.args.state in
    let r = c.args.row in
    let held = take c.args.end c.args.block.now in
    let form = form_of_job g.F.RowFunction.counts_quotes c.args.job.now in
    let answer = g.F.RowFunction.answer_of c.args.job.now.function.now in
    let body = body_of_row r.body.now r.returns r.bare in
    let sound : malformed form s.number (line_of r, c.args.inside) ≡ None = sym c.malformed.ensures ∙ c.in_default.is in
    let read : read_of s.number (row_body (line_of r)) ≡ c.read_of.result.now =
    ap (read_of s.number) body ∙ sym c.read_of.ensures in
    let filled : is_empty_row s.number (row_body (line_of r)) ≡ false =
    rw read (sym c.is_empty.ensures ∙ c.if-is_empty.false) in
    let cell = filled_step form answer (state_of s held) (line_of r) (Some c.in-Some-columns.columns) in
    let is : row_step form answer (state_of s held) (line_of r, c.args.inside) ≡ cell =
    rw (sound, filled, c.in-Some-columns.is) refl in
    IfErr-weaker c.put_filled.result _ _ (λ e h. subst
    (λ x. StepEnds x (held_of s.columns held) e (sink_use g.W.Sink.taken g.W.Sink.has_failed c.args.out.now
    c.put_filled.new.out)) (sym is) h) c.put_filled.ensures.err
