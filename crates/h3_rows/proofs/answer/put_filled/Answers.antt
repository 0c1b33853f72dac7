use Rattle.std.proofs.Common.{◌≡◌, ◌∙◌, Some, ap, length, subst, sym, take}
use Rattle.std.proofs.lemmas.Result.{IfErr-weaker, IfOk-weaker}
use Rattle.h3_lines.specs.Write.{sink_use}
use Rattle.h3_rows.specs.Answering.{StepEnds, StepsTo, form_of_job, held_of, mark_in, state_of}
use Rattle.h3_rows.specs.Line.{line_of}
use Rattle.h3_rows.specs.Row.{mark_of, row_body, unmarked}
use Rattle.h3_rows.specs.RowsAnswer.{State, Step, answer_to_cell, filled_step, marked, row_cell}
use Rattle.h3_rows.proofs.Marks.{ends_moved_step, steps_moved}
use Rattle.h3_rows.proofs.Returns.{body_of_row}
use Rattle.h3_rows.proofs.answer.put_filled.Goals as goal

pub returns-clause-ok : goal.returns-clause-ok
returns-clause-ok g c =
    let r = c.args.row in
    let s = c.args.state in
    let form = form_of_job g.F.RowFunction.counts_quotes c.args.job.now in
    let answer = g.F.RowFunction.answer_of c.args.job.now.function.now in
    let body = body_of_row r.body.now r.returns r.bare in
    let held = take c.args.end c.args.block.now in
    let held' = take c.in_ok-start.start c.hold_mark.new.block in
    let mark : mark_in c.in_ok-start.start (length c.mark_of-mark.result.now) c.hold_mark.new.block
    ≡ mark_of s.number (row_body (line_of r)) =
    c.in_ok-start.ensures.mark ∙ c.mark_of-mark.ensures.is ∙ ap (mark_of s.number) (sym body) in
    let said : c.read_row-said.result ≡ row_cell form s.number c.args.columns (row_body (line_of r)) =
    c.read_row-said.ensures ∙ ap (row_cell form s.number c.args.columns) (sym body) in
    let line = c.without_mark-row.ensures.line in
    let step : State → Step = λ x. filled_step form answer x (line_of r) (Some c.args.columns) in
    let is : marked (mark_in c.in_ok-start.start (length c.mark_of-mark.result.now) c.hold_mark.new.block)
    (answer_to_cell form answer (state_of s held') (line_of c.without_mark-row.result) c.read_row-said.result)
    ≡ step (state_of s held') =
    ap (λ m. marked m
    (answer_to_cell form answer (state_of s held') (line_of c.without_mark-row.result) c.read_row-said.result)) mark
    ∙ ap (λ l. marked (mark_of s.number (row_body (line_of r)))
    (answer_to_cell form answer (state_of s held') l c.read_row-said.result)) line
    ∙ ap
    (λ d.
    marked (mark_of s.number (row_body (line_of r)))
    (answer_to_cell form answer (state_of s held') (unmarked s.number (line_of r)) d))
    said in
    IfOk-weaker c.put_cell.result _ _ (λ q h.
    steps_moved g.W.Sink.taken g.W.Sink.has_failed c.args.columns s c.requires.known held held' c.args.out.now
    c.hold_mark.new.out c.in_ok-start.ensures.ok step (state_of q.1 (take q.0 c.put_cell.new.block)) q.1.columns
    (take q.0 c.put_cell.new.block) c.put_cell.new.out
    (subst
    (λ x.
    StepsTo g.W.Sink.taken g.W.Sink.has_failed x (state_of q.1 (take q.0 c.put_cell.new.block))
    (held_of s.columns held') (held_of q.1.columns (take q.0 c.put_cell.new.block)) c.hold_mark.new.out
    c.put_cell.new.out)
    is h))
    c.put_cell.ensures.ok

pub returns-clause-err : goal.returns-clause-err
returns-clause-err g c =
    let r = c.args.row in
    let s = c.args.state in
    let form = form_of_job g.F.RowFunction.counts_quotes c.args.job.now in
    let answer = g.F.RowFunction.answer_of c.args.job.now.function.now in
    let body = body_of_row r.body.now r.returns r.bare in
    let held = take c.args.end c.args.block.now in
    let held' = take c.in_ok-start.start c.hold_mark.new.block in
    let mark : mark_in c.in_ok-start.start (length c.mark_of-mark.result.now) c.hold_mark.new.block
    ≡ mark_of s.number (row_body (line_of r)) =
    c.in_ok-start.ensures.mark ∙ c.mark_of-mark.ensures.is ∙ ap (mark_of s.number) (sym body) in
    let said : c.read_row-said.result ≡ row_cell form s.number c.args.columns (row_body (line_of r)) =
    c.read_row-said.ensures ∙ ap (row_cell form s.number c.args.columns) (sym body) in
    let line = c.without_mark-row.ensures.line in
    let step : State → Step = λ x. filled_step form answer x (line_of r) (Some c.args.columns) in
    let is : marked (mark_in c.in_ok-start.start (length c.mark_of-mark.result.now) c.hold_mark.new.block)
    (answer_to_cell form answer (state_of s held') (line_of c.without_mark-row.result) c.read_row-said.result)
    ≡ step (state_of s held') =
    ap (λ m. marked m
    (answer_to_cell form answer (state_of s held') (line_of c.without_mark-row.result) c.read_row-said.result)) mark
    ∙ ap (λ l. marked (mark_of s.number (row_body (line_of r)))
    (answer_to_cell form answer (state_of s held') l c.read_row-said.result)) line
    ∙ ap
    (λ d.
    marked (mark_of s.number (row_body (line_of r)))
    (answer_to_cell form answer (state_of s held') (unmarked s.number (line_of r)) d))
    said in
    IfErr-weaker c.put_cell.result _ _ (λ e h.
    ends_moved_step g.W.Sink.taken g.W.Sink.has_failed c.args.columns s c.requires.known held held' c.args.out.now
    c.hold_mark.new.out c.in_ok-start.ensures.ok step e c.put_cell.new.out
    (subst
    (λ x.
    StepEnds x (held_of s.columns held') e
    (sink_use g.W.Sink.taken g.W.Sink.has_failed c.hold_mark.new.out c.put_cell.new.out))
    is h))
    c.put_cell.ensures.err
