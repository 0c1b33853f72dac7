use Rattle.std.proofs.Common.{◌≡◌, ◌∷◌, ◌++◌, take, sym, ap}
use Rattle.std.proofs.lemmas.Result.{err_from_is_err_and, IfOk-weaker, IfErr-weaker}
use Rattle.h3_lines.specs.Write.{sink_use}
use Rattle.h3_rows.specs.Line.{line_of}
use Rattle.h3_rows.specs.Row.{row_ending}
use Rattle.h3_rows.specs.RowsAnswer.{row_with}
use Rattle.h3_rows.proofs.Parts.{breaks_first, breaks_second, breaks_third, moves_three}
use Rattle.h3_rows.proofs.Returns.{body_of_row}
use Rattle.h3_rows.proofs.write.put_row.Goals as goal

pub returns-in_err-after_row-clause-err : goal.returns-in_err-after_row-clause-err
returns-in_err-after_row-clause-err g c =
    let p = err_from_is_err_and c.from_residual.result c.from_residual.ensures.1 in
    let r = c.args.row in
    let field = c.args.separator ∷ (c.args.answer.now ++ c.args.after.now) in
    let is : r.body.now ++ (field ++ row_ending (line_of r))
    ≡ row_with c.args.separator (line_of r) (c.args.answer.now ++ c.args.after.now) =
    ap (λ l. l ++ (field ++ row_ending (line_of r))) (sym (body_of_row r.body.now r.returns r.bare)) in
    rw (p.1, p.2) (breaks_first (take c.args.end c.args.block.now) r.body.now _ _
    (sink_use g.W.Sink.taken g.W.Sink.has_failed c.args.out.now c.put_bytes.new.out) _
    is c.in_err-after_row.ensures.err)

pub returns-in_err-after_answer-clause-err : goal.returns-in_err-after_answer-clause-err
returns-in_err-after_answer-clause-err g c =
    let p =
    err_from_is_err_and c.from_residual-in_err-after_answer.result c.from_residual-in_err-after_answer.ensures.1 in
    let r = c.args.row in
    let field = c.args.separator ∷ (c.args.answer.now ++ c.args.after.now) in
    let is : r.body.now ++ (field ++ row_ending (line_of r))
    ≡ row_with c.args.separator (line_of r) (c.args.answer.now ++ c.args.after.now) =
    ap (λ l. l ++ (field ++ row_ending (line_of r))) (sym (body_of_row r.body.now r.returns r.bare)) in
    rw (p.1, p.2) (breaks_second g.W.Sink.taken g.W.Sink.has_failed (take c.args.end c.args.block.now) r.body.now field
    _ _ _ _ _ _ _ is c.in_ok-after_row.ensures.ok c.in_err-after_answer.ensures.err)

pub returns-clause-ok : goal.returns-clause-ok
returns-clause-ok g c =
    let r = c.args.row in
    let field = c.args.separator ∷ (c.args.answer.now ++ c.args.after.now) in
    let is : r.body.now ++ (field ++ row_ending (line_of r))
    ≡ row_with c.args.separator (line_of r) (c.args.answer.now ++ c.args.after.now) =
    ap (λ l. l ++ (field ++ row_ending (line_of r))) (sym (body_of_row r.body.now r.returns r.bare)) in
    IfOk-weaker c.put_ending.result _ _ (λ last k. moves_three g.W.Sink.taken g.W.Sink.has_failed (take c.args.end
    c.args.block.now) r.body.now field _ _ _ _ _ _ _ _ _ is c.in_ok-after_row.ensures.ok
    c.in_ok-after_answer.ensures.ok k) c.put_ending.ensures.ok

pub returns-clause-err : goal.returns-clause-err
returns-clause-err g c =
    let r = c.args.row in
    let field = c.args.separator ∷ (c.args.answer.now ++ c.args.after.now) in
    let is : r.body.now ++ (field ++ row_ending (line_of r))
    ≡ row_with c.args.separator (line_of r) (c.args.answer.now ++ c.args.after.now) =
    ap (λ l. l ++ (field ++ row_ending (line_of r))) (sym (body_of_row r.body.now r.returns r.bare)) in
    IfErr-weaker c.put_ending.result _ _ (λ e k. breaks_third g.W.Sink.taken g.W.Sink.has_failed (take c.args.end
    c.args.block.now) r.body.now field _ _ _ _ _ _ _ _ _ is c.in_ok-after_row.ensures.ok
    c.in_ok-after_answer.ensures.ok k) c.put_ending.ensures.err
