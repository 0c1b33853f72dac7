use Rattle.std.proofs.Common.{◌≡◌, ◌++◌, ◌∷◌, [], take, sym, ap, ◌∙◌}
use Rattle.std.proofs.lemmas.Result.{err_from_is_err_and, IfErr-weaker, IfOk-weaker}
use Rattle.h3_lines.specs.Write.{sink_use}
use Rattle.h3_rows.specs.Line.{line_of}
use Rattle.h3_rows.specs.Row.{row_ending}
use Rattle.h3_rows.proofs.CutAgain.{rows_are_whole}
use Rattle.h3_rows.proofs.Parts.{breaks_first, breaks_last, moves_two}
use Rattle.h3_rows.proofs.Returns.{body_of_row}
use Rattle.h3_rows.proofs.put.put_line.Goals as goal

pub returns-in_err-after_row-clause-err : goal.returns-in_err-after_row-clause-err
returns-in_err-after_row-clause-err g c =
    let p = err_from_is_err_and c.from_residual.result c.from_residual.ensures.1 in
    let r = c.args.row in
    let is : r.body.now ++ row_ending (line_of r) ≡ line_of r ++ 10 ∷ [] =
    ap (λ l. l ++ row_ending (line_of r)) (sym (body_of_row r.body.now r.returns r.bare))
    ∙ rows_are_whole (line_of r) in
    rw (p.1, p.2) (breaks_first (take c.args.end c.args.block.now) r.body.now _ _
    (sink_use g.W.Sink.taken g.W.Sink.has_failed c.args.out.now c.put_bytes.new.out) _
    is c.in_err-after_row.ensures.err)

pub returns-clause-ok : goal.returns-clause-ok
returns-clause-ok g c =
    let r = c.args.row in
    let is : r.body.now ++ row_ending (line_of r) ≡ line_of r ++ 10 ∷ [] =
    ap (λ l. l ++ row_ending (line_of r)) (sym (body_of_row r.body.now r.returns r.bare))
    ∙ rows_are_whole (line_of r) in
    IfOk-weaker c.put_ending.result _ _ (λ last k. moves_two g.W.Sink.taken g.W.Sink.has_failed (take c.args.end
    c.args.block.now) r.body.now _ _ _ _ _ _ _ is c.in_ok-after_row.ensures.ok k) c.put_ending.ensures.ok

pub returns-clause-err : goal.returns-clause-err
returns-clause-err g c =
    let r = c.args.row in
    let is : r.body.now ++ row_ending (line_of r) ≡ line_of r ++ 10 ∷ [] =
    ap (λ l. l ++ row_ending (line_of r)) (sym (body_of_row r.body.now r.returns r.bare))
    ∙ rows_are_whole (line_of r) in
    IfErr-weaker c.put_ending.result _ _ (λ e k. breaks_last g.W.Sink.taken g.W.Sink.has_failed (take c.args.end
    c.args.block.now) r.body.now _ _ _ _ _ _ _ is c.in_ok-after_row.ensures.ok k) c.put_ending.ensures.err
