use Rattle.std.proofs.Common.{false, ◌≡◌, ◌++◌, [], take, sym, ap, ◌∙◌, refl, subst, append-nil, append_assoc}
use Rattle.std.proofs.lemmas.Result.{err_from_is_err_and}
use Rattle.h3_lines.specs.Write.{sink_use}
use Rattle.h3_lines.specs.Answering.{Breaks, Moves}
use Rattle.h3_rows.specs.Line.{line_of}
use Rattle.h3_rows.specs.RowsAnswer.{row_with, rows_with}
use Rattle.h3_lines.specs.EachLaws.{breaks_more, breaks_then, moves_none, moves_then}
use Rattle.h3_rows.proofs.Beside.{first_with, last_with}
use Rattle.h3_rows.proofs.write.put_rows.Goals as goal

pub loop-answer-init : goal.loop-answer-init
loop-answer-init g c = record {
  within = c.requires;
  puts = (
    [],
    refl,
    subst
        (λ l.
        Moves g.W.Sink.taken g.W.Sink.has_failed l (take c.args.end c.args.block.now) c.args.out.now c.args.out.now)
        (sym (append-nil (take c.args.end c.args.block.now))) (moves_none g.W.Sink.taken g.W.Sink.has_failed _ _),
  );
}

pub loop-answer-preserved : goal.loop-answer-preserved
loop-answer-preserved g c =
    let (done, split, moves) = c.loop-answer.invariant.puts in
    let held = take c.args.end c.args.block.now in
    let one = row_with c.args.separator (line_of c.args.row) (c.in-Ok.answer.now ++ c.args.after.now) in
    let row : Moves g.W.Sink.taken g.W.Sink.has_failed (take c.loop-answer.last c.loop-answer.block ++ one)
    (take c.in_ok-last.last c.put_row.new.block) c.loop-answer.out c.put_row.new.out =
    c.in_ok-last.ensures.ok in
    let more = rows_with c.args.separator false c.args.after.now (line_of c.args.row) c.in-Ok.more.now in
    record {
      within = c.in_ok-last.ensures.within;
      puts = (
        done ++ one,
        split
            ∙ ap (λ l. done ++ l) (first_with c.args.separator false c.args.after.now
            (line_of c.args.row) c.loop-answer.rest.now c.in-Ok.answer.now c.in-Ok.more.now c.in-Ok.ensures.cut)
            ∙ sym (append_assoc done one more),
        subst
            (λ l. Moves g.W.Sink.taken g.W.Sink.has_failed l (take c.in_ok-last.last c.put_row.new.block) c.args.out.now
            c.put_row.new.out) (append_assoc held done one)
            (moves_then g.W.Sink.taken g.W.Sink.has_failed (held ++ done) _ one _ _ _ _ moves row),
      );
    }

pub returns-in_err-last-clause-err : goal.returns-in_err-last-clause-err
returns-in_err-last-clause-err g c =
    let p = err_from_is_err_and c.from_residual.result c.from_residual.ensures.1 in
    let (done, split, moves) = c.loop-answer.invariant.puts in
    let held = take c.args.end c.args.block.now in
    let one = row_with c.args.separator (line_of c.args.row) (c.in-Ok.answer.now ++ c.args.after.now) in
    let out = sink_use g.W.Sink.taken g.W.Sink.has_failed c.args.out.now c.put_row.new.out in
    let more = rows_with c.args.separator false c.args.after.now (line_of c.args.row) c.in-Ok.more.now in
    let first : Breaks (take c.loop-answer.last c.loop-answer.block ++ one)
    (sink_use g.W.Sink.taken g.W.Sink.has_failed c.loop-answer.out c.put_row.new.out) c.in_err-last.field-0.0 =
    c.in_err-last.ensures.err in
    let all : rows_with c.args.separator false c.args.after.now (line_of c.args.row) c.args.text.now
    ≡ (done ++ one) ++ more =
    split
    ∙ ap (λ l. done ++ l) (first_with c.args.separator false c.args.after.now
    (line_of c.args.row) c.loop-answer.rest.now c.in-Ok.answer.now c.in-Ok.more.now c.in-Ok.ensures.cut)
    ∙ sym (append_assoc done one more) in
    rw (p.1, p.2, all) (subst (λ l. Breaks l out c.in_err-last.field-0.0) (append_assoc (held ++ done) one more
    ∙ append_assoc held done (one ++ more) ∙ ap (λ l. held ++ l) (sym (append_assoc done one more)))
    (breaks_more ((held ++ done) ++ one) more out _
    (breaks_then g.W.Sink.taken g.W.Sink.has_failed (held ++ done) _ one _ _ _ _ moves first)))

pub returns-clause-ok : goal.returns-clause-ok
returns-clause-ok g c =
    let (done, split, moves) = c.loop-answer.invariant.puts in
    let all : rows_with c.args.separator false c.args.after.now (line_of c.args.row) c.args.text.now ≡ done =
    split
    ∙ ap (λ l. done ++ l) (last_with c.args.separator false c.args.after.now
    (line_of c.args.row) c.loop-answer.rest.now _ c.in_default.ensures.uncut)
    ∙ append-nil done in
    rw all moves
