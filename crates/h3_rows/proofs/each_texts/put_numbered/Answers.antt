use Rattle.std.proofs.Common.{◌≡◌, [], ◌++◌, take, ap, ◌∙◌, refl, sym, subst, append-nil, append_assoc}
use Rattle.std.proofs.lemmas.List.{nil_from_length}
use Rattle.std.proofs.lemmas.Result.{err_from_is_err_and}
use Rattle.h3_lines.specs.Answering.{Breaks, Moves}
use Rattle.h3_lines.specs.EachLaws.{breaks_more, breaks_then, moves_none, moves_then}
use Rattle.h3_lines.specs.EachTexts.{numbered_lines}
use Rattle.h3_lines.specs.Write.{sink_use}
use Rattle.h3_rows.specs.Line.{line_of}
use Rattle.h3_rows.specs.RowsAnswer.{row_with, rows_with}
use Rattle.h3_rows.proofs.Beside.{numbered_first}
use Rattle.h3_rows.proofs.each_texts.put_numbered.Goals as goal

pub loop-number-init : goal.loop-number-init
loop-number-init g c = record {
  within = c.requires;
  puts = (
    [],
    refl,
    subst
        (λ l.
        Moves g.W.Sink.taken g.W.Sink.has_failed l (take c.args.end c.args.block.now) c.args.out.now c.args.out.now)
        (sym (append-nil (take c.args.end c.args.block.now))) (moves_none g.W.Sink.taken g.W.Sink.has_failed _ _),
  );
}

pub loop-number-preserved : goal.loop-number-preserved
loop-number-preserved g c =
    let (done, split, moves) = c.loop-number.invariant.puts in
    let text = g.F.TextsFunction.text_of c.args.function.now in
    let quotes = g.F.TextsFunction.counts_quotes c.args.function.now in
    let line = line_of c.args.row in
    let held = take c.args.end c.args.block.now in
    let before = take c.loop-number.last c.loop-number.block in
    let after = take c.in_ok-last.last c.put_row.new.block in
    let n = c.in-Some.number.now in
    let one = row_with c.args.separator line (text n ++ c.args.after.now) in
    let more = rows_with c.args.separator quotes c.args.after.now line (numbered_lines text c.in-Some.more.now) in
    let own : Moves g.W.Sink.taken g.W.Sink.has_failed (before ++ one) after c.loop-number.out c.put_row.new.out =
    subst
    (λ t.
    Moves g.W.Sink.taken g.W.Sink.has_failed (before ++ row_with c.args.separator line (t ++ c.args.after.now))
    after c.loop-number.out c.put_row.new.out)
    c.text-text.ensures.text c.in_ok-last.ensures.ok in
    let first =
    numbered_first c.args.separator quotes c.args.after.now line text c.loop-number.rest.now n c.in-Some.more.now
    c.text-text.result.now c.in-Some.ensures.cases.0 c.text-text.ensures.text c.text-text.ensures.line in
    record {
      within = c.in_ok-last.ensures.within;
      puts = (
        done ++ one,
        split ∙ ap (λ l. done ++ l) first ∙ sym (append_assoc done one more),
        subst (λ l. Moves g.W.Sink.taken g.W.Sink.has_failed l after c.args.out.now c.put_row.new.out)
            (append_assoc held done one)
            (moves_then g.W.Sink.taken g.W.Sink.has_failed (held ++ done) _ one _ _ _ _ moves own),
      );
    }

pub returns-in_err-last-clause-err : goal.returns-in_err-last-clause-err
returns-in_err-last-clause-err g c =
    let p = err_from_is_err_and c.from_residual.result c.from_residual.ensures.1 in
    let (done, split, moves) = c.loop-number.invariant.puts in
    let text = g.F.TextsFunction.text_of c.args.function.now in
    let quotes = g.F.TextsFunction.counts_quotes c.args.function.now in
    let line = line_of c.args.row in
    let held = take c.args.end c.args.block.now in
    let before = take c.loop-number.last c.loop-number.block in
    let n = c.in-Some.number.now in
    let one = row_with c.args.separator line (text n ++ c.args.after.now) in
    let more = rows_with c.args.separator quotes c.args.after.now line (numbered_lines text c.in-Some.more.now) in
    let out = sink_use g.W.Sink.taken g.W.Sink.has_failed c.args.out.now c.put_row.new.out in
    let own : Breaks (before ++ one) (sink_use g.W.Sink.taken g.W.Sink.has_failed c.loop-number.out c.put_row.new.out)
    c.in_err-last.field-0.0 =
    subst
    (λ t.
    Breaks (before ++ row_with c.args.separator line (t ++ c.args.after.now))
    (sink_use g.W.Sink.taken g.W.Sink.has_failed c.loop-number.out c.put_row.new.out)
    c.in_err-last.field-0.0)
    c.text-text.ensures.text c.in_err-last.ensures.err in
    let first =
    numbered_first c.args.separator quotes c.args.after.now line text c.loop-number.rest.now n c.in-Some.more.now
    c.text-text.result.now c.in-Some.ensures.cases.0 c.text-text.ensures.text c.text-text.ensures.line in
    rw (p.1, p.2) (subst (λ l. Breaks l out c.in_err-last.field-0.0) (append_assoc (held ++ done) one more
    ∙ append_assoc held done (one ++ more) ∙ ap (λ l. held ++ l) (sym (split ∙ ap (λ l. done ++ l) first)))
    (breaks_more ((held ++ done) ++ one) more out _
    (breaks_then g.W.Sink.taken g.W.Sink.has_failed (held ++ done) _ one _ _ _ _ moves own)))

pub returns-clause-ok : goal.returns-clause-ok
returns-clause-ok g c =
    let (done, split, moves) = c.loop-number.invariant.puts in
    let text = g.F.TextsFunction.text_of c.args.function.now in
    let quotes = g.F.TextsFunction.counts_quotes c.args.function.now in
    let rows = rows_with c.args.separator quotes c.args.after.now (line_of c.args.row) in
    let none : c.loop-number.rest.now ≡ [] = nil_from_length c.loop-number.rest.now c.in_default.ensures.cases in
    let all : rows (numbered_lines text c.args.numbers.now) ≡ done =
    split ∙ ap (λ l. done ++ rows (numbered_lines text l)) none ∙ append-nil done in
    rw all moves
