use Rattle.std.proofs.Common.{◌≡◌, ◌∷◌, [], ◌++◌, ℕ, List, take, ap, ◌∙◌, sym, subst, append-nil, append_assoc}
use Rattle.std.proofs.lemmas.List.{nil_from_length}
use Rattle.std.proofs.lemmas.Result.{err_from_is_err_and}
use Rattle.h3_lines.specs.Answering.{FailsPush, Moves}
use Rattle.h3_lines.specs.EachLaws.{moves_then, push_more, push_then}
use Rattle.h3_lines.specs.EachTexts.{numbered_lines}
use Rattle.h3_lines.specs.Write.{sink_use}
use Rattle.h3_lines.proofs.each_texts.put_numbered.Goals as goal

pub loop-number-preserved : goal.loop-number-preserved
loop-number-preserved g c =
    let (done, split, moves) = c.loop-number.invariant.puts in
    let text = g.F.TextsFunction.text_of c.args.function.now in
    let held = take c.args.end c.args.block.now in
    let before = take c.loop-number.last c.loop-number.block in
    let after = take c.in_ok-last.last c.put_text.new.block in
    let line : List ℕ = text c.in-Some.number.now ++ 10 ∷ [] in
    let more = numbered_lines text c.in-Some.more.now in
    let own : Moves g.W.Sink.taken g.W.Sink.has_failed (before ++ line) after c.loop-number.out c.put_text.new.out =
    subst
    (λ t.
    Moves g.W.Sink.taken g.W.Sink.has_failed (before ++ (t ++ 10 ∷ [])) after c.loop-number.out
    c.put_text.new.out)
    c.text.ensures.text c.in_ok-last.ensures.ok in
    let first : numbered_lines text c.loop-number.rest.now ≡ line ++ more =
    ap (numbered_lines text) c.in-Some.ensures.cases.0 in
    record {
      within = c.in_ok-last.ensures.within;
      puts = (
        done ++ line,
        split ∙ ap (λ l. done ++ l) first ∙ sym (append_assoc done line more),
        subst (λ l. Moves g.W.Sink.taken g.W.Sink.has_failed l after c.args.out.now c.put_text.new.out)
            (append_assoc held done line)
            (moves_then g.W.Sink.taken g.W.Sink.has_failed (held ++ done) _ line _ _ _ _ moves own),
      );
    }

pub returns-in_err-last-clause-err : goal.returns-in_err-last-clause-err
returns-in_err-last-clause-err g c =
    let p = err_from_is_err_and c.from_residual.result c.from_residual.ensures.1 in
    let (done, split, moves) = c.loop-number.invariant.puts in
    let text = g.F.TextsFunction.text_of c.args.function.now in
    let held = take c.args.end c.args.block.now in
    let before = take c.loop-number.last c.loop-number.block in
    let line : List ℕ = text c.in-Some.number.now ++ 10 ∷ [] in
    let more = numbered_lines text c.in-Some.more.now in
    let out = sink_use g.W.Sink.taken g.W.Sink.has_failed c.args.out.now c.put_text.new.out in
    let own : FailsPush (before ++ line)
    (sink_use g.W.Sink.taken g.W.Sink.has_failed c.loop-number.out c.put_text.new.out) =
    subst
    (λ t.
    FailsPush (before ++ (t ++ 10 ∷ []))
    (sink_use g.W.Sink.taken g.W.Sink.has_failed c.loop-number.out c.put_text.new.out))
    c.text.ensures.text c.in_err-last.ensures.err in
    let first : numbered_lines text c.loop-number.rest.now ≡ line ++ more =
    ap (numbered_lines text) c.in-Some.ensures.cases.0 in
    rw p.1 (subst (λ l. FailsPush l out) (append_assoc (held ++ done) line more ∙ append_assoc held done (line ++ more)
    ∙ ap (λ l. held ++ l) (sym (split ∙ ap (λ l. done ++ l) first)))
    (push_more ((held ++ done) ++ line) more out
    (push_then g.W.Sink.taken g.W.Sink.has_failed (held ++ done) _ line _ _ _ moves own)))

pub returns-clause-ok : goal.returns-clause-ok
returns-clause-ok g c =
    let (done, split, moves) = c.loop-number.invariant.puts in
    let text = g.F.TextsFunction.text_of c.args.function.now in
    let none : c.loop-number.rest.now ≡ [] = nil_from_length c.loop-number.rest.now c.in_default.ensures.cases in
    let all : numbered_lines text c.args.numbers.now ≡ done =
    split ∙ ap (λ l. done ++ numbered_lines text l) none ∙ append-nil done in
    rw all moves
