use Rattle.std.proofs.Common.{◌<◌, ◌∷◌, [], ◌++◌, ℕ, List, length, take, take_all, arith, length-append, ap, ◌∙◌, sym}
use Rattle.std.proofs.lemmas.Result.{err_from_is_err_and}
use Rattle.h3_lines.specs.Answering.{Moves}
use Rattle.h3_lines.specs.EachLaws.{beginning_longer, moves_all, moves_none, moves_put, moves_then, push_then}
use Rattle.h3_lines.proofs.write.put_text.Goals as goal

pub returns-then-text-end-clause-ok : goal.returns-then-text-end-clause-ok
returns-then-text-end-clause-ok g c =
    let text = c.args.text.now in
    let held = take c.args.end c.args.block.now in
    moves_put g.W.Sink.taken g.W.Sink.has_failed held held (text ++ 10 ∷ []) _ c.args.out.now c.args.out.now
    (moves_none g.W.Sink.taken g.W.Sink.has_failed held c.args.out.now)
    (c.put_ended.ensures.line ∙ ap (λ l. held ++ (l ++ 10 ∷ [])) (take_all (length text) text (omega arith)))

pub returns-in_err-write_all-clause-err : goal.returns-in_err-write_all-clause-err
returns-in_err-write_all-clause-err g c =
    let p = err_from_is_err_and c.from_residual.result c.from_residual.ensures.1 in
    let held = take c.args.end c.args.block.now in
    let line : List ℕ = c.args.text.now ++ 10 ∷ [] in
    let some : 0 < length (held ++ line) =
    omega (arith, length-append held line, length-append c.args.text.now (10 ∷ [])) in
    rw p.1 (some, beginning_longer line c.in_err-write_all.ensures.part, c.in_err-write_all.ensures.err)

pub returns-then-text-lt-BLOCK-clause-ok : goal.returns-then-text-lt-BLOCK-clause-ok
returns-then-text-lt-BLOCK-clause-ok g c =
    let text = c.args.text.now in
    let held = take c.args.end c.args.block.now in
    moves_put g.W.Sink.taken g.W.Sink.has_failed held [] (text ++ 10 ∷ []) _ _ _
    (moves_all g.W.Sink.taken g.W.Sink.has_failed held _ _ c.in_ok-write_all.ensures.written
    c.in_ok-write_all.ensures.ok)
    (c.put_ended-then-text-lt-BLOCK.ensures.line ∙ ap (λ l. l ++ 10 ∷ []) (take_all (length text) text (omega arith)))

pub returns-in_err-write_all-2-clause-err : goal.returns-in_err-write_all-2-clause-err
returns-in_err-write_all-2-clause-err g c =
    let p =
    err_from_is_err_and c.from_residual-in_err-write_all-2.result c.from_residual-in_err-write_all-2.ensures.1 in
    let held = take c.args.end c.args.block.now in
    let line : List ℕ = c.args.text.now ++ 10 ∷ [] in
    let some : 0 < length line = omega (arith, length-append c.args.text.now (10 ∷ [])) in
    rw p.1 (push_then g.W.Sink.taken g.W.Sink.has_failed held [] line _ _ _
    (moves_all g.W.Sink.taken g.W.Sink.has_failed held _ _ c.in_ok-write_all.ensures.written
    c.in_ok-write_all.ensures.ok)
    (some, beginning_longer (10 ∷ []) c.in_err-write_all-2.ensures.part, c.in_err-write_all-2.ensures.err))

pub returns-clause-ok : goal.returns-clause-ok
returns-clause-ok g c =
    let text = c.args.text.now in
    let held = take c.args.end c.args.block.now in
    let line : List ℕ = text ++ 10 ∷ [] in
    let own : Moves g.W.Sink.taken g.W.Sink.has_failed line (take c.put_ended-2.result c.put_ended-2.new.block)
    c.write_all.new.out c.write_all-2.new.out =
    record {
      part = text;
      split = ap (λ l. text ++ l) (sym c.put_ended-2.ensures.line);
      grown = c.in_ok-write_all-2.ensures.written;
      sound = c.in_ok-write_all-2.ensures.ok;
    } in
    moves_then g.W.Sink.taken g.W.Sink.has_failed held [] line _ _ _ _
    (moves_all g.W.Sink.taken g.W.Sink.has_failed held _ _ c.in_ok-write_all.ensures.written
    c.in_ok-write_all.ensures.ok) own
