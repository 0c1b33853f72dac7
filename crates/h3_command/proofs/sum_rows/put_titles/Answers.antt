use Rattle.std.proofs.Common.{◌++◌, ◌∷◌, [], codes, subst, take}
use Rattle.std.proofs.lemmas.Result.{err_from_is_err_and}
use Rattle.h3_lines.specs.Answering.{FailsPush, Moves}
use Rattle.h3_lines.specs.EachLaws.{moves_put, moves_then, push_more, push_then}
use Rattle.h3_lines.specs.Write.{sink_use}
use Rattle.h3_command.proofs.RowsPut.{row_parts, title_parts, when_err, when_ok}
use Rattle.h3_command.proofs.sum_rows.put_titles.Goals as goal

pub returns-in_err-at-clause-err : goal.returns-in_err-at-clause-err
returns-in_err-at-clause-err g c =
    let p = err_from_is_err_and c.from_residual.result c.from_residual.ensures.1 in
    let rest = codes "count" ++ c.args.separator ∷ (c.in-Some.sums.now ++ 10 ∷ []) in
    let out = sink_use g.W.Sink.taken g.W.Sink.has_failed c.args.out.now c.put_name.new.out in
    let fails =
    subst (λ l. FailsPush l out) (row_parts [] c.in-Some.names.now c.args.separator rest)
    (push_more _ rest out c.in_err-at.ensures.err) in
    rw (p.1, c.in-Some.is) fails

pub returns-clause-ok : goal.returns-clause-ok
returns-clause-ok g c =
    let separator = c.args.separator in
    let count = codes "count" ++ separator ∷ [] in
    let names = c.in-Some.names.now ++ separator ∷ [] in
    let sums = c.in-Some.sums.now ++ 10 ∷ [] in
    let begun =
    moves_put g.W.Sink.taken g.W.Sink.has_failed _ _ count _ _ _ c.in_ok-at.ensures.ok c.hold-end.ensures.held in
    rw c.in-Some.is (when_ok c.put_name-2.result _ _ c.put_name-2.ensures.ok (λ at ok.
    subst (λ l. Moves g.W.Sink.taken g.W.Sink.has_failed l
    (take at c.put_name-2.new.block) c.args.out.now c.put_name-2.new.out)
    (title_parts c.in-Some.names.now separator sums)
    (moves_then g.W.Sink.taken g.W.Sink.has_failed (names ++ count) _ sums _ _ _ _ begun ok)))

pub returns-clause-err : goal.returns-clause-err
returns-clause-err g c =
    let separator = c.args.separator in
    let count = codes "count" ++ separator ∷ [] in
    let names = c.in-Some.names.now ++ separator ∷ [] in
    let sums = c.in-Some.sums.now ++ 10 ∷ [] in
    let out = sink_use g.W.Sink.taken g.W.Sink.has_failed c.args.out.now c.put_name-2.new.out in
    let begun =
    moves_put g.W.Sink.taken g.W.Sink.has_failed _ _ count _ _ _ c.in_ok-at.ensures.ok c.hold-end.ensures.held in
    rw c.in-Some.is (when_err c.put_name-2.result _ _ c.put_name-2.ensures.err (λ fails.
    subst (λ l. FailsPush l out) (title_parts c.in-Some.names.now separator sums)
    (push_then g.W.Sink.taken g.W.Sink.has_failed (names ++ count) _ sums _ _ _ begun fails)))
