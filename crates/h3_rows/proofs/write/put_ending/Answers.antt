use Rattle.std.proofs.Common.{◌∷◌, ◌++◌, [], replicate, take, sym, ap}
use Rattle.std.proofs.lemmas.Result.{err_from_is_err_and, IfOk-weaker, IfErr-weaker}
use Rattle.h3_lines.specs.Write.{sink_use}
use Rattle.h3_rows.proofs.Parts.{breaks_first, breaks_last, moves_two}
use Rattle.h3_rows.proofs.Returns.{returns_of_row}
use Rattle.h3_rows.proofs.write.put_ending.Goals as goal

pub returns-in_err-after_returns-clause-err : goal.returns-in_err-after_returns-clause-err
returns-in_err-after_returns-clause-err g c =
    let p = err_from_is_err_and c.from_residual.result c.from_residual.ensures.1 in
    let r = c.args.row in
    rw (p.1, p.2) (breaks_first (take c.args.end c.args.block.now) (replicate r.returns 13) (10 ∷ []) _
    (sink_use g.W.Sink.taken g.W.Sink.has_failed c.args.out.now c.put_returns.new.out) _
    (ap (λ l. l ++ 10 ∷ []) (sym (returns_of_row r.body.now r.returns r.bare))) c.in_err-after_returns.ensures.err)

pub returns-clause-ok : goal.returns-clause-ok
returns-clause-ok g c =
    let r = c.args.row in
    IfOk-weaker c.put_bytes.result _ _ (λ last k.
    moves_two g.W.Sink.taken g.W.Sink.has_failed (take c.args.end c.args.block.now) (replicate r.returns 13)
    (10 ∷ []) _ _ _ _ _ _
    (ap (λ l. l ++ 10 ∷ []) (sym (returns_of_row r.body.now r.returns r.bare))) c.in_ok-after_returns.ensures.ok k)
    c.put_bytes.ensures.ok

pub returns-clause-err : goal.returns-clause-err
returns-clause-err g c =
    let r = c.args.row in
    IfErr-weaker c.put_bytes.result _ _ (λ e k.
    breaks_last g.W.Sink.taken g.W.Sink.has_failed (take c.args.end c.args.block.now) (replicate r.returns 13)
    (10 ∷ []) _ _ _ _ _ _
    (ap (λ l. l ++ 10 ∷ []) (sym (returns_of_row r.body.now r.returns r.bare))) c.in_ok-after_returns.ensures.ok k)
    c.put_bytes.ensures.err
