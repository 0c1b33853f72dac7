use Rattle.std.proofs.Common.{◌∷◌, ◌++◌, [], take, refl}
use Rattle.std.proofs.lemmas.Result.{err_from_is_err_and, IfOk-weaker, IfErr-weaker}
use Rattle.h3_lines.specs.Write.{sink_use}
use Rattle.h3_rows.proofs.Parts.{breaks_first, breaks_second, breaks_third, moves_three}
use Rattle.h3_rows.proofs.write.put_field.Goals as goal

pub returns-in_err-after_separator-clause-err : goal.returns-in_err-after_separator-clause-err
returns-in_err-after_separator-clause-err g c =
    let p = err_from_is_err_and c.from_residual.result c.from_residual.ensures.1 in
    rw (p.1, p.2) (breaks_first (take c.args.end c.args.block.now) (c.args.separator ∷ []) (c.args.first.now ++
    c.args.more.now) _ (sink_use g.W.Sink.taken g.W.Sink.has_failed c.args.out.now c.put_bytes.new.out) _
    refl c.in_err-after_separator.ensures.err)

pub returns-in_err-after_first-clause-err : goal.returns-in_err-after_first-clause-err
returns-in_err-after_first-clause-err g c =
    let p =
    err_from_is_err_and c.from_residual-in_err-after_first.result c.from_residual-in_err-after_first.ensures.1 in
    rw (p.1, p.2) (breaks_second g.W.Sink.taken g.W.Sink.has_failed (take c.args.end c.args.block.now)
    (c.args.separator ∷ []) c.args.first.now c.args.more.now _ _ _ _ _ _ refl
    c.in_ok-after_separator.ensures.ok c.in_err-after_first.ensures.err)

pub returns-clause-ok : goal.returns-clause-ok
returns-clause-ok g c =
    IfOk-weaker c.put_bytes-3.result _ _ (λ last k.
    moves_three g.W.Sink.taken g.W.Sink.has_failed (take c.args.end c.args.block.now) (c.args.separator ∷ [])
    c.args.first.now c.args.more.now _ _ _ _ _ _ _ _ refl
    c.in_ok-after_separator.ensures.ok c.in_ok-after_first.ensures.ok k) c.put_bytes-3.ensures.ok

pub returns-clause-err : goal.returns-clause-err
returns-clause-err g c =
    IfErr-weaker c.put_bytes-3.result _ _ (λ e k.
    breaks_third g.W.Sink.taken g.W.Sink.has_failed (take c.args.end c.args.block.now) (c.args.separator ∷ [])
    c.args.first.now c.args.more.now _ _ _ _ _ _ _ _ refl
    c.in_ok-after_separator.ensures.ok c.in_ok-after_first.ensures.ok k) c.put_bytes-3.ensures.err
