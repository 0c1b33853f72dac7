use Rattle.std.proofs.lemmas.Result.{err_from_is_err_and}
use Rattle.h3_rows.proofs.each_texts.SeveralRowFunction.put_beside.Goals as goal

pub returns-in_err-last-in-Ok-clause-err : goal.returns-in_err-last-in-Ok-clause-err
returns-in_err-last-in-Ok-clause-err g c =
    let p = err_from_is_err_and c.from_residual.result c.from_residual.ensures.1 in
    rw (p.1, p.2) record { text = _; is = c.in-Ok.ensures.ok; breaks = c.in_err-last-in-Ok.ensures.err }

pub returns-in_ok-last-in-Ok-clause-ok : goal.returns-in_ok-last-in-Ok-clause-ok
returns-in_ok-last-in-Ok-clause-ok g c =
    record { text = _; is = c.in-Ok.ensures.ok; moves = c.in_ok-last-in-Ok.ensures.ok }
