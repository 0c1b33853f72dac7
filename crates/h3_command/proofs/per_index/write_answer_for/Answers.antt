use Rattle.std.proofs.Common.{ap, refl, sym, ◌∙◌}
use Rattle.std.proofs.KnownBytes.{Keeps-refl}
use Rattle.std.proofs.lemmas.Result.{err_from_is_err_and}
use Rattle.h3_lines.specs.Answer.{written}
use Rattle.h3_command.proofs.Written.{writes_refused}
use Rattle.h3_command.proofs.per_index.write_answer_for.Goals as goal

pub returns-in_err-end : goal.returns-in_err-end
returns-in_err-end g c =
    let p = err_from_is_err_and c.from_residual.result c.from_residual.ensures.1 in
    rw (p.1, p.2, c.in_err-end.ensures.err) (writes_refused _ _ (Keeps-refl _, refl))

pub returns : goal.returns
returns g c = rw (c.in_ok-end.ensures.ok.is ∙ ap written (sym c.in_ok-end.ensures.ok.put)) c.write_answer.ensures
