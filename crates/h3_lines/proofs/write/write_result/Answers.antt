use Rattle.std.proofs.Common.{refl}
use Rattle.std.proofs.KnownBytes.{Appends-nil}
use Rattle.std.proofs.lemmas.Result.{err_from_is_err_and}
use Rattle.h3_lines.specs.Write.{Writes}
use Rattle.h3_lines.proofs.write.write_result.Goals as goal

pub returns-in_err-value : goal.returns-in_err-value
unfolding Writes
returns-in_err-value g c =
    let p = err_from_is_err_and c.from_residual.result c.from_residual.ensures.1 in
    rw (p.1, p.2, c.in_err-value.was) (refl, (Appends-nil _, refl))
