use Rattle.std.proofs.Common.{refl, inl, inr}
use Rattle.std.proofs.KnownBytes.{Keeps-refl}
use Rattle.std.proofs.lemmas.Result.{err_from_is_err_and}
use Rattle.h3_command.proofs.files.CombineListFunction.write.Goals as goal

pub returns-in_err-made : goal.returns-in_err-made
returns-in_err-made g c =
    let p = err_from_is_err_and c.from_residual.result c.from_residual.ensures.1 in
    rw (p.1, p.2, c.in_err-made.ensures.err) (inr (refl, (Keeps-refl _, refl)))

pub returns : goal.returns
returns g c = inl (rw (c.deref_mut.ensures.value, c.in_ok-made.ensures.ok) at c.write_region.ensures)
