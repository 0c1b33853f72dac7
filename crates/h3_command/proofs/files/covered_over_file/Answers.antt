use Rattle.std.proofs.Common.{inl, inr, refl}
use Rattle.std.proofs.KnownBytes.{Keeps-refl}
use Rattle.std.proofs.lemmas.Result.{err_from_is_err_and}
use Rattle.h3_command.proofs.files.covered_over_file.Goals as goal

pub returns-in_err-cells : goal.returns-in_err-cells
returns-in_err-cells g c =
    let p = err_from_is_err_and c.from_residual.result c.from_residual.ensures.1 in
    let (bytes, held, refused) = c.in_err-cells.ensures.refused in
    rw (p.1, p.2) (bytes, held, inr (refused, (refl, refl), (Keeps-refl _, refl)))

pub returns : goal.returns
returns g c =
    let (bytes, held, listed, gives, arranged) = c.in_ok-cells.ensures.cells in
    let ends = rw (c.deref_mut.ensures.value, arranged) at c.answer_covered.ensures in
    (bytes, held, inl (listed, gives, ends))
