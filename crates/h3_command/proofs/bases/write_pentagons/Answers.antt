use Rattle.std.proofs.Common.{w32, rules, ap, refl}
use Rattle.std.specs.Iterator.{YieldsFirst}
use Rattle.std.proofs.KnownBytes.{Keeps-refl}
use Rattle.std.proofs.lemmas.Int.{to_z-of_z}
use Rattle.std.proofs.lemmas.Result.{err_from_is_err_and}
use Rattle.h3_lines.specs.Answer.{cell_lines, written}
use Rattle.h3_functions.specs.Bases.{pentagons_left}
use Rattle.h3_functions.specs.Resolutions.{get_pentagons}
use Rattle.h3_command.proofs.Written.{answered_error}
use Rattle.h3_command.proofs.bases.write_pentagons.Goals as goal

pub returns-in_err-get_pentagons : goal.returns-in_err-get_pentagons
returns-in_err-get_pentagons g c =
    let p = err_from_is_err_and c.from_residual.result c.from_residual.ensures.1 in
    rw (p.1, p.2) (answered_error (λ cells. written (cell_lines cells))
    (YieldsFirst pentagons_left) _ _ _ _
    (ap get_pentagons (to_z-of_z w32 c.args.res (search rules))) c.in_err-get_pentagons.ensures
    (Keeps-refl _, refl))
