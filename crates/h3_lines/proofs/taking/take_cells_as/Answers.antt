use Rattle.std.proofs.Common.{◌^◌, refl}
use Rattle.std.proofs.lemmas.Result.{err_from_is_err_and}
use Rattle.h3_lines.specs.Reads.{source_use}
use Rattle.h3_lines.proofs.Listed.{list_unread}
use Rattle.h3_lines.proofs.taking.take_cells_as.Goals as goal

pub returns-in_err-page-clause-refused : goal.returns-in_err-page-clause-refused
returns-in_err-page-clause-refused g c =
    let p = err_from_is_err_and c.from_residual.result c.from_residual.ensures.1 in
    let input = source_use g.R.Source.left g.R.Source.has_failed c.args.input.now c.args.input.now in
    rw (p.1, p.2, c.in_err-page.ensures.err)
    (list_unread (g.F.CellOf.says c.args.function) (2 ^ 40) 65536 input refl refl)
