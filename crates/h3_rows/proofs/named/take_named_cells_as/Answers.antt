use Rattle.std.proofs.lemmas.Result.{err_from_is_err_and}
use Rattle.h3_rows.specs.Named.{table_as}
use Rattle.h3_rows.proofs.TakenNamed.{no_memory}
use Rattle.h3_rows.proofs.named.take_named_cells_as.Goals as goal

pub returns-in_err-page-clause-refused : goal.returns-in_err-page-clause-refused
returns-in_err-page-clause-refused g c =
    let p = err_from_is_err_and c.from_residual.result c.from_residual.ensures.1 in
    rw (p.1, p.2, c.in_err-page.ensures.err)
    (no_memory (table_as (g.F.CellOf.says c.args.function) c.args.rows.now c.args.field.now c.args.content)
    (g.R.Source.left c.args.input.now) (g.R.Source.has_failed c.args.input.now))
