use Rattle.std.proofs.Common.{inl, rules}
use Rattle.std.proofs.lemmas.Result.{err_from_is_err_and}
use Rattle.h3_streams.specs.Counted.{source_of}
use Rattle.h3_lines.specs.declared.run_error.RunError.TheVariants.{Error}
use Rattle.h3_rows.specs.NamedIn.{table_in}
use Rattle.h3_rows.proofs.TakenNamed.{read_all, read_at, read_none, refused_at, refused_early}
use Rattle.h3_rows.proofs.named.take_named_pages.Goals as goal

pub returns-in_err-reading-clause-refused : goal.returns-in_err-reading-clause-refused
returns-in_err-reading-clause-refused g c =
    let p = err_from_is_err_and c.from_residual.result c.from_residual.ensures.1 in
    let e = c.in_err-reading.field-0.0 in
    let after = source_of c.drive-reading.new.reader in
    let refused =
    refused_early (λ v. (table_in (g.F.CellOf.says v.function) v.table.now, v.state))
    (λ v entries w. g.V.NamedJob.taken v.job entries w.job) _ _ (g.R.Source.left c.args.input.now)
    (g.R.Source.left after) c.first_table_state.ensures.number c.first_table_state.ensures.columns
    (g.R.Source.has_failed c.args.input.now) (g.R.Source.has_failed after) e
    (rw (c.new-reader.ensures.source, c.new-reader.ensures.limit) at c.in_err-reading.ensures.err) in
    rw (p.1, p.2) (refused_at g.R.Source.left g.R.Source.has_failed after _
    (table_in (g.F.CellOf.says c.args.function) c.args.table.now)
    (g.R.Source.left c.args.input.now) (g.R.Source.has_failed c.args.input.now) e
    (search (rules, c.drive-reading.ensures.same)) refused)

pub returns-in-Ok-clause-taken : goal.returns-in-Ok-clause-taken
returns-in-Ok-clause-taken g c =
    let after = source_of c.drive-reading.new.reader in
    let all = rw (c.new-reader.ensures.source, c.new-reader.ensures.limit) at c.in_ok-reading.ensures.ok in
    let read =
    read_all (λ v. (table_in (g.F.CellOf.says v.function) v.table.now, v.state))
    (λ v entries w. g.V.NamedJob.taken v.job entries w.job) _ _
    (g.R.Source.left c.args.input.now) (g.R.Source.left after) c.first_table_state.ensures.number
    c.first_table_state.ensures.columns all c.in-Ok.ensures.ok in (
      all.takes.0,
      read_at g.R.Source.left after _ (table_in (g.F.CellOf.says c.args.function) c.args.table.now)
          (g.R.Source.left c.args.input.now) _
          (search (rules, c.drive-reading.ensures.same)) read,
      all.takes.2,
    )

pub returns-in-Err-clause-refused : goal.returns-in-Err-clause-refused
returns-in-Err-clause-refused g c =
    let after = source_of c.drive-reading.new.reader in
    let all = rw (c.new-reader.ensures.source, c.new-reader.ensures.limit) at c.in_ok-reading.ensures.ok in
    let e = c.in-Err.error in
    let read =
    read_none (λ v. (table_in (g.F.CellOf.says v.function) v.table.now, v.state))
    (λ v entries w. g.V.NamedJob.taken v.job entries w.job) _ _
    (g.R.Source.left c.args.input.now) (g.R.Source.left after) c.first_table_state.ensures.number
    c.first_table_state.ensures.columns all e c.in-Err.ensures.err in
    refused_at g.R.Source.left g.R.Source.has_failed after _
    (table_in (g.F.CellOf.says c.args.function) c.args.table.now)
    (g.R.Source.left c.args.input.now) (g.R.Source.has_failed c.args.input.now) (Error e)
    (search (rules, c.drive-reading.ensures.same))
    (rw c.new-reader.ensures.source at c.in_ok-reading.ensures.sound, inl read)
