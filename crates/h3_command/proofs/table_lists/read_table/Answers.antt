use Rattle.std.proofs.lemmas.Result.{err_from_is_err_and}
use Rattle.h3_command.proofs.Endings.{table_file_refused}
use Rattle.h3_command.proofs.table_lists.read_table.Goals as goal

pub returns-in_err-table-clause-refused : goal.returns-in_err-table-clause-refused
returns-in_err-table-clause-refused g c =
    let p = err_from_is_err_and c.from_residual.result c.from_residual.ensures.1 in
    let (bytes, held, refuses, all) = c.in_err-table.ensures.refused in
    rw (p.1, p.2) (
      bytes,
      held,
      table_file_refused _ bytes _ refuses all
          (λ other. c.in_err-table.ensures.kept (λ is. other (cc is)))
          (λ other memory. c.in_err-table.ensures.whole (λ is. other (cc is)) (λ is. memory (cc is))),
    )

pub returns-clause-table : goal.returns-clause-table
returns-clause-table g c =
    let (bytes, held, short, none, same) = c.in_ok-table.ensures.accepted in (
      bytes,
      held,
      record {
        accepted = none;
        is = same;
        within = short;
        sound = c.in_ok-table.ensures.kept (λ is. cc is);
        whole = c.in_ok-table.ensures.whole (λ is. cc is) (λ is. cc is);
      },
    )
