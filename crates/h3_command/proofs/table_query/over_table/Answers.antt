use Rattle.std.proofs.Common.{refl, sym}
use Rattle.std.proofs.KnownBytes.{Keeps-refl}
use Rattle.std.proofs.lemmas.Result.{err_from_is_err_and}
use Rattle.h3_table.specs.BaseTable.{link_of}
use Rattle.h3_command.specs.TableQuery.{table_answer}
use Rattle.h3_command.proofs.Endings.{table_answered, table_refused_so, value_refused}
use Rattle.h3_command.proofs.table_query.over_table.Goals as goal

pub returns-in_err-query-clause-ends : goal.returns-in_err-query-clause-ends
returns-in_err-query-clause-ends g c input =
    let p = err_from_is_err_and c.from_residual.result c.from_residual.ensures.1 in
    rw (p.1, p.2) (value_refused table_answer _ _ input _ _ (sym c.in_err-query.was) (Keeps-refl _, refl))

pub returns-in_err-table-clause-ends : goal.returns-in_err-table-clause-ends
returns-in_err-table-clause-ends g c input =
    let p = err_from_is_err_and c.from_residual-in_err-table.result c.from_residual-in_err-table.ensures.1 in
    rw (p.1, p.2) (table_refused_so table_answer _ _ _ input _ _ (sym c.in_ok-query.was) c.in_err-table.ensures.refused
    (λ other. c.in_err-table.ensures.kept (λ is. other (cc is)))
    (λ other memory. c.in_err-table.ensures.whole (λ is. other (cc is)) (λ is. memory (cc is)))
    (Keeps-refl _, refl))

pub returns-clause-ends : goal.returns-clause-ends
returns-clause-ends g c input =
    let (file, held, short, none, same) = c.in_ok-table.ensures.accepted in
    table_answered table_answer _ _ (link_of c.in_ok-table.table) _ input _ _
    (sym c.in_ok-query.was) file held short none same (c.in_ok-table.ensures.kept (λ is. cc is))
    (c.in_ok-table.ensures.whole (λ is. cc is) (λ is. cc is)) c.write_query.ensures
