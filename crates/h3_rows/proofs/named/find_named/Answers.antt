use Rattle.std.proofs.Common.{◌≡◌, Ok, Err, None, false, true, option_map, sym, ap, ◌∙◌, refl}
use Rattle.h3_rows.specs.Line.{line_of}
use Rattle.h3_rows.specs.Named.{entry_list, name_at, named_row, table_columns, title_list}
use Rattle.h3_rows.specs.NamedIn.{table_in}
use Rattle.h3_rows.specs.RowForm.{form_as}
use Rattle.h3_rows.specs.Row.{is_empty_row, read_of, row_body}
use Rattle.h3_rows.specs.RowsAnswer.{malformed}
use Rattle.h3_rows.proofs.Returns.{body_of_row}
use Rattle.h3_rows.proofs.named.find_named.Goals as goal

pub returns-then-is_empty-clause-ok : goal.returns-then-is_empty-clause-ok
returns-then-is_empty-clause-ok g c =
    let r = c.args.row in
    let form = form_as (g.F.CellOf.says c.args.function.now) c.args.table.now.rows.now in
    let body = body_of_row r.body.now r.returns r.bare in
    let sound : malformed form c.args.state.number (line_of r, c.args.inside) ≡ None =
    sym c.malformed.ensures ∙ c.in_default.is in
    let read : read_of c.args.state.number (row_body (line_of r)) ≡ c.read_of-read.result.now =
    ap (read_of c.args.state.number) body ∙ sym c.read_of-read.ensures in
    let empty : is_empty_row c.args.state.number (row_body (line_of r)) ≡ true =
    rw read (sym c.is_empty.ensures ∙ c.if-is_empty.true) in
    rw (sound, empty, c.after.ensures.columns) refl

pub returns-in-Ok-clause-ok : goal.returns-in-Ok-clause-ok
returns-in-Ok-clause-ok g c =
    let r = c.args.row in
    let table = table_in (g.F.CellOf.says c.args.function.now) c.args.table.now in
    let form = form_as (g.F.CellOf.says c.args.function.now) c.args.table.now.rows.now in
    let body = body_of_row r.body.now r.returns r.bare in
    let sound : malformed form c.args.state.number (line_of r, c.args.inside) ≡ None =
    sym c.malformed.ensures ∙ c.in_default.is in
    let read : read_of c.args.state.number (row_body (line_of r)) ≡ c.read_of-read.result.now =
    ap (read_of c.args.state.number) body ∙ sym c.read_of-read.ensures in
    let filled : is_empty_row c.args.state.number (row_body (line_of r)) ≡ false =
    rw read (sym c.is_empty.ensures ∙ c.if-is_empty.false) in
    let columns : table_columns table (read_of c.args.state.number (row_body (line_of r))) ≡ Ok c.in-Ok.columns =
    ap (table_columns table) read ∙ sym c.find_columns.ensures ∙ c.in-Ok.is in
    let title : title_list c.args.state.number
    (name_at form c.in-Ok.columns.name (read_of c.args.state.number (row_body (line_of r))))
    ≡ entry_list c.args.state.number (option_map (λ p. (p.0, p.1.now)) c.find_title-title.result) =
    ap (λ l. title_list c.args.state.number (name_at form c.in-Ok.columns.name l)) read
    ∙ sym (c.find_title-title.ensures c.args.state.number) in
    rw (sound, filled, c.in-None.is, columns, title, c.after-in-Ok.ensures.columns) refl

pub returns-in-Err-clause-err : goal.returns-in-Err-clause-err
returns-in-Err-clause-err g c =
    let r = c.args.row in
    let table = table_in (g.F.CellOf.says c.args.function.now) c.args.table.now in
    let form = form_as (g.F.CellOf.says c.args.function.now) c.args.table.now.rows.now in
    let body = body_of_row r.body.now r.returns r.bare in
    let sound : malformed form c.args.state.number (line_of r, c.args.inside) ≡ None =
    sym c.malformed.ensures ∙ c.in_default.is in
    let read : read_of c.args.state.number (row_body (line_of r)) ≡ c.read_of-read.result.now =
    ap (read_of c.args.state.number) body ∙ sym c.read_of-read.ensures in
    let filled : is_empty_row c.args.state.number (row_body (line_of r)) ≡ false =
    rw read (sym c.is_empty.ensures ∙ c.if-is_empty.false) in
    let columns : table_columns table (read_of c.args.state.number (row_body (line_of r))) ≡ Err c.in-Err.error =
    ap (table_columns table) read ∙ sym c.find_columns.ensures ∙ c.in-Err.is in
    rw (sound, filled, c.in-None.is, columns) refl

pub returns-in-Ok-read_named-clause-ok : goal.returns-in-Ok-read_named-clause-ok
returns-in-Ok-read_named-clause-ok g c =
    let r = c.args.row in
    let table = table_in (g.F.CellOf.says c.args.function.now) c.args.table.now in
    let form = form_as (g.F.CellOf.says c.args.function.now) c.args.table.now.rows.now in
    let body = body_of_row r.body.now r.returns r.bare in
    let sound : malformed form c.args.state.number (line_of r, c.args.inside) ≡ None =
    sym c.malformed.ensures ∙ c.in_default.is in
    let read : read_of c.args.state.number (row_body (line_of r)) ≡ c.read_of-read.result.now =
    ap (read_of c.args.state.number) body ∙ sym c.read_of-read.ensures in
    let filled : is_empty_row c.args.state.number (row_body (line_of r)) ≡ false =
    rw read (sym c.is_empty.ensures ∙ c.if-is_empty.false) in
    let named : named_row table c.args.state.number c.in-Some-columns.columns (row_body (line_of r))
    ≡ Ok (option_map (λ p. (p.0, p.1.now)) c.in-Ok-read_named.entry) =
    ap (named_row table c.args.state.number c.in-Some-columns.columns) body ∙ c.in-Ok-read_named.ensures.ok in
    rw (sound, filled, c.after-in-Ok-read_named.ensures.columns, c.in-Some-columns.is, named) refl

pub returns-in-Err-read_named-clause-err : goal.returns-in-Err-read_named-clause-err
returns-in-Err-read_named-clause-err g c =
    let r = c.args.row in
    let table = table_in (g.F.CellOf.says c.args.function.now) c.args.table.now in
    let form = form_as (g.F.CellOf.says c.args.function.now) c.args.table.now.rows.now in
    let body = body_of_row r.body.now r.returns r.bare in
    let sound : malformed form c.args.state.number (line_of r, c.args.inside) ≡ None =
    sym c.malformed.ensures ∙ c.in_default.is in
    let read : read_of c.args.state.number (row_body (line_of r)) ≡ c.read_of-read.result.now =
    ap (read_of c.args.state.number) body ∙ sym c.read_of-read.ensures in
    let filled : is_empty_row c.args.state.number (row_body (line_of r)) ≡ false =
    rw read (sym c.is_empty.ensures ∙ c.if-is_empty.false) in
    let named : named_row table c.args.state.number c.in-Some-columns.columns (row_body (line_of r))
    ≡ Err c.in-Err-read_named.error =
    ap (named_row table c.args.state.number c.in-Some-columns.columns) body ∙ c.in-Err-read_named.ensures.err in
    rw (sound, filled, c.in-Some-columns.is, named) refl
