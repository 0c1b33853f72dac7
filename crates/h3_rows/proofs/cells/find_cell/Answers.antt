use Rattle.std.proofs.Common.{◌≡◌, Ok, Err, None, false, true, sym, ap, ◌∙◌, refl}
use Rattle.h3_rows.specs.Cells.{cell_read}
use Rattle.h3_rows.specs.Line.{line_of}
use Rattle.h3_rows.specs.Row.{is_empty_row, read_of, row_body}
use Rattle.h3_rows.specs.RowForm.{form_as}
use Rattle.h3_rows.specs.RowsAnswer.{columns_in, malformed, row_cell}
use Rattle.h3_rows.proofs.Returns.{body_of_row}
use Rattle.h3_rows.proofs.cells.find_cell.Goals as goal

pub returns-then-is_empty-clause-ok : goal.returns-then-is_empty-clause-ok
returns-then-is_empty-clause-ok g c =
    let r = c.args.row in
    let form = form_as (g.F.CellOf.says c.args.function.now) c.args.options.now in
    let body = body_of_row r.body.now r.returns r.bare in
    let sound : malformed form c.args.state.number (line_of r, c.args.inside) ≡ None =
    sym c.malformed.ensures ∙ c.in_default.is in
    let read : read_of c.args.state.number (row_body (line_of r)) ≡ c.read_of-read.result.now =
    ap (read_of c.args.state.number) body ∙ sym c.read_of-read.ensures in
    let empty : is_empty_row c.args.state.number (row_body (line_of r)) ≡ true =
    rw read (sym c.is_empty.ensures ∙ c.if-is_empty.true) in
    rw (sound, empty, c.passed.ensures.columns) refl

pub returns-in-Ok-clause-ok : goal.returns-in-Ok-clause-ok
returns-in-Ok-clause-ok g c =
    let r = c.args.row in
    let form = form_as (g.F.CellOf.says c.args.function.now) c.args.options.now in
    let body = body_of_row r.body.now r.returns r.bare in
    let sound : malformed form c.args.state.number (line_of r, c.args.inside) ≡ None =
    sym c.malformed.ensures ∙ c.in_default.is in
    let read : read_of c.args.state.number (row_body (line_of r)) ≡ c.read_of-read.result.now =
    ap (read_of c.args.state.number) body ∙ sym c.read_of-read.ensures in
    let filled : is_empty_row c.args.state.number (row_body (line_of r)) ≡ false =
    rw read (sym c.is_empty.ensures ∙ c.if-is_empty.false) in
    let columns : columns_in form (read_of c.args.state.number (row_body (line_of r))) ≡ Ok c.in-Ok.columns =
    ap (columns_in form) read ∙ sym c.columns_in.ensures ∙ c.in-Ok.is in
    rw (sound, filled, c.in-None.is, columns, c.headed.ensures.columns) refl

pub returns-in-Err-clause-err : goal.returns-in-Err-clause-err
returns-in-Err-clause-err g c =
    let r = c.args.row in
    let form = form_as (g.F.CellOf.says c.args.function.now) c.args.options.now in
    let body = body_of_row r.body.now r.returns r.bare in
    let sound : malformed form c.args.state.number (line_of r, c.args.inside) ≡ None =
    sym c.malformed.ensures ∙ c.in_default.is in
    let read : read_of c.args.state.number (row_body (line_of r)) ≡ c.read_of-read.result.now =
    ap (read_of c.args.state.number) body ∙ sym c.read_of-read.ensures in
    let filled : is_empty_row c.args.state.number (row_body (line_of r)) ≡ false =
    rw read (sym c.is_empty.ensures ∙ c.if-is_empty.false) in
    let columns : columns_in form (read_of c.args.state.number (row_body (line_of r))) ≡ Err c.in-Err.error =
    ap (columns_in form) read ∙ sym c.columns_in.ensures ∙ c.in-Err.is in
    rw (sound, filled, c.in-None.is, columns) refl

pub returns-in-Ok-read_cell-clause-ok : goal.returns-in-Ok-read_cell-clause-ok
returns-in-Ok-read_cell-clause-ok g c =
    let r = c.args.row in
    let form = form_as (g.F.CellOf.says c.args.function.now) c.args.options.now in
    let body = body_of_row r.body.now r.returns r.bare in
    let sound : malformed form c.args.state.number (line_of r, c.args.inside) ≡ None =
    sym c.malformed.ensures ∙ c.in_default.is in
    let read : read_of c.args.state.number (row_body (line_of r)) ≡ c.read_of-read.result.now =
    ap (read_of c.args.state.number) body ∙ sym c.read_of-read.ensures in
    let filled : is_empty_row c.args.state.number (row_body (line_of r)) ≡ false =
    rw read (sym c.is_empty.ensures ∙ c.if-is_empty.false) in
    let cell : cell_read form.says (row_cell form c.args.state.number c.in-Some-columns.columns (row_body (line_of r)))
    ≡ Ok c.in-Ok-read_cell.cell =
    ap (λ l. cell_read form.says (row_cell form c.args.state.number c.in-Some-columns.columns l)) body
    ∙ sym c.read_cell.ensures ∙ c.in-Ok-read_cell.is in
    rw (sound, filled, c.passed-in-Ok-read_cell.ensures.columns, c.in-Some-columns.is, cell) refl

pub returns-in-Err-read_cell-clause-err : goal.returns-in-Err-read_cell-clause-err
returns-in-Err-read_cell-clause-err g c =
    let r = c.args.row in
    let form = form_as (g.F.CellOf.says c.args.function.now) c.args.options.now in
    let body = body_of_row r.body.now r.returns r.bare in
    let sound : malformed form c.args.state.number (line_of r, c.args.inside) ≡ None =
    sym c.malformed.ensures ∙ c.in_default.is in
    let read : read_of c.args.state.number (row_body (line_of r)) ≡ c.read_of-read.result.now =
    ap (read_of c.args.state.number) body ∙ sym c.read_of-read.ensures in
    let filled : is_empty_row c.args.state.number (row_body (line_of r)) ≡ false =
    rw read (sym c.is_empty.ensures ∙ c.if-is_empty.false) in
    let cell : cell_read form.says (row_cell form c.args.state.number c.in-Some-columns.columns (row_body (line_of r)))
    ≡ Err c.in-Err-read_cell.error =
    ap (λ l. cell_read form.says (row_cell form c.args.state.number c.in-Some-columns.columns l)) body
    ∙ sym c.read_cell.ensures ∙ c.in-Err-read_cell.is in
    rw (sound, filled, c.in-Some-columns.is, cell) refl
