use Rattle.std.proofs.Common.{◌+◌, ◌++◌, ◌∷◌, ℕ, List, [], length, replicate, false}
use Rattle.std.proofs.lemmas.List.{take_rest}
use Rattle.h3_lines.specs.Pieces.{CutsAt}
use Rattle.h3_rows.specs.RowForm.{form_as}
use Rattle.h3_rows.proofs.PlainAnswers.{first_cut}
use Rattle.h3_rows.proofs.PlainCells.{cell_cuts, plain_have}
use Rattle.h3_rows.proofs.Returns.{row_length}
use Rattle.h3_rows.proofs.cells.RowCellsJob.take_first.Goals as goal

pub returns-in_ok-take-in-Some-find_plain_cell-clause-some :
    goal.returns-in_ok-take-in-Some-find_plain_cell-clause-some
returns-in_ok-take-in-Some-find_plain_cell-clause-some g c =
    let v = c.args.self.now in
    let form = form_as (g.F.CellOf.says v.function) v.options.now in
    let found = c.in-Some-find_plain_cell.found in
    let row : List ℕ = found.row.body.now in
    let n = found.row.returns in
    let p = c.in-Some-find_plain_cell.ensures.is in
    let k = c.in-Some.columns in
    let line = row ++ replicate n 13 in
    let cuts : CutsAt 10 c.args.quotes false c.args.bytes.now line p.after =
    cell_cuts form v.state.number k c.args.bytes.now row n found.cell p c.args.quotes c.if-quotes-self.false in
    rw take_rest (record {
      ended = (line, false) ∷ [];
      rows =
          λ rest. first_cut c.args.quotes c.args.bytes.now line p.after (length row + n) cuts (row_length row n) rest;
      takes = (
        found.cell ∷ [],
        plain_have form v.state c.count.new.self k c.args.bytes.now row n found.cell p c.in-Some.is
            c.count.ensures.number c.count.ensures.columns,
        c.in_ok-take-in-Some-find_plain_cell.ensures.ok,
      );
    })
