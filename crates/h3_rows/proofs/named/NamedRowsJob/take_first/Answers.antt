use Rattle.std.proofs.Common.{◌++◌, ◌∷◌, ℕ, List, [], replicate, false, Some, ◌∙◌}
use Rattle.std.proofs.lemmas.List.{take_rest}
use Rattle.h3_lines.specs.Pieces.{CutsAt}
use Rattle.h3_rows.specs.NamedIn.{table_in}
use Rattle.h3_rows.proofs.PlainAnswers.{first_cut}
use Rattle.h3_rows.proofs.PlainCells.{cell_cuts, entry_have}
use Rattle.h3_rows.proofs.Returns.{row_length}
use Rattle.h3_rows.proofs.named.NamedRowsJob.take_first.Goals as goal

pub returns-in_ok-take-in-Some-find_plain_entry-clause-some :
    goal.returns-in_ok-take-in-Some-find_plain_entry-clause-some
returns-in_ok-take-in-Some-find_plain_entry-clause-some g c =
    let v = c.args.self.now in
    let table = table_in (g.F.CellOf.says v.function) v.table.now in
    let found = c.in-Some-find_plain_entry.found in
    let p = c.in-Some-find_plain_entry.ensures.is in
    let row : List ℕ = p.row in
    let n = p.returns in
    let k = c.in-Some.columns in
    let line = row ++ replicate n 13 in
    let cuts : CutsAt 10 c.args.quotes false c.args.bytes.now line p.plain.after =
    cell_cuts table.form v.state.number k.cell c.args.bytes.now row n found.cell p.plain c.args.quotes
    c.if-quotes-self.false in
    rw take_rest (record {
      ended = (line, false) ∷ [];
      rows = λ rest. first_cut c.args.quotes c.args.bytes.now line p.plain.after found.size cuts
          (row_length row n ∙ p.size_is) rest;
      takes = (
        record { cell = Some found.cell; field = found.field.now; row = v.state.number } ∷ [],
        entry_have table v.state c.count.new.self k c.args.bytes.now found.field.now found.size found.cell p
            c.in-Some.is c.count.ensures.number c.count.ensures.columns,
        c.in_ok-take-in-Some-find_plain_entry.ensures.ok,
      );
    })
