use Rattle.std.proofs.Common.{◌≡◌, ◌∙◌, ◌∷◌, ◌++◌, ap, append_assoc, false, length, List, ℕ, refl, replicate, Some, sym, take}
use Rattle.std.proofs.Math.Seq.{take-append_seam}
use Rattle.h3_lines.specs.Pieces.{cut}
use Rattle.h3_rows.specs.Named.{name_at}
use Rattle.h3_rows.specs.NamedIn.{table_in}
use Rattle.h3_rows.specs.Row.{piece_at}
use Rattle.h3_rows.proofs.AreaFields.{trim_again}
use Rattle.h3_rows.proofs.named.find_plain_entry.Goals as goal

pub find_content-requires : goal.find_content-requires
find_content-requires g c = rw c.trimmed-field.ensures (trim_again c.in_ok-field.field.now)

pub returns-clause-is : goal.returns-clause-is
returns-clause-is g c =
    let table = table_in (g.F.CellOf.says c.args.function.now) c.args.table.now in
    let p = c.in-Some.ensures.is in
    let bytes : List ℕ = c.args.bytes.now in
    let row : List ℕ = c.in-Some.found.row.body.now in
    let ending = replicate c.in-Some.found.row.returns 13 in
    let front : take (length row) bytes ≡ row =
    ap (take (length row)) (p.split ∙ append_assoc row ending (10 ∷ p.after))
    ∙ take-append_seam row (ending ++ 10 ∷ p.after) in
    let field : piece_at c.args.columns.name (cut table.form.separator table.form.quotes false row)
    ≡ Some c.in_ok-field.field.now =
    ap (λ l. piece_at c.args.columns.name (cut table.form.separator table.form.quotes false l)) (sym front)
    ∙ c.in_ok-field.ensures in
    let name : name_at table.form c.args.columns.name row ≡ Some c.trimmed-field.result.now =
    rw field (ap Some (sym c.trimmed-field.ensures)) in
    record {
      row = row;
      returns = c.in-Some.found.row.returns;
      plain = p;
      size_is = refl;
      entry_is = rw name (c.in_ok-known.ensures.has c.in-Some.found.cell);
    }
