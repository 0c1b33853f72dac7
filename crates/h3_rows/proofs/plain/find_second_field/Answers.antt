use Rattle.std.proofs.Common.{◌≡◌, ◌∙◌, ◌+◌, ◌-◌, ◌<◌, ◌≤◌, false, ℕ, List, length, drop, take, ap, sym, arith}
use Rattle.std.proofs.lemmas.List.{length-drop, take_rest}
use Rattle.h3_lines.specs.Pieces.{cut}
use Rattle.h3_rows.specs.Row.{piece_at}
use Rattle.h3_rows.proofs.PlainRows.{later_field}
use Rattle.h3_rows.proofs.plain.find_second_field.Goals as goal

pub returns-then-bytes-end : goal.returns-then-bytes-end
returns-then-bytes-end c =
    let a = c.args in
    let r = c.requires in
    let bytes : List ℕ = a.bytes.now in
    let rest = drop (a.end + 1) bytes in
    let more = a.columns.name - a.columns.cell.before - 1 in
    let inside : a.end < length bytes = omega (arith, c.if-end-size.true, r.within) in
    let skipped : length bytes - length rest ≡ a.end + 1 = omega (arith, length-drop (a.end + 1) bytes, inside) in
    let within : length bytes - length rest ≤ a.size = omega (arith, skipped, c.if-end-size.true) in
    let name : a.columns.name ≡ a.columns.cell.before + 1 + more = omega (arith, c.if-columns-passed.true) in
    ap (λ k. piece_at k (cut a.separator a.quotes false (take a.size bytes))) name
    ∙ later_field a.separator a.quotes r.quote r.feed r.carriage (a.columns.cell.before + 1) more a.size bytes rest
    c.in_ok-field.field.now (r.field inside c.if-bytes-end.true) within
    (ap (λ k. piece_at more (cut a.separator a.quotes false (take (a.size - k) rest))) skipped
    ∙ ap (λ l. piece_at more (cut a.separator a.quotes false (take (a.size - (a.end + 1)) l)))
    (sym (take_rest bytes (a.end + 1)))
    ∙ c.in_ok-field.ensures)
