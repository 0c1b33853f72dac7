use Rattle.std.proofs.Common.{◌≡◌, length, sym, ◌∙◌, arith}
use Rattle.std.proofs.lemmas.List.{length-map}
use Rattle.h3_rows.specs.Areas.{names_in, number_for, span_in}
use Rattle.h3_rows.proofs.AreaRows.{row_of_new}
use Rattle.h3_rows.proofs.areas.number_at_row.Goals as goal

pub returns-in_ok-push-clause-rows : goal.returns-in_ok-push-clause-rows
returns-in_ok-push-clause-rows c =
    let s = c.args.names.now in
    let names = names_in s.bytes.items s.spans.items in
    let count : c.len-count.result ≡ length names =
    omega (arith, length-map s.spans.items (span_in s.bytes.items), s.spans.ok.0, c.len-count.ensures) in
    let same : c.in_ok-number.number ≡ c.len-count.result = omega (arith, c.if-number-count.true) in
    let is : number_for s.quotes names c.args.name.now ≡ length names =
    sym c.in_ok-number.ensures.number ∙ same ∙ count in
    c.in_ok-push.ensures.items ∙ row_of_new s.quotes names c.args.name.now c.args.rows.now.items c.args.row is
