use Rattle.std.proofs.Common.{◌≡◌, ◌∙◌, ap, sym, nat_lt, true, false, length, refl, arith}
use Rattle.std.proofs.lemmas.Bool.Decides.{nat_tests}
use Rattle.h3_rows.specs.Line.{line_of}
use Rattle.h3_rows.specs.Row.{read_of, row_body}
use Rattle.h3_rows.proofs.Returns.{body_of_row, row_length}
use Rattle.h3_rows.proofs.reading.is_too_long.Goals as goal

pub returns-then-read_of-gt-LONGEST_ROW : goal.returns-then-read_of-gt-LONGEST_ROW
returns-then-read_of-gt-LONGEST_ROW c =
    let r = c.args.row in
    let big = c.if-read_of-gt-LONGEST_ROW.true in
    let more : nat_lt 1048575 (length c.read_of.result.now) ≡ true = grind (arith, nat_tests) in
    let read : read_of c.args.number (row_body (line_of r)) ≡ c.read_of.result.now =
    ap (read_of c.args.number) (body_of_row r.body.now r.returns r.bare) ∙ sym c.read_of.ensures in
    rw (read, more) refl

pub returns-else-read_of-gt-LONGEST_ROW : goal.returns-else-read_of-gt-LONGEST_ROW
returns-else-read_of-gt-LONGEST_ROW c =
    let r = c.args.row in
    let small = c.if-read_of-gt-LONGEST_ROW.false in
    let short : nat_lt 1048575 (length c.read_of.result.now) ≡ false = grind (arith, nat_tests) in
    let read : read_of c.args.number (row_body (line_of r)) ≡ c.read_of.result.now =
    ap (read_of c.args.number) (body_of_row r.body.now r.returns r.bare) ∙ sym c.read_of.ensures in
    rw (read, short, row_length r.body.now r.returns) refl
