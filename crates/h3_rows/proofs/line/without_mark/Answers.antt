use Rattle.std.proofs.Common.{◌∙◌, sym, ap, ◌++◌, replicate}
use Rattle.h3_rows.proofs.Marks.{unmarked_row}
use Rattle.h3_rows.proofs.line.without_mark.Goals as goal

pub returns-clause-line : goal.returns-clause-line
returns-clause-line c =
    let r = c.args.row in
    ap (λ l. l ++ replicate r.returns 13) c.read_of.ensures ∙ sym (unmarked_row c.args.number r)
