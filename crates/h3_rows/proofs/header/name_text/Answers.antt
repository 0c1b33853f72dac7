use Rattle.std.proofs.Common.{◌++◌, ◌∙◌, ap}
use Rattle.h3_rows.proofs.PlainAnswers.{some_from_test}
use Rattle.h3_rows.proofs.Tails.{tail_text}
use Rattle.h3_rows.proofs.header.name_text.Goals as goal

pub returns : goal.returns
returns c =
    let more = c.args.name.1.now in
    ap (λ l. l ++ more) c.without_leading_blanks.ensures
    ∙ tail_text c.args.quotes c.args.name.0.now more c.requires
    (some_from_test more c.is_empty.result c.is_empty.ensures c.if-is_empty.false)
