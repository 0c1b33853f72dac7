use Rattle.std.proofs.Common.{◌≡◌, ◌-◌, arith, length}
use Rattle.h3_rows.proofs.PlainAnswers.{digits_text, quoted_text}
use Rattle.h3_rows.proofs.plain.text_between.Goals as goal

pub returns-then-field-eq34-2 : goal.returns-then-field-eq34-2
returns-then-field-eq34-2 c digits =
    let less : length c.args.field.now - 1 - 1 ≡ length c.args.field.now - 2 = omega arith in
    rw (
      c.if-quotes.true,
      less,
    ) (quoted_text c.args.field.now c.if-field-ge2.true c.if-field-eq34.true c.if-field-eq34-2.true)

pub returns : goal.returns
returns c digits = digits_text c.args.quotes c.args.field.now digits
