use Rattle.h3_rows.proofs.PlainAnswers.{digits_text}
use Rattle.h3_rows.proofs.plain.read_plain_field.Goals as goal

pub returns-in-Some : goal.returns-in-Some
returns-in-Some c = record {
  text = c.args.field.now;
  text_is = digits_text c.args.quotes c.args.field.now c.in-Some.ensures.digits;
  parses = c.in-Some.ensures.parsed;
}
