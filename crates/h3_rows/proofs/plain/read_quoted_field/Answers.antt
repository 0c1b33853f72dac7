use Rattle.h3_rows.proofs.plain.read_quoted_field.Goals as goal

pub returns : goal.returns
returns c = record {
  text = c.text_between.result.now;
  text_is = c.text_between.ensures c.in_ok-index.ensures.digits;
  parses = c.in_ok-index.ensures.parsed;
}
