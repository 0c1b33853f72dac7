use Rattle.std.proofs.Common.{ap, sym, ◌∙◌}
use Rattle.h3_index.specs.Text.{parsed_number, without_prefix, without_trailing_blanks, parsed_index}
use Rattle.h3_index.proofs.text.read_index.Goals as goal

pub returns-clause-parsed : goal.returns-clause-parsed
unfolding parsed_index
returns-clause-parsed c =
    sym c.ok_or.ensures.ok_part ∙ c.read_digits.ensures
    ∙ ap parsed_number
    (c.without_prefix.ensures
    ∙ ap without_prefix
    (c.without_trailing_blanks-text.ensures ∙ ap without_trailing_blanks c.without_leading_blanks.ensures))
