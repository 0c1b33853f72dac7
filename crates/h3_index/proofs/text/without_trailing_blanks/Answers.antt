use Rattle.std.proofs.Common.{reverse, sym, ap, ◌∙◌}
use Rattle.h3_index.proofs.TextLaws.{blank_last, other_last}
use Rattle.h3_index.proofs.text.without_trailing_blanks.Goals as goal

pub loop-rest-preserved : goal.loop-rest-preserved
loop-rest-preserved c =
    blank_last c.loop-rest.rest.now c.in-len1-up.len_at_least (sym c.is_blank.ensures ∙ c.if-not-is_blank.false)
    ∙ c.loop-rest.invariant

pub returns-then-not-is_blank : goal.returns-then-not-is_blank
returns-then-not-is_blank c =
    other_last c.loop-rest.rest.now c.in-len1-up.len_at_least (sym c.is_blank.ensures ∙ c.if-not-is_blank.true)
    ∙ ap reverse c.loop-rest.invariant
