use Rattle.std.proofs.Common.{◌∙◌, sym, refl}
use Rattle.h3_rows.proofs.reading.malformed.Goals as goal

pub returns-then-is_too_long : goal.returns-then-is_too_long
returns-then-is_too_long c = rw (sym c.is_too_long.ensures ∙ c.if-is_too_long.true) refl

pub returns-then-has_stray_return : goal.returns-then-has_stray_return
returns-then-has_stray_return c =
    rw (
      sym c.is_too_long.ensures ∙ c.if-is_too_long.false,
      sym c.has_stray_return.ensures ∙ c.if-has_stray_return.true,
    ) refl

pub returns-then-inside : goal.returns-then-inside
returns-then-inside c =
    rw (
      sym c.is_too_long.ensures ∙ c.if-is_too_long.false,
      sym c.has_stray_return.ensures ∙ c.if-has_stray_return.false,
      c.if-inside.true,
    ) refl

pub returns-then-has_stray_quote : goal.returns-then-has_stray_quote
returns-then-has_stray_quote c =
    rw (
      sym c.is_too_long.ensures ∙ c.if-is_too_long.false,
      sym c.has_stray_return.ensures ∙ c.if-has_stray_return.false,
      c.if-inside.false,
      sym c.has_stray_quote.ensures ∙ c.if-has_stray_quote.true,
    ) refl

pub returns : goal.returns
returns c =
    rw (
      sym c.is_too_long.ensures ∙ c.if-is_too_long.false,
      sym c.has_stray_return.ensures ∙ c.if-has_stray_return.false,
      c.if-inside.false,
      sym c.has_stray_quote.ensures ∙ c.if-has_stray_quote.false,
    ) refl
