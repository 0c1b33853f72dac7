use Rattle.std.proofs.Common.{◌≡◌, false, true, sym, ◌∙◌, refl}
use Rattle.h3_rows.specs.Row.{is_read_alike}
use Rattle.h3_rows.proofs.Alike.{alike_first, alike_last}
use Rattle.h3_rows.proofs.fields.are_read_alike.Goals as goal

pub returns-then-not-is_read_alike : goal.returns-then-not-is_read_alike
returns-then-not-is_read_alike c =
    let other : is_read_alike c.args.separator c.in-Ok.field.now ≡ false =
    sym c.is_read_alike.ensures ∙ c.if-not-is_read_alike.true in
    sym (c.loop-field.invariant
    ∙ alike_first c.args.separator c.loop-field.rest.now _ c.in-Ok.after.now c.in-Ok.ensures.cut ∙ rw other refl)

pub loop-field-preserved : goal.loop-field-preserved
loop-field-preserved c =
    let alike : is_read_alike c.args.separator c.in-Ok.field.now ≡ true =
    sym c.is_read_alike.ensures ∙ c.if-not-is_read_alike.false in
    c.loop-field.invariant ∙ alike_first c.args.separator c.loop-field.rest.now _ c.in-Ok.after.now c.in-Ok.ensures.cut
    ∙ rw alike refl

pub returns : goal.returns
returns c =
    c.is_read_alike-2.ensures
    ∙ sym (c.loop-field.invariant ∙ alike_last c.args.separator c.loop-field.rest.now _ c.in_default.ensures.uncut)
