use Rattle.std.proofs.Common.{sym, ◌∙◌}
use Rattle.h3_rows.proofs.Alike.{marked_field, unmarked_field}
use Rattle.h3_rows.proofs.fields.is_read_alike.Goals as goal

pub returns-in-None : goal.returns-in-None
returns-in-None c = unmarked_field c.args.separator c.args.field.now c.in-None.ensures

pub returns-in-Some : goal.returns-in-Some
returns-in-Some c =
    let (first, passes) = c.in-Some.ensures in
    marked_field c.args.separator c.args.field.now _ first.high passes
    (sym c.is_padded.ensures ∙ c.if-not-is_padded.false)
