use Rattle.std.proofs.Common.{sym, ◌∙◌}
use Rattle.std.proofs.lemmas.List.{take_rest}
use Rattle.h3_rows.proofs.Naming.{other_unless_begun, same_if_begun}
use Rattle.h3_rows.proofs.header.is_same.Goals as goal

pub returns-then-is_begun : goal.returns-then-is_begun
returns-then-is_begun c =
    rw take_rest at c.is_name.ensures
    ∙ same_if_begun c.args.one.0.now c.args.one.1.now c.args.other.0.now c.args.other.1.now c.requires
    (sym c.eq-is_begun.ensures ∙ c.if-is_begun.true)

pub returns-else-is_begun : goal.returns-else-is_begun
returns-else-is_begun c =
    c.if-is_begun.false
    ∙ other_unless_begun c.args.one.0.now c.args.one.1.now c.args.other.0.now c.args.other.1.now c.requires
    (sym c.eq-is_begun.ensures ∙ c.if-is_begun.false)
