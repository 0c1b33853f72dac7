use Rattle.std.proofs.Common.{◌∙◌, sym, arith}
use Rattle.std.proofs.lemmas.List.{take_rest}
use Rattle.h3_rows.proofs.Naming.{eq_after, other_after}
use Rattle.h3_rows.proofs.header.is_name.Goals as goal

pub returns-then-eq : goal.returns-then-eq
returns-then-eq c =
    rw take_rest at c.eq-then-eq.ensures
    ∙ eq_after c.args.text.now c.args.name.0.now c.args.name.1.now (sym c.eq.ensures ∙ c.if-eq.true)

pub returns-else-eq : goal.returns-else-eq
returns-else-eq c =
    c.if-eq.false
    ∙ other_after c.args.text.now c.args.name.0.now c.args.name.1.now (omega (arith, c.if-text-first.false))
    (sym c.eq.ensures ∙ c.if-eq.false)
