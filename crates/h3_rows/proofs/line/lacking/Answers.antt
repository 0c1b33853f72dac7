use Rattle.std.proofs.Common.{◌≡◌, ◌==◌, [], false, length, ◌∙◌, replicate, subst, sym}
use Rattle.h3_rows.specs.Row.{lacking}
use Rattle.h3_rows.proofs.LastRow.{lacks_all, lacks_none}
use Rattle.h3_rows.proofs.line.lacking.Goals as goal

pub returns-then-own-eq0 : goal.returns-then-own-eq0
returns-then-own-eq0 c =
    let r = c.row_of-own.result in
    let some : (length c.args.row.now == 0) ≡ false = sym c.is_empty.ensures ∙ c.if-is_empty.false in
    let returns = replicate c.args.returns 13 in
    subst (λ l. returns ≡ lacking returns l) c.row_of-own.ensures
    (sym (lacks_all returns r.body.now r.returns r.bare
    (subst (λ l. (length l == 0) ≡ false) (sym c.row_of-own.ensures) some) c.if-own-eq0.true))

pub returns-else-own-eq0 : goal.returns-else-own-eq0
returns-else-own-eq0 c =
    let r = c.row_of-own.result in
    let some : (length c.args.row.now == 0) ≡ false = sym c.is_empty.ensures ∙ c.if-is_empty.false in
    let returns = replicate c.args.returns 13 in
    subst (λ l. [] ≡ lacking returns l) c.row_of-own.ensures
    (sym (lacks_none returns r.body.now r.returns r.bare
    (subst (λ l. (length l == 0) ≡ false) (sym c.row_of-own.ensures) some) c.if-own-eq0.false))
