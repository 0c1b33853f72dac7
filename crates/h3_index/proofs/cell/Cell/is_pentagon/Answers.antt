use Rattle.std.proofs.Common.{ℕ, ◌≡◌, ◌≢◌, ◌==◌, ◌&&◌, sym, ◌∙◌, arith, refl, false, true, Bool}
use Rattle.std.proofs.lemmas.Bool.Decides.{nat_tests}
use Rattle.h3_index.proofs.MoveLaws.{pentagon_form, inside_is}
use Rattle.h3_index.proofs.cell.Cell.is_pentagon.Goals as goal

zero_test : (n : ℕ) → n ≡ 0 → (n == 0) ≡ true
zero_test n h = grind (arith, nat_tests)

some_test : (n : ℕ) → n ≢ 0 → (n == 0) ≡ false
some_test n h = grind (arith, nat_tests)

and_true : (a b : Bool) → b ≡ true → a ≡ a && b
and_true false b h = refl
and_true true b h = sym h

and_false : (a b : Bool) → b ≡ false → b ≡ a && b
and_false false b h = h
and_false true b h = refl

pub returns-then-self-resolution-eq0 : goal.returns-then-self-resolution-eq0
returns-then-self-resolution-eq0 c =
    c.in_pentagon_base.ensures
    ∙ and_true _ _ (sym (pentagon_form c.args.self c.self.inside.raw _ c.resolution.ensures.valid
    (inside_is _ _ c.self.invariant c.self.view_is) c.resolution.ensures.number)
    ∙ zero_test _ c.if-self-resolution-eq0.true)

pub returns-else-self-resolution-eq0 : goal.returns-else-self-resolution-eq0
returns-else-self-resolution-eq0 c =
    let none =
    pentagon_form c.args.self c.self.inside.raw _ c.resolution.ensures.valid
    (inside_is _ _ c.self.invariant c.self.view_is) c.resolution.ensures.number in
    none ∙ and_false _ _ (sym none ∙ some_test _ c.if-self-resolution-eq0.false)
