use Rattle.std.proofs.Common.{ℕ, ◌≡◌, ◌==◌, ◌^◌, ◌≤◌, get_or, true, refl, arith}
use Rattle.std.proofs.Common.{eqb-true}
use Rattle.std.proofs.lemmas.Bool.{agree_below_at}
use Rattle.h3_tree.specs.declared.powers.TheConstants.{SEVENS}
use Rattle.h3_tree.proofs.SizeLaws.{sevens_some}
use Rattle.h3_tree.proofs.powers.power_of_seven.Goals as goal

seven_at : (n : ℕ) → n ≤ 15 → get_or SEVENS n 0 ≡ 7 ^ n
seven_at n h = eqb-true _ _ (agree_below_at (λ n. get_or SEVENS n 0 == 7 ^ n) (λ _. true) 16 n refl (omega arith))

pub returns-clause-is : goal.returns-clause-is
returns-clause-is c = rw c.from.ensures (seven_at c.args.levels c.requires)

pub returns-clause-some : goal.returns-clause-some
returns-clause-some c =
    rw (c.from.ensures, seven_at c.args.levels c.requires) (omega (arith, sevens_some c.args.levels))
