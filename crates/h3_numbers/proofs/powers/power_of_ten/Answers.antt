use Rattle.std.proofs.Common.{ℕ, ◌≡◌, ◌==◌, ◌^◌, ◌≤◌, get_or, true, refl, arith, eqb-true}
use Rattle.std.proofs.lemmas.Bool.{agree_below_at}
use Rattle.h3_numbers.specs.declared.powers.TheConstants.{TENS}
use Rattle.h3_numbers.proofs.powers.power_of_ten.Goals as goal

ten_at : (n : ℕ) → n ≤ 18 → get_or TENS n 0 ≡ 10 ^ n
ten_at n h = eqb-true _ _ (agree_below_at (λ n. get_or TENS n 0 == 10 ^ n) (λ _. true) 19 n refl (omega arith))

pub returns : goal.returns
returns c = ten_at c.args.digits c.requires
