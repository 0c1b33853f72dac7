use Rattle.std.proofs.Common.{ℕ, ◌≡◌, ◌≤◌, ◌^◌, Some, arith, rules, lit<, w32, ap, ◌∙◌}
use Rattle.std.proofs.lemmas.Int.{to_z-of_z}
use Rattle.std.proofs.Math.Nat.{pow-le-pow_right}
use Rattle.h3_index.specs.Count.{resolution_of}
use Rattle.h3_index.proofs.CountLaws.{cells_listed, if_some, length-cells_of}
use Rattle.h3_index.proofs.count.num_cells.Goals as goal

sevens_small : (r : ℕ) → r ≤ 15 → 7 ^ r ≤ 4747561509943
sevens_small r h = let p : 7 ^ r ≤ 7 ^ 15 = pow-le-pow_right (lit< tt) h in p

pub pow-requires : goal.pow-requires
pow-requires c = omega (arith, sevens_small c.from.result (omega (arith, c.in_ok-res.ensures.ok.2)))

pub overflow_mul-result : goal.overflow_mul-result
overflow_mul-result c =
    record { fits = omega (arith, sevens_small c.from.result (omega (arith, c.in_ok-res.ensures.ok.2))) }

pub overflow_add-result : goal.overflow_add-result
overflow_add-result c =
    record { fits = omega (arith, sevens_small c.from.result (omega (arith, c.in_ok-res.ensures.ok.2))) }

pub returns-clause-counted : goal.returns-clause-counted
returns-clause-counted c =
    let is : resolution_of c.args.res ≡ Some c.in_ok-res.res =
    rw (to_z-of_z w32 c.args.res (search rules)) at c.in_ok-res.ensures.ok.0 in
    let power : c.pow.result ≡ 7 ^ c.in_ok-res.res = c.pow.ensures ∙ ap (λ r. 7 ^ r) c.from.ensures in
    if_some _ c.in_ok-res.res _ is (rw power (length-cells_of c.in_ok-res.res))

pub returns-clause-listed : goal.returns-clause-listed
returns-clause-listed c = cells_listed

pub returns-in_err-res-clause-listed : goal.returns-in_err-res-clause-listed
returns-in_err-res-clause-listed c = cells_listed
