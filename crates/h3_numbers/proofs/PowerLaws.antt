-- Numbers of few digits.
use Rattle.std.proofs.Common.{◌≡◌, ℕ, suc, ◌+◌, ◌-◌, ◌*◌, ◌^◌, ◌<◌, ◌≤◌, sym, ap, ◌∙◌, arith, pow-add, mul-le-mul_right}
use Rattle.std.proofs.Math.Nat.{one-le-pow, pow-le-pow_right}

-- a number of fewer than eighteen digits has room for one more
pub room_for_one : (i value : ℕ) → i < 18 → value < 10 ^ i → value < 10 ^ 17
room_for_one i value short bound =
    let most : 10 ^ i ≤ 10 ^ 17 = pow-le-pow_right {n = 10} (omega arith) {i = i} {j = 17} (omega arith) in
    omega arith

pub below_units : (n value : ℕ) → n ≤ 18 → value < 10 ^ n → value < 10 ^ 18
below_units n value short bound =
    let most : 10 ^ n ≤ 10 ^ 18 = pow-le-pow_right {n = 10} (omega arith) {i = n} {j = 18} short in
    omega arith

pub filled : (n : ℕ) → n ≤ 18 → n + (18 - n) ≡ 18
filled n short = omega arith

suc_times : (m k : ℕ) → suc m * k ≡ m * k + k
suc_times m k = grind arith

-- a fraction is below 1
pub fraction_below_units : (n value : ℕ) → n ≤ 18 → value < 10 ^ n → value * 10 ^ (18 - n) < 10 ^ 18
fraction_below_units n value short bound =
    let all : 10 ^ n * 10 ^ (18 - n) ≡ 10 ^ 18 = sym (pow-add 10 n (18 - n)) ∙ ap (λ k. 10 ^ k) (filled n short) in
    let some : 1 ≤ 10 ^ (18 - n) = one-le-pow (18 - n) 10 (omega arith) in
    let less : suc value * 10 ^ (18 - n) ≤ 10 ^ n * 10 ^ (18 - n) = mul-le-mul_right (10 ^ (18 - n)) bound in
    omega (arith, all, some, less, suc_times value (10 ^ (18 - n)))
