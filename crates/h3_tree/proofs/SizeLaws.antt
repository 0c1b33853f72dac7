-- The bounds of powers of 7.
use Rattle.std.proofs.Common.{ℕ, ◌^◌, ◌≤◌, arith}
use Rattle.std.proofs.Math.Nat.{pow-le-pow_right, one-le-pow}

pub sevens_small : (n : ℕ) → n ≤ 15 → 7 ^ n ≤ 4747561509943
sevens_small n h = (let p : 7 ^ n ≤ 7 ^ 15 = pow-le-pow_right (omega arith) h in p)

pub sevens_some : (n : ℕ) → 1 ≤ 7 ^ n
sevens_some n = one-le-pow n 7 (omega arith)
