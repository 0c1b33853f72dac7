use Rattle.std.proofs.Common.{◌≡◌, ◌+◌, ◌-◌, ◌/◌, ◌^◌, ◌<◌, ◌≤◌, ◌==◌, ◌&&◌, nat_lt, ℕ, arith, bit_and, refl}
use Rattle.std.proofs.lemmas.Bool.{agree_below_at}
use Rattle.h3_index.specs.Cell.{is_pentagon_base}
use Rattle.h3_index.proofs.cell.is_pentagon_base.Goals as goal
use Rattle.h3_index.proofs.cell.is_pentagon_base.Goals.{then-b-lt64, else-b-lt64}

-- the bits are compared with the list one by one
low : (b : ℕ) → b < 64 → nat_lt b 128 && (bit_and (9512165637854609424 / 2 ^ bit_and b 63) 1 == 1) ≡ is_pentagon_base b
low b less =
    agree_below_at (λ k. nat_lt k 128 && (bit_and (9512165637854609424 / 2 ^ bit_and k 63) 1 == 1)) is_pentagon_base 64
    b refl less

high : (b : ℕ) → 64 ≤ b → b < 256
    → nat_lt b 128 && (bit_and (9016003938222336 / 2 ^ bit_and b 63) 1 == 1) ≡ is_pentagon_base b
high b least less =
    let same : b - 64 + 64 ≡ b = omega (arith, least) in
    rw same
    at (agree_below_at (λ k. nat_lt (k + 64) 128 && (bit_and (9016003938222336 / 2 ^ bit_and (k + 64) 63) 1 == 1))
    (λ k. is_pentagon_base (k + 64)) 192 (b - 64) refl (omega (arith, least, less)))

pub returns : goal.returns
returns c = elim c.if-b-lt64.branch [
  | then-b-lt64 w ↦ rw w.bases-is (low c.args.b w.if-b-lt64.true)
  | else-b-lt64 w ↦ rw w.bases-is (high c.args.b w.if-b-lt64.false c.ranges.b.fits)
]
