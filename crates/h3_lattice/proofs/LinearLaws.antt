-- Linear equations of Eisenstein integers.
use Rattle.std.proofs.Common.{◌≡◌, ◌+◌, ◌*◌, ℕ, zero, suc, arith, ap, refl, sym, ◌∙◌, ℤ, pos, ◌-ℤ◌, ◌*ℤ◌}
use borrow.Author.Differences.{up, down, same_in, same_out, sum_is_lem, neg_is, product_is, le_out, at_most_in}
use Rattle.h3_directions.specs.declared.direction.Direction.{Direction}
use Rattle.h3_directions.specs.declared.direction.Direction.TheVariants.{K, J, JK, I, IK, IJ}
use Rattle.h3_directions.specs.Eisenstein.{Eisenstein, eisenstein, product_of}
use Rattle.h3_directions.specs.Direction.{turned, turned_once, turning, unit_of}

pub point_in : (x y : Eisenstein) → (up x.a + down y.a ≡ up y.a + down x.a) × (up x.b + down y.b ≡ up y.b + down x.b)
    → x ≡ y
point_in x y h =
    let p : x.a ≡ y.a = same_in _ _ h.0 in
    let q : x.b ≡ y.b = same_in _ _ h.1 in
    λ i. record { a = p i; b = q i }

pub point_out : (x y : Eisenstein) → x ≡ y
    → (up x.a ≡ up y.a) × (down x.a ≡ down y.a) × (up x.b ≡ up y.b) × (down x.b ≡ down y.b)
point_out x y e = (
  ap (λ (z : Eisenstein). up z.a) e,
  ap (λ (z : Eisenstein). down z.a) e,
  ap (λ (z : Eisenstein). up z.b) e,
  ap (λ (z : Eisenstein). down z.b) e,
)

-- with these `omega` proves linear equations of Eisenstein integers from linear ones
pub ruleset points = (point_in, point_out, same_in, same_out, sum_is_lem, neg_is, product_is, le_out, at_most_in)

-- one more turn is one more factor 1 + w
turn_times_unit : (d : Direction) (p : Eisenstein)
    → product_of (eisenstein (pos 1) (pos 1)) (product_of p (unit_of d))
    ≡ product_of (product_of (eisenstein (pos 1) (pos 1)) p) (unit_of d)
turn_times_unit K p = omega (arith, points)
turn_times_unit J p = omega (arith, points)
turn_times_unit JK p = omega (arith, points)
turn_times_unit I p = omega (arith, points)
turn_times_unit IK p = omega (arith, points)
turn_times_unit IJ p = omega (arith, points)

unit_of-turned_once : (d : Direction) → unit_of (turned_once d) ≡ product_of (eisenstein (pos 1) (pos 1)) (unit_of d)
unit_of-turned_once K = refl
unit_of-turned_once J = refl
unit_of-turned_once JK = refl
unit_of-turned_once I = refl
unit_of-turned_once IK = refl
unit_of-turned_once IJ = refl

one_times_unit : (d : Direction) → unit_of d ≡ product_of (eisenstein (pos 1) (pos 0)) (unit_of d)
one_times_unit K = refl
one_times_unit J = refl
one_times_unit JK = refl
one_times_unit I = refl
one_times_unit IK = refl
one_times_unit IJ = refl

pub unit_of-turned : (n : ℕ) (d : Direction) → unit_of (turned n d) ≡ product_of (turning n) (unit_of d)
unit_of-turned zero d = one_times_unit d
unit_of-turned (suc n) d =
    unit_of-turned_once (turned n d) ∙ ap (product_of (eisenstein (pos 1) (pos 1))) (unit_of-turned n d)
    ∙ turn_times_unit d (turning n)

-- ---- a product with 1 + w of a product of any two

three_times : (x y z q : ℕ) → (x + y + z) * q ≡ x * q + y * q + z * q
three_times x y z q = grind arith

minus_times : (a b c : ℤ) → (a -ℤ b) *ℤ c ≡ a *ℤ c -ℤ b *ℤ c
minus_times a b c =
    let d = a -ℤ b in
    let s : up d + down a + up b ≡ down d + up a + down b = omega (arith, points) in
    let first =
    sym (three_times (up d) (down a) (up b) (up c)) ∙ ap (λ n. n * up c) s
    ∙ three_times (down d) (up a) (down b) (up c) in
    let second =
    sym (three_times (up d) (down a) (up b) (down c)) ∙ ap (λ n. n * down c) s
    ∙ three_times (down d) (up a) (down b) (down c) in
    omega (arith, points, first, second)

once_is : (p : Eisenstein) → product_of (eisenstein (pos 1) (pos 1)) p ≡ eisenstein (p.a -ℤ p.b) p.a
once_is p = omega (arith, points)

once_times : (p x : Eisenstein)
    → product_of (eisenstein (pos 1) (pos 1)) (product_of p x) ≡ product_of (eisenstein (p.a -ℤ p.b) p.a) x
once_times p x =
    let first = minus_times p.a p.b x.a in
    let second = minus_times p.a p.b x.b in
    omega (arith, points, first, second)

pub turn-product : (p x : Eisenstein)
    → product_of (eisenstein (pos 1) (pos 1)) (product_of p x)
    ≡ product_of (product_of (eisenstein (pos 1) (pos 1)) p) x
turn-product p x = once_times p x ∙ ap (λ q. product_of q x) (sym (once_is p))
