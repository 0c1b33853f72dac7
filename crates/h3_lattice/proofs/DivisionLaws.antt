-- Division by a multiplier: the remainder that is a digit, and that there is only one.
use Rattle.std.proofs.Common.{◌≡◌, ℕ, zero, suc, ◌/◌, ◌<◌, ◌≤◌, ℤ, pos, negsuc, ◌+ℤ◌, ◌-ℤ◌, ◌*ℤ◌, refl, arith, sym, ap, ◌∙◌, Option, Some, None, List, [], ◌∷◌, get_or, lit≤, nat_abs}
use Rattle.std.specs.Int.{int_rem_euclid}
use Rattle.h3_directions.specs.declared.direction.Direction.{Direction}
use Rattle.h3_directions.specs.declared.direction.Direction.TheVariants.{K, J, JK, I, IK, IJ}
use Rattle.h3_lattice.specs.declared.class.Class.{Class}
use Rattle.h3_lattice.specs.declared.class.Class.TheVariants.{Two, Three}
use Rattle.h3_directions.specs.Eisenstein.{Eisenstein, eisenstein, sum_of, product_of}
use Rattle.h3_directions.specs.Direction.{digit_or_zero, digit_value, direction_of, value_of}
use Rattle.h3_lattice.specs.Class.{multiplier}
use Rattle.h3_lattice.proofs.LinearLaws.{points}

-- ---- digits and directions

pub direction_of-digit_or_zero : (d : Option Direction) → direction_of (digit_or_zero d) ≡ d
direction_of-digit_or_zero None = refl
direction_of-digit_or_zero (Some K) = refl
direction_of-digit_or_zero (Some J) = refl
direction_of-digit_or_zero (Some JK) = refl
direction_of-digit_or_zero (Some I) = refl
direction_of-digit_or_zero (Some IK) = refl
direction_of-digit_or_zero (Some IJ) = refl

pub digit_or_zero-direction_of : (n : ℕ) → n < 7 → digit_or_zero (direction_of n) ≡ n
digit_or_zero-direction_of zero h = refl
digit_or_zero-direction_of (suc zero) h = refl
digit_or_zero-direction_of (suc (suc zero)) h = refl
digit_or_zero-direction_of (suc (suc (suc zero))) h = refl
digit_or_zero-direction_of (suc (suc (suc (suc zero)))) h = refl
digit_or_zero-direction_of (suc (suc (suc (suc (suc zero))))) h = refl
digit_or_zero-direction_of (suc (suc (suc (suc (suc (suc zero)))))) h = refl
digit_or_zero-direction_of (suc (suc (suc (suc (suc (suc (suc n))))))) h = absurd (omega arith)

pub digit_or_zero-lt : (d : Option Direction) → digit_or_zero d < 7
digit_or_zero-lt None = omega arith
digit_or_zero-lt (Some K) = omega arith
digit_or_zero-lt (Some J) = omega arith
digit_or_zero-lt (Some JK) = omega arith
digit_or_zero-lt (Some I) = omega arith
digit_or_zero-lt (Some IK) = omega arith
digit_or_zero-lt (Some IJ) = omega arith

-- ---- remainders modulo 7

-- a + b*w has the remainder a + 2*b modulo 2 - w, and a + 4*b modulo 3 + w
abbrev pub remainder_form : Class → Eisenstein → ℤ
remainder_form Three z = z.a +ℤ pos 2 *ℤ z.b
remainder_form Two z = z.a +ℤ pos 4 *ℤ z.b

-- the digits in the order of their remainders
abbrev pub by_remainder : Class → List (Option Direction)
by_remainder Three = None ∷ Some I ∷ Some J ∷ Some IJ ∷ Some K ∷ Some IK ∷ Some JK ∷ []
by_remainder Two = None ∷ Some I ∷ Some K ∷ Some IK ∷ Some J ∷ Some IJ ∷ Some JK ∷ []

abbrev pub with_remainder : Class → ℕ → Option Direction
with_remainder c r = get_or (by_remainder c) r None

abbrev remainder_of : Class → Option Direction → ℕ
remainder_of c None = 0
remainder_of c (Some I) = 1
remainder_of Three (Some J) = 2
remainder_of Three (Some IJ) = 3
remainder_of Three (Some K) = 4
remainder_of Three (Some IK) = 5
remainder_of Two (Some K) = 2
remainder_of Two (Some IK) = 3
remainder_of Two (Some J) = 4
remainder_of Two (Some IJ) = 5
remainder_of c (Some JK) = 6

record IsRemainder (c : Class) (x : Option Direction) (r : ℕ) : Type 0 where
  sevens : ℤ
  form : remainder_form c (value_of x) ≡ pos 7 *ℤ sevens +ℤ pos r
  small : r ≤ 6
  back : with_remainder c r ≡ x

remainder_is : (c : Class) (x : Option Direction) → IsRemainder c x (remainder_of c x)
remainder_is Three None = record { sevens = pos 0; form = refl; small = lit≤ tt; back = refl }
remainder_is Three (Some K) = record { sevens = negsuc 0; form = refl; small = lit≤ tt; back = refl }
remainder_is Three (Some J) = record { sevens = pos 0; form = refl; small = lit≤ tt; back = refl }
remainder_is Three (Some JK) = record { sevens = negsuc 0; form = refl; small = lit≤ tt; back = refl }
remainder_is Three (Some I) = record { sevens = pos 0; form = refl; small = lit≤ tt; back = refl }
remainder_is Three (Some IK) = record { sevens = negsuc 0; form = refl; small = lit≤ tt; back = refl }
remainder_is Three (Some IJ) = record { sevens = pos 0; form = refl; small = lit≤ tt; back = refl }
remainder_is Two None = record { sevens = pos 0; form = refl; small = lit≤ tt; back = refl }
remainder_is Two (Some K) = record { sevens = negsuc 0; form = refl; small = lit≤ tt; back = refl }
remainder_is Two (Some J) = record { sevens = pos 0; form = refl; small = lit≤ tt; back = refl }
remainder_is Two (Some JK) = record { sevens = negsuc 0; form = refl; small = lit≤ tt; back = refl }
remainder_is Two (Some I) = record { sevens = pos 0; form = refl; small = lit≤ tt; back = refl }
remainder_is Two (Some IK) = record { sevens = negsuc 0; form = refl; small = lit≤ tt; back = refl }
remainder_is Two (Some IJ) = record { sevens = pos 0; form = refl; small = lit≤ tt; back = refl }

remainder_of-with_remainder : (c : Class) (r : ℕ) → r ≤ 6 → remainder_of c (with_remainder c r) ≡ r
remainder_of-with_remainder Three r h = grind arith
remainder_of-with_remainder Two r h = grind arith

-- ---- one digit and one quotient

same_remainder : (c : Class) (z z' x x' : Eisenstein) (m m' : ℤ) (r r' : ℕ) → remainder_form c x ≡ pos 7 *ℤ m +ℤ pos r
    → r ≤ 6 → remainder_form c x' ≡ pos 7 *ℤ m' +ℤ pos r' → r' ≤ 6
    → sum_of (product_of (multiplier c) z) x ≡ sum_of (product_of (multiplier c) z') x' → r ≡ r'
same_remainder Three z z' x x' m m' r r' h l h' l' e = omega (arith, points)
same_remainder Two z z' x x' m m' r r' h l h' l' e = omega (arith, points)

same_quotient : (c : Class) (z z' x : Eisenstein)
    → sum_of (product_of (multiplier c) z) x ≡ sum_of (product_of (multiplier c) z') x → z ≡ z'
same_quotient Three z z' x e = omega (arith, points)
same_quotient Two z z' x e = omega (arith, points)

pub one_division : (c : Class) (z z' : Eisenstein) (x x' : Option Direction)
    → sum_of (product_of (multiplier c) z) (value_of x) ≡ sum_of (product_of (multiplier c) z') (value_of x')
    → (z ≡ z') × (x ≡ x')
one_division c z z' x x' e =
    let r = remainder_is c x in
    let r' = remainder_is c x' in
    let s =
    same_remainder c z z' (value_of x) (value_of x') r.sevens r'.sevens (remainder_of c x) (remainder_of c x')
    r.form r.small r'.form r'.small e in
    let same : x ≡ x' = sym r.back ∙ ap (with_remainder c) s ∙ r'.back in (
      same_quotient c z z' (value_of x') (sym (ap (λ y. sum_of (product_of (multiplier c) z) (value_of y)) same) ∙ e),
      same,
    )

pub one_digit : (c : Class) (z z' : Eisenstein) (d d' : ℕ) → d < 7 → d' < 7
    → sum_of (product_of (multiplier c) z) (digit_value d) ≡ sum_of (product_of (multiplier c) z') (digit_value d')
    → (z ≡ z') × (d ≡ d')
one_digit c z z' d d' h h' e =
    let one = one_division c z z' (direction_of d) (direction_of d') e in
    (one.0, sym (digit_or_zero-direction_of d h) ∙ ap digit_or_zero one.1 ∙ digit_or_zero-direction_of d' h')

-- ---- a digit and a quotient

-- t leaves r modulo 7
abbrev Leaves : ℤ → ℕ → Type 0
Leaves t r = (m : ℤ) × (t ≡ pos 7 *ℤ m +ℤ pos r)

-- z leaves a digit: they differ by a multiple of the multiplier
abbrev LeavesDigit : Class → Eisenstein → ℕ → Type 0
LeavesDigit c z digit = (q : Eisenstein) × (z ≡ sum_of (product_of (multiplier c) q) (digit_value digit))

-- the quotient of z, where x is taken off and 7 * m is the form of what is left
abbrev quotient_at : Class → Eisenstein → ℤ → Eisenstein → Eisenstein
quotient_at Three z m x = eisenstein (pos 3 *ℤ m -ℤ (z.b -ℤ x.b)) m
quotient_at Two z m x = eisenstein (pos 2 *ℤ m -ℤ (z.b -ℤ x.b)) ((z.b -ℤ x.b) -ℤ m)

divided : (c : Class) (z x : Eisenstein) (m : ℤ) → remainder_form c z ≡ pos 7 *ℤ m +ℤ remainder_form c x
    → z ≡ sum_of (product_of (multiplier c) (quotient_at c z m x)) x
divided Three z x m h = omega (arith, points)
divided Two z x m h = omega (arith, points)

-- what a digit leaves that has the remainder of z
leaves_digit : (c : Class) (z : Eisenstein) (r : ℕ) → r ≤ 6 → Leaves (remainder_form c z) r
    → LeavesDigit c z (digit_or_zero (with_remainder c r))
leaves_digit c z r h (m, e) =
    let x = with_remainder c r in
    let s = remainder_is c x in
    let f : remainder_of c x ≡ r = remainder_of-with_remainder c r h in
    let n = m -ℤ s.sevens in
    let g : remainder_form c z ≡ pos 7 *ℤ n +ℤ remainder_form c (value_of x) = omega (arith, points, s.form) in (
      quotient_at c z n (value_of x),
      divided c z (value_of x) n g
          ∙ ap (λ y. sum_of (product_of (multiplier c) (quotient_at c z n (value_of x))) (value_of y))
          (sym (direction_of-digit_or_zero x)),
    )

remainder_leaves : (t : ℤ) → Leaves t (nat_abs (int_rem_euclid t (pos 7)))
remainder_leaves (pos n) = (pos (n / 7), omega (arith, points))
remainder_leaves (negsuc n) = (negsuc (n / 7), omega (arith, points))

remainder_small : (t : ℤ) → nat_abs (int_rem_euclid t (pos 7)) ≤ 6
remainder_small (pos n) = omega arith
remainder_small (negsuc n) = omega arith

-- every number leaves a digit
pub record Division (c : Class) (z : Eisenstein) : Type 0 where
  pub digit : ℕ
  pub small : digit < 7
  pub quotient : Eisenstein
  pub is : z ≡ sum_of (product_of (multiplier c) quotient) (digit_value digit)

pub division : (c : Class) (z : Eisenstein) → Division c z
division c z =
    let r = nat_abs (int_rem_euclid (remainder_form c z) (pos 7)) in
    let q = leaves_digit c z r (remainder_small (remainder_form c z)) (remainder_leaves (remainder_form c z)) in
    record {
      digit = digit_or_zero (with_remainder c r);
      small = digit_or_zero-lt (with_remainder c r);
      quotient = q.0;
      is = q.1;
    }
