-- Numbers of cells are ordered by resolution, then base cell, then digits.
use Rattle.std.specs.Int.Digits.{number_from_digits, AllBelowBase}
use Rattle.std.specs.Ordering.{nat_cmp, ordering_then, MatchOrdering}
use Rattle.std.specs.Cmp.Lexicographic.{slice_cmp}
use Rattle.std.specs.Cmp.{nat_cmp_is, ranked}
use Rattle.std.specs.declared.cmp.Ordering.{Ordering}
use Rattle.std.specs.declared.cmp.Ordering.TheVariants.{Less, Equal, Greater}
use Rattle.std.proofs.Common.{ℕ, suc, ◌≡◌, ◌+◌, ◌-◌, ◌*◌, ◌^◌, ◌<◌, ◌≤◌, List, [], ◌∷◌, ◌++◌, length, replicate, refl, arith, ◌∙◌, sym, ap}
use Rattle.std.proofs.lemmas.Nat.{mul-le}
use Rattle.std.proofs.lemmas.Int.Digits.{number_lt}
use Rattle.h3_index.specs.Cell.{Address, IsCell, padded}
use Rattle.h3_index.specs.Laws.{NumbersFollowFields}
use Rattle.h3_index.proofs.CellLaws.{below-padded, head_of, length-padded, low_small, number_of_is}
use Rattle.h3_index.proofs.DigitsLaws.{number_first}

rises : (q c d l m : ℕ) → l < q → c < d → c * q + l < d * q + m
rises q c d l m small less =
    let more : suc c * q ≤ d * q = mul-le (suc c) q d q less (omega arith) in
    let spread : suc c * q ≡ c * q + q = grind arith in
    omega (arith, more, spread, small)

-- of two numbers, each a part above and a small part below, the parts above decide, and then those below
pub above_first : (q c d l m : ℕ) → l < q → m < q
    → ordering_then (nat_cmp c d) (nat_cmp l m) ≡ nat_cmp (c * q + l) (d * q + m)
above_first q c d l m below_l below_m = by (nat_cmp c d) (ranked c d (nat_cmp c d) refl)
  where
    level : c ≡ d → (r : Ordering) → MatchOrdering r (l < m) (l ≡ m) (m < l)
        → MatchOrdering r (c * q + l < d * q + m) (c * q + l ≡ d * q + m) (d * q + m < c * q + l)
    level e Less h = rw e (omega (arith, h))
    level e Equal h = rw (e, h) refl
    level e Greater h = rw e (omega (arith, h))

    by : (r : Ordering) → MatchOrdering r (c < d) (c ≡ d) (d < c)
        → ordering_then r (nat_cmp l m) ≡ nat_cmp (c * q + l) (d * q + m)
    by Less h = nat_cmp_is (c * q + l) (d * q + m) Less (rises q c d l m below_l h)
    by Equal h =
        nat_cmp_is (c * q + l) (d * q + m) (nat_cmp l m) (level h (nat_cmp l m) (ranked l m (nat_cmp l m) refl))
    by Greater h = nat_cmp_is (c * q + l) (d * q + m) Greater (rises q d c m l below_m h)

-- digits of one length are ordered as their numbers are
digits_order : (xs ys : List ℕ) → length xs ≡ length ys → AllBelowBase 8 xs → AllBelowBase 8 ys
    → slice_cmp nat_cmp xs ys ≡ nat_cmp (number_from_digits 8 xs) (number_from_digits 8 ys)
digits_order [] [] e p q = refl
digits_order [] (y ∷ ys) e p q = absurd (omega (arith, e))
digits_order (x ∷ xs) [] e p q = absurd (omega (arith, e))
digits_order (x ∷ xs) (y ∷ ys) e p q =
    let long : length xs ≡ length ys = omega (arith, e) in
    let small : number_from_digits 8 ys < 8 ^ length xs = rw long (number_lt 8 ys q.1) in
    rw (number_first x xs, number_first y ys, ← long, digits_order xs ys long p.1 q.1)
    (above_first (8 ^ length xs) x y (number_from_digits 8 xs) (number_from_digits 8 ys) (number_lt 8 xs p.1) small)

alike : (ts : List ℕ) → slice_cmp nat_cmp ts ts ≡ Equal
alike [] = refl
alike (t ∷ ts) = rw (sym (nat_cmp_is t t Equal refl)) (alike ts)

followed_alike : (xs ys ts : List ℕ) → length xs ≡ length ys
    → slice_cmp nat_cmp (xs ++ ts) (ys ++ ts) ≡ slice_cmp nat_cmp xs ys
followed_alike [] [] ts e = alike ts
followed_alike [] (y ∷ ys) ts e = absurd (omega (arith, e))
followed_alike (x ∷ xs) [] ts e = absurd (omega (arith, e))
followed_alike (x ∷ xs) (y ∷ ys) ts e = ap (ordering_then (nat_cmp x y)) (followed_alike xs ys ts (omega (arith, e)))

pub shifted : (k r s : ℕ) → nat_cmp r s ≡ nat_cmp (k + r) (k + s)
shifted k r s = nat_cmp_is (k + r) (k + s) (nat_cmp r s) (by (nat_cmp r s) (ranked r s (nat_cmp r s) refl))
  where
    by : (o : Ordering) → MatchOrdering o (r < s) (r ≡ s) (s < r)
        → MatchOrdering o (k + r < k + s) (k + r ≡ k + s) (k + s < k + r)
    by Less h = omega (arith, h)
    by Equal h = omega (arith, h)
    by Greater h = omega (arith, h)

-- the numbers above the digits are ordered by resolution, then base cell
heads_order : (a b : Address) → IsCell a → IsCell b
    → ordering_then (nat_cmp (length a.digits) (length b.digits)) (nat_cmp a.base b.base)
    ≡ nat_cmp (head_of a) (head_of b)
heads_order a b p q =
    let whole : (n : Address) → head_of n ≡ (2 ^ 7 + length n.digits) * 2 ^ 7 + n.base = λ n. omega arith in
    rw (whole a, whole b, shifted (2 ^ 7) (length a.digits) (length b.digits)) (above_first (2 ^ 7)
    (2 ^ 7 + length a.digits) (2 ^ 7 + length b.digits) a.base b.base (omega (arith, p.base_small))
    (omega (arith, q.base_small)))

-- the digits of cells of one resolution are ordered as the numbers of all fifteen
padded_order : (a b : Address) → IsCell a → IsCell b → length a.digits ≡ length b.digits
    → slice_cmp nat_cmp a.digits b.digits
    ≡ nat_cmp (number_from_digits 8 (padded a.digits)) (number_from_digits 8 (padded b.digits))
padded_order a b p q e =
    let long : length (padded a.digits) ≡ length (padded b.digits) =
    length-padded a.digits p.coarse ∙ sym (length-padded b.digits q.coarse) in
    let order =
    digits_order (padded a.digits) (padded b.digits) long
    (below-padded a.digits (15 - length a.digits) p.digits_small)
    (below-padded b.digits (15 - length b.digits) q.digits_small) in
    let alone = followed_alike a.digits b.digits (replicate (15 - length b.digits) 7) e in
    rw e (sym alone ∙ (rw e at order))

pub fields_order : NumbersFollowFields
fields_order a b p q =
    rw (
      number_of_is a p,
      number_of_is b q,
      ← above_first (2 ^ 45) (head_of a) (head_of b) (number_from_digits 8 (padded a.digits))
          (number_from_digits 8 (padded b.digits)) (low_small a p) (low_small b q),
      ← heads_order a b p q,
    )
    (by (nat_cmp (length a.digits) (length b.digits))
    (ranked (length a.digits) (length b.digits) (nat_cmp (length a.digits) (length b.digits)) refl))
  where
    by : (o : Ordering)
        → MatchOrdering o (length a.digits < length b.digits) (length a.digits ≡ length b.digits)
        (length b.digits < length a.digits)
        → ordering_then (ordering_then o (nat_cmp a.base b.base))
        (nat_cmp (number_from_digits 8 (padded a.digits)) (number_from_digits 8 (padded b.digits)))
        ≡ ordering_then o (ordering_then (nat_cmp a.base b.base) (slice_cmp nat_cmp a.digits b.digits))
    by Less h = refl
    by Equal h = ap (ordering_then (nat_cmp a.base b.base)) (sym (padded_order a b p q h))
    by Greater h = refl
