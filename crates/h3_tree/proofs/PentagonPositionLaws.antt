-- Positions below a pentagon, from the digits read in base 7.
use Rattle.std.specs.Int.Count.{count_leading_zeros}
use Rattle.std.specs.Int.Digits.{number_from_digits, number_from_digits_after}
use Rattle.std.proofs.Common.{ℕ, ◌≡◌, ◌≢◌, ◌+◌, ◌-◌, ◌*◌, ◌/◌, ◌^◌, ◌<◌, ◌≤◌, ◌==◌, nat_lt, zero, suc, List, [], ◌∷◌, length, length-append, take, drop, ◌&&◌, Bool, true, false, refl, get_or, arith, ◌∙◌, sym, ap, inl, inr, lit<}
use Rattle.std.proofs.Math.Nat.{pow-le-pow_right, pow-suc, pow-zero}
use Rattle.std.proofs.Math.Seq.{drop-cons}
use Rattle.std.proofs.lemmas.Bool.{cases_Bool}
use Rattle.std.proofs.lemmas.Bool.Decides.{nat_tests}
use Rattle.std.proofs.lemmas.Int.Digits.{number_lt}
use Rattle.std.proofs.lemmas.List.{length-drop, length-take-le}
use Rattle.std.proofs.lemmas.Nat.{leading_length}
use Rattle.h3_index.specs.Cell.{Address, IsCell, is_pentagon}
use Rattle.h3_index.specs.Descendants.{child, ancestor_at, descendants}
use Rattle.h3_index.specs.Laws.{CutsAreCells}
use Rattle.h3_tree.specs.Known.{DescendantsAreKnown}
use Rattle.h3_tree.specs.Positions.{position_under}
use Rattle.h3_tree.proofs.BlockLaws.{pentagon-child}
use Rattle.h3_tree.proofs.WalkLaws.{after_deleted, before_center, before_pentagon, below_eight, counted_end, cut_above, cut_address, last_of_cut, position_in_sevens, whole_cell}

-- ---- the deleted cells

-- how many cells are deleted n levels below a pentagon
abbrev pub deleted : ℕ → ℕ
deleted n = (7 ^ n - 1) / 6

sixes : (n : ℕ) → (k : ℕ) × (7 ^ n ≡ 6 * k + 1)
sixes zero = (0, pow-zero 7)
sixes (suc n) =
    let h = sixes n in
    let power = pow-suc 7 n in
    (7 * h.0 + 1, omega (arith, h.1, power))

-- of the cells below a pentagon that come before those of a digit that is not 0, some are deleted
deleted_next : (n : ℕ) → 1 + 5 * ((7 ^ n - 1) / 6) + deleted (suc n) ≡ 2 * 7 ^ n
deleted_next n =
    let h = sixes n in
    let power = pow-suc 7 n in
    omega (arith, h.1, power)

number_after : (b n : ℕ) (ds : List ℕ) → number_from_digits_after b n ds ≡ n * b ^ length ds + number_from_digits b ds
number_after b n [] = alone n (b ^ length {A = ℕ} []) (pow-zero b)
  where
    alone : (n e : ℕ) → e ≡ 1 → n ≡ n * e + 0
    alone n e h = rw h (omega arith)
number_after b n (d ∷ ds) =
    let one = number_after b (n * b + d) ds in
    let two = number_after b (0 * b + d) ds in
    let power = pow-suc b (length ds) in
    let spread : (n * b + d) * b ^ length ds ≡ n * (b ^ length ds * b) + (0 * b + d) * b ^ length ds = grind arith in
    rw (one, two, power) (omega (arith, spread))

number_first : (b d : ℕ) (ds : List ℕ) → number_from_digits b (d ∷ ds) ≡ d * b ^ length ds + number_from_digits b ds
number_first b d ds = let same : 0 * b + d ≡ d = omega arith in number_after b (0 * b + d) ds ∙ (rw same refl)

number_zero : (b : ℕ) (ds : List ℕ) → number_from_digits b (0 ∷ ds) ≡ number_from_digits b ds
number_zero b ds = number_first b 0 ds ∙ omega arith

-- ---- one level

module _ (laws : DescendantsAreKnown) (cuts : CutsAreCells) (c : Address) (l d : ℕ) (v : IsCell c)
    (lt : l < length c.digits) (e : d ≡ get_or c.digits l 7) where
  next_pentagon : is_pentagon (ancestor_at c (l + 1)) ≡ (is_pentagon (ancestor_at c l) && d == 0)
  next_pentagon =
      let last = last_of_cut cuts c l d v lt e in
      ap is_pentagon (sym (ap (λ m. child m d) (sym (cut_address c l lt))
      ∙ whole_cell laws (ancestor_at c (l + 1)) (length c.digits) d last))
      ∙ pentagon-child (ancestor_at c l) d

  under_zero : d ≡ 0 → position_under (ancestor_at c l) c ≡ position_under (ancestor_at c (l + 1)) c
  under_zero z =
      let last = last_of_cut cuts c l d v lt e in
      let before = before_center laws (ancestor_at c (l + 1)) (length c.digits) d last z in
      let none : 0 + position_under (ancestor_at c (l + 1)) c ≡ position_under (ancestor_at c (l + 1)) c =
      omega arith in
      ap (λ m. position_under m c) (sym (cut_address c l lt)) ∙ before.ahead c (cut_above c (l + 1) v (omega arith))
      ∙ none

  above_pentagon : is_pentagon (ancestor_at c l) ≡ true
      → is_pentagon (ancestor_at (ancestor_at c (l + 1)) (length (ancestor_at c (l + 1)).digits - 1)) ≡ true
  above_pentagon h = ap is_pentagon (cut_address c l lt) ∙ h

  under_two : is_pentagon (ancestor_at c l) ≡ true → d ≢ 0 → 2 ≤ d
  under_two h nz =
      after_deleted laws (ancestor_at c (l + 1)) (length c.digits) d (last_of_cut cuts c l d v lt e) (above_pentagon h)
      nz

  under_some : (n : ℕ) → n ≡ length c.digits - (l + 1) → is_pentagon (ancestor_at c l) ≡ true → d ≢ 0
      → position_under (ancestor_at c l) c
      ≡ 1 + 5 * ((7 ^ n - 1) / 6) + (d - 2) * 7 ^ n + position_under (ancestor_at c (l + 1)) c
  under_some n levels h nz =
      let last = last_of_cut cuts c l d v lt e in
      let m = ancestor_at (ancestor_at c (l + 1)) (length (ancestor_at c (l + 1)).digits - 1) in
      let size : length (take (l + 1) c.digits) ≡ l + 1 = length-take-le (l + 1) c.digits (omega arith) in
      let outer : 7 ^ n ≡ 7 ^ (length c.digits - length (take (l + 1) c.digits)) =
      ap (λ k. 7 ^ k) (omega (arith, levels, size)) in
      let long : length (take l c.digits) ≡ l = length-take-le l c.digits (omega (arith, lt)) in
      let deep : length c.digits - length (child (ancestor_at c l) 0).digits ≡ n =
      omega (arith, levels, long, length-append (take l c.digits) (0 ∷ [])) in
      let inner : is_pentagon (child (ancestor_at c l) 0) ≡ true = pentagon-child (ancestor_at c l) 0 ∙ (rw h refl) in
      let center : 1 + 5 * ((7 ^ n - 1) / 6) ≡ length (descendants (child (ancestor_at c l) 0) (length c.digits)) =
      sym (laws.pentagons (child (ancestor_at c l) 0) (length c.digits) inner
      ∙ ap (λ k. 1 + 5 * ((7 ^ k - 1) / 6)) deep) in
      let before = before_pentagon laws (ancestor_at c (l + 1)) (length c.digits) d last (1 + 5 * ((7 ^ n - 1) / 6))
      (7 ^ n) (above_pentagon h) nz
      (center ∙ ap (λ m. length (descendants (child m 0) (length c.digits))) (sym (cut_address c l lt))) outer in
      ap (λ m. position_under m c) (sym (cut_address c l lt)) ∙ before.ahead c (cut_above c (l + 1) v (omega arith))

-- ---- all levels

-- a position below a pentagon, and how many octal digits the digits below it have without zeros in front
pub record IsBelowPentagon (c : Address) (q : ℕ) : Type 0 where
  pub places : ℕ
  pub small : number_from_digits 8 (drop q c.digits) < 8 ^ places
  pub least : 0 < places → 8 ^ (places - 1) ≤ number_from_digits 8 (drop q c.digits)
  pub is : position_under (ancestor_at c q) c + deleted places ≡ number_from_digits 7 (drop q c.digits)

below_all : (q : ℕ) (ds : List ℕ) → length ds ≤ q → drop q ds ≡ []
below_all zero [] h = refl
below_all zero (d ∷ ds) h = absurd (omega (arith, h))
below_all (suc q) [] h = refl
below_all (suc q) (d ∷ ds) h = below_all q ds (omega (arith, h))

some_first : (d p : ℕ) → d ≢ 0 → p ≤ d * p
some_first zero p h = absurd (h refl)
some_first (suc d) p h = let spread : suc d * p ≡ d * p + p = grind arith in omega (arith, spread)

apart : (d p : ℕ) → 2 ≤ d → d * p ≡ (d - 2) * p + 2 * p
apart d p h =
    let both : d ≡ d - 2 + 2 = omega (arith, h) in
    let spread : (d - 2 + 2) * p ≡ (d - 2) * p + 2 * p = grind arith in
    ap (λ n. n * p) both ∙ spread

no_zero : (d : ℕ) → (d == 0) ≡ false → d ≢ 0
no_zero d h e = grind (arith, nat_tests)

is_zero : (d : ℕ) → (d == 0) ≡ true → d ≡ 0
is_zero d h = grind (arith, nat_tests)

pub below_pentagon : DescendantsAreKnown → CutsAreCells → (c : Address) (n q : ℕ) → IsCell c → q + n ≡ length c.digits
    → is_pentagon (ancestor_at c q) ≡ true → IsBelowPentagon c q
below_pentagon laws cuts c zero q v le h =
    let none = below_all q c.digits (omega (arith, le)) in
    let here : 0 ≡ position_under (ancestor_at c q) c =
    counted_end laws c q q 0 v (omega (arith, le)) (record { is = omega arith }) in
    record {
      places = 0;
      small = rw (none, pow-zero 8) (lit< tt);
      least = λ z. absurd (omega (arith, z));
      is = rw (none, ← here) refl;
    }
below_pentagon laws cuts c (suc n) q v le h =
    by_digit (get_or c.digits q 7 == 0) refl
    (λ pentagon. below_pentagon laws cuts c n (q + 1) v (omega (arith, le)) pentagon)
  where
    lt : q < length c.digits
    lt = omega (arith, le)

    split : drop q c.digits ≡ get_or c.digits q 7 ∷ drop (q + 1) c.digits
    split = let next : suc q ≡ q + 1 = omega arith in rw next at (drop-cons c.digits q 7 lt)

    by_digit : (b : Bool) → (get_or c.digits q 7 == 0) ≡ b
        → (is_pentagon (ancestor_at c (q + 1)) ≡ true → IsBelowPentagon c (q + 1)) → IsBelowPentagon c q
    by_digit true e deeper =
        let z = is_zero (get_or c.digits q 7) e in
        let pentagon : is_pentagon (ancestor_at c (q + 1)) ≡ true =
        next_pentagon laws cuts c q (get_or c.digits q 7) v lt refl ∙ (rw (h, e) refl) in
        let rest = deeper pentagon in
        let same : drop q c.digits ≡ 0 ∷ drop (q + 1) c.digits = split ∙ ap (λ d. d ∷ drop (q + 1) c.digits) z in
        let eight : number_from_digits 8 (drop q c.digits) ≡ number_from_digits 8 (drop (q + 1) c.digits) =
        ap (λ ds. number_from_digits 8 ds) same ∙ number_zero 8 (drop (q + 1) c.digits) in
        let seven : number_from_digits 7 (drop q c.digits) ≡ number_from_digits 7 (drop (q + 1) c.digits) =
        ap (λ ds. number_from_digits 7 ds) same ∙ number_zero 7 (drop (q + 1) c.digits) in
        record {
          places = rest.places;
          small = rw eight rest.small;
          least = rw eight rest.least;
          is = rw (seven, under_zero laws cuts c q (get_or c.digits q 7) v lt refl z) rest.is;
        }
    by_digit false e deeper =
        let d = get_or c.digits q 7 in
        let nz = no_zero (get_or c.digits q 7) e in
        let hexagon : is_pentagon (ancestor_at c (q + 1)) ≡ false =
        next_pentagon laws cuts c q (get_or c.digits q 7) v lt refl ∙ (rw (h, e) refl) in
        let rest = position_in_sevens laws cuts c (q + 1) v (omega (arith, lt)) hexagon in
        let long : length (drop (q + 1) c.digits) ≡ n = omega (arith, le, length-drop (q + 1) c.digits) in
        let eight : number_from_digits 8 (drop q c.digits)
        ≡ get_or c.digits q 7 * 8 ^ n + number_from_digits 8 (drop (q + 1) c.digits) =
        ap (λ ds. number_from_digits 8 ds) split ∙ number_first 8 (get_or c.digits q 7) (drop (q + 1) c.digits)
        ∙ ap (λ k. get_or c.digits q 7 * 8 ^ k + number_from_digits 8 (drop (q + 1) c.digits)) long in
        let seven : number_from_digits 7 (drop q c.digits)
        ≡ get_or c.digits q 7 * 7 ^ n + number_from_digits 7 (drop (q + 1) c.digits) =
        ap (λ ds. number_from_digits 7 ds) split ∙ number_first 7 (get_or c.digits q 7) (drop (q + 1) c.digits)
        ∙ ap (λ k. get_or c.digits q 7 * 7 ^ k + number_from_digits 7 (drop (q + 1) c.digits)) long in
        let whole : length (drop q c.digits) ≡ suc n = omega (arith, le, length-drop q c.digits) in
        let less : number_from_digits 8 (drop q c.digits) < 8 ^ suc n =
        rw whole at (number_lt 8 (drop q c.digits) (below_eight q c.digits v.digits_small)) in
        let back : suc n - 1 ≡ n = omega arith in
        let here = under_some laws cuts c q (get_or c.digits q 7) v lt refl n (omega (arith, le)) h nz in
        let two = apart (get_or c.digits q 7) (7 ^ n) (under_two laws cuts c q (get_or c.digits q 7) v lt refl h nz) in
        record {
          places = suc n;
          small = less;
          least = λ _. rw (back, eight) (omega (arith, some_first (get_or c.digits q 7) (8 ^ n) nz));
          is = rw seven (omega (arith, here, two, rest, deleted_next n));
        }

-- ---- how many octal digits a number has

lt_of : (i j : ℕ) → 2 ^ i < 2 ^ j → i < j
lt_of i j h =
    elim (cases_Bool (nat_lt i j)) [
      | inl t ↦ grind (arith, nat_tests)
      | inr f ↦
          (let le : j ≤ i = grind (arith, nat_tests) in
          let p : 2 ^ j ≤ 2 ^ i = pow-le-pow_right (omega arith) le in absurd (omega (arith, h, p)))
    ]

eights : (k : ℕ) → 8 ^ k ≡ 2 ^ (3 * k)
eights zero = refl
eights (suc k) =
    let next : 3 * suc k ≡ suc (suc (suc (3 * k))) = omega arith in
    rw (next, pow-suc 2 (suc (suc (3 * k))), pow-suc 2 (suc (3 * k)), pow-suc 2 (3 * k), pow-suc 8 k, eights k)
    (omega arith)

-- the digits of three bits, by the zeros in front
pub places_are : (a n : ℕ) → a < 2 ^ 64 → a < 8 ^ n → (0 < n → 8 ^ (n - 1) ≤ a)
    → (66 - count_leading_zeros 64 a) / 3 ≡ n
places_are a n fits less least =
    let b = leading_length 64 a fits in
    let double = pow-suc 2 (3 * n) in
    let most : b.0 < suc (3 * n) = lt_of b.0 (suc (3 * n)) (omega (arith, b.3, double, less, eights n)) in
    by_count n most least (λ k h. lt_of (3 * k) b.0 (omega (arith, h, eights k, b.2))) b.1
  where
    by_count : (n : ℕ) {m : ℕ} → m < suc (3 * n) → (0 < n → 8 ^ (n - 1) ≤ a) → ((k : ℕ) → 8 ^ k ≤ a → 3 * k < m)
        → count_leading_zeros 64 a + m ≡ 64 → (66 - count_leading_zeros 64 a) / 3 ≡ n
    by_count zero most least above sum = omega (arith, most, sum)
    by_count (suc n) most least above sum =
        let back : suc n - 1 ≡ n = omega arith in
        let under : 8 ^ n ≤ a = rw back at (least (omega arith)) in
        omega (arith, most, sum, above n under)

pub places_few : (a : ℕ) → a < 2 ^ 45 → (66 - count_leading_zeros 64 a) / 3 ≤ 15
places_few a less =
    let b = leading_length 64 a (omega (arith, less)) in
    let most : b.0 < 46 = lt_of b.0 46 (omega (arith, b.3, less)) in
    omega (arith, most, b.1)
