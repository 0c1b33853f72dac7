-- Digits read in a smaller base, two neighbors at a time.
use Rattle.std.specs.Int.Digits.{AllBelowBase, number_from_digits, number_from_digits_after}
use Rattle.std.proofs.Common.{ℕ, zero, suc, ◌≡◌, ◌+◌, ◌-◌, ◌*◌, ◌/◌, ◌%◌, ◌^◌, ◌<◌, ◌≤◌, List, [], ◌∷◌, length, refl, arith, sym, ap, ◌∙◌, lit<, bit_and}
use Rattle.std.proofs.Math.Nat.{div-div-eq-div-mul, div-eq_of_lt, mod-eq_of_lt, one-le-pow, pow-le-pow_right}
use Rattle.std.proofs.Math.Pow.{mod-mod-pow}
use Rattle.std.proofs.lemmas.Nat.{and_block, and_le_l, and_mask, div-add-mod', div-mul-add, mod-mul-add, mod_below, mul-le, pow-add}

-- n digits of a number in base `from`, read in base `to`
abbrev pub read : ℕ → ℕ → ℕ → ℕ → ℕ
read to from zero v = 0
read to from (suc n) v = read to from n (v / from) * to + v % from

-- ---- the digits of a list

read-zero : (to from n : ℕ) → 0 < from → read to from n 0 ≡ 0
read-zero to from zero some = refl
read-zero to from (suc n) some =
    let none : 0 / from ≡ 0 = div-eq_of_lt some in
    let none_left : 0 % from ≡ 0 = mod-eq_of_lt some in
    rw (none, none_left, read-zero to from n some) (omega arith)

read-after : (to from count m : ℕ) (ds : List ℕ) → AllBelowBase from ds
    → read to from (count + length ds) (number_from_digits_after from m ds)
    ≡ number_from_digits_after to (read to from count m) ds
read-after to from count m [] small =
    let same : count + 0 ≡ count = omega arith in
    rw same refl
read-after to from count m (d ∷ ds) small =
    let same : count + length (d ∷ ds) ≡ suc count + length ds = omega arith in
    let more = read-after to from (suc count) (m * from + d) ds small.1 in
    let high : (m * from + d) / from ≡ m = div-mul-add m from d small.0 in
    let low : (m * from + d) % from ≡ d = mod-mul-add m from d small.0 in
    rw (same, more, high, low) refl

pub read-list : (to from n : ℕ) (ds : List ℕ) → 0 < from → AllBelowBase from ds → length ds ≤ n
    → read to from n (number_from_digits from ds) ≡ number_from_digits to ds
read-list to from n ds some small le =
    let all : n - length ds + length ds ≡ n = omega (arith, le) in
    let shown : read to from n (number_from_digits from ds)
    ≡ number_from_digits_after to (read to from (n - length ds) 0) ds =
    rw all at (read-after to from (n - length ds) 0 ds small) in
    shown ∙ ap (λ m. number_from_digits_after to m ds) (read-zero to from (n - length ds) some)

-- ---- two at a time

-- the lower of each two of 2 * n digits of k bits
abbrev pub lower : ℕ → ℕ → ℕ
lower k zero = 0
lower k (suc n) = lower k n * 2 ^ (k + k) + (2 ^ k - 1)

-- the upper of each two, each in the place of the lower
abbrev pub uppers : ℕ → ℕ → ℕ → ℕ
uppers k n v = bit_and (v / 2 ^ k) (lower k n)

pub uppers-within : (k n c v : ℕ) → c ≤ 2 ^ k → c * uppers k n v ≤ v
uppers-within k n c v le =
    let most = mul-le c (uppers k n v) (2 ^ k) (v / 2 ^ k) le (and_le_l (v / 2 ^ k) (lower k n)) in
    let turn : 2 ^ k * (v / 2 ^ k) ≡ v / 2 ^ k * 2 ^ k = grind arith in
    omega (arith, most, turn, div-add-mod' v (2 ^ k))

-- one of each two at the end, the others before it
uppers-next : (k n v : ℕ) → uppers k (suc n) v ≡ uppers k n (v / 2 ^ (k + k)) * 2 ^ (k + k) + v / 2 ^ k % 2 ^ k
uppers-next k n v =
    let x = v / 2 ^ k in
    let some : 0 < 2 ^ (k + k) = one-le-pow (k + k) 2 (lit< tt) in
    let wide : 2 ^ k ≤ 2 ^ (k + k) = pow-le-pow_right (omega arith) (omega arith) in
    let whole : x ≡ x / 2 ^ (k + k) * 2 ^ (k + k) + x % 2 ^ (k + k) = sym (div-add-mod' x (2 ^ (k + k))) in
    let turn : 2 ^ k * 2 ^ (k + k) ≡ 2 ^ (k + k) * 2 ^ k = grind arith in
    let above : x / 2 ^ (k + k) ≡ v / 2 ^ (k + k) / 2 ^ k =
    div-div-eq-div-mul v (2 ^ k) (2 ^ (k + k)) ∙ ap (λ p. v / p) turn
    ∙ sym (div-div-eq-div-mul v (2 ^ (k + k)) (2 ^ k)) in
    ap (λ y. bit_and y (lower k n * 2 ^ (k + k) + (2 ^ k - 1))) whole
    ∙ and_block (k + k) (x / 2 ^ (k + k)) (lower k n) (x % 2 ^ (k + k)) (2 ^ k - 1) (mod_below x (2 ^ (k + k)) some)
    (omega (arith, wide, some))
    ∙ ap (λ y. bit_and y (lower k n) * 2 ^ (k + k) + bit_and (x % 2 ^ (k + k)) (2 ^ k - 1)) above
    ∙ ap (λ y. uppers k n (v / 2 ^ (k + k)) * 2 ^ (k + k) + y) (and_mask (x % 2 ^ (k + k)) k ∙ mod-mod-pow x k k)

-- each two digits as one
abbrev pub paired : ℕ → ℕ → ℕ → ℕ → ℕ
paired k c n v = v - c * uppers k n v

-- the last two digits as one
module _ (k c to n v : ℕ) (e : to + c ≡ 2 ^ k) where
  square : 2 ^ (k + k) ≡ 2 ^ k * 2 ^ k
  square = pow-add 2 k k

  some_more : 0 < 2 ^ k
  some_more = one-le-pow k 2 (lit< tt)

  above_two : v / 2 ^ (k + k) ≡ v / 2 ^ k / 2 ^ k
  above_two = ap (λ p. v / p) square ∙ sym (div-div-eq-div-mul v (2 ^ k) (2 ^ k))

  in_two : v ≡ v / 2 ^ (k + k) * 2 ^ (k + k) + (v / 2 ^ k % 2 ^ k * 2 ^ k + v % 2 ^ k)
  in_two =
      let last = div-add-mod' v (2 ^ k) in
      let next : v / 2 ^ k ≡ v / 2 ^ (k + k) * 2 ^ k + v / 2 ^ k % 2 ^ k =
      rw above_two (sym (div-add-mod' (v / 2 ^ k) (2 ^ k))) in
      let spread : (v / 2 ^ (k + k) * 2 ^ k + v / 2 ^ k % 2 ^ k) * 2 ^ k
      ≡ v / 2 ^ (k + k) * (2 ^ k * 2 ^ k) + v / 2 ^ k % 2 ^ k * 2 ^ k =
      grind arith in
      let both : v / 2 ^ k * 2 ^ k ≡ v / 2 ^ (k + k) * 2 ^ (k + k) + v / 2 ^ k % 2 ^ k * 2 ^ k =
      ap (λ x. x * 2 ^ k) next ∙ spread ∙ ap (λ p. v / 2 ^ (k + k) * p + v / 2 ^ k % 2 ^ k * 2 ^ k) (sym square) in
      omega (arith, last, both)

  upper_read : v / 2 ^ k % 2 ^ k * 2 ^ k ≡ v / 2 ^ k % 2 ^ k * to + c * (v / 2 ^ k % 2 ^ k)
  upper_read =
      let spread : v / 2 ^ k % 2 ^ k * (to + c) ≡ v / 2 ^ k % 2 ^ k * to + c * (v / 2 ^ k % 2 ^ k) = grind arith in
      ap (λ p. v / 2 ^ k % 2 ^ k * p) (sym e) ∙ spread

  pair_small : v / 2 ^ k % 2 ^ k * to + v % 2 ^ k < 2 ^ (k + k)
  pair_small =
      let a = v / 2 ^ k % 2 ^ k in
      let high : a + 1 ≤ 2 ^ k = omega (arith, mod_below (v / 2 ^ k) (2 ^ k) some_more) in
      let room : (a + 1) * 2 ^ k ≤ 2 ^ k * 2 ^ k = mul-le (a + 1) (2 ^ k) (2 ^ k) (2 ^ k) high (omega arith) in
      let spread : (a + 1) * 2 ^ k ≡ a * 2 ^ k + 2 ^ k = grind arith in
      omega (arith, room, spread, square, upper_read, mod_below v (2 ^ k) some_more)

  paired-next : paired k c (suc n) v
      ≡ paired k c n (v / 2 ^ (k + k)) * 2 ^ (k + k) + (v / 2 ^ k % 2 ^ k * to + v % 2 ^ k)
  paired-next =
      let w = v / 2 ^ (k + k) in
      let a = v / 2 ^ k % 2 ^ k in
      let u = uppers k n w in
      let within : c * uppers k n w ≤ w = uppers-within k n c w (omega (arith, e)) in
      let kept : paired k c n w + c * uppers k n w ≡ w = omega (arith, within) in
      let spread : (paired k c n w + c * u) * 2 ^ (k + k) ≡ paired k c n w * 2 ^ (k + k) + c * u * 2 ^ (k + k) =
      grind arith in
      let all : w * 2 ^ (k + k) ≡ paired k c n w * 2 ^ (k + k) + c * u * 2 ^ (k + k) =
      ap (λ x. x * 2 ^ (k + k)) (sym kept) ∙ spread in
      let less : c * (u * 2 ^ (k + k) + a) ≡ c * u * 2 ^ (k + k) + c * a = grind arith in
      let taken : c * uppers k (suc n) v ≡ c * u * 2 ^ (k + k) + c * a = ap (λ x. c * x) (uppers-next k n v) ∙ less in
      omega (arith, in_two, upper_read, all, taken)

pub read-paired : (k c to n v : ℕ) → to + c ≡ 2 ^ k
    → read (to * to) (2 ^ (k + k)) n (paired k c n v) ≡ read to (2 ^ k) (n + n) v
read-paired k c to zero v e = refl
read-paired k c to (suc n) v e =
    let w = v / 2 ^ (k + k) in
    let a = v / 2 ^ k % 2 ^ k in
    let d = v % 2 ^ k in
    let next = paired-next k c to n v e in
    let small = pair_small k c to n v e in
    let high : paired k c (suc n) v / 2 ^ (k + k) ≡ paired k c n w =
    ap (λ x. x / 2 ^ (k + k)) next ∙ div-mul-add (paired k c n w) (2 ^ (k + k)) (a * to + d) small in
    let low : paired k c (suc n) v % 2 ^ (k + k) ≡ a * to + d =
    ap (λ x. x % 2 ^ (k + k)) next ∙ mod-mul-add (paired k c n w) (2 ^ (k + k)) (a * to + d) small in
    let two : suc n + suc n ≡ suc (suc (n + n)) = omega arith in
    let before = read to (2 ^ k) (n + n) w in
    let spread : before * (to * to) + (a * to + d) ≡ (before * to + a) * to + d = grind arith in
    ap (λ x. read (to * to) (2 ^ (k + k)) n x * (to * to) + paired k c (suc n) v % 2 ^ (k + k)) high
    ∙ ap (λ x. read (to * to) (2 ^ (k + k)) n (paired k c n w) * (to * to) + x) low
    ∙ ap (λ x. x * (to * to) + (a * to + d)) (read-paired k c to n w e) ∙ spread
    ∙ ap (λ x. (read to (2 ^ k) (n + n) x * to + a) * to + d) (above_two k c to n v e)
    ∙ ap (λ m. read to (2 ^ k) m v) (sym two)

-- ---- sixteen digits in base 8, read in base 7

abbrev pub pairs : ℕ → ℕ
pairs v = v - uppers 3 8 v

abbrev pub fours : ℕ → ℕ
fours v = pairs v - 15 * uppers 6 4 (pairs v)

abbrev pub eights : ℕ → ℕ
eights v = fours v - 1695 * uppers 12 2 (fours v)

pub record IsInSteps (v : ℕ) : Type 0 where
  pub one : uppers 3 8 v ≤ v
  pub two : 15 * uppers 6 4 (pairs v) ≤ pairs v
  pub three : 1695 * uppers 12 2 (fours v) ≤ fours v
  pub four : 11012415 * (eights v / 2 ^ 24) ≤ eights v
  pub is : eights v - 11012415 * (eights v / 2 ^ 24) ≡ read 7 8 16 v

pub steps : (v : ℕ) → v < 2 ^ 48 → IsInSteps v
steps v less =
    let once : 1 * uppers 3 8 v ≡ uppers 3 8 v = omega arith in
    let last : uppers 24 1 (eights v) ≡ eights v / 2 ^ 24 =
    and_mask (eights v / 2 ^ 24) 24 ∙ mod-eq_of_lt (omega (arith, less)) in
    let one : read 49 64 8 (pairs v) ≡ read 7 8 16 v =
    ap (λ x. read 49 64 8 (v - x)) (sym once) ∙ read-paired 3 1 7 8 v refl in
    let two : read 2401 4096 4 (fours v) ≡ read 49 64 8 (pairs v) = read-paired 6 15 49 4 (pairs v) refl in
    let three : read 5764801 (2 ^ 24) 2 (eights v) ≡ read 2401 4096 4 (fours v) =
    read-paired 12 1695 2401 2 (fours v) refl in
    let four : read (5764801 * 5764801) (2 ^ 48) 1 (eights v - 11012415 * (eights v / 2 ^ 24))
    ≡ read 5764801 (2 ^ 24) 2 (eights v) =
    ap (λ x. read (5764801 * 5764801) (2 ^ 48) 1 (eights v - 11012415 * x)) (sym last)
    ∙ read-paired 24 11012415 5764801 1 (eights v) refl in
    let small : (eights v - 11012415 * (eights v / 2 ^ 24)) % 2 ^ 48 ≡ eights v - 11012415 * (eights v / 2 ^ 24) =
    mod-eq_of_lt (omega (arith, less)) in
    let alone : (eights v - 11012415 * (eights v / 2 ^ 24)) % 2 ^ 48
    ≡ read (5764801 * 5764801) (2 ^ 48) 1 (eights v - 11012415 * (eights v / 2 ^ 24)) =
    omega arith in
    record {
      one = rw once at (uppers-within 3 8 1 v (lit< tt));
      two = uppers-within 6 4 15 (pairs v) (lit< tt);
      three = uppers-within 12 2 1695 (fours v) (lit< tt);
      four = rw last at (uppers-within 24 1 11012415 (eights v) (lit< tt));
      is = sym small ∙ alone ∙ four ∙ three ∙ two ∙ one;
    }
