-- The numbers of the cells above and below a cell, as the moves make them.
use Rattle.std.specs.Int.Bits.{bit_or, or_add_and, or_zero_l, or_zero_r}
use Rattle.std.specs.Int.Digits.{number_from_digits, AllBelowBase}
use Rattle.std.proofs.Common.{ℕ, zero, suc, ◌≡◌, ◌≢◌, ◌+◌, ◌-◌, ◌*◌, ◌/◌, ◌%◌, ◌^◌, ◌<◌, ◌≤◌, ◌==◌, List, [], ◌∷◌, ◌++◌, length, take, drop, replicate, true, false, refl, arith, length-append, ◌∙◌, sym, ap, lit<, bit_and}
use Rattle.std.proofs.Math.ListN.{length-replicate}
use Rattle.std.proofs.Math.Nat.{pow-suc, one-le-pow, pow-le-pow_right}
use Rattle.std.proofs.lemmas.Bool.Decides.{nat_tests}
use Rattle.std.proofs.lemmas.Int.Digits.{number_push, number_lt}
use Rattle.std.proofs.lemmas.List.{length-drop, take-append-drop, append_assoc}
use Rattle.std.proofs.lemmas.Nat.{pow-add, mul-le, div-mul-add, div-add-mod', mod-mul-add, and_mask, or_block}
use Rattle.h3_index.specs.Cell.{Address, IsCell, leading, is_pentagon, number_of, padded}
use Rattle.h3_index.specs.CellNumber.{address_in, IsCellNumber}
use Rattle.h3_index.specs.Descendants.{along, center_descendant, child, ancestor_at}
use Rattle.h3_index.proofs.AncestorLaws.{center, cut_cell, length-ancestor_at, not_zero}
use Rattle.h3_index.proofs.CellLaws.{address_in-number_of, below-padded, head_of, is_number_of, low_small, number_of_is}
use Rattle.h3_index.proofs.DescendantLaws.{along_descendant, below_drop}
use Rattle.h3_index.proofs.DigitsLaws.{eights, number_append, number_first, number_sevens, number_zeros}
use Rattle.h3_index.proofs.PathLaws.{IsPath, rule_up}

spread_one : (v q : ℕ) → (v + 1) * q ≡ v * q + q
spread_one v q = grind arith

-- the digits and the 7 after them
pub value_padded : (ds : List ℕ)
    → number_from_digits 8 (padded ds) + 1 ≡ (number_from_digits 8 ds + 1) * 8 ^ (15 - length ds)
value_padded ds =
    let k = 15 - length ds in
    let e = number_append ds (replicate (15 - length ds) 7) in
    let f : number_from_digits 8 (padded ds)
    ≡ number_from_digits 8 ds * 8 ^ (15 - length ds) + number_from_digits 8 (replicate (15 - length ds) 7) =
    rw (length-replicate {A = ℕ} (15 - length ds) 7) at e in
    omega (arith, f, number_sevens (15 - length ds), spread_one (number_from_digits 8 ds) (8 ^ (15 - length ds)))

-- one more than a cell's number
pub next_number : (n : Address) → IsCell n
    → number_of n + 1 ≡ head_of n * 2 ^ 45 + (number_from_digits 8 n.digits + 1) * 8 ^ (15 - length n.digits)
next_number n h = omega (arith, number_of_is n h, value_padded n.digits)

-- ---- a child

push : (v d q : ℕ) → d < 7 → ((v + 1) * (q * 8) ≡ (v * 8 + d + 1) * q + (7 - d) * q)
push v d q h =
    let seven : 7 - d + d ≡ 7 = omega arith in
    let a : (7 - d) * q + d * q ≡ 7 * q = mid (7 - d) d q ∙ ap (λ n. n * q) seven in
    let b : (v * 8 + d + 1) * q ≡ 8 * (v * q) + d * q + q = grind arith in
    let c : (v + 1) * (q * 8) ≡ 8 * (v * q) + 8 * q = grind arith in
    omega (arith, a, b, c)
  where
    mid : (a b q : ℕ) → a * q + b * q ≡ (a + b) * q
    mid a b q = grind arith

pub number_child : (c : Address) (d : ℕ) → IsCell c → IsCell (along c (d ∷ [])) → d < 7
    → number_of c + 2 ^ 52 ≡ number_of (along c (d ∷ [])) + (7 - d) * 8 ^ (14 - length c.digits)
number_child c d h h' small =
    let len : length (c.digits ++ d ∷ []) ≡ length c.digits + 1 = omega (arith, length-append c.digits (d ∷ [])) in
    let less : 15 - (length c.digits + 1) ≡ 14 - length c.digits = omega arith in
    let power : 15 - length c.digits ≡ suc (14 - length c.digits) = omega (arith, h'.coarse, len) in
    let here = rw (power, pow-suc 8 (14 - length c.digits)) at (next_number c h) in
    let there = rw (len, less, number_push 8 c.digits d) at (next_number (along c (d ∷ [])) h') in
    omega (arith, here, there, len, push (number_from_digits 8 c.digits) d (8 ^ (14 - length c.digits)) small)

-- ---- the centre

pub number_center : (c : Address) (k : ℕ) → IsCell c → IsCell (along c (replicate k 0))
    → number_of c + k * 2 ^ 52 + 8 ^ (15 - length c.digits - k)
    ≡ number_of (along c (replicate k 0)) + 8 ^ (15 - length c.digits)
number_center c k h h' =
    let len : length (c.digits ++ replicate k 0) ≡ length c.digits + k =
    omega (arith, length-append c.digits (replicate k 0), length-replicate {A = ℕ} k 0) in
    let less : 15 - (length c.digits + k) ≡ 15 - length c.digits - k = omega arith in
    let split : k + (15 - length c.digits - k) ≡ 15 - length c.digits = omega (arith, h'.coarse, len) in
    let power : 8 ^ (15 - length c.digits) ≡ 8 ^ k * 8 ^ (15 - length c.digits - k) =
    rw split at (pow-add 8 k (15 - length c.digits - k)) in
    let low : number_from_digits 8 (c.digits ++ replicate k 0) ≡ number_from_digits 8 c.digits * 8 ^ k =
    number_append c.digits (replicate k 0) ∙ (rw (length-replicate {A = ℕ} k 0, number_zeros k) (omega arith)) in
    let there = rw (len, less, low) at (next_number (along c (replicate k 0)) h') in
    let a = spread_one (number_from_digits 8 c.digits * 8 ^ k) (8 ^ (15 - length c.digits - k)) in
    let b = spread_one (number_from_digits 8 c.digits) (8 ^ (15 - length c.digits)) in
    let e : number_from_digits 8 c.digits * 8 ^ (15 - length c.digits)
    ≡ number_from_digits 8 c.digits * 8 ^ k * 8 ^ (15 - length c.digits - k) =
    turn (number_from_digits 8 c.digits) (8 ^ k) (8 ^ (15 - length c.digits - k)) (8 ^ (15 - length c.digits))
    power in
    omega (arith, next_number c h, there, len, a, b, e)
  where
    turn : (v p q r : ℕ) → r ≡ p * q → v * r ≡ v * p * q
    turn v p q r e = rw e (grind arith)

-- ---- a cell above

next_spread : (h r v p t : ℕ) → t ≡ r * p → (h * r + v + 1) * p ≡ h * t + (v + 1) * p
next_spread h r v p t e = rw e (grind arith)

shift_in : (h r v p t l : ℕ) → t ≡ r * p → h * t + (v * p + l) ≡ (h * r + v) * p + l
shift_in h r v p t l e = rw e (grind arith)

-- a cell's number, divided after a digit
record IsDivided (c : Address) (q : ℕ) : Type 0 where
  low : number_from_digits 8 (drop q c.digits ++ replicate (15 - length c.digits) 7) < 8 ^ (15 - q)
  total : 2 ^ 45 ≡ 8 ^ q * 8 ^ (15 - q)
  is : number_of c
      ≡ (head_of c * 8 ^ q + number_from_digits 8 (take q c.digits)) * 8 ^ (15 - q)
      + number_from_digits 8 (drop q c.digits ++ replicate (15 - length c.digits) 7)

divided : (c : Address) (q : ℕ) → IsCell c → q ≤ length c.digits → IsDivided c q
divided c q h le =
    let rest = drop q c.digits ++ replicate (15 - length c.digits) 7 in
    let small : AllBelowBase 8 (drop q c.digits ++ replicate (15 - length c.digits) 7) =
    below-padded (drop q c.digits) (15 - length c.digits) (below_drop q c.digits h.digits_small) in
    let size : length (drop q c.digits ++ replicate (15 - length c.digits) 7) ≡ 15 - q =
    omega (
      arith,
      h.coarse,
      length-append (drop q c.digits) (replicate (15 - length c.digits) 7),
      length-replicate {A = ℕ} (15 - length c.digits) 7,
      length-drop q c.digits,
    ) in
    let low : number_from_digits 8 (drop q c.digits ++ replicate (15 - length c.digits) 7) < 8 ^ (15 - q) =
    rw size at (number_lt 8 (drop q c.digits ++ replicate (15 - length c.digits) 7) small) in
    let whole : padded c.digits ≡ take q c.digits ++ (drop q c.digits ++ replicate (15 - length c.digits) 7) =
    ap (λ ds. ds ++ replicate (15 - length c.digits) 7) (sym (take-append-drop q c.digits))
    ∙ append_assoc (take q c.digits) (drop q c.digits) (replicate (15 - length c.digits) 7) in
    let digits : number_from_digits 8 (padded c.digits)
    ≡ number_from_digits 8 (take q c.digits) * 8 ^ (15 - q)
    + number_from_digits 8 (drop q c.digits ++ replicate (15 - length c.digits) 7) =
    ap (λ ds. number_from_digits 8 ds) whole
    ∙ (rw size at (number_append (take q c.digits) (drop q c.digits ++ replicate (15 - length c.digits) 7))) in
    let full : q + (15 - q) ≡ 15 = omega (arith, h.coarse, le) in
    let total : 2 ^ 45 ≡ 8 ^ q * 8 ^ (15 - q) = rw full at (pow-add 8 q (15 - q)) in
    record {
      low = low;
      total = total;
      is =
          number_of_is c h ∙ ap (λ n. head_of c * 2 ^ 45 + n) digits
          ∙ shift_in (head_of c) (8 ^ q) (number_from_digits 8 (take q c.digits)) (8 ^ (15 - q)) (2 ^ 45)
          (number_from_digits 8 (drop q c.digits ++ replicate (15 - length c.digits) 7)) total;
    }

-- what a shift leaves of a cell's number
pub number_cut : (c : Address) (q : ℕ) → IsCell c → q ≤ length c.digits
    → (number_of c / 8 ^ (15 - q) + 1) * 8 ^ (15 - q) ≡ number_of (ancestor_at c q) + 1 + (length c.digits - q) * 2 ^ 52
number_cut c q h le =
    let d = divided c q h le in
    let shifted : number_of c / 8 ^ (15 - q) ≡ head_of c * 8 ^ q + number_from_digits 8 (take q c.digits) =
    ap (λ n. n / 8 ^ (15 - q)) d.is
    ∙ div-mul-add (head_of c * 8 ^ q + number_from_digits 8 (take q c.digits)) (8 ^ (15 - q))
    (number_from_digits 8 (drop q c.digits ++ replicate (15 - length c.digits) 7)) d.low in
    let len = length-ancestor_at c q le in
    let there : number_of (ancestor_at c q) + 1
    ≡ head_of (ancestor_at c q) * 2 ^ 45 + (number_from_digits 8 (take q c.digits) + 1) * 8 ^ (15 - q) =
    next_number (ancestor_at c q) (cut_cell c q h le)
    ∙ ap (λ l. head_of (ancestor_at c q) * 2 ^ 45 + (number_from_digits 8 (take q c.digits) + 1) * 8 ^ (15 - l)) len in
    rw shifted
    (omega (
      arith,
      next_spread (head_of c) (8 ^ q) (number_from_digits 8 (take q c.digits)) (8 ^ (15 - q)) (2 ^ 45)
          d.total,
      there,
      len,
    ))

-- the digits, and the 7 after them, without these
value_alone : (ds : List ℕ) (k : ℕ) → number_from_digits 8 (ds ++ replicate k 7) / 8 ^ k ≡ number_from_digits 8 ds
value_alone ds k =
    let p = one-le-pow k 8 (lit< tt) in
    let sevens : number_from_digits 8 (replicate k 7) ≡ 8 ^ k - 1 = omega (arith, number_sevens k) in
    let both : number_from_digits 8 (ds ++ replicate k 7)
    ≡ number_from_digits 8 ds * 8 ^ k + number_from_digits 8 (replicate k 7) =
    rw (length-replicate {A = ℕ} k 7) at (number_append ds (replicate k 7)) in
    ap (λ n. n / 8 ^ k) (both ∙ ap (λ n. number_from_digits 8 ds * 8 ^ k + n) sevens)
    ∙ div-mul-add (number_from_digits 8 ds) (8 ^ k) (8 ^ k - 1) (omega (arith, p))

-- the digits below a resolution
number_below : (c : Address) (q : ℕ) → IsCell c → q ≤ length c.digits
    → number_of c % 8 ^ (15 - q) / 8 ^ (15 - length c.digits) ≡ number_from_digits 8 (drop q c.digits)
number_below c q h le =
    let d = divided c q h le in
    ap (λ n. n % 8 ^ (15 - q) / 8 ^ (15 - length c.digits)) d.is
    ∙ ap (λ n. n / 8 ^ (15 - length c.digits)) (mod-mul-add (head_of c * 8 ^ q + number_from_digits 8 (take q c.digits))
    (8 ^ (15 - q)) (number_from_digits 8 (drop q c.digits ++ replicate (15 - length c.digits) 7)) d.low)
    ∙ value_alone (drop q c.digits) (15 - length c.digits)

-- ---- a pentagon

not_none_sum : (a b : ℕ) → 1 ≤ a → (a + b == 0) ≡ false
not_none_sum a b h =
    let some : a + b ≢ 0 = omega arith in
    grind (arith, nat_tests)

pub value_zero : (ds : List ℕ) → (number_from_digits 8 ds == 0) ≡ (leading ds == 0)
value_zero [] = refl
value_zero (zero ∷ ds) = value_zero ds
value_zero (suc d ∷ ds) =
    let z = not_zero d in
    let some : 1 ≤ suc d * 8 ^ length ds =
    (let p = one-le-pow (length ds) 8 (lit< tt) in mul-le 1 1 (suc d) (8 ^ length ds) (omega arith) p) in
    rw (z, z, number_first (suc d) ds) (not_none_sum (suc d * 8 ^ length ds) (number_from_digits 8 ds) some)

pub number_digits : (c : Address) → IsCell c
    → number_of c % 2 ^ 45 / 8 ^ (15 - length c.digits) ≡ number_from_digits 8 c.digits
number_digits c h =
    let low : number_of c % 2 ^ 45 ≡ number_from_digits 8 (padded c.digits) =
    ap (λ n. n % 2 ^ 45) (number_of_is c h)
    ∙ mod-mul-add (head_of c) (2 ^ 45) (number_from_digits 8 (padded c.digits)) (low_small c h) in
    let p = one-le-pow (15 - length c.digits) 8 (lit< tt) in
    let split : number_from_digits 8 (padded c.digits)
    ≡ number_from_digits 8 c.digits * 8 ^ (15 - length c.digits) + (8 ^ (15 - length c.digits) - 1) =
    omega (arith, value_padded c.digits, spread_one (number_from_digits 8 c.digits) (8 ^ (15 - length c.digits)), p) in
    let less : 8 ^ (15 - length c.digits) - 1 < 8 ^ (15 - length c.digits) = omega (arith, p) in
    ap (λ n. n / 8 ^ (15 - length c.digits)) (low ∙ split)
    ∙ div-mul-add (number_from_digits 8 c.digits) (8 ^ (15 - length c.digits)) (8 ^ (15 - length c.digits) - 1) less

-- ---- bounds and shifts

pub number_small : (c : Address) → IsCell c → number_of c < 2 ^ 60
number_small c h = omega (arith, number_of_is c h, low_small c h, h.coarse, h.base_small)

pub power_small : (k : ℕ) → k ≤ 15 → 8 ^ k ≤ 2 ^ 45
power_small k h = (let p : 8 ^ k ≤ 8 ^ 15 = pow-le-pow_right (omega arith) h in p)

pub shifted : (x k : ℕ) → x < 2 ^ 15 → k ≤ 15 → x * 2 ^ (3 * k) % 2 ^ 64 ≡ x * 8 ^ k
shifted x k small h =
    let most : x * 8 ^ k ≤ 2 ^ 15 * 2 ^ 45 = mul-le x (8 ^ k) (2 ^ 15) (2 ^ 45) (omega arith) (power_small k h) in
    rw (eights k) (omega (arith, most))

-- ---- a cell from its number

pub child_cell : (c : Address) (d : ℕ) → IsCell c → length c.digits < 15 → d < 7 → (is_pentagon c ≡ true → d ≢ 1)
    → IsCell (child c d)
child_cell c d h coarse small ok =
    let one : length c.digits + 1 - length c.digits ≡ 1 = omega arith in
    let path : IsPath (is_pentagon c) (length c.digits + 1 - length c.digits) (d ∷ []) =
    record {
      long = omega (arith, one);
      small = (small, tt);
      not_one = rule_up (is_pentagon c) d [] ok (λ _ e. omega (arith, e));
    } in
    (along_descendant c (length c.digits + 1) (d ∷ []) h (omega arith) (omega (arith, coarse)) path).valid

pub made_valid : (m : ℕ) (n : Address) → IsCell n → m ≡ number_of n → IsCellNumber m
made_valid m n h e = rw e (is_number_of n h)

pub made_is : (m : ℕ) (n : Address) → IsCell n → m ≡ number_of n → address_in m ≡ n
made_is m n h e = rw e (address_in-number_of n h)

pub inside_is : (m : ℕ) (n : Address) → IsCellNumber m → address_in m ≡ n → m ≡ number_of n
inside_is m n h e = sym h.is ∙ ap number_of e

-- ---- the forms in the code

-- the unused digits below resolution q
abbrev pub unused : ℕ → ℕ
unused q = 1 * 2 ^ (3 * (15 - q)) % 2 ^ 64 - 1

unused_is : (q : ℕ) → q ≤ 15 → unused q ≡ 2 ^ (3 * (15 - q)) - 1
unused_is q le =
    let one : 1 * 8 ^ (15 - q) ≡ 8 ^ (15 - q) = omega arith in
    ap (λ n. n - 1) (shifted 1 (15 - q) (lit< tt) (omega arith) ∙ one ∙ sym (eights (15 - q)))

pub unused_some : (q : ℕ) → 1 ≤ 1 * 2 ^ (3 * (15 - q)) % 2 ^ 64
unused_some q =
    let one : 1 * 8 ^ (15 - q) ≡ 8 ^ (15 - q) = omega arith in
    let some = one-le-pow (15 - q) 8 (lit< tt) in
    let is = shifted 1 (15 - q) (lit< tt) (omega arith) in
    omega (arith, one, some, is)

-- the last digits of a number, all set
or_low : (m k : ℕ) → bit_or m (2 ^ k - 1) + 1 ≡ (m / 2 ^ k + 1) * 2 ^ k
or_low m k =
    let some = one-le-pow k 2 (lit< tt) in
    omega (arith, or_add_and m (2 ^ k - 1), and_mask m k, div-add-mod' m (2 ^ k), spread_one (m / 2 ^ k) (2 ^ k), some)

or_first : (q : ℕ) → q < 16 → bit_or 128 q ≡ 128 + q
or_first q less =
    let low : 0 * 16 + q ≡ q = omega arith in
    let none : bit_or 0 q ≡ q = or_zero_l q in
    ap (bit_or 128) (sym low) ∙ or_block 4 8 0 0 q (lit< tt) less ∙ (rw none refl)

pub resolution_within : (n : Address) (m r : ℕ) → IsCell n → m ≡ number_of n → r ≡ length n.digits
    → r * 2 ^ 52 % 2 ^ 64 ≤ m
resolution_within n m r h e er =
    let own : r * 2 ^ 52 % 2 ^ 64 ≡ length n.digits * 2 ^ 52 = rw er (omega (arith, h.coarse)) in
    rw (own, e) (omega (arith, number_of_is n h))

pub record IsCutForm (n : Address) (m q f r : ℕ) : Type 0 where
  pub fits : f * 2 ^ 52 % 2 ^ 64 + unused q < 2 ^ 64
  pub is : bit_or (m - r * 2 ^ 52 % 2 ^ 64) (f * 2 ^ 52 % 2 ^ 64 + unused q) ≡ number_of (ancestor_at n q)
  pub valid : IsCell (ancestor_at n q)

pub cut_form : (n : Address) (m q f r : ℕ) → IsCell n → m ≡ number_of n → r ≡ length n.digits → f ≡ q
    → q ≤ length n.digits → IsCutForm n m q f r
cut_form n m q f r h e er ef le =
    let v = cut_cell n q h le in
    let low = n.base * 2 ^ 45 + number_from_digits 8 (padded n.digits) in
    let whole : number_of n ≡ (128 + length n.digits) * 2 ^ 52 + low = omega (arith, number_of_is n h) in
    let less : low < 2 ^ 52 = omega (arith, low_small n h, h.base_small) in
    let k = 3 * (15 - q) in
    let power : 2 ^ k ≤ 2 ^ 45 = rw (eights (15 - q)) (power_small (15 - q) (omega arith)) in
    let few : 2 ^ k - 1 < 2 ^ 52 = omega (arith, power) in
    let few_is : unused q ≡ 2 ^ k - 1 = unused_is q (omega (arith, h.coarse, le)) in
    let own : r * 2 ^ 52 % 2 ^ 64 ≡ length n.digits * 2 ^ 52 = rw er (omega (arith, h.coarse)) in
    let above : f * 2 ^ 52 % 2 ^ 64 ≡ q * 2 ^ 52 = rw ef (omega (arith, h.coarse, le)) in
    let cleared : m - r * 2 ^ 52 % 2 ^ 64 ≡ 128 * 2 ^ 52 + low = rw (own, e) (omega (arith, whole)) in
    let other : f * 2 ^ 52 % 2 ^ 64 + unused q ≡ q * 2 ^ 52 + (2 ^ k - 1) = rw (above, few_is) refl in
    let made : bit_or (128 * 2 ^ 52 + low) (q * 2 ^ 52 + (2 ^ k - 1)) ≡ (128 + q) * 2 ^ 52 + bit_or low (2 ^ k - 1) =
    or_block 52 128 q low (2 ^ k - 1) less few
    ∙ ap (λ n. n * 2 ^ 52 + bit_or low (2 ^ k - 1)) (or_first q (omega (arith, h.coarse, le))) in
    let none : 2 ^ k - 1 ≡ 0 * 2 ^ 52 + (2 ^ k - 1) = omega arith in
    let same : bit_or (number_of n) (2 ^ k - 1) ≡ (128 + length n.digits) * 2 ^ 52 + bit_or low (2 ^ k - 1) =
    ap (λ n. bit_or n (2 ^ k - 1)) whole ∙ ap (bit_or ((128 + length n.digits) * 2 ^ 52 + low)) none
    ∙ or_block 52 (128 + length n.digits) 0 low (2 ^ k - 1) less few
    ∙ ap (λ a. a * 2 ^ 52 + bit_or low (2 ^ k - 1)) (or_zero_r (128 + length n.digits)) in
    let all : bit_or (number_of n) (2 ^ k - 1) + 1 ≡ number_of (ancestor_at n q) + 1 + (length n.digits - q) * 2 ^ 52 =
    or_low (number_of n) k ∙ (rw (eights (15 - q)) (number_cut n q h le)) in
    record {
      fits = rw other (omega (arith, few, h.coarse, le));
      is = rw (cleared, other, made) (omega (arith, same, all, le));
      valid = v;
    }

pub record IsChildForm (n : Address) (m d f r : ℕ) : Type 0 where
  pub fits : m + 2 ^ 52 < 2 ^ 64
  pub enough : f * 2 ^ (3 * (14 - r)) % 2 ^ 64 ≤ m + 2 ^ 52
  pub is : m + 2 ^ 52 - f * 2 ^ (3 * (14 - r)) % 2 ^ 64 ≡ number_of (child n d)
  pub valid : IsCell (child n d)

pub child_form : (n : Address) (m d f r : ℕ) → IsCell n → m ≡ number_of n → r ≡ length n.digits → f ≡ 7 - d
    → length n.digits < 15 → d < 7 → (is_pentagon n ≡ true → d ≢ 1) → IsChildForm n m d f r
child_form n m d f r h e er ef coarse small ok =
    let v = child_cell n d h coarse small ok in
    let low = number_small n h in
    let a = number_child n d h v small in
    let fall : f * 2 ^ (3 * (14 - r)) % 2 ^ 64 ≡ (7 - d) * 8 ^ (14 - length n.digits) =
    rw (ef, er) (shifted (7 - d) (14 - length n.digits) (omega arith) (omega arith)) in
    record {
      fits = rw e (omega (arith, low));
      enough = rw (fall, e) (omega (arith, a));
      is = rw (fall, e) (omega (arith, a));
      valid = v;
    }

pub record IsCenterForm (n : Address) (m s f r : ℕ) : Type 0 where
  pub fits : m + f * 2 ^ 52 % 2 ^ 64 < 2 ^ 64
  pub fits-2 : m + f * 2 ^ 52 % 2 ^ 64 + 1 * 2 ^ (3 * (15 - s)) % 2 ^ 64 < 2 ^ 64
  pub enough : 1 * 2 ^ (3 * (15 - r)) % 2 ^ 64 ≤ m + f * 2 ^ 52 % 2 ^ 64 + 1 * 2 ^ (3 * (15 - s)) % 2 ^ 64
  pub is : m + f * 2 ^ 52 % 2 ^ 64 + 1 * 2 ^ (3 * (15 - s)) % 2 ^ 64 - 1 * 2 ^ (3 * (15 - r)) % 2 ^ 64
      ≡ number_of (center_descendant n s)
  pub valid : IsCell (center_descendant n s)

pub center_form : (n : Address) (m s f r r' : ℕ) → IsCell n → m ≡ number_of n → r ≡ length n.digits
    → r' ≡ length n.digits → f ≡ s - r' → length n.digits ≤ s → s ≤ 15 → IsCenterForm n m s f r
center_form n m s f r r' h e er er' ef low high =
    let v = (center n s h low (omega (arith, high))).valid in
    let small = number_small n h in
    let power = power_small (15 - s) (omega arith) in
    let left : 15 - length n.digits - (s - length n.digits) ≡ 15 - s = omega (arith, low) in
    let a = rw left at (number_center n (s - length n.digits) h v) in
    let risen : f * 2 ^ 52 % 2 ^ 64 ≡ (s - length n.digits) * 2 ^ 52 = rw (ef, er') (omega (arith, high)) in
    let one : 1 * 2 ^ (3 * (15 - s)) % 2 ^ 64 ≡ 8 ^ (15 - s) =
    shifted 1 (15 - s) (lit< tt) (omega arith) ∙ one_times (8 ^ (15 - s)) in
    let two : 1 * 2 ^ (3 * (15 - r)) % 2 ^ 64 ≡ 8 ^ (15 - length n.digits) =
    rw er (shifted 1 (15 - length n.digits) (lit< tt) (omega arith) ∙ one_times (8 ^ (15 - length n.digits))) in
    record {
      fits = rw (risen, e) (omega (arith, small, high));
      fits-2 = rw (risen, one, e) (omega (arith, small, high, power));
      enough = rw (risen, one, two, e) (omega (arith, a));
      is = rw (risen, one, two, e) (omega (arith, a));
      valid = v;
    }
  where
    one_times : (x : ℕ) → 1 * x ≡ x
    one_times x = omega arith

pub pentagon_form : (n : Address) (m r : ℕ) → IsCell n → m ≡ number_of n → r ≡ length n.digits
    → (bit_and m 35184372088831 / 2 ^ (3 * (15 - r)) == 0) ≡ (leading n.digits == 0)
pentagon_form n m r h e er =
    let mask : bit_and m 35184372088831 ≡ m % 2 ^ 45 = and_mask m 45 in
    rw (mask, e, er, eights (15 - length n.digits), number_digits n h) (value_zero n.digits)

pub below_form : (n : Address) (m q r : ℕ) → IsCell n → m ≡ number_of n → r ≡ length n.digits → q ≤ length n.digits
    → bit_and m (unused q) / 2 ^ (3 * (15 - r)) ≡ number_from_digits 8 (drop q n.digits)
below_form n m q r h e er le =
    rw (
      unused_is q (omega (arith, h.coarse, le)),
      and_mask m (3 * (15 - q)),
      e,
      er,
      eights (15 - q),
      eights (15 - length n.digits),
    )
    (number_below n q h le)
