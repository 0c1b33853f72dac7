-- The test of all digits at once.
use Rattle.std.specs.Int.Bits.{bit_and, and_zero_r}
use Rattle.std.specs.List.{list_all}
use Rattle.std.proofs.Common.{ℕ, zero, suc, ◌≡◌, ◌+◌, ◌-◌, ◌*◌, ◌/◌, ◌%◌, ◌^◌, ◌<◌, ◌≤◌, ◌==◌, nat_lt, List, [], ◌∷◌, ◌++◌, length, take, drop, Bool, true, false, ◌&&◌, refl, arith, sym, ap, ◌∙◌, lit<}
use Rattle.std.proofs.Math.Bool.{and-true}
use Rattle.std.proofs.Math.Nat.{pow-zero}
use Rattle.std.proofs.Math.Seq.{take-append_seam, drop-append_seam}
use Rattle.std.proofs.lemmas.Bool.{agree_below_at}
use Rattle.std.proofs.lemmas.Bool.Decides.{nat_tests}
use Rattle.std.proofs.lemmas.List.Folds.{list_all-append}
use Rattle.std.proofs.lemmas.Nat.{and_block, mod_below, div-mul-add, and_le_l, and_le_r}
use Rattle.h3_index.specs.Cell.{leading}
use Rattle.h3_index.specs.CellNumber.{digits_in}
use Rattle.h3_index.specs.Digits.{last_digits}
use Rattle.h3_index.proofs.DescendantLaws.{leading_after, leading_before}
use Rattle.h3_index.proofs.DigitsLaws.{eights, last_digits-ancestor_at, length-last_digits, shifted}

-- ---- the digits that are 7

-- a bit for each of the last n digits
abbrev pub ones : ℕ → ℕ
ones zero = 0
ones (suc n) = ones n * 8 + 1

-- those before the first r digits
ones-after : (r n : ℕ) → ones (r + n) / 8 ^ r ≡ ones n
ones-after zero n =
    let same : 0 + n ≡ n = omega arith in
    let one : ones n / 1 ≡ ones n = omega arith in
    rw (same, pow-zero 8) one
ones-after (suc r) n =
    let next : suc r + n ≡ suc (r + n) = omega arith in
    ap (λ k. ones k / 8 ^ suc r) next ∙ sym (shifted 8 (ones (r + n) * 8 + 1) r)
    ∙ ap (λ k. k / 8 ^ r) (div-mul-add (ones (r + n)) 8 1 (lit< tt)) ∙ ones-after r n

-- the digit d below others that end in the bits of e: 1 where its three bits are set
abbrev pub all_set : ℕ → ℕ → ℕ
all_set d e = bit_and (bit_and (bit_and d (e % 2 * 4 + d / 2)) (e % 4 * 2 + d / 4)) 1

module _ (d e : ℕ) (less : d < 8) (few : e < 4) where
  at_low : (e * 8 + d) % 8 ≡ d
  at_low = omega (arith, less)

  at_high : (e * 8 + d) / 8 ≡ e
  at_high = omega (arith, less)

  none_set : (all_set d e == 0) ≡ nat_lt d 7
  none_set =
      rw (at_low, at_high)
      at (agree_below_at (λ k. all_set (k % 8) (k / 8) == 0) (λ k. nat_lt (k % 8) 7) 32 (e * 8 + d) refl
      (omega (arith, less, few)))

  one_set : (all_set d e == 1) ≡ (d == 7)
  one_set =
      rw (at_low, at_high)
      at (agree_below_at (λ k. all_set (k % 8) (k / 8) == 1) (λ k. k % 8 == 7) 32 (e * 8 + d) refl
      (omega (arith, less, few)))

-- a bit for each of the last n digits of v that is 7
abbrev pub sevens_in : ℕ → ℕ → ℕ
sevens_in n v = bit_and (bit_and (bit_and v (v / 2)) (v / 4)) (ones n)

sevens_next : (n v : ℕ) → sevens_in (suc n) v ≡ sevens_in n (v / 8) * 8 + all_set (v % 8) (v / 8 % 4)
sevens_next n v =
    let a = v / 8 in
    let d = v % 8 in
    let less : d < 8 = mod_below v 8 (lit< tt) in
    let e : ℕ = a % 4 in
    let e_two : e % 2 ≡ a % 2 = omega arith in
    let e_four : e % 4 ≡ a % 4 = omega arith in
    let whole : v ≡ a * 8 + d = omega arith in
    let half : v / 2 ≡ a / 2 * 8 + (e % 2 * 4 + d / 2) = omega arith in
    let quarter : v / 4 ≡ a / 4 * 8 + (e % 4 * 2 + d / 4) = omega arith in
    let first : bit_and v (v / 2) ≡ bit_and a (a / 2) * 8 + bit_and d (e % 2 * 4 + d / 2) =
    ap (λ n. bit_and n (v / 2)) whole ∙ ap (bit_and (a * 8 + d)) half
    ∙ and_block 3 a (a / 2) d (e % 2 * 4 + d / 2) less (omega (arith, less)) in
    let small : bit_and d (e % 2 * 4 + d / 2) < 8 = omega (arith, less, and_le_l d (e % 2 * 4 + d / 2)) in
    let second : bit_and (bit_and v (v / 2)) (v / 4)
    ≡ bit_and (bit_and a (a / 2)) (a / 4) * 8 + bit_and (bit_and d (e % 2 * 4 + d / 2)) (e % 4 * 2 + d / 4) =
    ap (λ n. bit_and n (v / 4)) first ∙ ap (bit_and (bit_and a (a / 2) * 8 + bit_and d (e % 2 * 4 + d / 2))) quarter
    ∙ and_block 3 (bit_and a (a / 2)) (a / 4) (bit_and d (e % 2 * 4 + d / 2)) (e % 4 * 2 + d / 4) small
    (omega (arith, less)) in
    let small-2 : bit_and (bit_and d (e % 2 * 4 + d / 2)) (e % 4 * 2 + d / 4) < 8 =
    omega (arith, small, and_le_l (bit_and d (e % 2 * 4 + d / 2)) (e % 4 * 2 + d / 4)) in
    ap (λ n-2. bit_and n-2 (ones n * 8 + 1)) second
    ∙ and_block 3 (bit_and (bit_and a (a / 2)) (a / 4)) (ones n)
    (bit_and (bit_and d (e % 2 * 4 + d / 2)) (e % 4 * 2 + d / 4)) 1 small-2 (lit< tt)

-- numbers are equal where their last bits are and those above
same_last : (x y s l : ℕ) → s < 8 → l < 8 → (x * 8 + s == y * 8 + l) ≡ (x == y) && (s == l)
same_last x y s l less less-2 = by_high (x == y) refl
  where
    by_low : (b : Bool) → (s == l) ≡ b → x ≡ y → (x * 8 + s == y * 8 + l) ≡ b
    by_low true e h = grind (arith, nat_tests)
    by_low false e h = grind (arith, nat_tests)

    by_high : (b : Bool) → (x == y) ≡ b → (x * 8 + s == y * 8 + l) ≡ b && (s == l)
    by_high true e = by_low (s == l) refl (grind (arith, nat_tests))
    by_high false e = grind (arith, nat_tests)

-- what of the last digits a test tells digit by digit, the last one and those before it
all_next : (p : ℕ → Bool) (n v : ℕ)
    → list_all p (last_digits 8 (suc n) v) ≡ list_all p (last_digits 8 n (v / 8)) && p (v % 8)
all_next p n v =
    list_all-append p (last_digits 8 n (v / 8)) (v % 8 ∷ [])
    ∙ ap (λ b. list_all p (last_digits 8 n (v / 8)) && b) (and-true (p (v % 8)))

few_set : (v : ℕ) → all_set (v % 8) (v / 8 % 4) < 8
few_set v =
    omega
    (arith, and_le_r (bit_and (bit_and (v % 8) (v / 8 % 4 % 2 * 4 + v % 8 / 2)) (v / 8 % 4 % 4 * 2 + v % 8 / 4)) 1)

no_seven : (n v : ℕ) → (sevens_in n v == 0) ≡ list_all (λ d. nat_lt d 7) (last_digits 8 n v)
no_seven zero v = rw (and_zero_r (bit_and (bit_and v (v / 2)) (v / 4))) refl
no_seven (suc n) v =
    ap (λ k. k == 0) (sevens_next n v)
    ∙ same_last (sevens_in n (v / 8)) 0 (all_set (v % 8) (v / 8 % 4)) 0 (few_set v) (lit< tt)
    ∙ ap (λ b. b && (all_set (v % 8) (v / 8 % 4) == 0)) (no_seven n (v / 8))
    ∙ ap (λ b. list_all (λ d. nat_lt d 7) (last_digits 8 n (v / 8)) && b)
    (none_set (v % 8) (v / 8 % 4) (mod_below v 8 (lit< tt)) (mod_below (v / 8) 4 (lit< tt)))
    ∙ sym (all_next (λ d. nat_lt d 7) n v)

grouped : (a b d : Bool) → (a && b) && d ≡ a && (b && d)
grouped true b d = refl
grouped false b d = refl

-- the last n digits are 7 and the r before them are not where just the last bits are left
sevens_after : (r n v : ℕ)
    → (sevens_in (r + n) v == ones n)
    ≡ list_all (λ d. nat_lt d 7) (last_digits 8 r (v / 8 ^ n)) && list_all (λ d. d == 7) (last_digits 8 n v)
sevens_after r zero v =
    let same : r + 0 ≡ r = omega arith in
    let one : v / 1 ≡ v = omega arith in
    rw (same, pow-zero 8, one) (no_seven r v ∙ sym (and-true (list_all (λ d. nat_lt d 7) (last_digits 8 r v))))
sevens_after r (suc n) v =
    let next : r + suc n ≡ suc (r + n) = omega arith in
    let front = list_all (λ d. nat_lt d 7) (last_digits 8 r (v / 8 ^ suc n)) in
    let above : (sevens_in (r + n) (v / 8) == ones n) ≡ front && list_all (λ d. d == 7) (last_digits 8 n (v / 8)) =
    rw (shifted 8 v n) at (sevens_after r n (v / 8)) in
    ap (λ k. sevens_in k v == ones n * 8 + 1) next ∙ ap (λ k. k == ones n * 8 + 1) (sevens_next (r + n) v)
    ∙ same_last (sevens_in (r + n) (v / 8)) (ones n) (all_set (v % 8) (v / 8 % 4)) 1 (few_set v) (lit< tt)
    ∙ ap (λ b. b && (all_set (v % 8) (v / 8 % 4) == 1)) above
    ∙ ap (λ b. (front && list_all (λ d. d == 7) (last_digits 8 n (v / 8))) && b)
    (one_set (v % 8) (v / 8 % 4) (mod_below v 8 (lit< tt)) (mod_below (v / 8) 4 (lit< tt)))
    ∙ grouped front (list_all (λ d. d == 7) (last_digits 8 n (v / 8))) (v % 8 == 7)
    ∙ ap (λ b. front && b) (sym (all_next (λ d. d == 7) n v))

-- ---- the first digit that is not 0

leading_one : (d : ℕ) → leading (d ∷ []) ≡ d
leading_one zero = refl
leading_one (suc d) = let other : (suc d == 0) ≡ false = grind (arith, nat_tests) in rw other refl

-- the two higher bits of each of the last n digits
abbrev pub sixes : ℕ → ℕ
sixes zero = 0
sixes (suc n) = sixes n * 8 + 6

-- which is larger, what the lowest bits of the digits make or what the others do, by the first digit that is not 0
record IsWeighed (first lowest others : ℕ) : Type 0 where
  none : first ≡ 0 → (lowest ≡ 0) × (others ≡ 0)
  one : first ≡ 1 → others < lowest
  more : 2 ≤ first → lowest < others

digit_weighed : (d : ℕ) → d < 8 → IsWeighed d (bit_and d 1) (bit_and d 6)
digit_weighed d less =
    let by_one : nat_lt (bit_and d 6) (bit_and d 1) ≡ (d == 1) =
    agree_below_at (λ k. nat_lt (bit_and k 6) (bit_and k 1)) (λ k. k == 1) 8 d refl less in
    let by_more : nat_lt (bit_and d 1) (bit_and d 6) ≡ nat_lt 1 d =
    agree_below_at (λ k. nat_lt (bit_and k 1) (bit_and k 6)) (λ k. nat_lt 1 k) 8 d refl less in
    record {
      none = λ e. rw e (refl, refl);
      one = λ e. grind (arith, nat_tests);
      more = λ h. grind (arith, nat_tests);
    }

weighed_more : (ds : List ℕ) (d lowest others : ℕ) → d < 8 → IsWeighed (leading ds) lowest others
    → IsWeighed (leading (ds ++ d ∷ [])) (lowest * 8 + bit_and d 1) (others * 8 + bit_and d 6)
weighed_more ds d lowest others less h = by_first (leading ds) refl
  where
    by_first : (first : ℕ) → leading ds ≡ first
        → IsWeighed (leading (ds ++ d ∷ [])) (lowest * 8 + bit_and d 1) (others * 8 + bit_and d 6)
    by_first zero e =
        let zeros = h.none e in
        let same : leading (ds ++ d ∷ []) ≡ d = leading_after ds (d ∷ []) e ∙ leading_one d in
        let low : 0 * 8 + bit_and d 1 ≡ bit_and d 1 = omega arith in
        let high : 0 * 8 + bit_and d 6 ≡ bit_and d 6 = omega arith in
        rw (same, zeros.0, zeros.1, low, high) (digit_weighed d less)
    by_first (suc zero) e =
        let same : leading (ds ++ d ∷ []) ≡ 1 = leading_before ds (d ∷ []) (omega (arith, e)) ∙ e in
        let above = h.one e in
        let few = and_le_r d 6 in
        rw same (record {
          none = λ f. omega (arith, f);
          one = λ _. omega (arith, above, few);
          more = λ f. omega (arith, f);
        })
    by_first (suc (suc first)) e =
        let same : leading (ds ++ d ∷ []) ≡ suc (suc first) = leading_before ds (d ∷ []) (omega (arith, e)) ∙ e in
        let above = h.more (omega (arith, e)) in
        let few = and_le_r d 1 in
        rw same (record {
          none = λ f. omega (arith, f);
          one = λ f. omega (arith, f);
          more = λ _. omega (arith, above, few);
        })

weighed : (n v : ℕ) → IsWeighed (leading (last_digits 8 n v)) (bit_and v (ones n)) (bit_and v (sixes n))
weighed zero v =
    rw (and_zero_r v) (record { none = λ _. (refl, refl); one = λ f. omega (arith, f); more = λ f. omega (arith, f) })
weighed (suc n) v =
    let a = v / 8 in
    let d = v % 8 in
    let less : d < 8 = mod_below v 8 (lit< tt) in
    let whole : v ≡ a * 8 + d = omega arith in
    let lowest : bit_and v (ones n * 8 + 1) ≡ bit_and a (ones n) * 8 + bit_and d 1 =
    ap (λ k. bit_and k (ones n * 8 + 1)) whole ∙ and_block 3 a (ones n) d 1 less (lit< tt) in
    let others : bit_and v (sixes n * 8 + 6) ≡ bit_and a (sixes n) * 8 + bit_and d 6 =
    ap (λ k. bit_and k (sixes n * 8 + 6)) whole ∙ and_block 3 a (sixes n) d 6 less (lit< tt) in
    rw (lowest, others)
    (weighed_more (last_digits 8 n a) d (bit_and a (ones n)) (bit_and a (sixes n)) less (weighed n a))

-- what the comparison of both says
pub leads_with_one_is : (n v : ℕ)
    → nat_lt (bit_and v (sixes n)) (bit_and v (ones n)) ≡ (leading (last_digits 8 n v) == 1)
leads_with_one_is n v = by_first (leading (last_digits 8 n v)) refl
  where
    by_first : (first : ℕ) → leading (last_digits 8 n v) ≡ first
        → nat_lt (bit_and v (sixes n)) (bit_and v (ones n)) ≡ (leading (last_digits 8 n v) == 1)
    by_first zero e = let zeros = (weighed n v).none e in rw (e, zeros.0, zeros.1) refl
    by_first (suc zero) e = let above = (weighed n v).one e in rw e (grind (arith, nat_tests))
    by_first (suc (suc first)) e = let above = (weighed n v).more (omega (arith, e)) in rw e (grind (arith, nat_tests))

-- ---- ---- the digits up to the resolution and the others

-- the digits up to a resolution stand before the others
cut_digits : (r m : ℕ) → r < 16 → digits_in m ≡ last_digits 8 r (m / 8 ^ (15 - r)) ++ last_digits 8 (15 - r) m
unfolding digits_in
cut_digits r m less =
    let all : r + (15 - r) ≡ 15 = omega (arith, less) in
    rw all at (last_digits-ancestor_at 8 r (15 - r) m)

pub take_digits : (r m : ℕ) → r < 16 → take r (digits_in m) ≡ last_digits 8 r (m / 8 ^ (15 - r))
take_digits r m less =
    let front = last_digits 8 r (m / 8 ^ (15 - r)) in
    let len : length front ≡ r = length-last_digits 8 r (m / 8 ^ (15 - r)) in
    ap (take r) (cut_digits r m less) ∙ (rw len at (take-append_seam front (last_digits 8 (15 - r) m)))

pub drop_digits : (r m : ℕ) → r < 16 → drop r (digits_in m) ≡ last_digits 8 (15 - r) m
drop_digits r m less =
    let front = last_digits 8 r (m / 8 ^ (15 - r)) in
    let len : length front ≡ r = length-last_digits 8 r (m / 8 ^ (15 - r)) in
    ap (drop r) (cut_digits r m less) ∙ (rw len at (drop-append_seam front (last_digits 8 (15 - r) m)))

-- what the comparison says
pub sevens_are : (r m : ℕ) → r < 16
    → (sevens_in 15 m == ones 15 / 2 ^ (3 * r))
    ≡ list_all (λ d. nat_lt d 7) (take r (digits_in m)) && list_all (λ d. d == 7) (drop r (digits_in m))
sevens_are r m less =
    let all : r + (15 - r) ≡ 15 = omega (arith, less) in
    let rest : ones 15 / 2 ^ (3 * r) ≡ ones (15 - r) =
    ap (λ k. ones 15 / k) (eights r) ∙ (rw all at (ones-after r (15 - r))) in
    let shown : (sevens_in 15 m == ones (15 - r))
    ≡ list_all (λ d. nat_lt d 7) (last_digits 8 r (m / 8 ^ (15 - r)))
    && list_all (λ d. d == 7) (last_digits 8 (15 - r) m) =
    rw all at (sevens_after r (15 - r) m) in
    ap (λ k. sevens_in 15 m == k) rest ∙ shown ∙ (rw (take_digits r m less, drop_digits r m less) refl)

-- ---- the digit that leads, where the others are 7

leading_sevens : (es : List ℕ) → list_all (λ d. d == 7) es ≡ true → (leading es == 1) ≡ false
leading_sevens [] h = refl
leading_sevens (e ∷ es) h = by_first (e == 7) refl h
  where
    by_first : (b : Bool) → (e == 7) ≡ b → b && list_all (λ d. d == 7) es ≡ true → (leading (e ∷ es) == 1) ≡ false
    by_first true f g = let is : e ≡ 7 = grind (arith, nat_tests) in rw is refl
    by_first false f g = cc

lead_before : (ds es : List ℕ) → list_all (λ d. d == 7) es ≡ true → (leading (ds ++ es) == 1) ≡ (leading ds == 1)
lead_before ds es h = by_first (leading ds) refl
  where
    by_first : (first : ℕ) → leading ds ≡ first → (leading (ds ++ es) == 1) ≡ (leading ds == 1)
    by_first zero e = ap (λ n. n == 1) (leading_after ds es e) ∙ leading_sevens es h ∙ sym (rw e refl)
    by_first (suc first) e = ap (λ n. n == 1) (leading_before ds es (omega (arith, e)))

pub digits_lead : (r m : ℕ) → r < 16 → list_all (λ d. d == 7) (drop r (digits_in m)) ≡ true
    → (leading (digits_in m) == 1) ≡ (leading (take r (digits_in m)) == 1)
digits_lead r m less h =
    ap (λ ds. leading ds == 1) (cut_digits r m less
    ∙ sym (ap (λ ds. ds ++ last_digits 8 (15 - r) m) (take_digits r m less))
    ∙ sym (ap (λ es. take r (digits_in m) ++ es) (drop_digits r m less)))
    ∙ lead_before (take r (digits_in m)) (drop r (digits_in m)) h
