-- Digits without the zeros at their end.
use Rattle.std.proofs.Common.{◌≡◌, ℕ, suc, ◌+◌, ◌-◌, ◌*◌, ◌^◌, ◌≤◌, ◌==◌, Bool, true, false, List, [], ◌∷◌, ◌++◌, length, take, get_or, if◌then◌else◌, sym, ap, ◌∙◌, refl, arith, eqb-true}
use Rattle.std.proofs.lemmas.Bool.Decides.{nat_tests}
use Rattle.std.proofs.lemmas.List.{take_more, take_all}
use Rattle.std.proofs.Math.Nat.{pow-suc}
use Rattle.std.specs.Char.{digit_value, is_ascii_digit}
use Rattle.std.specs.Str.{all_ascii_digits}
use Rattle.std.specs.Str.Parse.{digits_value_after}
use Rattle.h3_numbers.specs.Writing.{first_kept, without_last_zeros}
use Rattle.h3_numbers.proofs.DigitLaws.{both}

-- ---- the last digit

no_zero : (b : ℕ) → ¬ (b ≡ 48) → (b == 48) ≡ false
no_zero b other = grind (arith, nat_tests)

last_split : (rest : List ℕ) → 1 ≤ length rest
    → rest ≡ take (length rest - 1) rest ++ get_or rest (length rest - 1) 0 ∷ []
last_split rest some =
    let last = length rest - 1 in
    let count : last + 1 ≡ length rest = omega arith in
    sym (take_all (length rest) rest (omega arith)) ∙ ap (λ n. take n rest) (sym count)
    ∙ take_more rest last 0 (omega arith)

pub zero_dropped : (xs : List ℕ) → without_last_zeros (xs ++ 48 ∷ []) ≡ without_last_zeros xs
zero_dropped [] = refl
zero_dropped (x ∷ xs) = ap (first_kept x) (zero_dropped xs)

kept_before : (x b : ℕ) (xs : List ℕ) → first_kept x (xs ++ b ∷ []) ≡ x ∷ (xs ++ b ∷ [])
kept_before x b [] = refl
kept_before x b (y ∷ ys) = refl

other_kept : (xs : List ℕ) (b : ℕ) → (b == 48) ≡ false → without_last_zeros (xs ++ b ∷ []) ≡ xs ++ b ∷ []
other_kept [] b other = rw other refl
other_kept (x ∷ xs) b other = ap (first_kept x) (other_kept xs b other) ∙ kept_before x b xs

pub zero_last : (rest : List ℕ) → 1 ≤ length rest → get_or rest (length rest - 1) 0 ≡ 48
    → without_last_zeros (take (length rest - 1) rest) ≡ without_last_zeros rest
zero_last rest some zero =
    let before = take (length rest - 1) rest in
    let split : rest ≡ before ++ 48 ∷ [] = last_split rest some ∙ ap (λ b. before ++ b ∷ []) zero in
    sym (ap without_last_zeros split ∙ zero_dropped before)

pub other_last : (rest : List ℕ) → 1 ≤ length rest → ¬ (get_or rest (length rest - 1) 0 ≡ 48)
    → rest ≡ without_last_zeros rest
other_last rest some other =
    let before = take (length rest - 1) rest in
    let last = get_or rest (length rest - 1) 0 in
    let split : rest ≡ before ++ last ∷ [] = last_split rest some in
    sym (ap without_last_zeros split ∙ other_kept before last (no_zero last other) ∙ sym split)

-- ---- what is left are digits, and no more of them

kept_are_by : (t : Bool) (b : ℕ) → is_ascii_digit b ≡ true → all_ascii_digits (if t then [] else b ∷ []) ≡ true
kept_are_by true b is = refl
kept_are_by false b is = rw is refl

kept_are_digits : (b : ℕ) (bs : List ℕ) → is_ascii_digit b ≡ true → all_ascii_digits bs ≡ true
    → all_ascii_digits (first_kept b bs) ≡ true
kept_are_digits b [] is all = kept_are_by (b == 48) b is
kept_are_digits b (c ∷ cs) is all = rw is all

pub left_are_digits : (ds : List ℕ) → all_ascii_digits ds ≡ true → all_ascii_digits (without_last_zeros ds) ≡ true
left_are_digits [] all = refl
left_are_digits (d ∷ ds) all =
    let (first, more) = both (is_ascii_digit d) (all_ascii_digits ds) all in
    kept_are_digits d (without_last_zeros ds) first (left_are_digits ds more)

kept_length_by : (t : Bool) (b n : ℕ) → length (if t then [] else b ∷ []) ≤ suc n
kept_length_by true b n = omega arith
kept_length_by false b n = omega arith

kept_length : (b : ℕ) (bs : List ℕ) (n : ℕ) → length bs ≤ n → length (first_kept b bs) ≤ suc n
kept_length b [] n le = kept_length_by (b == 48) b n
kept_length b (c ∷ cs) n le = omega (arith, le)

pub left_length : (ds : List ℕ) → length (without_last_zeros ds) ≤ length ds
left_length [] = omega arith
left_length (d ∷ ds) = kept_length d (without_last_zeros ds) (length ds) (left_length ds)

-- ---- what is left has the same value, in units of the last digit

less_one : (n : ℕ) → suc n - 1 ≡ n - 0
less_one n = omega arith

less_none : (n : ℕ) → n ≡ n - 0
less_none n = omega arith

less_both : (n k : ℕ) → suc n - suc k ≡ n - k
less_both n k = omega arith

swapped : (m k : ℕ) → m * (k * 10) ≡ (m * 10) * k
swapped m k = grind arith

zero_adds_none : (m b : ℕ) → b ≡ 48 → m * 10 + digit_value b ≡ m * 10
zero_adds_none m b is = ap (λ d. m * 10 + digit_value d) is ∙ omega arith

kept_by : (t : Bool) (m b : ℕ) (whole : List ℕ) → (b == 48) ≡ t
    → (m * 10 + digit_value b) * 10 ^ (length whole - 0) ≡ digits_value_after 10 (m * 10 + digit_value b) whole
    → digits_value_after 10 m (if t then [] else b ∷ []) * 10 ^ (suc (length whole) - length (if t then [] else b ∷ []))
    ≡ digits_value_after 10 (m * 10 + digit_value b) whole
kept_by true m b whole is_zero value =
    let v = m * 10 + digit_value b in
    let n = length whole in
    let none : v ≡ m * 10 = zero_adds_none m b (eqb-true b 48 is_zero) in
    let power : 10 ^ (suc n - 0) ≡ 10 ^ n * 10 = ap (λ k. 10 ^ k) (sym (less_none (suc n))) ∙ pow-suc 10 n in
    let moved : m * 10 ^ (suc n - 0) ≡ (m * 10) * 10 ^ n = ap (λ k. m * k) power ∙ swapped m (10 ^ n) in
    moved ∙ ap (λ k. k * 10 ^ n) (sym none) ∙ ap (λ k. v * 10 ^ k) (less_none n) ∙ value
kept_by false m b whole other value = ap (λ k. (m * 10 + digit_value b) * 10 ^ k) (less_one (length whole)) ∙ value

kept_value : (m b : ℕ) (bs whole : List ℕ)
    → digits_value_after 10 (m * 10 + digit_value b) bs * 10 ^ (length whole - length bs)
    ≡ digits_value_after 10 (m * 10 + digit_value b) whole
    → digits_value_after 10 m (first_kept b bs) * 10 ^ (suc (length whole) - length (first_kept b bs))
    ≡ digits_value_after 10 (m * 10 + digit_value b) whole
kept_value m b [] whole value = kept_by (b == 48) m b whole refl value
kept_value m b (c ∷ cs) whole value =
    let v = digits_value_after 10 (m * 10 + digit_value b) (c ∷ cs) in
    ap (λ k. v * 10 ^ k) (less_both (length whole) (length (c ∷ cs))) ∙ value

pub left_value : (m : ℕ) (ds : List ℕ)
    → digits_value_after 10 m (without_last_zeros ds) * 10 ^ (length ds - length (without_last_zeros ds))
    ≡ digits_value_after 10 m ds
left_value m [] = omega arith
left_value m (d ∷ ds) = kept_value m d (without_last_zeros ds) ds (left_value (m * 10 + digit_value d) ds)
