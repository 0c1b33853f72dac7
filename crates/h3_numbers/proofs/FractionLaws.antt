-- The digits of a fraction.
use Rattle.std.proofs.Common.{◌≡◌, ℕ, zero, suc, ◌+◌, ◌-◌, ◌*◌, ◌/◌, ◌%◌, ◌^◌, ◌<◌, ◌≤◌, true, nat_lt, nat_le, List, [], ◌∷◌, length, sym, ap, ◌∙◌, refl, arith, length-append}
use Rattle.std.proofs.lemmas.Bool.Decides.{nat_tests}
use Rattle.std.proofs.lemmas.Int.Digits.{digits_value_push}
use Rattle.std.proofs.lemmas.Nat.{mod_below}
use Rattle.std.proofs.Math.Nat.{pow-suc}
use Rattle.std.specs.Char.{digit_value, is_ascii_digit}
use Rattle.std.specs.Str.{all_ascii_digits}
use Rattle.std.specs.Str.Parse.{digits_value}
use Rattle.h3_numbers.specs.Reading.{are_digits, are_few_digits, fraction_units}
use Rattle.h3_numbers.specs.Writing.{last_digits, without_last_zeros}
use Rattle.h3_numbers.proofs.DigitLaws.{digits_push}
use Rattle.h3_numbers.proofs.ZeroLaws.{left_are_digits, left_length, left_value}

-- ---- its last eighteen digits

digit_of : (d : ℕ) → d < 10 → is_ascii_digit (48 + d) ≡ true
digit_of d small = grind (arith, nat_tests)

value_of : (d : ℕ) → d < 10 → digit_value (48 + d) ≡ d
value_of d small = grind (arith, nat_tests)

last_are_digits : (count n : ℕ) → all_ascii_digits (last_digits count n) ≡ true
last_are_digits zero n = refl
last_are_digits (suc count) n =
    let digit : is_ascii_digit (48 + n % 10) ≡ true = digit_of (n % 10) (mod_below n 10 (omega arith)) in
    digits_push (last_digits count (n / 10)) (48 + n % 10) (last_are_digits count (n / 10)) digit

pub length-last_digits : (count n : ℕ) → length (last_digits count n) ≡ count
length-last_digits zero n = refl
length-last_digits (suc count) n =
    length-append (last_digits count (n / 10)) ((48 + n % 10) ∷ [])
    ∙ ap (λ k. k + 1) (length-last_digits count (n / 10)) ∙ omega arith

last_value : (count n : ℕ) → n < 10 ^ count → digits_value 10 (last_digits count n) ≡ n
last_value zero n bound = omega (arith, bound)
last_value (suc count) n bound =
    let power : 10 ^ suc count ≡ 10 ^ count * 10 = pow-suc 10 count in
    let less : n / 10 < 10 ^ count = omega (arith, power) in
    let first = last_digits count (n / 10) in
    let last : digit_value (48 + n % 10) ≡ n % 10 = value_of (n % 10) (mod_below n 10 (omega arith)) in
    digits_value_push 10 first (48 + n % 10) ∙ ap (λ d. digits_value 10 first * 10 + d) last
    ∙ ap (λ k. k * 10 + n % 10) (last_value count (n / 10) less) ∙ omega arith

-- ---- without the zeros at their end

some_below : (n : ℕ) → nat_lt 0 (suc n) ≡ true
some_below n = grind (arith, nat_tests)

pub some_digits : (ds : List ℕ) → 0 < length ds → all_ascii_digits ds ≡ true → are_digits ds ≡ true
some_digits [] some all = absurd (omega arith)
some_digits (d ∷ ds) some all = rw (some_below (length ds), all) refl

le-nat_le : (a b : ℕ) → a ≤ b → nat_le a b ≡ true
le-nat_le a b h = grind (arith, nat_tests)

few_digits : (fs : List ℕ) → are_digits fs ≡ true → length fs ≤ 18 → are_few_digits fs ≡ true
few_digits fs are short = rw are (le-nat_le (length fs) 18 short)

zero_times : (k : ℕ) → 0 * k ≡ 0
zero_times k = omega arith

not_empty : (fs ds : List ℕ) (f : ℕ) → digits_value 10 fs * 10 ^ (length ds - length fs) ≡ f → 0 < f → 0 < length fs
not_empty [] ds f is some = absurd (omega (arith, is, zero_times (10 ^ (length ds - 0))))
not_empty (d ∷ fs) ds f is some = omega arith

-- they are one to eighteen digits, and the fraction is their value
pub fraction_digits : (f : ℕ) → 0 < f → f < 10 ^ 18
    → (are_few_digits (without_last_zeros (last_digits 18 f)) ≡ true)
    × (fraction_units (without_last_zeros (last_digits 18 f)) ≡ f)
fraction_digits f some bound =
    let ds = last_digits 18 f in
    let fs = without_last_zeros ds in
    let count : length ds ≡ 18 = length-last_digits 18 f in
    let value : digits_value 10 fs * 10 ^ (length ds - length fs) ≡ f = left_value 0 ds ∙ last_value 18 f bound in
    let are : are_digits fs ≡ true =
    some_digits fs (not_empty fs ds f value some) (left_are_digits ds (last_are_digits 18 f)) in
    let short : length fs ≤ 18 = omega (arith, left_length ds) in
    (few_digits fs are short, ap (λ k. digits_value 10 fs * 10 ^ (k - length fs)) (sym count) ∙ value)
