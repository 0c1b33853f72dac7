-- The text of a sum, and what it means.
use Rattle.std.proofs.Common.{◌≡◌, ℕ, zero, suc, ◌+◌, ◌*◌, ◌/◌, ◌%◌, ◌^◌, ◌<◌, ◌==◌, Bool, true, false, List, [], ◌∷◌, ◌++◌, length, get_or, if◌then◌else◌, None, Some, codes, decimal, pos, negsuc, ap, ◌∙◌, refl, append-nil, arith, rules, eqb-true}
use Rattle.std.proofs.lemmas.Bool.Decides.{nat_tests}
use Rattle.std.proofs.lemmas.Fmt.{decimal_is_IsNumeral_wide}
use Rattle.std.proofs.lemmas.Nat.{mod_below}
use Rattle.std.proofs.lemmas.Str.Parse.{IsNumeralModel, numerals_by_value}
use Rattle.std.specs.Char.{is_ascii_digit}
use Rattle.std.specs.Str.{all_ascii_digits}
use Rattle.std.specs.Str.Parse.{digits_value}
use Rattle.h3_numbers.specs.Laws.{SumsReadBack}
use Rattle.h3_numbers.specs.Reading.{after_point, are_few_digits, before_point, fraction_units, signed, size_units}
use Rattle.h3_numbers.specs.Writing.{fraction_text, last_digits, size_text, sum_text, without_last_zeros}
use Rattle.h3_numbers.proofs.DigitLaws.{both}
use Rattle.h3_numbers.proofs.FractionLaws.{fraction_digits, some_digits}

-- ---- by a sign and two parts

pub size_parts : (whole fraction : ℕ) → fraction < 10 ^ 18
    → size_text (whole * 10 ^ 18 + fraction) ≡ decimal whole ++ fraction_text fraction
size_parts whole fraction bound =
    let first : (whole * 10 ^ 18 + fraction) / 10 ^ 18 ≡ whole = omega arith in
    let last : (whole * 10 ^ 18 + fraction) % 10 ^ 18 ≡ fraction = omega arith in
    rw (first, last) refl

pub signed_text : (negative : Bool) (size : ℕ) → (negative ≡ true → 0 < size)
    → sum_text (signed negative size) ≡ (if negative then codes "-" else []) ++ size_text size
signed_text true zero some = absurd (omega (arith, some refl))
signed_text true (suc n) some = refl
signed_text false n some = refl

-- ---- digits have no sign and no point

no_minus : (b : ℕ) → is_ascii_digit b ≡ true → (b == 45) ≡ false
no_minus b is = grind (arith, nat_tests)

no_plus : (b : ℕ) → is_ascii_digit b ≡ true → (b == 43) ≡ false
no_plus b is = grind (arith, nat_tests)

no_point : (b : ℕ) → is_ascii_digit b ≡ true → (b == 46) ≡ false
no_point b is = grind (arith, nat_tests)

first_byte : (ds rest : List ℕ) → 0 < length ds → all_ascii_digits ds ≡ true
    → ((get_or (ds ++ rest) 0 0 == 45) ≡ false) × ((get_or (ds ++ rest) 0 0 == 43) ≡ false)
first_byte [] rest some all = absurd (omega arith)
first_byte (d ∷ ds) rest some all =
    let (first, more) = both (is_ascii_digit d) (all_ascii_digits ds) all in (no_minus d first, no_plus d first)

before_digits : (ds rest : List ℕ) → all_ascii_digits ds ≡ true → before_point (ds ++ rest) ≡ ds ++ before_point rest
before_digits [] rest all = refl
before_digits (d ∷ ds) rest all =
    let (first, more) = both (is_ascii_digit d) (all_ascii_digits ds) all in
    rw (no_point d first) (ap (λ l. d ∷ l) (before_digits ds rest more))

after_digits : (ds rest : List ℕ) → all_ascii_digits ds ≡ true → after_point (ds ++ rest) ≡ after_point rest
after_digits [] rest all = refl
after_digits (d ∷ ds) rest all =
    let (first, more) = both (is_ascii_digit d) (all_ascii_digits ds) all in
    rw (no_point d first) (after_digits ds rest more)

-- ---- what the text of a size means

plain_units : (ds : List ℕ) (n : ℕ) → 0 < length ds → all_ascii_digits ds ≡ true → digits_value 10 ds * 10 ^ 18 ≡ n
    → size_units ds None ≡ Some n
plain_units ds n some all is = rw (some_digits ds some all) (ap Some is)

point_units : (ds fs : List ℕ) (n : ℕ) → 0 < length ds → all_ascii_digits ds ≡ true → are_few_digits fs ≡ true
    → digits_value 10 ds * 10 ^ 18 + fraction_units fs ≡ n
    → size_units ds (Some fs) ≡ Some n
point_units ds fs n some all few is = rw (some_digits ds some all, few) (ap Some is)

pub own : IsNumeralModel (λ ds. all_ascii_digits ds ≡ true) (digits_value 10)
own = numerals_by_value _ (search rules)

whole_digits : (w : ℕ) → w < 10 ^ 64
    → (all_ascii_digits (decimal w) ≡ true) × (0 < length (decimal w)) × (digits_value 10 (decimal w) ≡ w)
whole_digits w bound =
    let (numeral, value) = decimal_is_IsNumeral_wide w bound in
    (own.from (decimal w) numeral.1, numeral.0, value)

positive : (f : ℕ) → (f == 0) ≡ false → 0 < f
positive f other = grind (arith, nat_tests)

-- a point and digits, if there is a fraction
abbrev tail_by : Bool → ℕ → List ℕ
tail_by t f = if t then [] else 46 ∷ without_last_zeros (last_digits 18 f)

units_by : (t : Bool) (w f : ℕ) → w < 10 ^ 64 → f < 10 ^ 18 → (f == 0) ≡ t
    → size_units (before_point (decimal w ++ tail_by t f)) (after_point (decimal w ++ tail_by t f))
    ≡ Some (w * 10 ^ 18 + f)
units_by true w f few below is_zero =
    let ds = decimal w in
    let (all, some, value) = whole_digits w few in
    let none : f ≡ 0 = eqb-true f 0 is_zero in
    let units : digits_value 10 ds * 10 ^ 18 ≡ w * 10 ^ 18 + f = ap (λ k. k * 10 ^ 18) value ∙ omega (arith, none) in
    rw (before_digits ds [] all, after_digits ds [] all, append-nil ds)
    (plain_units ds (w * 10 ^ 18 + f) some all units)
units_by false w f few below other =
    let ds = decimal w in
    let fs = without_last_zeros (last_digits 18 f) in
    let (all, some, value) = whole_digits w few in
    let (are, fraction) = fraction_digits f (positive f other) below in
    let units : digits_value 10 ds * 10 ^ 18 + fraction_units fs ≡ w * 10 ^ 18 + f =
    ap (λ k. k * 10 ^ 18 + fraction_units fs) value ∙ ap (λ k. w * 10 ^ 18 + k) fraction in
    rw (before_digits ds (46 ∷ fs) all, after_digits ds (46 ∷ fs) all, append-nil ds)
    (point_units ds fs (w * 10 ^ 18 + f) some all are units)

size_reads_back : (n : ℕ) → n < 10 ^ 64
    → (size_units (before_point (size_text n)) (after_point (size_text n)) ≡ Some n)
    × ((get_or (size_text n) 0 0 == 45) ≡ false) × ((get_or (size_text n) 0 0 == 43) ≡ false)
size_reads_back n bound =
    let w = n / 10 ^ 18 in
    let f = n % 10 ^ 18 in
    let few : w < 10 ^ 64 = omega (arith, bound) in
    let below : f < 10 ^ 18 = mod_below n (10 ^ 18) (omega arith) in
    let (all, some, value) = whole_digits w few in
    let (minus, plus) = first_byte (decimal w) (fraction_text f) some all in
    let same : w * 10 ^ 18 + f ≡ n = omega arith in
    (units_by (f == 0) w f few below refl ∙ ap Some same, minus, plus)

pub sums_read_back : SumsReadBack
sums_read_back (pos n) bound =
    let (units, minus, plus) = size_reads_back n bound in
    rw (minus, plus, units) refl
sums_read_back (negsuc n) bound =
    let (units, minus, plus) = size_reads_back (suc n) bound in
    rw units refl
