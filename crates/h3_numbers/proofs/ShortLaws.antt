-- No text of a number is shorter than that of the sum.
use Rattle.std.proofs.Common.{◌≡◌, ℕ, zero, suc, ◌+◌, ◌-◌, ◌*◌, ◌/◌, ◌%◌, ◌^◌, ◌<◌, ◌≤◌, ◌==◌, Bool, true, false, ◌&&◌, ◌||◌, nat_lt, nat_le, List, [], ◌∷◌, ◌++◌, length, if◌then◌else◌, Option, None, Some, option_map, decimal, ℤ, unsigned_abs, sym, ap, ◌∙◌, refl, arith, length-append}
use Rattle.std.proofs.lemmas.Bool.Decides.{nat_tests}
use Rattle.std.proofs.lemmas.Fmt.{length-decimal-le_wide}
use Rattle.std.proofs.lemmas.Str.Parse.{digits_value_short}
use Rattle.std.proofs.Math.Nat.{pow-suc}
use Rattle.std.specs.Str.{all_ascii_digits}
use Rattle.std.specs.Str.Parse.{digits_value}
use Rattle.h3_numbers.specs.Laws.{SumsAreShortest}
use Rattle.h3_numbers.specs.Reading.{after_point, are_digits, are_few_digits, before_point, fraction_units, is_negative, signed, size_units, without_sign}
use Rattle.h3_numbers.specs.Writing.{fraction_text, last_digits, size_text, sum_text, without_last_zeros}
use Rattle.h3_numbers.proofs.DigitLaws.{both}
use Rattle.h3_numbers.proofs.FractionLaws.{length-last_digits}
use Rattle.h3_numbers.proofs.PowerLaws.{filled, fraction_below_units}
use Rattle.h3_numbers.proofs.TextLaws.{own, size_parts}
use Rattle.h3_numbers.proofs.ZeroLaws.{left_length, zero_dropped}

-- ---- the parts of a text are as long as it is

sign_length_by : (t u : Bool) (b : ℕ) (bs : List ℕ)
    → length (if t || u then bs else b ∷ bs) + (if t then 1 else 0) ≤ suc (length bs)
sign_length_by true u b bs = omega arith
sign_length_by false true b bs = omega arith
sign_length_by false false b bs = omega arith

sign_length : (text : List ℕ) → length (without_sign text) + (if is_negative text then 1 else 0) ≤ length text
sign_length [] = omega arith
sign_length (b ∷ bs) = sign_length_by (b == 45) (b == 43) b bs

no_point_by : (t : Bool) (b : ℕ) (bs : List ℕ) → (after_point bs ≡ None → before_point bs ≡ bs)
    → (if t then Some bs else after_point bs) ≡ None → (if t then [] else b ∷ before_point bs) ≡ b ∷ bs
no_point_by true b bs rest none = absurd (cc)
no_point_by false b bs rest none = ap (λ l. b ∷ l) (rest none)

no_point : (bs : List ℕ) → after_point bs ≡ None → before_point bs ≡ bs
no_point [] none = refl
no_point (b ∷ bs) none = no_point_by (b == 46) b bs (no_point bs) none

point_length_by : (t : Bool) (b : ℕ) (bs fs : List ℕ)
    → (after_point bs ≡ Some fs → length (before_point bs) + suc (length fs) ≡ length bs)
    → (if t then Some bs else after_point bs) ≡ Some fs
    → length (if t then [] else b ∷ before_point bs) + suc (length fs) ≡ suc (length bs)
point_length_by true b bs fs rest some = let same : bs ≡ fs = cc in omega (arith, ap length same)
point_length_by false b bs fs rest some = let later = rest some in omega (arith, later)

point_length : (bs fs : List ℕ) → after_point bs ≡ Some fs
    → length (before_point bs) + suc (length fs) ≡ length bs
point_length [] fs some = absurd (cc)
point_length (b ∷ bs) fs some = point_length_by (b == 46) b bs fs (point_length bs fs) some

-- ---- digits before the point

digits_are_some : (ds : List ℕ) → are_digits ds ≡ true → 0 < length ds
digits_are_some [] are = absurd (cc)
digits_are_some (d ∷ ds) are = omega arith

digits_are_all : (ds : List ℕ) → are_digits ds ≡ true → all_ascii_digits ds ≡ true
digits_are_all ds are = let (some, all) = both (nat_lt 0 (length ds)) (all_ascii_digits ds) are in all

decimal_shortest : (ds : List ℕ) → are_digits ds ≡ true → digits_value 10 ds < 10 ^ 64
    → length (decimal (digits_value 10 ds)) ≤ length ds
decimal_shortest ds are bound =
    length-decimal-le_wide (length ds) (digits_value 10 ds) (digits_are_some ds are)
    (digits_value_short own ds (length ds) (digits_are_all ds are) (omega arith)) bound

-- ---- digits after it

zero_pushed : (count n : ℕ) → without_last_zeros (last_digits (suc count) (n * 10))
    ≡ without_last_zeros (last_digits count n)
zero_pushed count n =
    let first : (n * 10) / 10 ≡ n = omega arith in
    let last : (n * 10) % 10 ≡ 0 = omega arith in
    rw (first, last) (zero_dropped (last_digits count n))

times_ten : (v k : ℕ) → v * (k * 10) ≡ (v * k) * 10
times_ten v k = grind arith

zeros_pushed : (k count v : ℕ) → without_last_zeros (last_digits (count + k) (v * 10 ^ k))
    ≡ without_last_zeros (last_digits count v)
zeros_pushed zero count v =
    let none : count + 0 ≡ count = omega arith in
    let same : v * 10 ^ 0 ≡ v = omega arith in
    rw (none, same) refl
zeros_pushed (suc k) count v =
    let more : count + suc k ≡ suc (count + k) = omega arith in
    let power : v * 10 ^ suc k ≡ (v * 10 ^ k) * 10 = ap (λ p. v * p) (pow-suc 10 k) ∙ times_ten v (10 ^ k) in
    ap (λ c. without_last_zeros (last_digits c (v * 10 ^ suc k))) more
    ∙ ap (λ n. without_last_zeros (last_digits (suc (count + k)) n)) power
    ∙ zero_pushed (count + k) (v * 10 ^ k) ∙ zeros_pushed k count v

fraction_shortest : (fs : List ℕ) → length fs ≤ 18 → length (fraction_text (fraction_units fs)) ≤ suc (length fs)
fraction_shortest fs short =
    let n = length fs in
    let v = digits_value 10 fs in
    let left = without_last_zeros (last_digits 18 (fraction_units fs)) in
    let same : left ≡ without_last_zeros (last_digits n v) =
    ap (λ c. without_last_zeros (last_digits c (fraction_units fs))) (sym (filled n short))
    ∙ zeros_pushed (18 - n) n v in
    let most : length left ≤ n = omega (arith, ap length same, left_length (last_digits n v), length-last_digits n v) in
    elim (fraction_units fs == 0) as (λ t. length (if t then [] else 46 ∷ left) ≤ suc n)
    [ true ↦ omega arith | false ↦ omega (arith, most) ]

-- ---- both

le-nat_le : (a b : ℕ) → nat_le a b ≡ true → a ≤ b
le-nat_le a b h = grind (arith, nat_tests)

plain_by : (t : Bool) (ds : List ℕ) (n : ℕ) → n < 10 ^ 64 → are_digits ds ≡ t
    → (if t then Some (digits_value 10 ds * 10 ^ 18) else None) ≡ Some n → length (size_text n) ≤ length ds
plain_by true ds n bound are same =
    let w = digits_value 10 ds in
    let e : w * 10 ^ 18 ≡ n = cc in
    let whole = decimal_shortest ds are (omega (arith, e, bound)) in
    let parts : size_text n ≡ decimal w ++ [] = ap size_text (sym e ∙ omega arith) ∙ size_parts w 0 (omega arith) in
    omega (arith, ap length parts, length-append (decimal w) [], whole)
plain_by false ds n bound are same = absurd (cc)

plain_shortest : (ds : List ℕ) (n : ℕ) → n < 10 ^ 64 → size_units ds None ≡ Some n
    → length (size_text n) ≤ length ds
plain_shortest ds n bound is = plain_by (are_digits ds) ds n bound refl is

point_by : (t : Bool) (ds fs : List ℕ) (n : ℕ) → n < 10 ^ 64 → (are_digits ds && are_few_digits fs) ≡ t
    → (if t then Some (digits_value 10 ds * 10 ^ 18 + fraction_units fs) else None) ≡ Some n
    → length (size_text n) ≤ length ds + suc (length fs)
point_by true ds fs n bound are same =
    let w = digits_value 10 ds in
    let v = digits_value 10 fs in
    let f = fraction_units fs in
    let (digits, few) = both (are_digits ds) (are_few_digits fs) are in
    let (fraction, within) = both (are_digits fs) (nat_le (length fs) 18) few in
    let short : length fs ≤ 18 = le-nat_le (length fs) 18 within in
    let small : v < 10 ^ length fs = digits_value_short own fs (length fs) (digits_are_all fs fraction) (omega arith) in
    let below : f < 10 ^ 18 = fraction_below_units (length fs) v short small in
    let e : w * 10 ^ 18 + f ≡ n = cc in
    let whole = decimal_shortest ds digits (omega (arith, e, bound)) in
    let part = fraction_shortest fs short in
    let parts : size_text n ≡ decimal w ++ fraction_text f = ap size_text (sym e) ∙ size_parts w f below in
    omega (arith, ap length parts, length-append (decimal w) (fraction_text f), whole, part)
point_by false ds fs n bound are same = absurd (cc)

point_shortest : (ds fs : List ℕ) (n : ℕ) → n < 10 ^ 64 → size_units ds (Some fs) ≡ Some n
    → length (size_text n) ≤ length ds + suc (length fs)
point_shortest ds fs n bound is = point_by (are_digits ds && are_few_digits fs) ds fs n bound refl is

size_by : (o : Option (List ℕ)) (bs : List ℕ) (n : ℕ) → n < 10 ^ 64 → after_point bs ≡ o
    → size_units (before_point bs) o ≡ Some n → length (size_text n) ≤ length bs
size_by None bs n bound none is =
    let most = plain_shortest (before_point bs) n bound is in
    omega (arith, most, ap length (no_point bs none))
size_by (Some fs) bs n bound some is =
    let most = point_shortest (before_point bs) fs n bound is in
    omega (arith, most, point_length bs fs some)

size_shortest : (bs : List ℕ) (n : ℕ) → n < 10 ^ 64
    → size_units (before_point bs) (after_point bs) ≡ Some n → length (size_text n) ≤ length bs
size_shortest bs n bound is = size_by (after_point bs) bs n bound refl is

signed_length : (negative : Bool) (n : ℕ)
    → length (sum_text (signed negative n)) ≤ length (size_text n) + (if negative then 1 else 0)
signed_length true zero = omega arith
signed_length true (suc n) = omega arith
signed_length false n = omega arith

abs_signed : (negative : Bool) (n : ℕ) → unsigned_abs (signed negative n) ≡ n
abs_signed true zero = refl
abs_signed true (suc n) = refl
abs_signed false n = refl

sum_by_size : (o : Option ℕ) (units : ℤ) (text : List ℕ) → unsigned_abs units < 10 ^ 64
    → size_units (before_point (without_sign text)) (after_point (without_sign text)) ≡ o
    → option_map (signed (is_negative text)) o ≡ Some units → length (sum_text units) ≤ length text
sum_by_size None units text bound none is = absurd (cc)
sum_by_size (Some n) units text bound some is =
    let negative = is_negative text in
    let e : signed negative n ≡ units = cc in
    let few : n < 10 ^ 64 = omega (arith, bound, ap unsigned_abs e, abs_signed negative n) in
    let same : length (sum_text (signed negative n)) ≡ length (sum_text units) = ap (λ x. length (sum_text x)) e in
    let most = size_shortest (without_sign text) n few some in
    omega (arith, same, signed_length negative n, most, sign_length text)

pub sums_are_shortest : SumsAreShortest
sums_are_shortest units text bound is =
    let bs = without_sign text in
    sum_by_size (size_units (before_point bs) (after_point bs)) units text bound refl is
