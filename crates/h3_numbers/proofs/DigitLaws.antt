-- Lists of digits, and their value.
use Rattle.std.proofs.Common.{◌≡◌, ℕ, zero, suc, ◌+◌, ◌-◌, ◌*◌, ◌^◌, ◌<◌, Bool, true, false, ◌&&◌, nat_lt, List, [], ◌∷◌, ◌++◌, length, take, get_or, sym, ap, ◌∙◌, refl, arith, add-one}
use Rattle.std.proofs.lemmas.Bool.Decides.{nat_tests}
use Rattle.std.proofs.lemmas.Int.Digits.{digits_value_more}
use Rattle.std.proofs.lemmas.List.{take_more}
use Rattle.std.proofs.Math.Nat.{pow-suc}
use Rattle.std.specs.Char.{digit_value, is_ascii_digit}
use Rattle.std.specs.Str.{all_ascii_digits}
use Rattle.std.specs.Str.Parse.{digits_value}
use Rattle.h3_numbers.specs.Reading.{are_few_digits}

pub both : (x y : Bool) → (x && y) ≡ true → (x ≡ true) × (y ≡ true)
both true y h = (refl, h)
both false y h = absurd (cc)

digit_below : (d : ℕ) → is_ascii_digit d ≡ true → d - 48 < 10
digit_below d is = grind (arith, nat_tests)

digit_is : (d : ℕ) → is_ascii_digit d ≡ true → digit_value d ≡ d - 48
digit_is d is = grind (arith, nat_tests)

pub digits_push : (xs : List ℕ) (d : ℕ) → all_ascii_digits xs ≡ true → is_ascii_digit d ≡ true
    → all_ascii_digits (xs ++ d ∷ []) ≡ true
digits_push [] d all is = rw is refl
digits_push (x ∷ xs) d all is =
    let (first, more) = both (is_ascii_digit x) (all_ascii_digits xs) all in
    rw first (digits_push xs d more is)

-- ---- what is no digit

and_false : (t : Bool) → (t && false) ≡ false
and_false true = refl
and_false false = refl

pub other_among : (xs : List ℕ) (i : ℕ) → i < length xs → is_ascii_digit (get_or xs i 0) ≡ false
    → all_ascii_digits xs ≡ false
other_among [] i within other = absurd (omega arith)
other_among (x ∷ xs) zero within other = rw other refl
other_among (x ∷ xs) (suc i) within other =
    let later : all_ascii_digits xs ≡ false = other_among xs i (omega arith) other in
    rw later (and_false (is_ascii_digit x))

pub not_few : (xs : List ℕ) → all_ascii_digits xs ≡ false → are_few_digits xs ≡ false
not_few xs none = rw (none, and_false (nat_lt 0 (length xs))) refl

-- ---- one digit more

pub read_more : (ds : List ℕ) (i value : ℕ) → i < length ds → value ≡ digits_value 10 (take i ds) → value < 10 ^ i
    → all_ascii_digits (take i ds) ≡ true → is_ascii_digit (get_or ds i 0) ≡ true
    → (value * 10 + (get_or ds i 0 - 48) ≡ digits_value 10 (take (i + 1) ds))
    × (value * 10 + (get_or ds i 0 - 48) < 10 ^ (i + 1)) × (all_ascii_digits (take (i + 1) ds) ≡ true)
read_more ds i value within is bound all digit =
    let d = get_or ds i 0 in
    let before = take i ds in
    let more : take (i + 1) ds ≡ before ++ d ∷ [] = take_more ds i 0 within in
    let small : d - 48 < 10 = digit_below d digit in
    let power : 10 ^ (i + 1) ≡ 10 ^ i * 10 = ap (λ n. 10 ^ n) (add-one i) ∙ pow-suc 10 i in
    let last = ap (λ v. digits_value 10 before * 10 + v) (sym (digit_is d digit)) in (
      ap (λ v. v * 10 + (d - 48)) is ∙ last ∙ sym (digits_value_more 10 ds i within),
      omega (arith, power),
      ap all_ascii_digits more ∙ digits_push before d all digit,
    )
