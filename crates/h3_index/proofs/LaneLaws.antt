-- Sixteen hexadecimal digits, each in a lane of a vector.
use Rattle.std.specs.Char.{digit_char, digit_value, to_ascii_lowercase}
use Rattle.std.specs.Int.Bits.{bit_and, bit_or}
use Rattle.std.specs.Int.Digits.{number_from_digits, AllBelowBase}
use Rattle.std.specs.List.{list_all}
use Rattle.std.proofs.Common.{ℕ, zero, suc, ◌≡◌, ◌+◌, ◌-◌, ◌*◌, ◌/◌, ◌%◌, ◌^◌, ◌<◌, ◌==◌, nat_lt, nat_le, ltb, leb, get_or, take, sym, ◌≤◌, List, [], ◌∷◌, ◌++◌, length, map, replicate, cond, not, ◌||◌, true, inl, inr, refl, arith, ap, ap₂, lit<, ◌∙◌, w8, Fits, eqb-true, ltb-true, leb-true}
use Rattle.std.proofs.lemmas.Bool.{agree_below_at, and_parts, or_cases}
use Rattle.std.proofs.Math.Seq.{take-append_seam}
use Rattle.std.proofs.lemmas.List.{length-map, map-append}
use Rattle.std.proofs.lemmas.Nat.{and_block, and_le_r, and_mask, le_or_l, le_or_r}
use Rattle.std.proofs.lemmas.Simd.{SwzOk, SwzOk-from_below, swz_l}
use Rattle.h3_index.specs.Digits.{last_digits}
use Rattle.h3_index.specs.Text.{is_lower_digit}
use Rattle.h3_index.proofs.DigitsLaws.{last_digits-ancestor_at, length-last_digits, low-last_digits}
use lib.Lanes.{zip2, sel_l, top, fold_l, pick_l, number_l, digits_l, Each1}

-- ---- the values of bytes

abbrev pub minus : ℕ → ℕ → ℕ
minus a b = (a + (2 ^ 8 - b)) % 2 ^ 8

abbrev pub plus : ℕ → ℕ → ℕ
plus a b = (a + b) % 2 ^ 8

abbrev pub is_less : ℕ → ℕ → ℕ
is_less a b = cond (ltb a b) 255 0

abbrev pub least : List ℕ → List ℕ → List ℕ
least xs ys = sel_l (map (top 7) (zip2 is_less xs ys)) xs ys

-- what is left of a lane above another
abbrev pub excess : List ℕ → List ℕ → List ℕ
excess xs ys = zip2 minus (sel_l (map (top 7) (zip2 is_less xs ys)) ys xs) ys

-- what `values` computes from n bytes
abbrev pub values_of : ℕ → List ℕ → List ℕ
values_of n v =
    least (zip2 plus (excess (zip2 minus v (replicate n 58)) (replicate n 6)) (replicate n 16))
    (zip2 plus (least (zip2 minus v (replicate n 97)) (replicate n 128)) (replicate n 10))

-- from one of them
value : ℕ → ℕ
value b =
    let figure = minus b 58 in
    let late = plus (minus (cond (top 7 (is_less figure 6)) 6 figure) 6) 16 in
    let letter = minus b 97 in
    let early = plus (cond (top 7 (is_less letter 128)) letter 128) 10 in
    cond (top 7 (is_less late early)) late early

values_each : (v : List ℕ) → values_of (length v) v ≡ map value v
unfolding value
values_each [] = refl
values_each (b ∷ v) = ap (λ l. value b ∷ l) (values_each v)

values_map : (v : List ℕ) → length v ≡ 16 → values_of 16 v ≡ map value v
values_map v long = rw long at (values_each v)

value_is : (b : ℕ) → b < 256 → is_lower_digit b ≡ true → value b ≡ digit_value b
unfolding value
value_is b less lower =
    let test = agree_below_at (λ b. not (is_lower_digit b) || (value b == digit_value b)) (λ _. true) 256 b refl less in
    let same : (value b == digit_value b) ≡ true = rw lower at test in
    eqb-true _ _ same

value_small : (b : ℕ) → b < 256 → value b < 16 → is_lower_digit b ≡ true
unfolding value
value_small b less small =
    elim
    (or_cases (nat_le 16 (value b)) (is_lower_digit b)
    (agree_below_at (λ b. nat_le 16 (value b) || is_lower_digit b) (λ _. true) 256 b refl less)) [
      | inl large ↦ absurd (omega (arith, small, leb-true _ _ large))
      | inr lower ↦ lower
    ]

pub values_long : (v : List ℕ) → length v ≡ 16 → length (values_of 16 v) ≡ 16
values_long v long = ap length (values_map v long) ∙ length-map v value ∙ long

digits_each : (v : List ℕ) → Each1 (Fits w8) v → list_all is_lower_digit v ≡ true → map value v ≡ map digit_value v
digits_each [] fits lower = refl
digits_each (b ∷ v) fits lower =
    let parts = and_parts (is_lower_digit b) (list_all is_lower_digit v) lower in
    rw (value_is b fits.0.fits parts.0, digits_each v fits.1 parts.1) refl

pub values_digits : (v : List ℕ) → length v ≡ 16 → Each1 (Fits w8) v → list_all is_lower_digit v ≡ true
    → values_of 16 v ≡ map digit_value v
values_digits v long fits lower = values_map v long ∙ digits_each v fits lower

lower_each : (v : List ℕ) → Each1 (Fits w8) v → AllBelowBase 16 (map value v) → list_all is_lower_digit v ≡ true
lower_each [] fits small = refl
lower_each (b ∷ v) fits small = rw (value_small b fits.0.fits small.0) (lower_each v fits.1 small.1)

pub values_others : (v : List ℕ) → length v ≡ 16 → Each1 (Fits w8) v → AllBelowBase 16 (values_of 16 v)
    → list_all is_lower_digit v ≡ true
values_others v long fits small = lower_each v fits (rw (values_map v long) at small)

-- ---- lower case

-- what `lowered` computes from n bytes
abbrev pub lowered_of : ℕ → List ℕ → List ℕ
lowered_of n v =
    zip2 plus v (sel_l (map (top 7) (zip2 is_less (zip2 minus v (replicate n 65)) (replicate n 26))) (replicate n 32)
    (replicate n 0))

-- from one of them
abbrev lowered_one : ℕ → ℕ
lowered_one b = plus b (cond (top 7 (is_less (minus b 65) 26)) 32 0)

lowered_is : (b : ℕ) → b < 256 → lowered_one b ≡ to_ascii_lowercase b
lowered_is b less =
    eqb-true _ _ (agree_below_at (λ b. lowered_one b == to_ascii_lowercase b) (λ _. true) 256 b refl less)

lowered_each : (v : List ℕ) → Each1 (Fits w8) v → lowered_of (length v) v ≡ map to_ascii_lowercase v
lowered_each [] fits = refl
lowered_each (b ∷ v) fits = ap₂ (λ x xs. x ∷ xs) (lowered_is b fits.0.fits) (lowered_each v fits.1)

pub lowered_lanes : (v : List ℕ) → length v ≡ 16 → Each1 (Fits w8) v → lowered_of 16 v ≡ map to_ascii_lowercase v
lowered_lanes v long fits = rw long at (lowered_each v fits)

-- ---- lanes below 16

abbrev pub high_bits : ℕ → List ℕ → ℕ
high_bits n v = fold_l bit_or 0 (zip2 bit_and v (replicate n 240))

low : (x : ℕ) → x < 256 → bit_and x 240 ≡ 0 → x < 16
low x less none =
    let test = agree_below_at (λ x. not (bit_and x 240 == 0) || nat_lt x 16) (λ _. true) 256 x refl less in
    let small : nat_lt x 16 ≡ true = rw none at test in
    ltb-true _ _ small

none_high : (x : ℕ) → x < 16 → bit_and x 240 ≡ 0
none_high x less = eqb-true _ _ (agree_below_at (λ x. bit_and x 240 == 0) (λ _. true) 16 x refl less)

low_each : (a : ℕ) (v : List ℕ) → Each1 (Fits w8) v → fold_l bit_or a (zip2 bit_and v (replicate (length v) 240)) ≡ 0
    → (a ≡ 0) × AllBelowBase 16 v
low_each a [] fits none = (none, tt)
low_each a (x ∷ v) fits none =
    let (first, rest) = low_each (bit_or a (bit_and x 240)) v fits.1 none in (
      omega (arith, first, le_or_l a (bit_and x 240)),
      (low x fits.0.fits (omega (arith, first, le_or_r a (bit_and x 240))), rest),
    )

pub below_sixteen : (v : List ℕ) → length v ≡ 16 → Each1 (Fits w8) v → high_bits 16 v ≡ 0 → AllBelowBase 16 v
below_sixteen v long fits none =
    let here : high_bits (length v) v ≡ 0 = rw long none in
    (low_each 0 v fits here).1

none_each : (v : List ℕ) → AllBelowBase 16 v → high_bits (length v) v ≡ 0
none_each [] small = refl
none_each (x ∷ v) small = rw (none_high x small.0) (none_each v small.1)

pub no_high_bits : (v : List ℕ) → length v ≡ 16 → AllBelowBase 16 v → high_bits 16 v ≡ 0
no_high_bits v long small = rw long at (none_each v small)

-- ---- digits joined

-- what holds of all lists of n elements, said of their elements
abbrev OfEach : ℕ → (List ℕ → Type 0) → Type 0
OfEach zero P = P []
OfEach (suc n) P = (d : ℕ) → OfEach n (λ l. P (d ∷ l))

by_each : (n : ℕ) (P : List ℕ → Type 0) → OfEach n P → (l : List ℕ) → length l ≡ n → P l
by_each zero P f [] long = f
by_each zero P f (d ∷ l) long = absurd (omega (arith, long))
by_each (suc n) P f [] long = absurd (omega (arith, long))
by_each (suc n) P f (d ∷ l) long = by_each n (λ l. P (d ∷ l)) (f d) l (omega (arith, long))

-- the lanes that `joined` takes apart, as one number
abbrev pub apart : List ℕ → ℕ
apart ds = number_l 256 (pick_l 0 (ds ++ ds) (14 ∷ 12 ∷ 10 ∷ 8 ∷ 6 ∷ 4 ∷ 2 ∷ 0 ∷ 15 ∷ 13 ∷ 11 ∷ 9 ∷ 7 ∷ 5 ∷ 3 ∷ 1 ∷ []))

pub joined_is : (ds : List ℕ) → length ds ≡ 16 → AllBelowBase 16 ds
    → apart ds % 2 ^ 64 * 16 + apart ds / 2 ^ 64 % 2 ^ 64 ≡ number_from_digits 16 ds
joined_is ds long small =
    by_each 16
    (λ ds. AllBelowBase 16 ds → apart ds % 2 ^ 64 * 16 + apart ds / 2 ^ 64 % 2 ^ 64 ≡ number_from_digits 16 ds)
    (λ a b c d e f g h i j k l m n o p small. omega (arith, small)) ds long small

-- ---- digits as characters

-- the characters of the digits from 0 on
abbrev pub letters : List ℕ
letters = 48 ∷ 49 ∷ 50 ∷ 51 ∷ 52 ∷ 53 ∷ 54 ∷ 55 ∷ 56 ∷ 57 ∷ 97 ∷ 98 ∷ 99 ∷ 100 ∷ 101 ∷ 102 ∷ []

letter_is : (d : ℕ) → d < 16 → cond (leb 128 d) 0 (get_or letters d 0) ≡ digit_char d
letter_is d less =
    eqb-true _ _
    (agree_below_at (λ d. cond (leb 128 d) 0 (get_or letters d 0) == digit_char d) (λ _. true) 16 d refl less)

lettered_from : (i : ℕ) (v : List ℕ) → i + length v ≤ 16 → AllBelowBase 16 v
    → swz_l w8 16 letters i v ≡ map digit_char v
lettered_from i [] fit small = refl
lettered_from i (d ∷ v) fit small =
    let first : 16 * (i / 16) + d ≡ d = omega (arith, fit) in
    rw (first, lettered_from (suc i) v (omega (arith, fit)) small.1)
    (ap (λ l. l ∷ map digit_char v) (letter_is d small.0))

pub lettered_is : (v : List ℕ) → length v ≡ 16 → AllBelowBase 16 v → swz_l w8 16 letters 0 v ≡ map digit_char v
lettered_is v long small = lettered_from 0 v (omega (arith, long)) small

each_small : (v : List ℕ) → AllBelowBase 16 v → Each1 (λ j. j < 16) v
each_small [] small = tt
each_small (d ∷ v) small = (small.0, each_small v small.1)

pub letters_found : (v : List ℕ) → length v ≡ 16 → AllBelowBase 16 v → SwzOk w8 16 16 0 v
letters_found v long small = SwzOk-from_below w8 16 1 16 0 v refl (omega (arith, long)) (each_small v small)

-- the first fifteen of sixteen lanes, and the last of others
pub ended_by : (v : List ℕ) → length v ≡ 16
    → pick_l 0 (v ++ replicate 16 10) (0 ∷ 1 ∷ 2 ∷ 3 ∷ 4 ∷ 5 ∷ 6 ∷ 7 ∷ 8 ∷ 9 ∷ 10 ∷ 11 ∷ 12 ∷ 13 ∷ 14 ∷ 31 ∷ [])
    ≡ take 15 v ++ 10 ∷ []
ended_by v long =
    by_each 16
    (λ v.
    pick_l 0 (v ++ replicate 16 10) (0 ∷ 1 ∷ 2 ∷ 3 ∷ 4 ∷ 5 ∷ 6 ∷ 7 ∷ 8 ∷ 9 ∷ 10 ∷ 11 ∷ 12 ∷ 13 ∷ 14 ∷ 31 ∷ [])
    ≡ take 15 v ++ 10 ∷ [])
    (λ a b c d e f g h i j k l m n o p. refl) v long

-- moved up by one digit, a number has fifteen digits in front of the last
pub moved_up : (v : ℕ)
    → take 15 (map digit_char (last_digits 16 16 (v * 2 ^ 4 % 2 ^ 64))) ≡ map digit_char (last_digits 16 15 v)
moved_up v =
    let up : v * 2 ^ 4 / 16 ^ 1 ≡ v = omega arith in
    let front = map digit_char (last_digits 16 15 v) in
    let size : 15 ≡ length front = sym (length-map (last_digits 16 15 v) digit_char ∙ length-last_digits 16 15 v) in
    let whole : last_digits 16 16 (v * 2 ^ 4 % 2 ^ 64) ≡ last_digits 16 15 v ++ last_digits 16 1 (v * 2 ^ 4) =
    low-last_digits 16 16 (v * 2 ^ 4) (lit< tt) ∙ last_digits-ancestor_at 16 15 1 (v * 2 ^ 4)
    ∙ ap (λ m. last_digits 16 15 m ++ last_digits 16 1 (v * 2 ^ 4)) up in
    ap (λ l. take 15 (map digit_char l)) whole
    ∙ ap (take 15) (map-append digit_char (last_digits 16 15 v) (last_digits 16 1 (v * 2 ^ 4)))
    ∙ ap (λ k. take k (front ++ map digit_char (last_digits 16 1 (v * 2 ^ 4)))) size
    ∙ take-append_seam front (map digit_char (last_digits 16 1 (v * 2 ^ 4)))

-- ---- digits taken apart

-- a 15 in each of n bytes
abbrev pub nibbles : ℕ → ℕ
nibbles zero = 0
nibbles (suc n) = nibbles n * 256 + 15

masked : (n v : ℕ) → digits_l 256 n (bit_and v (nibbles n)) ≡ map (λ b. b % 16) (digits_l 256 n v)
masked zero v = refl
masked (suc n) v =
    let whole : v ≡ v / 256 * 256 + v % 256 = omega arith in
    let less : v % 256 < 256 = omega arith in
    let parts : bit_and v (nibbles n * 256 + 15) ≡ bit_and (v / 256) (nibbles n) * 256 + bit_and (v % 256) 15 =
    ap (λ k. bit_and k (nibbles n * 256 + 15)) whole ∙ and_block 8 (v / 256) (nibbles n) (v % 256) 15 less (lit< tt) in
    let low : bit_and (v % 256) 15 ≡ v % 256 % 16 = and_mask (v % 256) 4 in
    let first : bit_and v (nibbles n * 256 + 15) % 256 ≡ v % 256 % 16 = omega (arith, parts, low) in
    let rest : bit_and v (nibbles n * 256 + 15) / 256 ≡ bit_and (v / 256) (nibbles n) = omega (arith, parts, low) in
    rw (first, rest, masked n (v / 256)) refl

-- the bytes of two words, one after the other
split_words : (a b : ℕ) → a < 2 ^ 64 → digits_l 256 16 (a + 2 ^ 64 * (b + 0)) ≡ digits_l 256 8 a ++ digits_l 256 8 b
split_words a b less =
    ap₂ (λ d ds. d ∷ ds) (omega (arith, less)) (ap₂ (λ d ds. d ∷ ds) (omega (arith, less))
    (ap₂ (λ d ds. d ∷ ds) (omega (arith, less)) (ap₂ (λ d ds. d ∷ ds) (omega (arith, less))
    (ap₂ (λ d ds. d ∷ ds) (omega (arith, less)) (ap₂ (λ d ds. d ∷ ds) (omega (arith, less))
    (ap₂ (λ d ds. d ∷ ds) (omega (arith, less)) (ap₂ (λ d ds. d ∷ ds) (omega (arith, less))
    (ap₂ (λ d ds. d ∷ ds) (omega (arith, less)) (ap₂ (λ d ds. d ∷ ds) (omega (arith, less))
    (ap₂ (λ d ds. d ∷ ds) (omega (arith, less)) (ap₂ (λ d ds. d ∷ ds) (omega (arith, less))
    (ap₂ (λ d ds. d ∷ ds) (omega (arith, less)) (ap₂ (λ d ds. d ∷ ds) (omega (arith, less))
    (ap₂ (λ d ds. d ∷ ds) (omega (arith, less))
    (ap₂ (λ d ds. d ∷ ds) (omega (arith, less)) refl)))))))))))))))

-- which are the digits, the second of each byte first
in_order : (v : ℕ)
    → pick_l 0 (map (λ b. b % 16) (digits_l 256 8 (v / 16)) ++ map (λ b. b % 16) (digits_l 256 8 v))
    (7 ∷ 15 ∷ 6 ∷ 14 ∷ 5 ∷ 13 ∷ 4 ∷ 12 ∷ 3 ∷ 11 ∷ 2 ∷ 10 ∷ 1 ∷ 9 ∷ 0 ∷ 8 ∷ [])
    ≡ last_digits 16 16 v
in_order v =
    ap₂ (λ d ds. d ∷ ds) (omega arith) (ap₂ (λ d ds. d ∷ ds) (omega arith) (ap₂ (λ d ds. d ∷ ds) (omega arith)
    (ap₂ (λ d ds. d ∷ ds) (omega arith) (ap₂ (λ d ds. d ∷ ds) (omega arith) (ap₂ (λ d ds. d ∷ ds) (omega arith)
    (ap₂ (λ d ds. d ∷ ds) (omega arith) (ap₂ (λ d ds. d ∷ ds) (omega arith) (ap₂ (λ d ds. d ∷ ds) (omega arith)
    (ap₂ (λ d ds. d ∷ ds) (omega arith) (ap₂ (λ d ds. d ∷ ds) (omega arith) (ap₂ (λ d ds. d ∷ ds) (omega arith)
    (ap₂ (λ d ds. d ∷ ds) (omega arith) (ap₂ (λ d ds. d ∷ ds) (omega arith) (ap₂ (λ d ds. d ∷ ds) (omega arith)
    (ap₂ (λ d ds. d ∷ ds) (omega arith) refl)))))))))))))))

abbrev pub two_words : ℕ → ℕ
two_words v = bit_and (v / 16) (nibbles 8) + 2 ^ 64 * (bit_and v (nibbles 8) + 0)

pub taken_apart : (v : ℕ)
    → pick_l 0 (digits_l 256 16 (two_words v) ++ digits_l 256 16 (two_words v))
    (7 ∷ 15 ∷ 6 ∷ 14 ∷ 5 ∷ 13 ∷ 4 ∷ 12 ∷ 3 ∷ 11 ∷ 2 ∷ 10 ∷ 1 ∷ 9 ∷ 0 ∷ 8 ∷ [])
    ≡ last_digits 16 16 v
taken_apart v =
    let fits : bit_and (v / 16) (nibbles 8) < 2 ^ 64 = omega (arith, and_le_r (v / 16) (nibbles 8)) in
    let words =
    split_words (bit_and (v / 16) (nibbles 8)) (bit_and v (nibbles 8)) fits
    ∙ ap₂ (λ xs ys. xs ++ ys) (masked 8 (v / 16)) (masked 8 v) in
    ap (λ ds. pick_l 0 (ds ++ ds) (7 ∷ 15 ∷ 6 ∷ 14 ∷ 5 ∷ 13 ∷ 4 ∷ 12 ∷ 3 ∷ 11 ∷ 2 ∷ 10 ∷ 1 ∷ 9 ∷ 0 ∷ 8 ∷ [])) words
    ∙ in_order v
