-- Reading the text of an index: the blanks at its ends, and its digits.
use Rattle.std.specs.Char.{digit_value, is_digit}
use Rattle.std.specs.List.{list_all}
use Rattle.std.specs.Str.Parse.{digits_value, digits_value_after}
use Rattle.std.proofs.Common.{ℕ, ◌≡◌, ◌+◌, ◌-◌, ◌*◌, ◌^◌, ◌<◌, ◌≤◌, ◌==◌, nat_lt, nat_le, List, [], ◌∷◌, ◌++◌, length, take, drop, get_or, Bool, true, false, ◌&&◌, ◌||◌, Option, Some, None, IfSome, if◌then◌else◌, refl, arith, sym, ap, ◌∙◌, reverse, add-one, lit<, eqb-true}
use Rattle.std.proofs.Math.Seq.{drop-cons}
use Rattle.std.proofs.Math.Nat.{pow-suc, pow-zero, pow-le-pow_right}
use Rattle.std.proofs.lemmas.Bool.{agree_below_at, and_parts, false≢true, lt-ltb, ltb-true}
use Rattle.std.proofs.lemmas.Bool.Decides.{nat_tests}
use Rattle.std.proofs.lemmas.List.{drop_all, reverse-append, reverse-reverse, take_more, take_all}
use Rattle.std.proofs.lemmas.List.Folds.{list_all-append}
use Rattle.std.proofs.lemmas.Option.{none-some}
use Rattle.h3_index.specs.Text.{is_blank, is_hexadecimal, parsed_index, parsed_number, without_leading_blanks, without_prefix, without_trailing_blanks}

-- ---- blanks

reversed : (rest : List ℕ) → 1 ≤ length rest
    → reverse rest ≡ get_or rest (length rest - 1) 0 ∷ reverse (take (length rest - 1) rest)
reversed rest some =
    let last = length rest - 1 in
    let count : last + 1 ≡ length rest = omega arith in
    let split : rest ≡ take (length rest - 1) rest ++ get_or rest (length rest - 1) 0 ∷ [] =
    sym (take_all (length rest) rest (omega arith)) ∙ ap (λ n. take n rest) (sym count)
    ∙ take_more rest last 0 (omega arith) in
    ap reverse split ∙ reverse-append (take (length rest - 1) rest) (get_or rest (length rest - 1) 0 ∷ [])

pub blank_last : (rest : List ℕ) → 1 ≤ length rest → is_blank (get_or rest (length rest - 1) 0) ≡ true
    → without_leading_blanks (reverse (take (length rest - 1) rest)) ≡ without_leading_blanks (reverse rest)
blank_last rest some blank = rw (reversed rest some, blank) refl

pub other_last : (rest : List ℕ) → 1 ≤ length rest → is_blank (get_or rest (length rest - 1) 0) ≡ false
    → rest ≡ without_trailing_blanks rest
other_last rest some other =
    let stays : without_leading_blanks (reverse rest) ≡ reverse rest = rw (reversed rest some, other) refl in
    sym (reverse-reverse rest) ∙ ap reverse (sym stays)

-- ---- digits

-- the first i digits were read, as a number
pub record IsReading (digits : List ℕ) (i number : ℕ) : Type 0 where
  pub same_test : list_all (λ d. is_digit d 16) digits ≡ list_all (λ d. is_digit d 16) (drop i digits)
  pub same_value : digits_value 16 digits ≡ digits_value_after 16 number (drop i digits)
  pub small : number < 16 ^ i

pub reading_none : (digits : List ℕ) → IsReading digits 0 0
reading_none digits = record { same_test = refl; same_value = refl; small = rw (pow-zero 16) (lit< tt) }

pub reading_more : (digits : List ℕ) (i number value : ℕ) → i < length digits → digit_value (get_or digits i 0) < 16
    → value ≡ digit_value (get_or digits i 0)
    → IsReading digits i number → IsReading digits (i + 1) (number * 16 + value)
reading_more digits i number value within small is r =
    let ancestor_at : drop i digits ≡ get_or digits i 0 ∷ drop (i + 1) digits =
    rw add-one (drop-cons digits i 0 within) in
    let test : is_digit (get_or digits i 0) 16 ≡ true = grind (arith, nat_tests) in
    let power : 16 ^ (i + 1) ≡ 16 ^ i * 16 = rw add-one (pow-suc 16 i) in
    record {
      same_test = r.same_test ∙ (rw (ancestor_at, test) refl);
      same_value = r.same_value ∙ (rw (ancestor_at, is) refl);
      small = rw power (omega (arith, r.small, small, is));
    }

pub reading_fits : (digits : List ℕ) (i number value : ℕ) → length digits ≤ 16 → i < length digits → value < 16
    → IsReading digits i number → number * 16 + value < 2 ^ 64
reading_fits digits i number value short within small r =
    let below : i ≤ 15 = omega arith in
    let bound : 16 ^ i ≤ 16 ^ 15 = pow-le-pow_right (lit< tt) below in
    omega (arith, bound, r.small)

pub not_empty : (n : ℕ) (test : Bool) → test ≡ (n == 0) → test ≡ false → 0 < n
not_empty n test is negative = let other : (n == 0) ≡ false = sym is ∙ negative in grind (arith, nat_tests)

pub parsed : (digits : List ℕ) → 0 < length digits → length digits ≤ 16 → (b : Bool)
    → list_all (λ d. is_digit d 16) digits ≡ b
    → parsed_number digits ≡ (if b then Some (digits_value 16 digits) else None)
parsed digits some short b is =
    let some_test : nat_lt 0 (length digits) ≡ true = grind (arith, nat_tests) in
    let short_test : nat_le (length digits) 16 ≡ true = grind (arith, nat_tests) in
    rw (some_test, short_test, is) refl

pub reading_all : (digits : List ℕ) (i number : ℕ) → 0 < length digits → length digits ≤ 16 → length digits ≤ i
    → IsReading digits i number → Some number ≡ parsed_number digits
reading_all digits i number some short all r =
    let none : drop i digits ≡ [] = drop_all i digits all in
    let test : list_all (λ d. is_digit d 16) digits ≡ true = r.same_test ∙ (rw none refl) in
    let value : digits_value 16 digits ≡ number = r.same_value ∙ (rw none refl) in
    sym (parsed digits some short true test ∙ ap Some value)

pub reading_stops : (digits : List ℕ) (i number : ℕ) → 0 < length digits → length digits ≤ 16 → i < length digits
    → 16 ≤ digit_value (get_or digits i 0) → IsReading digits i number → None ≡ parsed_number digits
reading_stops digits i number some short within large r =
    let ancestor_at : drop i digits ≡ get_or digits i 0 ∷ drop (i + 1) digits =
    rw add-one (drop-cons digits i 0 within) in
    let first : is_digit (get_or digits i 0) 16 ≡ false = grind (arith, nat_tests) in
    let test : list_all (λ d. is_digit d 16) digits ≡ false = r.same_test ∙ (rw (ancestor_at, first) refl) in
    sym (parsed digits some short false test)

-- ---- digits alone

-- what is beyond `z` is no digit
pub no_value : (b : ℕ) → nat_lt b 123 ≡ false → digit_value b ≡ 36
no_value b large =
    let a : nat_lt b 48 ≡ false = grind (arith, nat_tests) in
    let c : nat_lt b 58 ≡ false = grind (arith, nat_tests) in
    let d : nat_lt b 65 ≡ false = grind (arith, nat_tests) in
    let e : nat_lt b 91 ≡ false = grind (arith, nat_tests) in
    let f : nat_lt b 97 ≡ false = grind (arith, nat_tests) in
    rw (a, c, d, e, f, large) refl

digit_small : (radix : ℕ) → nat_lt 36 radix ≡ false → (b : ℕ) → is_digit b radix ≡ true → b < 123
digit_small radix letters b digit = by_size (nat_lt b 123) refl
  where
    by_size : (t : Bool) → nat_lt b 123 ≡ t → b < 123
    by_size true small = ltb-true _ _ small
    by_size false large = absurd (false≢true (sym letters ∙ (rw (no_value b large) at digit)))

wider : (bs : List ℕ) → list_all (λ b. is_digit b 16) bs ≡ true → list_all (λ b. is_digit b 36) bs ≡ true
wider [] digits = refl
wider (b ∷ bs) digits =
    let parts = and_parts (is_digit b 16) (list_all (λ b. is_digit b 16) bs) digits in
    let digit : is_digit b 36 ≡ true = lt-ltb (digit_value b) 36 (omega (arith, ltb-true (digit_value b) 16 parts.0)) in
    rw digit (wider bs parts.1)

no_blank : (b : ℕ) → is_digit b 36 ≡ true → is_blank b ≡ false
no_blank b digit =
    rw digit
    at (agree_below_at (λ b. is_digit b 36 && is_blank b) (λ _. false) 123 b refl (digit_small 36 refl b digit))

no_leading : (bs : List ℕ) → list_all (λ b. is_digit b 36) bs ≡ true → without_leading_blanks bs ≡ bs
no_leading [] digits = refl
no_leading (b ∷ bs) digits =
    rw (no_blank b (and_parts (is_digit b 36) (list_all (λ b. is_digit b 36) bs) digits).0) refl

all_reversed : (bs : List ℕ) → list_all (λ b. is_digit b 36) bs ≡ true
    → list_all (λ b. is_digit b 36) (reverse bs) ≡ true
all_reversed [] digits = refl
all_reversed (b ∷ bs) digits =
    let parts = and_parts (is_digit b 36) (list_all (λ b. is_digit b 36) bs) digits in
    ap (list_all (λ b. is_digit b 36)) (reverse-append (b ∷ []) bs)
    ∙ list_all-append (λ b. is_digit b 36) (reverse bs) (b ∷ []) ∙ (rw (all_reversed bs parts.1, parts.0) refl)

-- digits and letters alone have no blanks at their ends
letters_parsed : (bs : List ℕ) → list_all (λ b. is_digit b 36) bs ≡ true
    → parsed_index bs ≡ parsed_number (without_prefix bs)
unfolding parsed_index
letters_parsed bs digits =
    rw (no_leading bs digits, no_leading (reverse bs) (all_reversed bs digits), reverse-reverse bs) refl

no_x : (b : ℕ) → is_digit b 16 ≡ true → ((120 == b) ≡ false) × ((88 == b) ≡ false)
no_x b digit =
    let less = digit_small 16 refl b digit in (
      rw digit at (agree_below_at (λ b. is_digit b 16 && (120 == b)) (λ _. false) 123 b refl less),
      rw digit at (agree_below_at (λ b. is_digit b 16 && (88 == b)) (λ _. false) 123 b refl less),
    )

-- what begins with a prefix, or with none
prefix_of : (p q r : Bool) (xs ys : List ℕ) → q ≡ false → r ≡ false
    → (if p && (q && true) || p && (r && true) then xs else ys) ≡ ys
prefix_of true q r xs ys first second = rw (first, second) refl
prefix_of false q r xs ys first second = refl

no_prefix : (bs : List ℕ) → list_all (λ b. is_digit b 16) bs ≡ true → without_prefix bs ≡ bs
no_prefix [] digits = refl
no_prefix (b ∷ []) digits =
    elim (48 == b) as (λ t. (if t && false || t && false then [] else b ∷ []) ≡ b ∷ []) [ true ↦ refl | false ↦ refl ]
no_prefix (b ∷ c ∷ bs) digits =
    let rest = (and_parts (is_digit b 16) (list_all (λ b. is_digit b 16) (c ∷ bs)) digits).1 in
    let other = no_x c (and_parts (is_digit c 16) (list_all (λ b. is_digit b 16) bs) rest).0 in
    prefix_of (48 == b) (120 == c) (88 == c) bs (b ∷ c ∷ bs) other.0 other.1

-- digits are read as they are
pub digits_parsed : (bs : List ℕ) → list_all (λ b. is_digit b 16) bs ≡ true → parsed_index bs ≡ parsed_number bs
digits_parsed bs digits = letters_parsed bs (wider bs digits) ∙ ap parsed_number (no_prefix bs digits)

-- what is digits without its prefix is digits and letters
letters_of : (bs : List ℕ) → list_all (λ b. is_digit b 16) (without_prefix bs) ≡ true
    → list_all (λ b. is_digit b 36) bs ≡ true
letters_of [] all = refl
letters_of (b ∷ []) all = by_case (48 == b) refl
  where
    by_case : (t : Bool) → (48 == b) ≡ t → list_all (λ b. is_digit b 36) (b ∷ []) ≡ true
    by_case true is = wider (b ∷ []) (rw is at all)
    by_case false is = wider (b ∷ []) (rw is at all)
letters_of (b ∷ c ∷ bs) all = by_case (48 == b) refl (120 == c) refl (88 == c) refl
  where
    with_prefix : (mark : ℕ) → is_digit mark 36 ≡ true → (48 == b) ≡ true → (mark == c) ≡ true
        → list_all (λ b. is_digit b 16) bs ≡ true
        → list_all (λ b. is_digit b 36) (b ∷ c ∷ bs) ≡ true
    with_prefix mark letter zero_is is digits =
        let first : is_digit b 36 ≡ true = ap (λ n. is_digit n 36) (sym (eqb-true 48 b zero_is)) in
        let second : is_digit c 36 ≡ true = ap (λ n. is_digit n 36) (sym (eqb-true mark c is)) ∙ letter in
        rw (first, second) (wider bs digits)

    by_case : (p : Bool) → (48 == b) ≡ p → (q : Bool) → (120 == c) ≡ q → (r : Bool) → (88 == c) ≡ r
        → list_all (λ b. is_digit b 36) (b ∷ c ∷ bs) ≡ true
    by_case false p q is r other = wider (b ∷ c ∷ bs) (rw p at all)
    by_case true p true is r other = with_prefix 120 refl p is (rw (p, is) at all)
    by_case true p false is true other = with_prefix 88 refl p other (rw (p, is, other) at all)
    by_case true p false is false other = wider (b ∷ c ∷ bs) (rw (p, is, other) at all)

pub number_is_some : (bs : List ℕ) (number : Option ℕ) → number ≡ parsed_number bs
    → IfSome number (λ n. parsed_number bs ≡ Some n)
number_is_some bs None is = tt
number_is_some bs (Some n) is = sym is

-- a number is read of digits alone
number_digits : (bs : List ℕ) (number : ℕ) → parsed_number bs ≡ Some number → list_all (λ b. is_digit b 16) bs ≡ true
number_digits bs number is = by_case (is_hexadecimal bs) refl
  where
    by_case : (t : Bool) → is_hexadecimal bs ≡ t → list_all (λ b. is_digit b 16) bs ≡ true
    by_case true all =
        (and_parts (nat_lt 0 (length bs) && nat_le (length bs) 16) (list_all (λ b. is_digit b 16) bs) all).1
    by_case false other = absurd (none-some number (rw other at is))

pub trimmed_parsed : (bs : List ℕ) (number : Option ℕ) → IfSome number (λ n. parsed_number (without_prefix bs) ≡ Some n)
    → IfSome number (λ index. parsed_index bs ≡ Some index)
trimmed_parsed bs None is = tt
trimmed_parsed bs (Some index) is =
    letters_parsed bs (letters_of bs (number_digits (without_prefix bs) index is)) ∙ is

-- and if so, it is digits and letters alone
pub trimmed_letters : (bs : List ℕ) (number : Option ℕ)
    → IfSome number (λ n. parsed_number (without_prefix bs) ≡ Some n)
    → IfSome number (λ _. list_all (λ b. is_digit b 36) bs ≡ true)
trimmed_letters bs None is = tt
trimmed_letters bs (Some index) is = letters_of bs (number_digits (without_prefix bs) index is)

-- a carriage return after digits and letters is dropped
letters_returned : (bs : List ℕ) → list_all (λ b. is_digit b 36) bs ≡ true
    → parsed_index (bs ++ 13 ∷ []) ≡ parsed_number (without_prefix bs)
unfolding parsed_index
letters_returned [] digits = refl
letters_returned (b ∷ bs) digits =
    let first = no_blank b (and_parts (is_digit b 36) (list_all (λ b. is_digit b 36) bs) digits).0 in
    let back : reverse ((b ∷ bs) ++ 13 ∷ []) ≡ 13 ∷ reverse (b ∷ bs) = reverse-append (b ∷ bs) (13 ∷ []) in
    let whole : reverse (without_leading_blanks (reverse ((b ∷ bs) ++ 13 ∷ []))) ≡ b ∷ bs =
    ap (λ l. reverse (without_leading_blanks l)) back
    ∙ ap reverse (no_leading (reverse (b ∷ bs)) (all_reversed (b ∷ bs) digits)) ∙ reverse-reverse (b ∷ bs) in
    rw first (ap (λ l. parsed_number (without_prefix l)) whole)

pub trimmed_returned : (bs : List ℕ) (number : Option ℕ)
    → IfSome number (λ n. parsed_number (without_prefix bs) ≡ Some n)
    → IfSome number (λ index. parsed_index (bs ++ 13 ∷ []) ≡ Some index)
trimmed_returned bs None is = tt
trimmed_returned bs (Some index) is =
    letters_returned bs (letters_of bs (number_digits (without_prefix bs) index is)) ∙ is
