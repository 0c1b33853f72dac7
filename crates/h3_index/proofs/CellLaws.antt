-- Cells and their numbers: a number is that of one cell.
use Rattle.std.specs.Int.Digits.{number_from_digits, number_from_digits_after, AllBelowBase}
use Rattle.std.proofs.Common.{ℕ, zero, suc, ◌≡◌, ◌+◌, ◌-◌, ◌*◌, ◌/◌, ◌%◌, ◌^◌, ◌<◌, ◌≤◌, List, [], ◌∷◌, ◌++◌, length, take, replicate, refl, arith, length-append, ◌∙◌, sym, ap, lit<, get_or}
use Rattle.std.proofs.Math.ListN.{length-replicate}
use Rattle.std.proofs.Math.Seq.{take-append_seam}
use Rattle.std.proofs.lemmas.List.{length-take-le}
use Rattle.std.proofs.lemmas.Int.Digits.{number_lt}
use Rattle.std.proofs.lemmas.Nat.{mod_below}
use Rattle.h3_index.specs.Cell.{Address, IsCell, number_of, padded}
use Rattle.h3_index.specs.CellNumber.{address_in, base_in, resolution_in, IsCellNumber}
use Rattle.h3_index.specs.Digits.{last_digits}
use Rattle.h3_index.proofs.DigitsLaws.{number_after_is, last_digits-more, length-last_digits, get_or-last_digits, eights}

pub below-padded : (ds : List ℕ) (k : ℕ) → AllBelowBase 7 ds → AllBelowBase 8 (ds ++ replicate k 7)
below-padded [] zero all = tt
below-padded [] (suc k) all = (lit< tt, below-padded [] k tt)
below-padded (d ∷ ds) k all = (omega (arith, all.0), below-padded ds k all.1)

pub length-padded : (ds : List ℕ) → length ds < 16 → length (padded ds) ≡ 15
length-padded ds h =
    omega (arith, length-append ds (replicate (15 - length ds) 7), length-replicate {A = ℕ} (15 - length ds) 7)

-- the bits above the digits
abbrev pub head_of : Address → ℕ
head_of n = 2 ^ 14 + length n.digits * 2 ^ 7 + n.base

pub number_of_is : (n : Address) → IsCell n → number_of n ≡ head_of n * 2 ^ 45 + number_from_digits 8 (padded n.digits)
unfolding number_of
number_of_is n h = omega arith

pub low_small : (n : Address) → IsCell n → number_from_digits 8 (padded n.digits) < 2 ^ 45
low_small n h =
    rw (length-padded n.digits h.coarse)
    at (number_lt 8 (padded n.digits) (below-padded n.digits (15 - length n.digits) h.digits_small))

-- the digits below a head
pub digits-under : (h : ℕ) (ds : List ℕ) → length ds < 16 → AllBelowBase 7 ds
    → last_digits 8 15 (h * 2 ^ 45 + number_from_digits 8 (padded ds)) ≡ padded ds
digits-under h ds coarse digits_small =
    let len = length-padded ds coarse in
    let after : number_from_digits_after 8 h (padded ds) ≡ h * 2 ^ 45 + number_from_digits 8 (padded ds) =
    number_after_is 8 h (padded ds) ∙ (rw len refl) in
    let small = below-padded ds (15 - length ds) digits_small in
    let none : 0 + length (padded ds) ≡ 15 = omega (arith, len) in
    rw (none, after) at (last_digits-more 8 0 h (padded ds) small)

pub digits-number_of : (n : Address) → IsCell n → last_digits 8 15 (number_of n) ≡ padded n.digits
digits-number_of n h =
    rw (number_of_is n h) (digits-under (head_of n) n.digits h.coarse h.digits_small)

fields_are : (res base low : ℕ) → res < 16 → base < 128 → low < 2 ^ 45
    → ((2 ^ 14 + res * 2 ^ 7 + base) * 2 ^ 45 + low) / 2 ^ 52 % 16 ≡ res
    × ((2 ^ 14 + res * 2 ^ 7 + base) * 2 ^ 45 + low) / 2 ^ 45 % 128 ≡ base
    × ((2 ^ 14 + res * 2 ^ 7 + base) * 2 ^ 45 + low) / 2 ^ 56 ≡ 8
fields_are res base low p q r = (omega (arith, p, q, r), omega (arith, p, q, r), omega (arith, p, q, r))

pub resolution-number_of : (n : Address) → IsCell n → resolution_in (number_of n) ≡ length n.digits
resolution-number_of n h =
    rw (number_of_is n h)
    (fields_are (length n.digits) n.base _ h.coarse (omega (arith, h.base_small)) (low_small n h)).0

pub base-number_of : (n : Address) → IsCell n → base_in (number_of n) ≡ n.base
base-number_of n h =
    rw (number_of_is n h)
    (fields_are (length n.digits) n.base _ h.coarse (omega (arith, h.base_small)) (low_small n h)).1

pub mode-number_of : (n : Address) → IsCell n → number_of n / 2 ^ 56 ≡ 8
mode-number_of n h =
    rw (number_of_is n h)
    (fields_are (length n.digits) n.base _ h.coarse (omega (arith, h.base_small)) (low_small n h)).2

pub address_in-number_of : (n : Address) → IsCell n → address_in (number_of n) ≡ n
unfolding address_in
address_in-number_of n h =
    let whole : take (length n.digits) (padded n.digits) ≡ n.digits =
    take-append_seam n.digits (replicate (15 - length n.digits) 7) in
    rw (digits-number_of n h, resolution-number_of n h, base-number_of n h, whole) refl

pub is_number_of : (n : Address) → IsCell n → IsCellNumber (number_of n)
is_number_of n h =
    record { is = ap number_of (address_in-number_of n h); valid = rw (address_in-number_of n h) h }

-- two cells with one number are one
pub same_from_number : (m n : Address) → IsCell m → IsCell n → number_of m ≡ number_of n → m ≡ n
same_from_number m n p q e = sym (address_in-number_of m p) ∙ ap address_in e ∙ address_in-number_of n q

-- past the digits in use stands a 7
pub get_or-padded : (ds : List ℕ) (n k : ℕ) → get_or (ds ++ replicate n 7) k 7 ≡ get_or ds k 7
get_or-padded [] zero k = refl
get_or-padded [] (suc n) zero = refl
get_or-padded [] (suc n) (suc k) = get_or-padded [] n k
get_or-padded (d ∷ ds) n zero = refl
get_or-padded (d ∷ ds) n (suc k) = get_or-padded ds n k

-- what the accessors read
pub base-address_in : (m : ℕ) → (address_in m).base ≡ base_in m
unfolding address_in
base-address_in m = refl

pub length-address_in : (m : ℕ) → length (address_in m).digits ≡ resolution_in m
unfolding address_in
length-address_in m =
    let small : resolution_in m < 16 = mod_below (m / 2 ^ 52) 16 (omega arith) in
    length-take-le (resolution_in m) (last_digits 8 15 m) (omega (arith, length-last_digits 8 15 m))

pub digit-address_in : (m r : ℕ) → IsCellNumber m → 1 ≤ r → r ≤ 15
    → m / 2 ^ (45 - 3 * r) % 8 ≡ get_or (address_in m).digits (r - 1) 7
digit-address_in m r h low high =
    let code : last_digits 8 15 m ≡ padded (address_in m).digits =
    rw h.is at (digits-number_of (address_in m) h.valid) in
    let shift : 45 - 3 * r ≡ 3 * (15 - r) = omega arith in
    let read = get_or-last_digits 8 15 m (r - 1) (15 - r) 7 (omega arith) in
    rw (shift, eights (15 - r), ← read, code)
    (get_or-padded (address_in m).digits (15 - length (address_in m).digits) (r - 1))
