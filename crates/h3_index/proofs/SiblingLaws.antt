-- The next sibling of a cell, by one addition.
use Rattle.std.specs.Int.Bits.{bit_and, and_zero_r}
use Rattle.std.specs.Int.Digits.{AllBelowBase}
use Rattle.std.proofs.Common.{ℕ, zero, suc, ◌≡◌, ◌≢◌, ◌+◌, ◌-◌, ◌*◌, ◌/◌, ◌%◌, ◌^◌, ◌<◌, ◌≤◌, ◌==◌, nat_lt, ◌&&◌, not, List, [], ◌∷◌, ◌++◌, length, take, drop, get_or, Bool, true, false, refl, arith, ◌∙◌, sym, ap, if◌then◌else◌, lit<}
use Rattle.std.proofs.Math.Bool.{and-false}
use Rattle.std.proofs.Math.Nat.{mul-div_cancel, one-le-pow, pow-suc}
use Rattle.std.proofs.Math.Seq.{drop-cons}
use Rattle.std.proofs.lemmas.Bool.{and_parts}
use Rattle.std.proofs.lemmas.Bool.Decides.{nat_tests}
use Rattle.std.proofs.lemmas.List.{drop_all, take-append-drop}
use Rattle.std.proofs.lemmas.Nat.{and_block, and_mask, mod_below, pow_pos, shr_split}
use Rattle.h3_index.specs.Cell.{Address, IsCell, is_pentagon, is_pentagon_base, leading, number_of}
use Rattle.h3_index.specs.CellNumber.{IsCellNumber, address_in}
use Rattle.h3_index.specs.Descendants.{along, child, ancestor_at}
use Rattle.h3_index.specs.Siblings.{has_raised, last_digit, raised}
use Rattle.h3_index.proofs.AncestorLaws.{cut_cell, length-ancestor_at}
use Rattle.h3_index.proofs.CellLaws.{digit-address_in}
use Rattle.h3_index.proofs.DigitsLaws.{eights}
use Rattle.h3_index.proofs.MoveLaws.{child_cell, inside_is, made_is, made_valid, number_child, number_small, power_small, shifted}

leading-zero : (ds : List ℕ) → leading (ds ++ 0 ∷ []) ≡ leading ds
leading-zero [] = refl
leading-zero (d ∷ ds) = ap (λ n. if d == 0 then n else d) (leading-zero ds)

-- the digits up to the last, and the last
pub last_apart : (ds : List ℕ) → 0 < length ds → take (length ds - 1) ds ++ get_or ds (length ds - 1) 7 ∷ [] ≡ ds
last_apart ds some =
    let next : suc (length ds - 1) ≡ length ds = omega (arith, some) in
    let end : drop (length ds - 1) ds ≡ get_or ds (length ds - 1) 7 ∷ [] =
    drop-cons ds (length ds - 1) 7 (omega (arith, some))
    ∙ ap (λ l. get_or ds (length ds - 1) 7 ∷ l) (drop_all (suc (length ds - 1)) ds (omega (arith, next))) in
    ap (λ l. take (length ds - 1) ds ++ l) (sym end) ∙ take-append-drop (length ds - 1) ds

-- a digit 0 at the end makes no difference to whether a cell is a pentagon
pub pentagon_above : (c : Address) → 0 < length c.digits → get_or c.digits (length c.digits - 1) 7 ≡ 0
    → is_pentagon (ancestor_at c (length c.digits - 1)) ≡ is_pentagon c
pentagon_above c some zero_last =
    let front = take (length c.digits - 1) c.digits in
    let whole : front ++ 0 ∷ [] ≡ c.digits = ap (λ d. front ++ d ∷ []) (sym zero_last) ∙ last_apart c.digits some in
    ap (λ n. is_pentagon_base c.base && n == 0) (sym (leading-zero front) ∙ ap leading whole)

back_at : (c : Address) → 0 < length c.digits
    → along (ancestor_at c (length c.digits - 1)) (get_or c.digits (length c.digits - 1) 7 ∷ []) ≡ c
back_at c some = ap {B = Address} (λ ds. record { base = c.base; digits = ds }) (last_apart c.digits some)

-- what is known of a cell's number and unit
pub record IsAt (c : Address) (m u : ℕ) : Type 0 where
  pub cell : IsCell c
  pub number : m ≡ number_of c
  pub place : 8 ^ (15 - length c.digits) ≡ u
  pub code : IsCellNumber m
  pub is : address_in m ≡ c

pub at_cell : (c : Address) (m u : ℕ) → IsCellNumber m → address_in m ≡ c → u ≡ 8 ^ (15 - length c.digits) → IsAt c m u
at_cell c m u h e last_digit_step = record {
  cell = rw e at h.valid;
  number = inside_is m c h e;
  place = sym last_digit_step;
  code = h;
  is = e;
}

unit_some : (c : Address) (m u : ℕ) → IsAt c m u → 0 < u
unit_some c m u h = rw (← h.place) (one-le-pow (15 - length c.digits) 8 (lit< tt))

pub unit_small : (c : Address) (u : ℕ) → u ≡ 8 ^ (15 - length c.digits) → u ≤ 2 ^ 45
unit_small c u is = rw is (power_small (15 - length c.digits) (omega arith))

-- the unit of resolution 0
finer_unit : (l u : ℕ) → 8 ^ (15 - l) ≡ u → 0 < l → l < 16 → u ≢ 2 ^ 45
finer_unit l u place some coarse first =
    let up : suc (15 - l) ≡ 16 - l = omega (arith, some, coarse) in
    let power : 8 ^ (16 - l) ≡ 8 ^ (15 - l) * 8 = ap (λ n. 8 ^ n) (sym up) ∙ pow-suc 8 (15 - l) in
    let most : 8 ^ (16 - l) ≤ 2 ^ 45 = power_small (16 - l) (omega (arith, some)) in
    omega (arith, first, power, most, place)

coarsest_unit : (l u : ℕ) → 8 ^ (15 - l) ≡ u → l ≡ 0 → u ≡ 2 ^ 45
coarsest_unit l u place none = sym place ∙ ap (λ n. 8 ^ (15 - n)) none

-- the last digit in its place
masked : (m k : ℕ) → bit_and m (7 * 8 ^ k) ≡ m / 8 ^ k % 8 * 8 ^ k
masked m k =
    let p = 2 ^ (3 * k) in
    let same : 8 ^ k ≡ p = sym (eights k) in
    let whole : m ≡ m / p * p + m % p = sym (shr_split m (3 * k)) in
    let mask : 7 * p ≡ 7 * p + 0 = omega arith in
    let block : bit_and (m / p * p + m % p) (7 * p + 0) ≡ bit_and (m / p) 7 * p + bit_and (m % p) 0 =
    and_block (3 * k) (m / p) 7 (m % p) 0 (mod_below m p (pow_pos (3 * k))) (pow_pos (3 * k)) in
    let none : bit_and (m / p) 7 * p + bit_and (m % p) 0 ≡ m / p % 8 * p =
    ap (λ n. bit_and (m / p) 7 * p + n) (and_zero_r (m % p))
    ∙ (let end : bit_and (m / p) 7 * p + 0 ≡ bit_and (m / p) 7 * p = omega arith in end)
    ∙ ap (λ n. n * p) (and_mask (m / p) 3) in
    rw same (ap (λ n. bit_and n (7 * p)) whole ∙ ap (bit_and (m / p * p + m % p)) mask ∙ block ∙ none)

pub last_masked : (c : Address) (m u : ℕ) → IsAt c m u → 0 < length c.digits → bit_and m (7 * u) ≡ last_digit c * u
last_masked c m u h some =
    let l = length c.digits in
    let shift : 45 - 3 * l ≡ 3 * (15 - l) = omega (arith, h.cell.coarse) in
    let read : m / 2 ^ (45 - 3 * l) % 8 ≡ last_digit c =
    rw h.is at (digit-address_in m l h.code (omega (arith, some)) (omega (arith, h.cell.coarse))) in
    let read-2 : m / 8 ^ (15 - l) % 8 ≡ last_digit c =
    ap (λ n. m / n % 8) (sym (eights (15 - l)) ∙ ap (λ n. 2 ^ n) (sym shift)) ∙ read in
    rw (← h.place) (masked m (15 - l) ∙ ap (λ n. n * 8 ^ (15 - l)) read-2)

digit_small : (ds : List ℕ) (k : ℕ) → AllBelowBase 7 ds → k < length ds → get_or ds k 7 < 7
digit_small [] k small within = absurd (omega (arith, within))
digit_small (d ∷ ds) zero small within = small.0
digit_small (d ∷ ds) (suc k) small within = digit_small ds k small.1 (omega (arith, within))

pub last_small : (c : Address) (m u : ℕ) → IsAt c m u → 0 < length c.digits → last_digit c < 7
last_small c m u h some = digit_small c.digits (length c.digits - 1) h.cell.digits_small (omega (arith, some))

-- products with a unit that is not 0 differ where the factors do
times_six : (d u : ℕ) → 0 < u → d * u ≡ 6 * u → d ≡ 6
times_six d u some e = sym (mul-div_cancel d some) ∙ ap (λ n. n / u) e ∙ mul-div_cancel 6 some

-- ---- where there is none

last_none : (ds : List ℕ) → length ds ≡ 0 → get_or ds (length ds - 1) 7 ≡ 7
last_none [] e = refl
last_none (d ∷ ds) e = absurd (omega (arith, e))

below_six : (d : ℕ) (b : Bool) → 6 ≤ d → nat_lt d 6 && b ≡ false
below_six d b h = let no : nat_lt d 6 ≡ false = grind (arith, nat_tests) in rw no refl

pub none_first : (c : Address) (m u : ℕ) → IsAt c m u → u ≡ 2 ^ 45 → has_raised c ≡ false
none_first c m u h first = by_size (length c.digits) refl
  where
    by_size : (l : ℕ) → length c.digits ≡ l → has_raised c ≡ false
    by_size zero e =
        let seven : last_digit c ≡ 7 = last_none c.digits e in
        below_six (last_digit c) (not (is_pentagon c)) (omega (arith, seven))
    by_size (suc l) e = absurd (finer_unit (length c.digits) u h.place (omega (arith, e)) h.cell.coarse first)

some_finer : (c : Address) (m u : ℕ) → IsAt c m u → u ≢ 2 ^ 45 → 0 < length c.digits
some_finer c m u h other = by_size (length c.digits) refl
  where
    by_size : (l : ℕ) → length c.digits ≡ l → 0 < length c.digits
    by_size zero e = absurd (other (coarsest_unit (length c.digits) u h.place e))
    by_size (suc l) e = omega (arith, e)

pub none_last : (c : Address) (m u : ℕ) → IsAt c m u → u ≢ 2 ^ 45 → bit_and m (7 * u) ≡ 6 * u → has_raised c ≡ false
none_last c m u h other six =
    let some = some_finer c m u h other in
    let is : last_digit c ≡ 6 = times_six (last_digit c) u (unit_some c m u h) (sym (last_masked c m u h some) ∙ six) in
    below_six (last_digit c) (not (is_pentagon c)) (omega (arith, is))

pub none_deleted : (c : Address) → is_pentagon c ≡ true → has_raised c ≡ false
none_deleted c p = rw p (and-false (nat_lt (last_digit c) 6))

-- ---- where there is one

pub record IsRaised (c : Address) (m u : ℕ) : Type 0 where
  pub fits : m + u < 2 ^ 64
  pub code : IsCellNumber (m + u)
  pub is : address_in (m + u) ≡ raised c
  pub has : has_raised c ≡ true

leading-last : (xs : List ℕ) (d : ℕ) → leading (xs ++ d ∷ []) ≡ 0 → d ≡ 0
leading-last [] zero e = refl
leading-last [] (suc d) e = let z : (suc d == 0) ≡ false = grind (arith, nat_tests) in rw z at e
leading-last (zero ∷ xs) d e = leading-last xs d e
leading-last (suc x ∷ xs) d e =
    let z : (suc x == 0) ≡ false = grind (arith, nat_tests) in absurd (omega (arith, rw z at e))

no_pentagon : (c : Address) → 0 < length c.digits → (last_digit c ≡ 0 → is_pentagon c ≡ false) → is_pentagon c ≡ false
no_pentagon c some rule = by_test (is_pentagon c) refl
  where
    by_test : (b : Bool) → is_pentagon c ≡ b → b ≡ false
    by_test false e = refl
    by_test true e =
        let test = (and_parts (is_pentagon_base c.base) (leading c.digits == 0) e).1 in
        let none : leading c.digits ≡ 0 = grind (arith, nat_tests) in
        let last : last_digit c ≡ 0 =
        leading-last (take (length c.digits - 1) c.digits) (last_digit c)
        (ap leading (last_apart c.digits some) ∙ none) in
        let no : is_pentagon c ≡ false = rule last in
        sym e ∙ no

pub raised_at : (c : Address) (m u : ℕ) → IsAt c m u → u ≢ 2 ^ 45 → bit_and m (7 * u) ≢ 6 * u
    → (bit_and m (7 * u) ≡ 0 → is_pentagon c ≡ false) → IsRaised c m u
raised_at c m u h other not_six rule =
    let some = some_finer c m u h other in
    let d = last_digit c in
    let bits : bit_and m (7 * u) ≡ d * u = last_masked c m u h some in
    let under_seven : d < 7 = last_small c m u h some in
    let no_six : d ≢ 6 = λ six. not_six (bits ∙ ap (λ n. n * u) six) in
    let less : d < 6 = omega (arith, under_seven, no_six) in
    let none_times : 0 * u ≡ 0 = omega arith in
    let hexagon : is_pentagon c ≡ false = no_pentagon c some (λ z. rule (bits ∙ ap (λ n. n * u) z ∙ none_times)) in
    let above = ancestor_at c (length c.digits - 1) in
    let size : length above.digits ≡ length c.digits - 1 = length-ancestor_at c (length c.digits - 1) (omega arith) in
    let up : IsCell above = cut_cell c (length c.digits - 1) h.cell (omega arith) in
    let coarse : length above.digits < 15 = omega (arith, size, h.cell.coarse, some) in
    let never : is_pentagon above ≡ true → d + 1 ≢ 1 = λ pentagon one. (
    let none : d ≡ 0 = omega (arith, one) in
    let yes : is_pentagon c ≡ true = sym (pentagon_above c some none) ∙ pentagon in
    cc (hexagon, yes)) in
    let next : IsCell (child above (d + 1)) = child_cell above (d + 1) up coarse (omega (arith, less)) never in
    let here : IsCell (along above (d ∷ [])) = rw (back_at c some) h.cell in
    let low : number_of above + 2 ^ 52 ≡ number_of c + (7 - d) * 8 ^ (14 - length above.digits) =
    rw (back_at c some) at (number_child above d up here (omega (arith, less))) in
    let high : number_of above + 2 ^ 52
    ≡ number_of (child above (d + 1)) + (7 - (d + 1)) * 8 ^ (14 - length above.digits) =
    number_child above (d + 1) up next (omega (arith, less)) in
    let left : 14 - length above.digits ≡ 15 - length c.digits = omega (arith, size, some) in
    let last_digit_step : 8 ^ (14 - length above.digits) ≡ u = ap (λ n. 8 ^ n) left ∙ h.place in
    let apart : (7 - d) * u ≡ (7 - (d + 1)) * u + u =
    (let parts : 7 - d ≡ 7 - (d + 1) + 1 = omega (arith, less) in rw parts (grind arith)) in
    let grown : m + u ≡ number_of (child above (d + 1)) =
    omega (arith, h.number, rw last_digit_step at low, rw last_digit_step at high, apart) in
    let same : address_in (m + u) ≡ child above (d + 1) = made_is (m + u) (child above (d + 1)) next grown in
    let test : nat_lt d 6 ≡ true = grind (arith, nat_tests) in
    record {
      fits = omega (arith, h.number, number_small c h.cell, unit_small c u (sym h.place));
      code = made_valid (m + u) (child above (d + 1)) next grown;
      is = same;
      has = rw (test, hexagon) refl;
    }

-- ---- the unit

pub unit_is : (c : Address) (r : ℕ) → r ≡ length c.digits → 1 * 2 ^ (3 * (15 - r)) % 2 ^ 64 ≡ 8 ^ (15 - length c.digits)
unit_is c r er =
    let one_times : 1 * 8 ^ (15 - length c.digits) ≡ 8 ^ (15 - length c.digits) = omega arith in
    rw er (shifted 1 (15 - length c.digits) (omega arith) (omega arith) ∙ one_times)
