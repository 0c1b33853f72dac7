-- The numbers of the cells that differ from a cell in one field, as the moves make them.
use Rattle.std.specs.Int.Digits.{number_from_digits, AllBelowBase}
use Rattle.std.proofs.Common.{ℕ, zero, suc, ◌≡◌, ◌+◌, ◌-◌, ◌*◌, ◌%◌, ◌^◌, ◌<◌, ◌≤◌, List, [], ◌∷◌, ◌++◌, length, take, drop, replicate, false, arith, length-append, ◌∙◌, sym, ap, subst, get_or, set}
use Rattle.std.proofs.Math.ListN.{length-replicate}
use Rattle.std.proofs.lemmas.Bool.{false≢true}
use Rattle.std.proofs.lemmas.List.{append_assoc, length-drop, length-set, set-get_or, set_split}
use Rattle.h3_index.specs.Cell.{Address, IsCell, is_pentagon_base, number_of, padded}
use Rattle.h3_index.specs.CellNumber.{address_in, IsCellNumber}
use Rattle.h3_index.specs.Moves.{with_base, with_digit}
use Rattle.h3_index.proofs.DigitsLaws.{number_append, number_first}
use Rattle.h3_index.proofs.MoveLaws.{number_small, shifted}

-- ---- another digit

small_set : (ds : List ℕ) (i d : ℕ) → AllBelowBase 7 ds → d < 7 → AllBelowBase 7 (set ds i d)
small_set [] i d all small = tt
small_set (x ∷ ds) zero d all small = (small, all.1)
small_set (x ∷ ds) (suc i) d all small = (all.0, small_set ds i d all.1 small)

pub digit_cell : (c : Address) (r d : ℕ) → IsCell c → d < 7 → is_pentagon_base c.base ≡ false
    → IsCell (with_digit c r d)
digit_cell c r d h small hexagon = record {
  base_small = h.base_small;
  coarse = rw (length-set c.digits (r - 1) d) h.coarse;
  digits_small = small_set c.digits (r - 1) d h.digits_small small;
  not_deleted = λ t e. false≢true (sym hexagon ∙ t);
}

-- the digits before, the digit, and those after with the sevens
value_set : (ds : List ℕ) (r d : ℕ) → 1 ≤ r → r ≤ length ds → length ds < 16
    → number_from_digits 8 (padded (set ds (r - 1) d))
    ≡ number_from_digits 8 (take (r - 1) ds) * 8 ^ (16 - r)
    + (d * 8 ^ (15 - r) + number_from_digits 8 (drop r ds ++ replicate (15 - length ds) 7))
value_set ds r d some within coarse =
    let last = drop r ds ++ replicate (15 - length ds) 7 in
    let above : suc (r - 1) ≡ r = omega arith in
    let size : length (drop r ds ++ replicate (15 - length ds) 7) ≡ 15 - r =
    omega (
      arith,
      length-append (drop r ds) (replicate (15 - length ds) 7),
      length-replicate {A = ℕ} (15 - length ds) 7,
      length-drop r ds,
    ) in
    let one : length (d ∷ drop r ds ++ replicate (15 - length ds) 7) ≡ 16 - r = omega (arith, size) in
    let split : set ds (r - 1) d ≡ take (r - 1) ds ++ d ∷ drop r ds =
    rw above at (set_split ds (r - 1) d (omega arith)) in
    let whole : padded (set ds (r - 1) d) ≡ take (r - 1) ds ++ (d ∷ drop r ds ++ replicate (15 - length ds) 7) =
    ap (λ n. set ds (r - 1) d ++ replicate (15 - n) 7) (length-set ds (r - 1) d)
    ∙ ap (λ l. l ++ replicate (15 - length ds) 7) split
    ∙ append_assoc (take (r - 1) ds) (d ∷ drop r ds) (replicate (15 - length ds) 7) in
    ap (λ l. number_from_digits 8 l) whole
    ∙ number_append (take (r - 1) ds) (d ∷ drop r ds ++ replicate (15 - length ds) 7)
    ∙ ap
    (λ n.
    number_from_digits 8 (take (r - 1) ds) * 8 ^ n
    + number_from_digits 8 (d ∷ drop r ds ++ replicate (15 - length ds) 7))
    one
    ∙ ap (λ n. number_from_digits 8 (take (r - 1) ds) * 8 ^ (16 - r) + n) (number_first d
    (drop r ds ++ replicate (15 - length ds) 7)
    ∙ ap (λ n. d * 8 ^ n + number_from_digits 8 (drop r ds ++ replicate (15 - length ds) 7)) size)

pub record IsDigitSum (c : Address) (r d x : ℕ) : Type 0 where
  pub within : x * 8 ^ (15 - r) ≤ number_of c
  pub is : number_of (with_digit c r d) + x * 8 ^ (15 - r) ≡ number_of c + d * 8 ^ (15 - r)

digit_sum : (c : Address) (r d x : ℕ) → IsCell c → 1 ≤ r → r ≤ length c.digits → x ≡ get_or c.digits (r - 1) 7
    → IsDigitSum c r d x
unfolding number_of
digit_sum c r d x h some most old =
    let new = value_set c.digits r d some most h.coarse in
    let same : set c.digits (r - 1) x ≡ c.digits = ap (set c.digits (r - 1)) old ∙ set-get_or c.digits (r - 1) 7 in
    let was = rw same at (value_set c.digits r x some most h.coarse) in
    record { within = omega (arith, was); is = omega (arith, new, was, length-set c.digits (r - 1) d) }

-- ---- the forms in the code

pub inside_cell : (m : ℕ) (n : Address) → IsCellNumber m → address_in m ≡ n → IsCell n
inside_cell m n h e = subst IsCell e h.valid

pub record IsDigitForm (c : Address) (m r d x y : ℕ) : Type 0 where
  pub enough : x * 2 ^ (45 - 3 * r) % 2 ^ 64 ≤ m
  pub fits : m - x * 2 ^ (45 - 3 * r) % 2 ^ 64 + y * 2 ^ (45 - 3 * r) % 2 ^ 64 < 2 ^ 64
  pub is : m - x * 2 ^ (45 - 3 * r) % 2 ^ 64 + y * 2 ^ (45 - 3 * r) % 2 ^ 64 ≡ number_of (with_digit c r d)
  pub valid : IsCell (with_digit c r d)

pub digit_form : (c : Address) (m r d x y : ℕ) → IsCell c → m ≡ number_of c → 1 ≤ r → r ≤ length c.digits → d < 7
    → is_pentagon_base c.base ≡ false → x ≡ get_or c.digits (r - 1) 7 → x < 2 ^ 15 → y ≡ d → IsDigitForm c m r d x y
digit_form c m r d x y h e some most small hexagon old low same =
    let v = digit_cell c r d h small hexagon in
    let s = digit_sum c r d x h some most old in
    let least = s.within in
    let sum = s.is in
    let limit = number_small (with_digit c r d) v in
    let place : 45 - 3 * r ≡ 3 * (15 - r) = omega arith in
    let was : x * 2 ^ (45 - 3 * r) % 2 ^ 64 ≡ x * 8 ^ (15 - r) = rw place (shifted x (15 - r) low (omega arith)) in
    let new : y * 2 ^ (45 - 3 * r) % 2 ^ 64 ≡ d * 8 ^ (15 - r) =
    rw (place, same) (shifted d (15 - r) (omega arith) (omega arith)) in
    record {
      enough = rw (was, e) least;
      fits = rw (was, new, e) (omega (arith, least, sum, limit));
      is = rw (was, new, e) (omega (arith, least, sum));
      valid = v;
    }

pub record IsBaseForm (c : Address) (m b x y : ℕ) : Type 0 where
  pub enough : x * 2 ^ 45 % 2 ^ 64 ≤ m
  pub fits : m - x * 2 ^ 45 % 2 ^ 64 + y * 2 ^ 45 % 2 ^ 64 < 2 ^ 64
  pub is : m - x * 2 ^ 45 % 2 ^ 64 + y * 2 ^ 45 % 2 ^ 64 ≡ number_of (with_base c b)
  pub valid : IsCell (with_base c b)

base_sum : (c : Address) (b : ℕ)
    → c.base * 2 ^ 45 ≤ number_of c × number_of (with_base c b) + c.base * 2 ^ 45 ≡ number_of c + b * 2 ^ 45
unfolding number_of
base_sum c b = (omega arith, omega arith)

pub base_form : (c : Address) (m b x y : ℕ) → IsCell c → m ≡ number_of c → b < 122 → is_pentagon_base b ≡ false
    → x ≡ c.base → y ≡ b → IsBaseForm c m b x y
base_form c m b x y h e small hexagon old same =
    let v : IsCell (with_base c b) = record {
      base_small = small;
      coarse = h.coarse;
      digits_small = h.digits_small;
      not_deleted = λ t _. false≢true (sym hexagon ∙ t);
    } in
    let sum = base_sum c b in
    let least = sum.0 in
    let equal = sum.1 in
    let limit = number_small (with_base c b) v in
    let was : x * 2 ^ 45 % 2 ^ 64 ≡ c.base * 2 ^ 45 = rw old (omega (arith, h.base_small)) in
    let new : y * 2 ^ 45 % 2 ^ 64 ≡ b * 2 ^ 45 = rw same (omega (arith, small)) in
    record {
      enough = rw (was, e) least;
      fits = rw (was, new, e) (omega (arith, least, equal, limit));
      is = rw (was, new, e) (omega (arith, least, equal));
      valid = v;
    }
