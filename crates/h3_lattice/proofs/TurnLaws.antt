-- Turns of digits, and of the places of digit lists.
use Rattle.std.proofs.Common.{◌≡◌, ℕ, zero, suc, ◌+◌, ◌*◌, ◌/◌, ◌%◌, ◌<◌, zero-add, suc-add, refl, arith, sym, ap, ◌∙◌, Option, Some, None, List, [], ◌∷◌, map, pos, ◌==◌, true, eqb-true, slice_index_or, option_map}
use Rattle.std.specs.Int.Digits.{AllBelowBase}
use Rattle.std.proofs.lemmas.Bool.{agree_below_at}
use Rattle.h3_lattice.specs.declared.digits.TheConstants.{TURNED}
use Rattle.h3_directions.specs.declared.direction.Direction.{Direction}
use Rattle.h3_directions.specs.declared.direction.Direction.TheVariants.{K, J, JK, I, IK, IJ}
use Rattle.h3_lattice.specs.declared.class.Class.{Class}
use Rattle.h3_lattice.specs.declared.class.Class.TheVariants.{Two, Three}
use Rattle.h3_directions.specs.Eisenstein.{Eisenstein, eisenstein, one, product_of, sum_of, zero_point}
use Rattle.h3_directions.specs.Direction.{digit_or_zero, digit_turned, digit_value, direction_of, turned, turned_once, turning, value_of, AreTurned}
use Rattle.h3_lattice.specs.Class.{class_at, multiplier}
use Rattle.h3_lattice.specs.Expansion.{place_from, place}
use Rattle.h3_lattice.specs.Laws.{DigitTurnsAdd, OppositesAreThreeTurns, SixDigitTurnsAreNone, SixTurnsAreNone, TurnsAdd}
use Rattle.h3_lattice.proofs.LinearLaws.{points, turn-product, unit_of-turned}
use Rattle.h3_lattice.proofs.DivisionLaws.{digit_or_zero-direction_of, digit_or_zero-lt, direction_of-digit_or_zero}

times_zero : (p : Eisenstein) → zero_point ≡ product_of p zero_point
times_zero p = omega (arith, points)

value_of-turned : (n : ℕ) (x : Option Direction)
    → value_of (option_map (turned n) x) ≡ product_of (turning n) (value_of x)
value_of-turned n None = times_zero (turning n)
value_of-turned n (Some d) = unit_of-turned n d

pub digit_value-turned : (n d : ℕ) → digit_value (digit_turned n d) ≡ product_of (turning n) (digit_value d)
digit_value-turned n d =
    ap value_of (direction_of-digit_or_zero (option_map (turned n) (direction_of d)))
    ∙ value_of-turned n (direction_of d)

pub are_turned : (n : ℕ) (ds : List ℕ) → AreTurned n ds (map (digit_turned n) ds)
are_turned n [] = refl
are_turned n (d ∷ ds) =
    let first = digit_value-turned n d in
    let others = are_turned n ds in
    cc

pub all_small-turned : (n : ℕ) (ds : List ℕ) → AllBelowBase 7 (map (digit_turned n) ds)
all_small-turned n [] = tt
all_small-turned n (d ∷ ds) = (digit_or_zero-lt (option_map (turned n) (direction_of d)), all_small-turned n ds)

-- ---- places

abbrev pub once : Eisenstein → Eisenstein
once z = product_of (eisenstein (pos 1) (pos 1)) z

once_further : (c : Class) (z v : Eisenstein)
    → sum_of (product_of (multiplier c) (once z)) (once v) ≡ once (sum_of (product_of (multiplier c) z) v)
once_further Three z v = omega (arith, points)
once_further Two z v = omega (arith, points)

place_from-turned_once : (n : ℕ) (z : Eisenstein) (ds : List ℕ)
    → place_from n (once z) (map (digit_turned 1) ds) ≡ once (place_from n z ds)
place_from-turned_once n z [] = refl
place_from-turned_once n z (d ∷ ds) =
    let c = class_at (n + 1) in
    ap (λ v. place_from (n + 1) (sum_of (product_of (multiplier c) (once z)) v) (map (digit_turned 1) ds))
    (digit_value-turned 1 d)
    ∙ ap (λ v. place_from (n + 1) v (map (digit_turned 1) ds)) (once_further c z (digit_value d))
    ∙ place_from-turned_once (n + 1) (sum_of (product_of (multiplier c) z) (digit_value d)) ds

pub option_turned-suc : (n : ℕ) (x : Option Direction)
    → option_map (turned (suc n)) x ≡ option_map (turned 1) (option_map (turned n) x)
option_turned-suc n None = refl
option_turned-suc n (Some d) = refl

digit_turned-suc : (n d : ℕ) → digit_turned (suc n) d ≡ digit_turned 1 (digit_turned n d)
digit_turned-suc n d =
    ap digit_or_zero (option_turned-suc n (direction_of d)
    ∙ ap (option_map (turned 1)) (sym (direction_of-digit_or_zero (option_map (turned n) (direction_of d)))))

pub map-turned-suc : (n : ℕ) (ds : List ℕ)
    → map (digit_turned (suc n)) ds ≡ map (digit_turned 1) (map (digit_turned n) ds)
map-turned-suc n [] = refl
map-turned-suc n (d ∷ ds) =
    let first = digit_turned-suc n d in
    let others = map-turned-suc n ds in
    cc

pub option_turned-zero : (x : Option Direction) → option_map (turned 0) x ≡ x
option_turned-zero None = refl
option_turned-zero (Some d) = refl

digit_turned-zero : (d : ℕ) → d < 7 → digit_turned 0 d ≡ d
digit_turned-zero d h = ap digit_or_zero (option_turned-zero (direction_of d)) ∙ digit_or_zero-direction_of d h

pub map-turned-zero : (ds : List ℕ) → AllBelowBase 7 ds → map (digit_turned 0) ds ≡ ds
map-turned-zero [] a = refl
map-turned-zero (d ∷ ds) a =
    let first = digit_turned-zero d a.0 in
    let others = map-turned-zero ds a.1 in
    cc

one_times : (z : Eisenstein) → z ≡ product_of one z
one_times z = omega (arith, points)

digit_value-no_turns : (d : ℕ) → digit_value (digit_turned 0 d) ≡ digit_value d
digit_value-no_turns d =
    ap value_of
    (direction_of-digit_or_zero (option_map (turned 0) (direction_of d)) ∙ option_turned-zero (direction_of d))

pub place_from-no_turns : (n : ℕ) (z : Eisenstein) (ds : List ℕ)
    → place_from n z (map (digit_turned 0) ds) ≡ place_from n z ds
place_from-no_turns n z [] = refl
place_from-no_turns n z (d ∷ ds) =
    let c = class_at (n + 1) in
    ap (λ v. place_from (n + 1) (sum_of (product_of (multiplier c) z) v) (map (digit_turned 0) ds))
    (digit_value-no_turns d)
    ∙ place_from-no_turns (n + 1) (sum_of (product_of (multiplier c) z) (digit_value d)) ds

-- the place of the turned digits
pub place-turned : (n : ℕ) (ds : List ℕ) → place (map (digit_turned n) ds) ≡ product_of (turning n) (place ds)
place-turned zero ds = place_from-no_turns 0 zero_point ds ∙ one_times (place ds)
place-turned (suc n) ds =
    ap place (map-turned-suc n ds)
    ∙ place_from-turned_once 0 zero_point (map (digit_turned n) ds)
    ∙ ap once (place-turned n ds)
    ∙ turn-product (turning n) (place ds)

-- ---- turns of turns

pub turns_add : TurnsAdd
turns_add zero n d = rw zero-add refl
turns_add (suc m) n d = rw suc-add (ap turned_once (turns_add m n d))

turned-six : (d : Direction) → turned 6 d ≡ d
turned-six K = refl
turned-six J = refl
turned-six JK = refl
turned-six I = refl
turned-six IK = refl
turned-six IJ = refl

turned-sixes : (k r : ℕ) (d : Direction) → turned (k * 6 + r) d ≡ turned r d
turned-sixes zero r d =
    let e : 0 * 6 + r ≡ r = omega arith in
    ap (λ n. turned n d) e
turned-sixes (suc k) r d =
    let e : suc k * 6 + r ≡ 6 + (k * 6 + r) = omega arith in
    ap (λ n. turned n d) e ∙ sym (turns_add 6 (k * 6 + r) d) ∙ turned-six (turned (k * 6 + r) d) ∙ turned-sixes k r d

pub six_turns_are_none : SixTurnsAreNone
six_turns_are_none n d =
    let e : n / 6 * 6 + n % 6 ≡ n = omega arith in
    sym (turned-sixes (n / 6) (n % 6) d) ∙ ap (λ k. turned k d) e

pub opposites_are_three_turns : OppositesAreThreeTurns
opposites_are_three_turns K = refl
opposites_are_three_turns J = refl
opposites_are_three_turns JK = refl
opposites_are_three_turns I = refl
opposites_are_three_turns IK = refl
opposites_are_three_turns IJ = refl

option_turned-add : (m n : ℕ) (x : Option Direction)
    → option_map (turned m) (option_map (turned n) x) ≡ option_map (turned (m + n)) x
option_turned-add m n None = refl
option_turned-add m n (Some d) = ap (λ (e : Direction). Some e) (turns_add m n d)

option_turned-mod : (n : ℕ) (x : Option Direction) → option_map (turned (n % 6)) x ≡ option_map (turned n) x
option_turned-mod n None = refl
option_turned-mod n (Some d) = ap (λ (e : Direction). Some e) (six_turns_are_none n d)

pub digit_turns_add : DigitTurnsAdd
digit_turns_add m n [] = refl
digit_turns_add m n (d ∷ ds) =
    let first : digit_turned m (digit_turned n d) ≡ digit_turned (m + n) d =
    ap digit_or_zero (ap (option_map (turned m)) (direction_of-digit_or_zero (option_map (turned n) (direction_of d)))
    ∙ option_turned-add m n (direction_of d)) in
    let others = digit_turns_add m n ds in
    cc

digit_turned-mod : (n d : ℕ) → digit_turned (n % 6) d ≡ digit_turned n d
digit_turned-mod n d = ap digit_or_zero (option_turned-mod n (direction_of d))

pub six_digit_turns_are_none : SixDigitTurnsAreNone
six_digit_turns_are_none n [] = refl
six_digit_turns_are_none n (d ∷ ds) =
    let first = digit_turned-mod n d in
    let others = six_digit_turns_are_none n ds in
    cc

-- ---- the table of turned digits

abbrev turned_entry : ℕ → ℕ → ℕ
turned_entry n d = slice_index_or (slice_index_or TURNED n []) d 0

row_is : (n d : ℕ) → n < 6 → d < 7 → turned_entry n d ≡ digit_turned n d
row_is zero d l h = eqb-true _ _ (agree_below_at (λ d. turned_entry 0 d == digit_turned 0 d) (λ _. true) 7 d refl h)
row_is (suc zero) d l h =
    eqb-true _ _ (agree_below_at (λ d. turned_entry 1 d == digit_turned 1 d) (λ _. true) 7 d refl h)
row_is (suc (suc zero)) d l h =
    eqb-true _ _ (agree_below_at (λ d. turned_entry 2 d == digit_turned 2 d) (λ _. true) 7 d refl h)
row_is (suc (suc (suc zero))) d l h =
    eqb-true _ _ (agree_below_at (λ d. turned_entry 3 d == digit_turned 3 d) (λ _. true) 7 d refl h)
row_is (suc (suc (suc (suc zero)))) d l h =
    eqb-true _ _ (agree_below_at (λ d. turned_entry 4 d == digit_turned 4 d) (λ _. true) 7 d refl h)
row_is (suc (suc (suc (suc (suc zero))))) d l h =
    eqb-true _ _ (agree_below_at (λ d. turned_entry 5 d == digit_turned 5 d) (λ _. true) 7 d refl h)
row_is (suc (suc (suc (suc (suc (suc n)))))) d l h = absurd (omega arith)

pub turned_is : (n d : ℕ) → d < 7 → slice_index_or (slice_index_or TURNED (n % 6) []) d 0 ≡ digit_turned n d
turned_is n d h = row_is (n % 6) d (omega arith) h ∙ digit_turned-mod n d
