-- The test of a number's digits decides whether the number is a cell's.
use Rattle.std.specs.Int.Digits.{AllBelowBase}
use Rattle.std.proofs.Common.{ℕ, zero, suc, ◌≡◌, ◌≢◌, ◌-◌, ◌/◌, ◌^◌, ◌<◌, ◌≤◌, ◌==◌, List, [], ◌∷◌, ◌++◌, length, take, drop, replicate, Bool, true, false, cond, not, nat_lt, ◌&&◌, if◌then◌else◌, refl, arith, ◌∙◌, sym, ap, lit<}
use Rattle.std.proofs.Math.Bool.{and-false, and-true}
use Rattle.std.proofs.lemmas.Bool.Decides.{nat_tests}
use Rattle.std.specs.List.{list_all}
use Rattle.std.proofs.lemmas.Nat.{mod_below}
use Rattle.std.proofs.lemmas.List.{length-take-le}
use Rattle.h3_index.specs.Cell.{Address, is_pentagon_base, number_of, padded, IsCell, leading}
use Rattle.h3_index.specs.CellNumber.{address_in, base_in, resolution_in, digits_in, IsCellNumber}
use Rattle.h3_index.specs.Digits.{last_digits}
use Rattle.h3_index.specs.DigitTest.{are_digits}
use Rattle.h3_index.proofs.DigitsLaws.{length-last_digits, number-last_digits, below-last_digits}
use Rattle.h3_index.proofs.CellLaws.{digits-number_of, base-number_of, resolution-number_of, mode-number_of}

-- the test digit by digit, from the first on; p: the cell above these digits is a pentagon
abbrev pub digits_pass : Bool → ℕ → List ℕ → Bool
digits_pass p r [] = true
digits_pass p zero (d ∷ ds) = if d == 7 then digits_pass p zero ds else false
digits_pass false (suc r) (d ∷ ds) = if d == 7 then false else digits_pass false r ds
digits_pass true (suc r) (d ∷ ds) = if d == 7 then false else (if d == 1 then false else digits_pass (d == 0) r ds)

sevens_pass : (p : Bool) (ds : List ℕ) → digits_pass p zero ds ≡ list_all (λ d. d == 7) ds
sevens_pass p [] = refl
sevens_pass p (d ∷ ds) = by_first (d == 7) (sevens_pass p ds)
  where
    by_first : (b : Bool) {x y : Bool} → x ≡ y → (if b then x else false) ≡ b && y
    by_first true e = e
    by_first false e = refl

none_deleted : (p : Bool) → not (p && false) ≡ true
none_deleted true = refl
none_deleted false = refl

-- below 8, what is not 7 is below 7
seven_or_less : (d : ℕ) (b : Bool) → d < 8 → (d == 7) ≡ b → nat_lt d 7 ≡ not b
seven_or_less d true h e = grind (arith, nat_tests)
seven_or_less d false h e = grind (arith, nat_tests)

pub pass_is : (p : Bool) (r : ℕ) (ds : List ℕ) → AllBelowBase 8 ds → digits_pass p r ds ≡ are_digits p r ds
pass_is p zero [] h = sym (none_deleted p)
pass_is p (suc r) [] h = sym (none_deleted p)
pass_is p zero (d ∷ ds) h =
    sevens_pass p (d ∷ ds)
    ∙ sym (ap (λ b. list_all (λ d. d == 7) (d ∷ ds) && b) (none_deleted p) ∙ and-true (list_all (λ d. d == 7) (d ∷ ds)))
pass_is false (suc r) (d ∷ ds) h = by_first (d == 7) refl (pass_is false r ds h.1)
  where
    by_first : (b : Bool) → (d == 7) ≡ b → digits_pass false r ds ≡ are_digits false r ds
        → digits_pass false (suc r) (d ∷ ds) ≡ are_digits false (suc r) (d ∷ ds)
    by_first true e rest = rw (e, seven_or_less d true h.0 e) refl
    by_first false e rest = rw (e, seven_or_less d false h.0 e) rest
pass_is true (suc r) (d ∷ ds) h = by_seven (d == 7) refl (λ p. pass_is p r ds h.1)
  where
    by_zero : (b : Bool) → (d == 0) ≡ b → (d == 1) ≡ false → digits_pass b r ds ≡ are_digits b r ds
        → digits_pass (d == 0) r ds
        ≡ (list_all (λ d. nat_lt d 7) (take r ds) && list_all (λ d. d == 7) (drop r ds))
        && not (leading (d ∷ take r ds) == 1)
    by_zero true e f rest = rw e rest
    by_zero false e f rest = rw (e, f) rest

    by_one : (b : Bool) → (d == 1) ≡ b → ((p : Bool) → digits_pass p r ds ≡ are_digits p r ds)
        → (if b then false else digits_pass (d == 0) r ds)
        ≡ (list_all (λ d. nat_lt d 7) (take r ds) && list_all (λ d. d == 7) (drop r ds))
        && not (leading (d ∷ take r ds) == 1)
    by_one true e rest =
        let other : (d == 0) ≡ false = grind (arith, nat_tests) in
        rw (other, e) (sym (and-false (list_all (λ d. nat_lt d 7) (take r ds) && list_all (λ d. d == 7) (drop r ds))))
    by_one false e rest = by_zero (d == 0) refl e (rest (d == 0))

    by_seven : (b : Bool) → (d == 7) ≡ b → ((p : Bool) → digits_pass p r ds ≡ are_digits p r ds)
        → digits_pass true (suc r) (d ∷ ds) ≡ are_digits true (suc r) (d ∷ ds)
    by_seven true e rest = rw (e, seven_or_less d true h.0 e) refl
    by_seven false e rest = rw (e, seven_or_less d false h.0 e) (by_one (d == 1) refl rest)

below-digits_in : (m : ℕ) → AllBelowBase 8 (digits_in m)
unfolding digits_in
below-digits_in m = below-last_digits 8 15 m (lit< tt)

-- the test digit by digit of a number's digits
pub number_pass : (p : Bool) (r m : ℕ) → digits_pass p r (digits_in m) ≡ are_digits p r (digits_in m)
number_pass p r m = pass_is p r (digits_in m) (below-digits_in m)

no_eq : (d k : ℕ) → d ≢ k → (d == k) ≡ false
no_eq d k h = grind (arith, nat_tests)

both : (b x : Bool) → cond b x false ≡ true → (b ≡ true) × (x ≡ true)
both true x h = (refl, h)
both false x h = cc

neither : (b x : Bool) → cond b false x ≡ true → (b ≡ false) × (x ≡ true)
neither false x h = (refl, h)
neither true x h = cc

equal : (d k : ℕ) → (d == k) ≡ true → d ≡ k
equal d k h = grind (arith, nat_tests)

differ : (d k : ℕ) → (d == k) ≡ false → d ≢ k
differ d k h e = grind (arith, nat_tests)

-- what the test shows
pub record Shown (p : Bool) (r : ℕ) (ds : List ℕ) : Type 0 where
  pub small : AllBelowBase 7 (take r ds)
  pub rest : ds ≡ take r ds ++ replicate (length ds - r) 7
  pub not_one : p ≡ true → leading (take r ds) ≢ 1

more : (ds ys : List ℕ) (r d : ℕ) → ds ≡ take r ds ++ replicate (length ds - r) 7
    → d ∷ ds ≡ (d ∷ take r ds) ++ replicate (length (d ∷ ds) - suc r) 7
more ds ys r d h =
    let same : length (d ∷ ds) - suc r ≡ length ds - r = omega arith in
    rw same (ap (λ xs. d ∷ xs) h)

leading_zero : (d : ℕ) (ds : List ℕ) → d ≡ 0 → leading (d ∷ ds) ≡ leading ds
leading_zero d ds h = rw h refl

leading_some : (d : ℕ) (ds : List ℕ) → (d == 0) ≡ false → leading (d ∷ ds) ≡ d
leading_some d ds h = rw h refl

not_one_more : (b : Bool) (d r : ℕ) (ds : List ℕ) → (d == 0) ≡ b → d ≢ 1 → (b ≡ true → leading (take r ds) ≢ 1)
    → leading (d ∷ take r ds) ≢ 1
not_one_more true d r ds e h ih = rw (leading_zero d (take r ds) (equal d 0 e)) (ih refl)
not_one_more false d r ds e h ih = rw (leading_some d (take r ds) e) h

pub shown : (p : Bool) (r : ℕ) (ds : List ℕ) → r ≤ length ds → AllBelowBase 8 ds → digits_pass p r ds ≡ true
    → Shown p r ds
shown p zero [] le all h = record { small = tt; rest = refl; not_one = λ _ e. omega (arith, e) }
shown p (suc r) [] le all h = absurd (omega (arith, le))
shown p zero (d ∷ ds) le all h =
    let a = both (d == 7) (digits_pass p zero ds) h in
    let ih = shown p zero ds (omega arith) all.1 a.1 in
    let none : length ds - 0 ≡ length ds = omega arith in
    let none-2 : length (d ∷ ds) - 0 ≡ suc (length ds) = omega arith in
    let tail : ds ≡ replicate (length ds) 7 = rw none at ih.rest in
    record { small = tt; rest = rw (none-2, equal d 7 a.0) (ap (λ xs. 7 ∷ xs) tail); not_one = λ _ e. omega (arith, e) }
shown false (suc r) (d ∷ ds) le all h =
    let a = neither (d == 7) (digits_pass false r ds) h in
    let ih = shown false r ds (omega (arith, le)) all.1 a.1 in
    let seven = differ d 7 a.0 in
    record { small = (omega (arith, all.0, seven), ih.small); rest = more ds [] r d ih.rest; not_one = λ e. cc }
shown true (suc r) (d ∷ ds) le all h =
    let a = neither (d == 7) (cond (d == 1) false (digits_pass (d == 0) r ds)) h in
    let a' = neither (d == 1) (digits_pass (d == 0) r ds) a.1 in
    let ih = shown (d == 0) r ds (omega (arith, le)) all.1 a'.1 in
    let seven = differ d 7 a.0 in
    record {
      small = (omega (arith, all.0, seven), ih.small);
      rest = more ds [] r d ih.rest;
      not_one = λ _. not_one_more (d == 0) d r ds refl (differ d 1 a'.0) ih.not_one;
    }

-- a cell's digits pass the test
pub sevens : (p : Bool) (k : ℕ) → digits_pass p 0 (replicate k 7) ≡ true
sevens p zero = refl
sevens p (suc k) = sevens p k

passes_more : (b : Bool) (d : ℕ) (ds : List ℕ) (k : ℕ) → (d == 0) ≡ b → leading (d ∷ ds) ≢ 1
    → ((p : Bool) → (p ≡ true → leading ds ≢ 1) → digits_pass p (length ds) (ds ++ replicate k 7) ≡ true)
    → digits_pass b (length ds) (ds ++ replicate k 7) ≡ true
passes_more true d ds k e h ih = ih true (λ _ f. h (leading_zero d ds (equal d 0 e) ∙ f))
passes_more false d ds k e h ih = ih false (λ f. cc)

pub passes : (p : Bool) (ds : List ℕ) (k : ℕ) → AllBelowBase 7 ds → (p ≡ true → leading ds ≢ 1)
    → digits_pass p (length ds) (ds ++ replicate k 7) ≡ true
passes p [] k all h = sevens p k
passes false (d ∷ ds) k all h =
    rw (no_eq d 7 (omega (arith, all.0)), passes false ds k all.1 (λ e. cc)) refl
passes true (d ∷ ds) k all h =
    let one : d ≢ 1 = λ e. h refl (rw e refl) in
    rw (no_eq d 7 (omega (arith, all.0)), no_eq d 1 one)
    (passes_more (d == 0) d ds k refl (h refl) (λ q h'. passes q ds k all.1 h'))

-- ---- what `new` decides

pub code_valid : (m : ℕ) → m / 2 ^ 56 ≡ 8 → base_in m < 122
    → digits_pass (is_pentagon_base (base_in m)) (resolution_in m) (digits_in m) ≡ true → IsCellNumber m
unfolding digits_in address_in number_of
code_valid m mode base code =
    let len = length-last_digits 8 15 m in
    let small : resolution_in m < 16 = mod_below (m / 2 ^ 52) 16 (omega arith) in
    let s =
    shown (is_pentagon_base (base_in m)) (resolution_in m) (last_digits 8 15 m) (omega arith)
    (below-last_digits 8 15 m (lit< tt)) code in
    let size : length (take (resolution_in m) (last_digits 8 15 m)) ≡ resolution_in m =
    length-take-le (resolution_in m) (last_digits 8 15 m) (omega arith) in
    let digits : padded (take (resolution_in m) (last_digits 8 15 m)) ≡ last_digits 8 15 m =
    rw size (sym (rw len at s.rest)) in
    record {
      is = rw (digits, size, number-last_digits 8 15 m (lit< tt)) (omega arith);
      valid =
          record { base_small = base; coarse = rw size small; digits_small = s.small; not_deleted = λ t. s.not_one t };
    }

pub code_of : (m : ℕ) → (n : Address) → IsCell n → number_of n ≡ m
    → (m / 2 ^ 56 ≡ 8) × (base_in m < 122)
    × (digits_pass (is_pentagon_base (base_in m)) (resolution_in m) (digits_in m) ≡ true)
unfolding digits_in
code_of m n h e =
    rw (← e, base-number_of n h, resolution-number_of n h, digits-number_of n h) (
      mode-number_of n h,
      h.base_small,
      passes (is_pentagon_base n.base) n.digits (15 - length n.digits) h.digits_small (λ t. h.not_deleted t),
    )
