-- The cells of resolution 0 and the pentagons, one after the other.
use Rattle.std.proofs.Common.{◌≡◌, ◌∙◌, ◌⊎◌, inl, inr, ℕ, suc, zero, ◌+◌, ◌-◌, ◌<◌, ◌≤◌, pos, List, [], ◌∷◌, Some, None, Result, Ok, Err, MatchOption, drop, length, map, refl, sym, ap, subst, arith}
use Rattle.std.proofs.lemmas.Bool.{cases_lt}
use Rattle.std.proofs.lemmas.Bool.Decides.{nat_tests}
use Rattle.std.proofs.lemmas.Option.{slice_get_past}
use Rattle.std.specs.List.{range_with_len, slice_get}
use Rattle.std.specs.Result.{result_ok}
use Rattle.h3_index.specs.Cell.{Address}
use Rattle.h3_index.specs.Count.{base_cell, number_below, pentagons, resolution_of}
use Rattle.h3_index.specs.declared.error.H3Error.{H3Error}
use Rattle.h3_index.specs.declared.error.H3Error.TheVariants.{Domain, ResDomain}

below-some : (limit n : ℕ) → n < limit → number_below limit (pos n) ≡ Some n
unfolding number_below
below-some limit n h = grind (arith, nat_tests)

below-none : (limit n : ℕ) → limit ≤ n → number_below limit (pos n) ≡ None
unfolding number_below
below-none limit n h = grind (arith, nat_tests)

-- the cells of resolution 0 from a base cell on
abbrev pub base_cells : ℕ → List Address
base_cells n = map base_cell (range_with_len n (122 - n))

-- what `res0_cell` returns for a base cell
abbrev pub IsBaseCell : ℕ → Result Address H3Error → Type 0
IsBaseCell n r = MatchOption (number_below 122 (pos n)) (r ≡ Err Domain) (λ b. r ≡ Ok (base_cell b))

base_cells-some : (n : ℕ) → n < 122 → base_cells n ≡ base_cell n ∷ base_cells (n + 1)
base_cells-some n h = let e : 122 - n ≡ suc (122 - (n + 1)) = omega arith in rw e refl

base_cells-end : (n : ℕ) → 122 ≤ n → base_cells n ≡ []
base_cells-end n h = let e : 122 - n ≡ 0 = omega arith in rw e refl

pub base_cells-next : (n : ℕ) (r : Result Address H3Error) (c : Address) → IsBaseCell n r → result_ok r ≡ Some c
    → (n < 122) × (base_cells n ≡ c ∷ base_cells (n + 1))
base_cells-next n r c is ok = by (cases_lt n 122)
  where
    by : (n < 122) ⊎ (122 ≤ n) → (n < 122) × (base_cells n ≡ c ∷ base_cells (n + 1))
    by (inl h) =
        let found = rw (below-some 122 n h) at is in
        let same : base_cell n ≡ c = cc (sym (ap result_ok found) ∙ ok) in
        (h, base_cells-some n h ∙ ap (λ x. x ∷ base_cells (n + 1)) same)
    by (inr h) = let refused = rw (below-none 122 n h) at is in absurd (cc (sym (ap result_ok refused) ∙ ok))

pub base_cells-done : (n : ℕ) (r : Result Address H3Error) → IsBaseCell n r → result_ok r ≡ None → base_cells n ≡ []
base_cells-done n r is none = by (cases_lt n 122)
  where
    by : (n < 122) ⊎ (122 ≤ n) → base_cells n ≡ []
    by (inl h) = let found = rw (below-some 122 n h) at is in absurd (cc (sym (ap result_ok found) ∙ none))
    by (inr h) = base_cells-end n h

drop-some : {A : Type 0} (xs : List A) (n : ℕ) (x : A) → slice_get xs n ≡ Some x → drop n xs ≡ x ∷ drop (suc n) xs
drop-some [] n x e = absurd (cc e)
drop-some (y ∷ xs) zero x e = let same : y ≡ x = cc e in ap (λ z. z ∷ xs) same
drop-some (y ∷ xs) (suc n) x e = drop-some xs n x e

drop-none : {A : Type 0} (xs : List A) (n : ℕ) → slice_get xs n ≡ None → drop n xs ≡ []
drop-none [] zero e = refl
drop-none [] (suc n) e = refl
drop-none (y ∷ xs) zero e = absurd (cc e)
drop-none (y ∷ xs) (suc n) e = drop-none xs n e

twelve : (res : ℕ) → length (pentagons res) ≡ 12
unfolding pentagons
twelve res = refl

-- what `pentagon` returns for a resolution and a number
abbrev pub IsNthPentagon : ℕ → ℕ → Result Address H3Error → Type 0
IsNthPentagon res n r =
    MatchOption (resolution_of (pos res)) (r ≡ Err ResDomain)
    (λ q. MatchOption (number_below 12 (pos n)) (r ≡ Err Domain) (λ k. slice_get (pentagons q) k ≡ result_ok r))

pub pentagons-next : (res n : ℕ) (r : Result Address H3Error) (c : Address) → res ≤ 15 → IsNthPentagon res n r
    → result_ok r ≡ Some c → (n < 12) × (drop n (pentagons res) ≡ c ∷ drop (n + 1) (pentagons res))
pentagons-next res n r c low is ok = by (cases_lt n 12)
  where
    by : (n < 12) ⊎ (12 ≤ n) → (n < 12) × (drop n (pentagons res) ≡ c ∷ drop (n + 1) (pentagons res))
    by (inl h) =
        let found = rw (below-some 16 res (omega arith), below-some 12 n h) at is in
        let next : suc n ≡ n + 1 = omega arith in (
          h,
          subst (λ m. drop n (pentagons res) ≡ c ∷ drop m (pentagons res)) next
              (drop-some (pentagons res) n c (found ∙ ok)),
        )
    by (inr h) =
        let refused = rw (below-some 16 res (omega arith), below-none 12 n h) at is in
        absurd (cc (sym (ap result_ok refused) ∙ ok))

pub pentagons-done : (res n : ℕ) (r : Result Address H3Error) → res ≤ 15 → IsNthPentagon res n r → result_ok r ≡ None
    → drop n (pentagons res) ≡ []
pentagons-done res n r low is none = by (cases_lt n 12)
  where
    by : (n < 12) ⊎ (12 ≤ n) → drop n (pentagons res) ≡ []
    by (inl h) =
        let found = rw (below-some 16 res (omega arith), below-some 12 n h) at is in
        drop-none (pentagons res) n (found ∙ none)
    by (inr h) = let l = twelve res in drop-none (pentagons res) n (slice_get_past (pentagons res) n (omega (arith, l)))
