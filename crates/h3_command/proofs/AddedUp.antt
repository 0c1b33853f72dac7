-- The sums of areas add up to the sum of all numbers.
use Rattle.std.proofs.Common.{ℕ, zero, suc, ◌≡◌, ◌≢◌, ◌+◌, ◌<◌, ◌≤◌, List, [], ◌∷◌, map, not, cond, Contains, Bool, true, false, refl, arith, ◌∙◌, sym, ap, inl, inr}
use Rattle.std.specs.Prelude.{ℤ, pos, ◌+ℤ◌}
use Rattle.std.specs.List.{filter, range_with_len}
use Rattle.std.proofs.Math.IntN.{+ℤ_assoc, +ℤ_comm, +ℤ_idl, +ℤ_idr}
use Rattle.std.proofs.lemmas.Bool.{both_ways, cases_Bool, cases_eq}
use Rattle.h3_index.specs.Cell.{Address}
use Rattle.h3_numbers.specs.Laws.{TotalsInParts}
use Rattle.h3_numbers.specs.Sum.{total}
use Rattle.h3_regions.specs.AreaLaws.{AreasAreTested, OneAreaAtMost}
use Rattle.h3_regions.specs.Areas.{AreApart, LiesIn, lies_in}
use Rattle.h3_set.specs.Coverage.{is_covered}
use Rattle.h3_command.specs.AreaSums.{Amount, AreaSumsAddUp, AreaSumsInParts, is_outside, sum_in_area, sum_in_none, sum_where}
use Rattle.h3_command.proofs.Summing.{covers_in, lies_in_some, sum_append}

pub sums_in_parts : TotalsInParts → AreaSumsInParts
sums_in_parts law = record {
  area = λ areas n xs ys. sum_append law (λ x. lies_in areas x n) xs ys;
  none = λ areas xs ys. sum_append law (is_outside areas) xs ys;
}

-- ---- one number among none

-- a number, or 0
abbrev pub if_so : ℤ → Bool → ℤ
if_so v b = cond b v (pos 0)

none_so : (v : ℤ) (p : ℕ → Bool) (a n : ℕ) → ((k : ℕ) → a ≤ k → k < a + n → p k ≡ false)
    → total (map (λ k. if_so v (p k)) (range_with_len a n)) ≡ pos 0
none_so v p a zero h = refl
none_so v p a (suc n) h =
    let first : if_so v (p a) ≡ pos 0 = ap (if_so v) (h a (omega arith) (omega arith)) in
    let rest = none_so v p (a + 1) n (λ k le lt. h k (omega (arith, le)) (omega (arith, lt))) in
    ap (λ f. f +ℤ total (map (λ k. if_so v (p k)) (range_with_len (a + 1) n))) first
    ∙ +ℤ_idl (total (map (λ k. if_so v (p k)) (range_with_len (a + 1) n))) ∙ rest

one_so : (v : ℤ) (p : ℕ → Bool) (a n m : ℕ) → a ≤ m → m < a + n → p m ≡ true → ((k : ℕ) → k ≢ m → p k ≡ false)
    → total (map (λ k. if_so v (p k)) (range_with_len a n)) ≡ v
one_so v p a zero m le lt t h = absurd (omega (arith, le, lt))
one_so v p a (suc n) m le lt t h =
    elim (cases_eq m a) [
      | inl e ↦
          let here : p a ≡ true = ap p (sym e) ∙ t in
          let first : if_so v (p a) ≡ v = ap (if_so v) here in
          let rest = none_so v p (a + 1) n (λ k kl kt. h k (λ same. omega (arith, same, e, kl))) in
          ap (λ f. f +ℤ total (map (λ k. if_so v (p k)) (range_with_len (a + 1) n))) first ∙ ap (λ r. v +ℤ r) rest
          ∙ +ℤ_idr v
      | inr ne ↦
          let miss : if_so v (p a) ≡ pos 0 = ap (if_so v) (h a (λ same. ne (sym same))) in
          let more : a + 1 ≤ m = omega (arith, le, ne) in
          let rest = one_so v p (a + 1) n m more (omega (arith, lt)) t h in
          ap (λ f. f +ℤ total (map (λ k. if_so v (p k)) (range_with_len (a + 1) n))) miss
          ∙ +ℤ_idl (total (map (λ k. if_so v (p k)) (range_with_len (a + 1) n))) ∙ rest
    ]

-- ---- a cell before others

pub sum_cons : (test : Address → Bool) (a : Amount) (more : List Amount)
    → sum_where test (a ∷ more) ≡ if_so a.1 (test a.0) +ℤ sum_where test more
sum_cons test a more =
    let rest = filter (λ (b : Amount). test b.0) more in
    let go : (t : Bool) → total (map (λ (b : Amount). b.1) (cond t (a ∷ rest) rest))
    ≡ if_so a.1 t +ℤ sum_where test more =
    λ t. elim t as (λ t. total (map (λ (b : Amount). b.1) (cond t (a ∷ rest) rest))
    ≡ if_so a.1 t +ℤ sum_where test more) [ true ↦ refl | false ↦ sym (+ℤ_idl (sum_where test more)) ] in
    go (test a.0)

pub swapped : (a b c d : ℤ) → (a +ℤ b) +ℤ (c +ℤ d) ≡ (a +ℤ c) +ℤ (b +ℤ d)
swapped a b c d =
    +ℤ_assoc a b (c +ℤ d)
    ∙ ap (λ l. a +ℤ l) (sym (+ℤ_assoc b c d) ∙ ap (λ l. l +ℤ d) (+ℤ_comm b c) ∙ +ℤ_assoc c b d)
    ∙ sym (+ℤ_assoc a c (b +ℤ d))

pub both_totals : {A : Type 0} (f g h : A → ℤ) (ks : List A) → ((k : A) → f k ≡ g k +ℤ h k)
    → total (map f ks) ≡ total (map g ks) +ℤ total (map h ks)
both_totals f g h [] is = refl
both_totals f g h (k ∷ ks) is =
    ap (λ l. l +ℤ total (map f ks)) (is k) ∙ ap (λ l. (g k +ℤ h k) +ℤ l) (both_totals f g h ks is)
    ∙ swapped (g k) (h k) (total (map g ks)) (total (map h ks))

module _ (tested : AreasAreTested) (one : OneAreaAtMost) (areas : List (Address × ℕ)) (size : ℕ)
    (apart : AreApart areas)
    (small : (c : Address) (n : ℕ) → Contains areas (c, n) → n < size) where
  -- a number is in the sum of one area, or in that of none
  once : (x : Address) (v : ℤ)
      → total (map (λ k. if_so v (lies_in areas x k)) (range_with_len 0 size)) +ℤ if_so v (is_outside areas x) ≡ v
  once x v =
      let all = total (map (λ k. if_so v (lies_in areas x k)) (range_with_len 0 size)) in
      elim (cases_Bool (is_covered (map (λ p. p.0) areas) x)) [
        | inl t ↦
            let some = lies_in_some areas x t in
            let lies : LiesIn areas x some.0 = (tested areas x some.0).0 some.1 in
            let others : (k : ℕ) → k ≢ some.0 → lies_in areas x k ≡ false =
            λ k ne. elim (cases_Bool (lies_in areas x k)) [
              | inl also ↦ absurd (ne (one areas x k some.0 apart ((tested areas x k).0 also) lies))
              | inr f ↦ f
            ] in
            let sum =
            one_so v (λ k. lies_in areas x k) 0 size some.0 (omega arith)
            (omega (arith, small lies.by some.0 lies.member)) some.1 others in
            ap (λ l. l +ℤ if_so v (is_outside areas x)) sum ∙ ap (λ b. v +ℤ if_so v (not b)) t ∙ +ℤ_idr v
        | inr f ↦
            let none : (k : ℕ) → 0 ≤ k → k < 0 + size → lies_in areas x k ≡ false =
            λ k le lt. elim (cases_Bool (lies_in areas x k)) [
              | inl t ↦ absurd (both_ways (is_covered (map (λ p. p.0) areas) x) f (covers_in areas x k t))
              | inr miss ↦ miss
            ] in
            let sum = none_so v (λ k. lies_in areas x k) 0 size none in
            ap (λ l. l +ℤ if_so v (is_outside areas x)) sum ∙ ap (λ b. pos 0 +ℤ if_so v (not b)) f ∙ +ℤ_idl v
      ]

  added_up : (amounts : List Amount)
      → total (map (sum_in_area areas amounts) (range_with_len 0 size)) +ℤ sum_in_none areas amounts
      ≡ total (map (λ a. a.1) amounts)
  added_up [] =
      ap (λ l. l +ℤ pos 0) (none_so (pos 0) (λ k. false) 0 size (λ k le lt. refl))
  added_up (a ∷ more) =
      let ks = range_with_len 0 size in
      let each =
      both_totals (sum_in_area areas (a ∷ more)) (λ k. if_so a.1 (lies_in areas a.0 k)) (sum_in_area areas more) ks
      (λ k. sum_cons (λ x. lies_in areas x k) a more) in
      let mine = total (map (λ k. if_so a.1 (lies_in areas a.0 k)) ks) in
      let rest = total (map (sum_in_area areas more) ks) in
      ap (λ l. l +ℤ sum_in_none areas (a ∷ more)) each
      ∙ ap (λ l. (mine +ℤ rest) +ℤ l) (sum_cons (is_outside areas) a more)
      ∙ swapped mine rest (if_so a.1 (is_outside areas a.0)) (sum_in_none areas more)
      ∙ ap (λ l. l +ℤ (rest +ℤ sum_in_none areas more)) (once a.0 a.1)
      ∙ ap (λ l. a.1 +ℤ l) (added_up more)

pub sums_add_up : AreasAreTested → OneAreaAtMost → AreaSumsAddUp
sums_add_up tested one areas amounts size apart small = added_up tested one areas size apart small amounts
