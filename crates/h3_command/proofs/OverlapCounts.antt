-- Cells that are counted by areas that may overlap.
use Rattle.std.specs.List.{count_by}
use Rattle.std.proofs.Common.{ℕ, ◌≡◌, ◌+◌, ◌<◌, ◌≤◌, List, [], ◌∷◌, ◌++◌, All, Bool, Contains, length, map, not, cond, true, false, replicate, refl, arith, ◌∙◌, sym, ap, inl, inr, get_or}
use Rattle.std.proofs.lemmas.Bool.{both_ways, cases_Bool}
use Rattle.std.proofs.lemmas.List.{get_or-replicate, length-replicate}
use Rattle.std.proofs.lemmas.List.Elements.{Contains-get_or}
use Rattle.std.specs.List.{range_with_len}
use Rattle.h3_index.specs.Cell.{Address}
use Rattle.h3_regions.specs.AreaCounting.{count_in_area}
use Rattle.h3_regions.specs.AreaLaws.{AreasAreTested}
use Rattle.h3_regions.specs.Areas.{AreAreasOf, lies_in}
use Rattle.h3_set.specs.Coverage.{is_covered}
use Rattle.h3_command.specs.AreaCounts.{area_count, area_counts}
use Rattle.h3_command.specs.AreaSums.{is_outside}
use Rattle.h3_command.specs.AreaTally.{named_counts}
use Rattle.h3_command.specs.OverlapTally.{AreCountsByAreas}
use Rattle.h3_command.proofs.AreasCounted.{alike_below}
use Rattle.h3_command.proofs.Summing.{count_append, covers_in, lies_in_some}

-- no cell is counted at first
pub nothing_counted_by_areas : (areas : List (Address × ℕ)) (n : ℕ)
    → AreCountsByAreas areas [] (replicate {A = ℕ} n 0) 0
nothing_counted_by_areas areas n = record {
  each = λ k d lt. get_or-replicate n k 0 d (omega (arith, lt, length-replicate {A = ℕ} n 0));
  others = refl;
}

-- ---- one cell more

one_passes : (test : Address → Bool) (cells : List Address) (x : Address) → test x ≡ true
    → count_by test (cells ++ x ∷ []) ≡ count_by test cells + 1
one_passes test cells x is =
    let more : count_by test (cells ++ x ∷ []) ≡ count_by test cells + (0 + cond true 1 0) =
    count_append test cells (x ∷ []) ∙ ap (λ t. count_by test cells + (0 + cond t 1 0)) is in
    omega (arith, more)

one_misses : (test : Address → Bool) (cells : List Address) (x : Address) → test x ≡ false
    → count_by test (cells ++ x ∷ []) ≡ count_by test cells
one_misses test cells x is =
    let more : count_by test (cells ++ x ∷ []) ≡ count_by test cells + (0 + cond false 1 0) =
    count_append test cells (x ∷ []) ∙ ap (λ t. count_by test cells + (0 + cond t 1 0)) is in
    omega (arith, more)

module _ (tested : AreasAreTested) (areas : List (Address × ℕ)) (x : Address) (list : List ℕ)
    (are : AreAreasOf areas x list) (old new : List ℕ) (size : length new ≡ length old)
    (more : (n d : ℕ) → Contains list n → get_or new n d ≡ get_or old n d + 1)
    (same : (n d : ℕ) → (¬ Contains list n) → get_or new n d ≡ get_or old n d) where
  listed : (n : ℕ) → lies_in areas x n ≡ true → Contains list n
  listed n t = (are.each n).1 ((tested areas x n).0 t)

  unlisted : (n : ℕ) → lies_in areas x n ≡ false → ¬ Contains list n
  unlisted n f m = both_ways (lies_in areas x n) f ((tested areas x n).1 ((are.each n).0 m))

  pub few_counted : (taken : ℕ) → All (λ k. k ≤ taken) old → All (λ k. k ≤ taken + 1) new
  few_counted taken few = λ n d lt.
      let was : get_or old n d ≤ taken = few n d (omega (arith, lt, size)) in
      elim (cases_Bool (lies_in areas x n)) [
        | inl t ↦ omega (arith, more n d (listed n t), was)
        | inr f ↦ omega (arith, same n d (unlisted n f), was)
      ]

  each_counted : (none : ℕ) (cells : List Address) → AreCountsByAreas areas cells old none → (n d : ℕ)
      → n < length new → get_or new n d ≡ count_in_area areas (cells ++ x ∷ []) n
  each_counted none cells was n d lt =
      let before = was.each n d (omega (arith, lt, size)) in
      elim (cases_Bool (lies_in areas x n)) [
        | inl t ↦
            more n d (listed n t) ∙ ap (λ k. k + 1) before ∙ sym (one_passes (λ y. lies_in areas y n) cells x t)
        | inr f ↦ same n d (unlisted n f) ∙ before ∙ sym (one_misses (λ y. lies_in areas y n) cells x f)
      ]

  -- it lies in an area
  pub some_counted : (none : ℕ) (cells : List Address) → 0 < length list → AreCountsByAreas areas cells old none
      → AreCountsByAreas areas (cells ++ x ∷ []) new none
  some_counted none cells some was =
      let lies = (are.each (get_or list 0 0)).0 (Contains-get_or list 0 0 some) in
      let covered = covers_in areas x (get_or list 0 0) ((tested areas x (get_or list 0 0)).1 lies) in
      record {
        each = each_counted none cells was;
        others = was.others ∙ sym (one_misses (is_outside areas) cells x (ap not covered));
      }

  -- it lies in none
  pub none_counted : (none : ℕ) (cells : List Address) → length list ≡ 0 → AreCountsByAreas areas cells old none
      → AreCountsByAreas areas (cells ++ x ∷ []) new (none + 1)
  none_counted none cells empty was =
      let uncovered : is_covered (map (λ p. p.0) areas) x ≡ false =
      elim (cases_Bool (is_covered (map (λ p. p.0) areas) x)) [
        | inl t ↦ let some = lies_in_some areas x t in let m =
            listed some.0 some.1 in absurd (omega (arith, m.1, empty))
        | inr f ↦ f
      ] in
      record {
        each = each_counted none cells was;
        others = ap (λ n. n + 1) was.others ∙ sym (one_passes (is_outside areas) cells x (ap not uncovered));
      }

-- ---- the rows

-- the counts that were made are those of the areas
pub counts_by_areas_named : (names : List (List ℕ)) (none : List ℕ) (areas : List (Address × ℕ))
    (cells : List Address) (counts : List ℕ) (others : ℕ)
    → length counts ≡ length names → AreCountsByAreas areas cells counts others
    → named_counts names counts (length counts) ++ (none, others) ∷ [] ≡ area_counts none names areas cells
counts_by_areas_named names none areas cells counts others long h =
    let f : ℕ → List ℕ × ℕ = λ k. (get_or names k [], get_or counts k 0) in
    let g : ℕ → List ℕ × ℕ = area_count names areas cells in
    let same : (k : ℕ) → k < length counts → f k ≡ g k =
    λ k lt. ap (λ n. (get_or names k [], n)) (h.each k 0 lt) in
    ap (λ l. l ++ (none, others) ∷ []) (alike_below f g (length counts) same)
    ∙ ap (λ n. map g (range_with_len 0 n) ++ (none, others) ∷ []) long
    ∙ ap (λ n. map g (range_with_len 0 (length names)) ++ (none, n) ∷ []) h.others
