-- The counts of areas of which no two overlap add up, and areas in which cells lie alike have the same counts.
use Rattle.std.specs.List.{range_with_len}
use Rattle.std.proofs.Common.{ℕ, zero, suc, ◌≡◌, ◌+◌, ◌<◌, ◌≤◌, List, [], ◌∷◌, length, map, not, sum, take, take_all, Bool, true, false, cond, Contains, refl, arith, ◌∙◌, sym, ap, subst, inl, inr, get_or}
use Rattle.std.proofs.lemmas.Bool.{both_ways, cases_Bool}
use Rattle.h3_index.specs.Cell.{Address, resolution}
use Rattle.h3_tree.specs.Laws.{CellsFormTrees}
use Rattle.h3_set.specs.Coverage.{is_ancestor, is_covered}
use Rattle.h3_set.specs.Laws.{AncestorsAreFound}
use Rattle.h3_regions.specs.Areas.{AreAlike, AreApart, areas_of, lies_in, LiesIn}
use Rattle.h3_regions.specs.AreaCounting.{count_in_area, count_in_none}
use Rattle.h3_regions.specs.AreaLaws.{AlikeAreas, AreaCountsAddUp}
use Rattle.h3_regions.proofs.ApartLaws.{no_area, one_area}
use Rattle.h3_regions.proofs.AreaCountingLaws.{area_covers, as_numbered, counted, counting_begins, IsCountingAreas, no_area_covers, tested, uncounted}
use Rattle.h3_regions.proofs.ListLaws.{any_default}
use Rattle.h3_regions.proofs.PermutedLaws.{one_at_most}
use Rattle.h3_regions.proofs.SumLaws.{count_alike}

module _ (found : AncestorsAreFound) where
  -- a cell that is covered lies in an area
  some_area : (areas : List (Address × ℕ)) (x : Address) → is_covered (map (λ p. p.0) areas) x ≡ true
      → (n : ℕ) × LiesIn areas x n
  some_area [] x t = cc
  some_area (p ∷ areas) x t = elim (cases_Bool (is_ancestor p.0 x)) [
    | inl here ↦ (p.1, record { by = p.0; member = (0, omega arith, refl); above = (found p.0 x).0 here })
    | inr miss ↦
        let later : is_covered (map (λ q. q.0) areas) x ≡ true = rw miss at t in
        let r = some_area areas x later in
        let m = r.1.member in
        (r.0, record { by = r.1.by; member = (suc m.0, omega (arith, m.1), m.2); above = r.1.above })
  ]

  not_covered : (areas : List (Address × ℕ)) (x : Address) → is_covered (map (λ p. p.0) areas) x ≡ false → (n : ℕ)
      → ¬ LiesIn areas x n
  not_covered areas x f n h = both_ways (is_covered (map (λ p. p.0) areas) x) f (area_covers found areas x n h)

  module _ (tree : CellsFormTrees) (areas : List (Address × ℕ)) (cells : List Address) (size : ℕ)
      (apart : AreApart areas) (small : (c : Address) (n : ℕ) → Contains areas (c, n) → n < size) where
    all_counted : (k : ℕ) → k ≤ length cells
        → (counts : List ℕ) × (none : ℕ) × IsCountingAreas areas cells size counts none k
    all_counted zero le = (_, 0, counting_begins areas cells size)
    all_counted (suc k) le =
        let r = all_counted k (omega (arith, le)) in
        let d : Address = record { base = 0; digits = [] } in
        let x = get_or cells k d in
        let lt : k < length cells = omega (arith, le) in
        let next : k + 1 ≡ suc k = omega arith in
        elim (cases_Bool (is_covered (map (λ p. p.0) areas) (get_or cells k d))) [
          | inl t ↦
              let s = some_area areas (get_or cells k d) t in (
                _,
                r.1,
                subst (IsCountingAreas areas cells size _ r.1) next (counted found areas cells size r.0 r.1 k
                    (get_or cells k d) lt (any_default cells k d (get_or cells k d) lt) r.2 s.0
                    (small s.1.by s.0 s.1.member) s.1
                    (λ m h. one_at_most tree found areas (get_or cells k d) s.0 m apart s.1 h)),
              )
          | inr f ↦ (
            r.0,
            r.1 + 1,
            subst (IsCountingAreas areas cells size r.0 (r.1 + 1)) next (uncounted found areas cells size r.0 r.1
                k (get_or cells k d) lt (any_default cells k d (get_or cells k d) lt) r.2
                (not_covered areas (get_or cells k d) f)),
          )
        ]

  pub add_up : CellsFormTrees → AreaCountsAddUp
  add_up tree areas cells size apart small =
      let r = all_counted tree areas cells size apart small (length cells) (omega arith) in
      let inv = r.2 in
      let whole : take (length cells) cells ≡ cells = take_all (length cells) cells (omega arith) in
      let counts : r.0 ≡ map (count_in_area areas cells) (range_with_len 0 size) =
      as_numbered (count_in_area areas cells) r.0 size inv.size_is (λ n lt. rw whole at (inv.each n lt)) in
      let none : r.1 ≡ count_in_none areas cells = rw whole at inv.others in
      subst (λ l. sum l + count_in_none areas cells ≡ length cells) counts
      (subst (λ n. sum r.0 + n ≡ length cells) none inv.total)

  -- ---- areas in which cells lie alike

  lies_alike : (areas others : List (Address × ℕ)) → AreAlike areas others → (x : Address) (n : ℕ)
      → lies_in areas x n ≡ lies_in others x n
  lies_alike areas others alike x n = elim (cases_Bool (lies_in others x n)) [
    | inl t ↦ (tested found areas x n).1 ((alike x n).1 ((tested found others x n).0 t)) ∙ sym t
    | inr f ↦ elim (cases_Bool (lies_in areas x n)) [
      | inl t ↦
          absurd
          (both_ways (lies_in others x n) f
          ((tested found others x n).1 ((alike x n).0 ((tested found areas x n).0 t))))
      | inr g ↦ g ∙ sym f
    ]
  ]

  covered_alike : (areas others : List (Address × ℕ)) → AreAlike areas others → (x : Address)
      → is_covered (map (λ p. p.0) areas) x ≡ is_covered (map (λ p. p.0) others) x
  covered_alike areas others alike x = elim (cases_Bool (is_covered (map (λ p. p.0) areas) x)) [
    | inl t ↦ let s = some_area areas x t in t ∙ sym (area_covers found others x s.0 ((alike x s.0).0 s.1))
    | inr f ↦ f ∙ sym (no_area_covers found others x (λ n h. not_covered areas x f n ((alike x n).1 h)))
  ]

  list_alike : CellsFormTrees → (areas others : List (Address × ℕ)) → AreAlike areas others → AreApart areas
      → AreApart others → (x : Address) → resolution x < 16 → areas_of areas x ≡ areas_of others x
  list_alike tree areas others alike apart also x coarse = elim (cases_Bool (is_covered (map (λ p. p.0) areas) x)) [
    | inl t ↦
        let s = some_area areas x t in
        one_area tree found areas x coarse s.0 s.1 (λ n h. one_at_most tree found areas x s.0 n apart s.1 h)
        ∙ sym (one_area tree found others x coarse s.0 ((alike x s.0).0 s.1)
        (λ n h. one_at_most tree found others x s.0 n also ((alike x s.0).0 s.1) h))
    | inr f ↦
        no_area tree found areas x coarse (not_covered areas x f)
        ∙ sym (no_area tree found others x coarse (λ n h. not_covered areas x f n ((alike x n).1 h)))
  ]

  pub alike_areas : CellsFormTrees → AlikeAreas
  alike_areas tree = record {
    counted = λ areas others alike cells n.
        count_alike (λ x. lies_in areas x n) (λ x. lies_in others x n) cells (λ x. lies_alike areas others alike x n);
    none = λ areas others alike cells.
        count_alike (λ x. not (is_covered (map (λ p. p.0) areas) x)) (λ x. not (is_covered (map (λ p. p.0) others) x))
        cells (λ x. ap not (covered_alike areas others alike x));
    listed = list_alike tree;
  }
