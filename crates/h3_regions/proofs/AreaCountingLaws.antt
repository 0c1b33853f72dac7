-- Counting cells by areas.
use Rattle.std.specs.List.{count_by, range_with_len}
use Rattle.std.proofs.Common.{ℕ, ◌≡◌, ◌+◌, ◌<◌, List, length, take, set, replicate, map, not, sum, Bool, true, false, refl, arith, ◌∙◌, sym, ap, subst, inl, inr, get_or}
use Rattle.std.proofs.Math.ListN.{length-set}
use Rattle.std.proofs.lemmas.Bool.{cases_eq}
use Rattle.std.proofs.lemmas.List.{get_or-map, get_or-replicate, get_or-set_other, get_or-set_same, length-map, length-replicate}
use Rattle.std.proofs.lemmas.List.FromFn.{fill_by_all}
use Rattle.std.proofs.lemmas.List.Sums.{sum_by-set}
use Rattle.h3_index.specs.Cell.{Address}
use Rattle.h3_index.specs.Descendants.{IsAncestor}
use Rattle.h3_set.specs.Coverage.{is_covered}
use Rattle.h3_set.specs.Laws.{AncestorsAreFound}
use Rattle.h3_regions.specs.Areas.{cells_of, lies_in, LiesIn}
use Rattle.h3_regions.specs.AreaLaws.{AreasAreTested, AreaCountsInParts}
use Rattle.h3_regions.proofs.CoarsestLaws.{from_cells, in_cells}
use Rattle.h3_regions.proofs.CountingLaws.{counts_more, counts_same, no_sum, parts_add_up}
use Rattle.h3_regions.proofs.ListLaws.{contains_at}
use Rattle.h3_regions.proofs.TestLaws.{covered_false, covered_true, from_covered, not_true}

module _ (found : AncestorsAreFound) where
  pub tested : AreasAreTested
  tested areas x n = (
    (λ t.
        let h = from_covered found (cells_of areas n) x t in
        record { by = h.by; member = from_cells areas n h.by h.member; above = h.above }),
    (λ h. covered_true found (cells_of areas n) x h.by (in_cells areas n h.by h.member) h.above),
  )

  lies_true : (areas : List (Address × ℕ)) (x : Address) (n : ℕ) → LiesIn areas x n → lies_in areas x n ≡ true
  lies_true areas x n h = (tested areas x n).1 h

  lies_false : (areas : List (Address × ℕ)) (x : Address) (n : ℕ) → (¬ LiesIn areas x n) → lies_in areas x n ≡ false
  lies_false areas x n h = not_true (lies_in areas x n) (λ t. h ((tested areas x n).0 t))

  -- a cell lies in an area where the cells of all areas cover it
  pub area_covers : (areas : List (Address × ℕ)) (x : Address) (n : ℕ) → LiesIn areas x n
      → is_covered (map (λ p. p.0) areas) x ≡ true
  area_covers areas x n h =
      let m = h.member in
      let room : m.0 < length (map (λ p. p.0) areas) = omega (arith, m.1, length-map areas (λ p. p.0)) in
      let cell : get_or (map (λ p. p.0) areas) m.0 h.by ≡ h.by =
      get_or-map (λ p. p.0) areas m.0 (h.by, n) h.by m.1 ∙ ap (λ p. p.0) m.2 in
      covered_true found (map (λ p. p.0) areas) x h.by (m.0, room, cell) h.above

  pub no_area_covers : (areas : List (Address × ℕ)) (x : Address) → ((n : ℕ) → ¬ LiesIn areas x n)
      → is_covered (map (λ p. p.0) areas) x ≡ false
  no_area_covers areas x none =
      covered_false found (map (λ p. p.0) areas) x (λ c m over.
      let lt : m.0 < length areas = omega (arith, m.1, length-map areas (λ p. p.0)) in
      let e : Address × ℕ = (c, 0) in
      let cell : (get_or areas m.0 e).0 ≡ c = sym (get_or-map (λ p. p.0) areas m.0 e c lt) ∙ m.2 in
      none (get_or areas m.0 e).1 (record {
        by = (get_or areas m.0 e).0;
        member = contains_at areas m.0 e (get_or areas m.0 e) lt refl;
        above = subst (λ a. IsAncestor a x) (sym cell) over;
      }))

-- the first k cells are counted
pub record IsCountingAreas (areas : List (Address × ℕ)) (cells : List Address) (size : ℕ) (counts : List ℕ)
    (none k : ℕ) : Type 0 where
  pub size_is : length counts ≡ size
  pub each : (n : ℕ) → n < size → get_or counts n 0 ≡ count_by (λ x. lies_in areas x n) (take k cells)
  pub others : none ≡ count_by (λ x. not (is_covered (map (λ p. p.0) areas) x)) (take k cells)
  pub total : sum counts + none ≡ k

module _ (found : AncestorsAreFound) (areas : List (Address × ℕ)) (cells : List Address) (size : ℕ) (counts : List ℕ)
    (none k : ℕ) (x : Address) (lt : k < length cells) (is : x ≡ get_or cells k x)
    (inv : IsCountingAreas areas cells size counts none k) where
  yes : (p : Address → Bool) → p x ≡ true → count_by p (take (k + 1) cells) ≡ count_by p (take k cells) + 1
  yes = counts_more cells k x lt is

  no_more : (p : Address → Bool) → p x ≡ false → count_by p (take (k + 1) cells) ≡ count_by p (take k cells)
  no_more = counts_same cells k x lt is

  pub counted : (n : ℕ) → n < size → LiesIn areas x n → ((m : ℕ) → LiesIn areas x m → n ≡ m)
      → IsCountingAreas areas cells size (set counts n (get_or counts n 0 + 1)) none (k + 1)
  counted n ln lies one =
      let room : n < length counts = omega (arith, ln, inv.size_is) in
      record {
        size_is = length-set counts n (get_or counts n 0 + 1) ∙ inv.size_is;
        each = λ m lm. elim (cases_eq m n) [
          | inl e ↦
              let more = yes (λ y. lies_in areas y n) (lies_true found areas x n lies) in
              rw (e, get_or-set_same counts n (get_or counts n 0 + 1) 0 room, more) (ap (λ v. v + 1) (inv.each n ln))
          | inr ne ↦
              let miss = no_more (λ y. lies_in areas y m) (lies_false found areas x m (λ h. ne (sym (one m h)))) in
              rw (get_or-set_other counts n m (get_or counts n 0 + 1) 0 ne, miss) (inv.each m lm)
        ];
        others =
            inv.others
            ∙ sym
            (no_more (λ y. not (is_covered (map (λ p. p.0) areas) y)) (ap not (area_covers found areas x n lies)));
        total = omega (arith, inv.total, sum_by-set (λ v. v) counts n (get_or counts n 0 + 1) 0 room);
      }

  pub uncounted : ((n : ℕ) → ¬ LiesIn areas x n) → IsCountingAreas areas cells size counts (none + 1) (k + 1)
  uncounted out = record {
    size_is = inv.size_is;
    each = λ m lm. inv.each m lm ∙ sym (no_more (λ y. lies_in areas y m) (lies_false found areas x m (out m)));
    others =
        ap (λ v. v + 1) inv.others
        ∙ sym (yes (λ y. not (is_covered (map (λ p. p.0) areas) y)) (ap not (no_area_covers found areas x out)));
    total = omega (arith, inv.total);
  }

pub counting_begins : (areas : List (Address × ℕ)) (cells : List Address) (size : ℕ)
    → IsCountingAreas areas cells size (replicate {A = ℕ} size 0) 0 0
counting_begins areas cells size = record {
  size_is = length-replicate size 0;
  each = λ n lt. get_or-replicate size n 0 0 lt;
  others = refl;
  total = omega (arith, no_sum size);
}

pub small_number : (areas : List (Address × ℕ)) (size : ℕ) (x : Address) (n : ℕ)
    → ((k : ℕ) (d : Address × ℕ) → k < length areas → (get_or areas k d).1 < size) → LiesIn areas x n → n < size
small_number areas size x n small h =
    let m = h.member in
    let lt = small m.0 (h.by, n) m.1 in
    let e : (get_or areas m.0 (h.by, n)).1 ≡ n = ap (λ p. p.1) m.2 in
    omega (arith, lt, e)

-- counts by number
pub as_numbered : (f : ℕ → ℕ) (counts : List ℕ) (size : ℕ) → length counts ≡ size
    → ((n : ℕ) → n < size → get_or counts n 0 ≡ f n) → counts ≡ map f (range_with_len 0 size)
as_numbered f counts size e h = fill_by_all f counts size 0 e h

-- ---- in parts

pub counts_in_parts : AreaCountsInParts
counts_in_parts = record {
  area = λ areas n cells parts same. parts_add_up (λ x. lies_in areas x n) cells parts same;
  others = λ areas cells parts same. parts_add_up (λ x. not (is_covered (map (λ p. p.0) areas) x)) cells parts same;
}
