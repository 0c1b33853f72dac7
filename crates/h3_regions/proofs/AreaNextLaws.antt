-- Cells that are counted by areas one after another.
use Rattle.std.specs.List.{range_with_len}
use Rattle.std.proofs.Common.{ℕ, ◌≡◌, ◌+◌, ◌<◌, List, [], ◌∷◌, ◌++◌, length, take, take_all, set, ap, ◌∙◌, arith, get_or, length-append}
use Rattle.std.proofs.lemmas.List.FromFn.{get_or-map-range_with_len}
use Rattle.h3_index.specs.Cell.{Address}
use Rattle.h3_set.specs.Laws.{AncestorsAreFound}
use Rattle.h3_regions.specs.Areas.{LiesIn}
use Rattle.h3_regions.specs.AreaCounting.{AreAreaCounts, count_in_area}
use Rattle.h3_regions.proofs.AreaCountingLaws.{as_numbered, counted, IsCountingAreas, uncounted}
use Rattle.h3_regions.proofs.CountingLaws.{all_of_one, at_end, take_all_of}

-- counts of a list, as the first cells of a longer one
begun : (areas : List (Address × ℕ)) (cells more : List Address) (counts : List ℕ) (none : ℕ)
    → AreAreaCounts areas cells counts none
    → IsCountingAreas areas (cells ++ more) (length counts) counts none (length cells)
begun areas cells more counts none h = record {
  size_is = omega arith;
  each = λ n lt. rw (take_all_of cells more)
      (ap (λ l. get_or l n 0) h.each
      ∙ get_or-map-range_with_len (count_in_area areas cells) 0 (length counts) n n 0 lt (omega arith));
  others = rw (take_all_of cells more) h.others;
  total = h.all;
}

ended : (areas : List (Address × ℕ)) (cells : List Address) (x : Address) (counts : List ℕ) (size none : ℕ)
    → IsCountingAreas areas (cells ++ x ∷ []) size counts none (length cells + 1)
    → AreAreaCounts areas (cells ++ x ∷ []) counts none
ended areas cells x counts size none h =
    let whole = all_of_one cells x in
    record {
      each =
          as_numbered (count_in_area areas (cells ++ x ∷ [])) counts (length counts) (omega arith)
          (λ n lt. rw whole at (h.each n (omega (arith, lt, h.size_is))));
      others = rw whole at h.others;
      all = omega (arith, h.total, length-append cells (x ∷ []));
    }

module _ (found : AncestorsAreFound) (areas : List (Address × ℕ)) (counts : List ℕ) (none : ℕ) (x : Address) where
  pub one_in_area : (n : ℕ) → n < length counts → LiesIn areas x n → ((m : ℕ) → LiesIn areas x m → n ≡ m)
      → (cells : List Address) → AreAreaCounts areas cells counts none
      → AreAreaCounts areas (cells ++ x ∷ []) (set counts n (get_or counts n 0 + 1)) none
  one_in_area n lt lies one cells h =
      ended areas cells x _ (length counts) _
      (counted found areas (cells ++ x ∷ []) (length counts) counts none (length cells) x
      (omega (arith, length-append cells (x ∷ []))) (at_end cells x) (begun areas cells (x ∷ []) counts none h) n lt
      lies one)

  pub one_in_none : ((n : ℕ) → ¬ LiesIn areas x n) → (cells : List Address) → AreAreaCounts areas cells counts none
      → AreAreaCounts areas (cells ++ x ∷ []) counts (none + 1)
  one_in_none out cells h =
      ended areas cells x _ (length counts) _
      (uncounted found areas (cells ++ x ∷ []) (length counts) counts none (length cells) x
      (omega (arith, length-append cells (x ∷ []))) (at_end cells x) (begun areas cells (x ∷ []) counts none h) out)
