-- Cells that are counted by areas one after another, and the rows of the counts. Private contracts and proofs alone
-- cite this file.
use Rattle.std.proofs.Common.{◌≡◌, ◌∙◌, ℕ, List, [], ◌++◌, append-nil, append_assoc, get_or, length, map, refl, subst, sym}
use Rattle.std.specs.List.{range_with_len}
use Rattle.h3_index.specs.Cell.{Address}
use Rattle.h3_regions.specs.AreaCounting.{AreAreaCounts}

-- there are as many counts as before; and whatever cells were counted before, the counts of these too
abbrev pub AreaCountsMore : List (Address × ℕ) → List ℕ → ℕ → List Address → List ℕ → ℕ → Type 0
AreaCountsMore areas counts none cells counts' none' =
    (length counts' ≡ length counts)
    × ((before : List Address) → AreAreaCounts areas before counts none
    → AreAreaCounts areas (before ++ cells) counts' none')

pub area_counts_none : (areas : List (Address × ℕ)) (counts : List ℕ) (none : ℕ)
    → AreaCountsMore areas counts none [] counts none
area_counts_none areas counts none =
    (refl, λ before h. subst (λ cells. AreAreaCounts areas cells counts none) (sym (append-nil before)) h)

pub area_counts_then : (areas areas' : List (Address × ℕ)) (c1 c2 c3 : List ℕ) (n1 n2 n3 : ℕ) (xs ys : List Address)
    → areas' ≡ areas → AreaCountsMore areas c1 n1 xs c2 n2 → AreaCountsMore areas' c2 n2 ys c3 n3
    → AreaCountsMore areas c1 n1 (xs ++ ys) c3 n3
area_counts_then areas areas' c1 c2 c3 n1 n2 n3 xs ys same first second =
    let more = subst (λ a. AreaCountsMore a c2 n2 ys c3 n3) same second in (
      more.0 ∙ first.0,
      λ before h. subst (λ cells. AreAreaCounts areas cells c3 n3) (append_assoc before xs ys)
          (more.1 (before ++ xs) (first.1 before h)),
    )

-- the first n names, each with the count at its number
abbrev pub named_counts : List (List ℕ) → List ℕ → ℕ → List (List ℕ × ℕ)
named_counts names counts n = map (λ k. (get_or names k [], get_or counts k 0)) (range_with_len 0 n)
