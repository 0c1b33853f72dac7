-- Cells that are counted by areas that may overlap, one after another. Implementations that state these laws, private
-- contracts and proofs alone cite this file.
use Rattle.std.proofs.Common.{◌≡◌, ◌∙◌, ◌<◌, ℕ, List, [], ◌++◌, append-nil, append_assoc, get_or, length, refl, subst, sym}
use Rattle.h3_index.specs.Cell.{Address}
use Rattle.h3_regions.specs.AreaCounting.{count_in_area, count_in_none}

-- these are the counts of areas, by their numbers, and this is how many lie in none, of the cells of a list; a cell
-- counts in each of its areas
pub record AreCountsByAreas (areas : List (Address × ℕ)) (cells : List Address) (counts : List ℕ) (none : ℕ)
    : Type 0 where
  pub each : (n d : ℕ) → n < length counts → get_or counts n d ≡ count_in_area areas cells n
  pub others : none ≡ count_in_none areas cells

-- there are as many counts as before; and whatever cells were counted before, the counts of these too
abbrev pub CountsByAreasMore : List (Address × ℕ) → List ℕ → ℕ → List Address → List ℕ → ℕ → Type 0
CountsByAreasMore areas counts none cells counts' none' =
    (length counts' ≡ length counts)
    × ((before : List Address) → AreCountsByAreas areas before counts none
    → AreCountsByAreas areas (before ++ cells) counts' none')

pub by_areas_none : (areas : List (Address × ℕ)) (counts : List ℕ) (none : ℕ)
    → CountsByAreasMore areas counts none [] counts none
by_areas_none areas counts none =
    (refl, λ before h. subst (λ cells. AreCountsByAreas areas cells counts none) (sym (append-nil before)) h)

pub by_areas_then : (areas areas' : List (Address × ℕ)) (c1 c2 c3 : List ℕ) (n1 n2 n3 : ℕ) (xs ys : List Address)
    → areas' ≡ areas → CountsByAreasMore areas c1 n1 xs c2 n2 → CountsByAreasMore areas' c2 n2 ys c3 n3
    → CountsByAreasMore areas c1 n1 (xs ++ ys) c3 n3
by_areas_then areas areas' c1 c2 c3 n1 n2 n3 xs ys same first second =
    let more = subst (λ a. CountsByAreasMore a c2 n2 ys c3 n3) same second in (
      more.0 ∙ first.0,
      λ before h. subst (λ cells. AreCountsByAreas areas cells c3 n3) (append_assoc before xs ys)
          (more.1 (before ++ xs) (first.1 before h)),
    )
