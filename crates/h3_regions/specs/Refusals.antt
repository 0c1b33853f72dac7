-- Which areas are refused where none may overlap.
use Rattle.std.specs.Prelude.{ℕ, List, [], ◌∷◌, Bool, false, ◌&&◌, ◌||◌, ◌==◌, not, Option, Some, None, if◌then◌else◌}
use Rattle.std.specs.List.{list_any}
use Rattle.h3_index.specs.Cell.{Address}
use Rattle.h3_index.specs.declared.error.H3Error.{H3Error}
use Rattle.h3_index.specs.declared.error.H3Error.TheVariants.{DuplicateInput}
use Rattle.h3_set.specs.Refusals.{overlaps}

-- clash p q: two pairs are of different areas, and their cells overlap
abbrev pub clash : (Address × ℕ) → (Address × ℕ) → Bool
clash p q = not (p.1 == q.1) && overlaps p.0 q.0

-- has_clash areas: two areas overlap, as a test
abbrev pub has_clash : List (Address × ℕ) → Bool
has_clash [] = false
has_clash (p ∷ areas) = list_any (clash p) areas || has_clash areas

-- areas_refusal areas: areas of which two overlap are refused, with H3's error 10, and no others
abbrev pub areas_refusal : List (Address × ℕ) → Option H3Error
areas_refusal areas = if has_clash areas then Some DuplicateInput else None
