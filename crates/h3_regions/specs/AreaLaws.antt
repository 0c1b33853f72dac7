-- Laws of areas.
use Rattle.std.specs.Prelude.{ℕ, ◌≡◌, ◌+◌, ◌<◌, ◌↔◌, List, Contains, IsPermutation, length, map, sum, false, true}
use Rattle.std.specs.List.{flat_map, range_with_len}
use Rattle.h3_index.specs.Cell.{Address, resolution}
use Rattle.h3_regions.specs.Areas.{AreAlike, AreApart, AreAreasOf, areas_of, lies_in, LiesIn}
use Rattle.h3_regions.specs.AreaCounting.{count_in_area, count_in_none}
use Rattle.h3_regions.specs.Refusals.{has_clash}

-- AreasAreListed: `areas_of` lists the areas of a cell, and no other list does
pub record AreasAreListed : Type 0 where
  pub are : (areas : List (Address × ℕ)) (x : Address) → resolution x < 16
      → AreAreasOf areas x (areas_of areas x)
  pub only : (areas : List (Address × ℕ)) (x : Address) (list : List ℕ) → resolution x < 16
      → AreAreasOf areas x list → list ≡ areas_of areas x

-- ClashesAreFound: the test `has_clash` is false exactly if no two areas overlap
abbrev pub ClashesAreFound : Type 0
ClashesAreFound = (areas : List (Address × ℕ)) → (has_clash areas ≡ false) ↔ AreApart areas

-- AreasAreTested: the test `lies_in` is true exactly if a cell lies in the area
abbrev pub AreasAreTested : Type 0
AreasAreTested = (areas : List (Address × ℕ)) (x : Address) (n : ℕ) → (lies_in areas x n ≡ true) ↔ LiesIn areas x n

-- AreasInAnyOrder: neither in which areas a cell lies, nor their list, nor whether two overlap depends on the order of
-- the pairs
pub record AreasInAnyOrder : Type 0 where
  pub lies : (areas others : List (Address × ℕ)) → IsPermutation areas others
      → (x : Address) (n : ℕ) → LiesIn areas x n ↔ LiesIn others x n
  pub listed : (areas others : List (Address × ℕ)) → IsPermutation areas others
      → (x : Address) → resolution x < 16 → areas_of areas x ≡ areas_of others x
  pub apart : (areas others : List (Address × ℕ)) → IsPermutation areas others → AreApart areas → AreApart others

-- OneAreaAtMost: if no two areas overlap, a cell lies in one at most
abbrev pub OneAreaAtMost : Type 0
OneAreaAtMost =
    (areas : List (Address × ℕ)) (x : Address) (m n : ℕ) → AreApart areas
    → LiesIn areas x m → LiesIn areas x n → m ≡ n

-- AreaCountsInParts: the counts of the parts of a list, divided in any way, add up to those of the whole
pub record AreaCountsInParts : Type 0 where
  pub area : (areas : List (Address × ℕ)) (n : ℕ) (cells : List Address) (parts : List (List Address))
      → IsPermutation cells (flat_map (λ part. part) parts)
      → count_in_area areas cells n ≡ sum (map (λ part. count_in_area areas part n) parts)
  pub others : (areas : List (Address × ℕ)) (cells : List Address) (parts : List (List Address))
      → IsPermutation cells (flat_map (λ part. part) parts)
      → count_in_none areas cells ≡ sum (map (count_in_none areas) parts)

-- AreaCountsAddUp: if no two areas overlap, the counts of all areas, whose numbers are below a size, and the number of
-- cells in none add up to the number of cells
abbrev pub AreaCountsAddUp : Type 0
AreaCountsAddUp =
    (areas : List (Address × ℕ)) (cells : List Address) (size : ℕ) → AreApart areas
    → ((c : Address) (n : ℕ) → Contains areas (c, n) → n < size)
    → sum (map (count_in_area areas cells) (range_with_len 0 size)) + count_in_none areas cells ≡ length cells

-- AlikeAreas: areas in which each cell lies alike have the same counts, and, if no two overlap, the same list for each
-- cell
pub record AlikeAreas : Type 0 where
  pub counted : (areas others : List (Address × ℕ)) → AreAlike areas others
      → (cells : List Address) (n : ℕ) → count_in_area areas cells n ≡ count_in_area others cells n
  pub none : (areas others : List (Address × ℕ)) → AreAlike areas others
      → (cells : List Address) → count_in_none areas cells ≡ count_in_none others cells
  pub listed : (areas others : List (Address × ℕ)) → AreAlike areas others → AreApart areas → AreApart others
      → (x : Address) → resolution x < 16 → areas_of areas x ≡ areas_of others x
