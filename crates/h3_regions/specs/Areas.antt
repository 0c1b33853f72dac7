-- Areas: numbered lists of cells. A list of pairs of a cell and a number gives them all: a pair says that the cell is
-- one of the area with that number. The cells of an area may repeat and overlap.
use Rattle.std.specs.Prelude.{ℕ, ◌≡◌, ◌≢◌, ◌+◌, ◌<◌, ◌⊎◌, ◌↔◌, ◌==◌, List, [], ◌∷◌, AllPairs, Bool, Contains, map, max, min, if◌then◌else◌}
use Rattle.std.specs.List.{filter, flat_map, range_with_len}
use Rattle.h3_index.specs.Cell.{Address, resolution}
use Rattle.h3_index.specs.Descendants.{IsAncestor}
use Rattle.h3_set.specs.Coverage.{is_ancestor, is_covered, Overlap}

-- cells_of areas n: the cells of an area
abbrev pub cells_of : List (Address × ℕ) → ℕ → List Address
cells_of areas n = map (λ p. p.0) (filter (λ p. p.1 == n) areas)

-- LiesIn areas x n: a cell of the area is x or an ancestor of x
--
-- a cell lies in an area where one of the area's cells is it or an ancestor of it
pub record LiesIn (areas : List (Address × ℕ)) (x : Address) (n : ℕ) : Type 0 where
  pub by : Address
  pub member : Contains areas (by, n)
  pub above : IsAncestor by x

-- lies_in areas x n: the test of `LiesIn`: the cells of the area cover x
abbrev pub lies_in : List (Address × ℕ) → Address → ℕ → Bool
lies_in areas x n = is_covered (cells_of areas n) x

-- coarsest_above cells x: the resolution of the coarsest cell of a list that is x or above it; 16 if there is none
abbrev pub coarsest_above : List Address → Address → ℕ
coarsest_above [] x = 16
coarsest_above (c ∷ cells) x =
    if is_ancestor c x then min (resolution c) (coarsest_above cells x) else coarsest_above cells x

-- coarsest areas x n: the same of the cells of an area
abbrev pub coarsest : List (Address × ℕ) → Address → ℕ → ℕ
coarsest areas x n = coarsest_above (cells_of areas n) x

-- IsBefore areas x m n: of two areas of x, the one whose coarsest cell above x has the coarser resolution comes
-- first; if these are the same, the one with the lower number
abbrev pub IsBefore : List (Address × ℕ) → Address → ℕ → ℕ → Type 0
IsBefore areas x m n =
    (coarsest areas x m < coarsest areas x n) ⊎ ((coarsest areas x m ≡ coarsest areas x n) × (m < n))

-- AreAreasOf areas x list: the areas that x lies in and no others, in that order, so each once
--
-- the areas of x are those in which it lies, each once: in order of the resolution of the coarsest cell of the area
-- that covers x, and of areas of one such resolution in the areas' order
pub record AreAreasOf (areas : List (Address × ℕ)) (x : Address) (list : List ℕ) : Type 0 where
  pub each : (n : ℕ) → Contains list n ↔ LiesIn areas x n
  pub in_order : AllPairs (IsBefore areas x) list

-- ---- the same list, computed

-- highest areas: the highest number, 0 if there is none
abbrev pub highest : List (Address × ℕ) → ℕ
highest [] = 0
highest (p ∷ areas) = max p.1 (highest areas)

-- areas_from areas x r: the areas whose coarsest cell above x is of resolution r, ascending
abbrev pub areas_from : List (Address × ℕ) → Address → ℕ → List ℕ
areas_from areas x r = filter (λ n. coarsest areas x n == r) (range_with_len 0 (highest areas + 1))

-- areas_of areas x: these of each resolution up to that of x, coarser ones first: the one list that `AreAreasOf` admits
unfoldable pub areas_of : List (Address × ℕ) → Address → List ℕ
areas_of areas x = flat_map (areas_from areas x) (range_with_len 0 (resolution x + 1))

-- ---- overlaps

-- AreOverlapping areas m n: a cell of one of two areas is a cell of the other, or an ancestor or descendant of one
pub record AreOverlapping (areas : List (Address × ℕ)) (m n : ℕ) : Type 0 where
  pub different : m ≢ n
  pub one : Address
  pub other : Address
  pub of_one : Contains areas (one, m)
  pub of_other : Contains areas (other, n)
  pub overlap : Overlap one other

-- AreApart areas: no two areas overlap; the cells of one area may
abbrev pub AreApart : List (Address × ℕ) → Type 0
AreApart areas = (m n : ℕ) → ¬ AreOverlapping areas m n

-- ---- other pairs for the same areas

-- AreAlike areas others: each cell lies in the same areas by the one list of pairs as by the other
abbrev pub AreAlike : List (Address × ℕ) → List (Address × ℕ) → Type 0
AreAlike areas others = (x : Address) (n : ℕ) → LiesIn areas x n ↔ LiesIn others x n

-- AreChosen areas others: the pairs are some of others
abbrev pub AreChosen : List (Address × ℕ) → List (Address × ℕ) → Type 0
AreChosen areas others = (c : Address) (n : ℕ) → Contains areas (c, n) → Contains others (c, n)
