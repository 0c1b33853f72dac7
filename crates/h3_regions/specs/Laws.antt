-- Laws of regions and zones.
use Rattle.std.specs.Prelude.{ℕ, ◌≡◌, ◌+◌, ◌≤◌, ◌<◌, ◌↔◌, ◌⊎◌, ◌++◌, [], List, All, AllPairs, Contains, IsPermutation, Some, None, length, map, replicate, sum, true, false}
use Rattle.std.specs.List.{flat_map}
use Rattle.h3_index.specs.Cell.{Address, IsCell, number_of}
use Rattle.h3_set.specs.Compacted.{compacted}
use Rattle.h3_set.specs.Coverage.{finest, is_ancestor, is_covered, IsApart, IsCovered}
use Rattle.h3_regions.specs.Algebra.{difference, intersection}
use Rattle.h3_regions.specs.Counting.{AreCounts, count_in, count_outside}
use Rattle.h3_regions.specs.Region.{IsRegion}
use Rattle.h3_regions.specs.Zones.{by_number, zone_of}

-- UnionsCoverBoth: two lists, one after the other, cover what either does
abbrev pub UnionsCoverBoth : Type 0
UnionsCoverBoth =
    (a b : List Address) (r : ℕ) (x : Address) → IsCovered (a ++ b) r x ↔ (IsCovered a r x ⊎ IsCovered b r x)

-- UnionsInAnyOrder: the compacted list of cells does not depend on their order
--
-- the order of cells does not matter for their region, so neither does that of two lists for their union
abbrev pub UnionsInAnyOrder : Type 0
UnionsInAnyOrder = (a b : List Address) → All IsCell a → IsPermutation a b → compacted a ≡ compacted b

-- UnionsInParts: a list, of cells that may overlap, may be divided into parts in any way: their compacted lists compact
-- to that of the whole
abbrev pub UnionsInParts : Type 0
UnionsInParts =
    (cells : List Address) (parts : List (List Address)) → All IsCell cells
    → IsPermutation cells (flat_map (λ part. part) parts) → compacted (flat_map compacted parts) ≡ compacted cells

-- UnionsOfOne: a region united with itself is itself
pub record UnionsOfOne : Type 0 where
  pub list : (a : List Address) → All IsCell a → compacted (compacted a ++ compacted a) ≡ compacted a
  pub region : (a : List Address) → IsRegion a → IsPermutation (compacted (a ++ a)) a

-- CoverageAtOneResolution: lists that cover the same at one resolution not coarser than any of their cells do so at
-- each
abbrev pub CoverageAtOneResolution : Type 0
CoverageAtOneResolution =
    (a b : List Address) (q r : ℕ) → finest a ≤ q → finest b ≤ q → finest a ≤ r → finest b ≤ r → q ≤ 15
    → ((x : Address) → IsCovered a q x ↔ IsCovered b q x) → (x : Address) → IsCovered a r x ↔ IsCovered b r x

-- RegionsAreUnique: regions that cover the same at one resolution not coarser than any of their cells are the same list
abbrev pub RegionsAreUnique : Type 0
RegionsAreUnique =
    (a b : List Address) (r : ℕ) → IsRegion a → IsRegion b → finest a ≤ r → finest b ≤ r → r ≤ 15
    → ((x : Address) → IsCovered a r x ↔ IsCovered b r x) → a ≡ b

-- RegionsCoverAlike: a list of cells covers what its compacted list does
abbrev pub RegionsCoverAlike : Type 0
RegionsCoverAlike =
    (cells : List Address) (r : ℕ) → All IsCell cells → finest cells ≤ r → (x : Address)
    → IsCovered cells r x ↔ IsCovered (compacted cells) r x

-- CoveragesDecideIntersections: a list that covers, at resolution 15, exactly what two lists both cover compacts to
-- their intersection; no cell is finer than resolution 15
abbrev pub CoveragesDecideIntersections : Type 0
CoveragesDecideIntersections =
    (a b list : List Address) → All IsCell a → All IsCell b → All IsCell list
    → ((x : Address) → IsCovered list 15 x ↔ (IsCovered a 15 x × IsCovered b 15 x))
    → compacted list ≡ intersection a b

-- CoveragesDecideDifferences: a list that covers, at resolution 15, exactly what one list covers and another does not
-- compacts to the difference of the two
abbrev pub CoveragesDecideDifferences : Type 0
CoveragesDecideDifferences =
    (a b list : List Address) → All IsCell a → All IsCell b → All IsCell list
    → ((x : Address) → IsCovered list 15 x ↔ (IsCovered a 15 x × (¬ IsCovered b 15 x)))
    → compacted list ≡ difference a b

-- neither what a list covers, nor which zone a cell has, nor the list in ascending order depends on the order of the
-- cells
pub record ZonesInAnyOrder : Type 0 where
  pub covered : (cells others : List Address) (x : Address) → IsPermutation cells others
      → is_covered cells x ≡ is_covered others x
  pub zone : (zones others : List Address) (x : Address) → IsApart zones → IsPermutation zones others
      → zone_of zones x ≡ zone_of others x
  pub number : (zones others : List Address) → IsApart zones → All IsCell zones → IsPermutation zones others
      → by_number zones ≡ by_number others

-- ZonesByNumber: a list that has the zones and no other cells, in ascending order of their numbers, is `by_number` of
-- these
abbrev pub ZonesByNumber : Type 0
ZonesByNumber =
    (zones list : List Address) → All IsCell zones → AllPairs (λ a b. number_of a < number_of b) list
    → ((z : Address) → Contains zones z ↔ Contains list z) → list ≡ by_number zones

-- ZonesAreOne: a zone is the zone of exactly the cells that are counted in it, and those without one are exactly those
-- that are counted as such
pub record ZonesAreOne : Type 0 where
  pub zone : (zones : List Address) (z x : Address) → IsApart zones → Contains zones z
      → (is_ancestor z x ≡ true) ↔ (zone_of zones x ≡ Some z)
  pub none : (zones : List Address) (x : Address) → (is_covered zones x ≡ false) ↔ (zone_of zones x ≡ None)

-- CountsAddUp: of zones of which no two overlap, in any order, the counts and the number of cells without a zone add up
-- to the number of cells; also of the zones in ascending order
pub record CountsAddUp : Type 0 where
  pub any_order : (zones cells : List Address) → IsApart zones
      → sum (map (λ zone. count_in zone cells) zones) + count_outside zones cells ≡ length cells
  pub ascending : (zones cells : List Address) → All IsCell zones → IsApart zones
      → sum (map (λ zone. count_in zone cells) (by_number zones)) + count_outside zones cells ≡ length cells

-- CountsInParts: the counts of the parts of a list, divided in any way, add up to those of the whole
pub record CountsInParts : Type 0 where
  pub zone : (zone : Address) (cells : List Address) (parts : List (List Address))
      → IsPermutation cells (flat_map (λ part. part) parts) → count_in zone cells ≡ sum (map (count_in zone) parts)
  pub others : (zones cells : List Address) (parts : List (List Address))
      → IsPermutation cells (flat_map (λ part. part) parts)
      → count_outside zones cells ≡ sum (map (count_outside zones) parts)

-- NothingCounted: where no cell is counted yet, each zone has the count 0, and no cell is without a zone
abbrev pub NothingCounted : Type 0
NothingCounted = (zones : List Address) → AreCounts zones [] (replicate {A = ℕ} (length zones) 0) 0
