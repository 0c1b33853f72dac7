-- Laws of compaction.
use Rattle.std.specs.Prelude.{ℕ, ◌≡◌, ◌≢◌, ◌≤◌, ◌↔◌, List, All, AllPairs, Contains, IsPermutation, false, true}
use Rattle.std.specs.List.{flat_map}
use Rattle.h3_index.specs.Cell.{Address, IsCell, resolution}
use Rattle.h3_index.specs.Descendants.{IsAncestor}
use Rattle.h3_set.specs.Compacted.{compacted, HasChildren, HoldsOnce, IsCompacted, IsTop}
use Rattle.h3_set.specs.Coverage.{finest, is_ancestor, IsApart, IsCovered}
use Rattle.h3_set.specs.Refusals.{has_overlap}
use Rattle.h3_set.specs.Rounds.{InPart}
use Rattle.h3_set.specs.Uncompaction.{uncompacted}

-- RoundsReachTheTop: at level 0 the rounds have reached the top cells
abbrev pub RoundsReachTheTop : Type 0
RoundsReachTheTop =
    (cells : List Address) (r : ℕ) (x : Address) → InPart cells r 0 x ↔ IsTop (IsCovered cells r) r x

-- CompactedListsAreUnique: what a list covers has one compacted list
abbrev pub CompactedListsAreUnique : Type 0
CompactedListsAreUnique =
    (cells : List Address) (r : ℕ) (a b : List Address) → r ≤ 15 → IsCompacted (IsCovered cells r) r a
    → IsCompacted (IsCovered cells r) r b → a ≡ b

-- CompactedListsAreTheOnlyOnes: what the cells of a list cover has no other compacted list than `compacted` of the list
abbrev pub CompactedListsAreTheOnlyOnes : Type 0
CompactedListsAreTheOnlyOnes =
    (cells others : List Address) → All IsCell cells
    → IsCompacted (IsCovered cells (finest cells)) (finest cells) others → others ≡ compacted cells

-- CompactedListsHoldTheTops: the compacted list of cells has the top cells of what they cover, and no others
abbrev pub CompactedListsHoldTheTops : Type 0
CompactedListsHoldTheTops =
    (cells : List Address) → All IsCell cells → (x : Address)
    → Contains (compacted cells) x ↔ IsTop (IsCovered cells (finest cells)) (finest cells) x

-- CompactedListsCoverOnce: uncompacted to the finest resolution of the cells, their compacted list has each cell that
-- they cover once, and no other
abbrev pub CompactedListsCoverOnce : Type 0
CompactedListsCoverOnce =
    (cells : List Address) → All IsCell cells
    → HoldsOnce (IsCovered cells (finest cells)) (uncompacted (compacted cells) (finest cells))

-- OneResolutionCoversItself: cells of one resolution cover themselves, and no others
abbrev pub OneResolutionCoversItself : Type 0
OneResolutionCoversItself =
    (cells : List Address) → All IsCell cells → All (λ c. resolution c ≡ finest cells) cells → (x : Address)
    → IsCovered cells (finest cells) x ↔ Contains cells x

-- OverlapsAreFound: `has_overlap` is false exactly where no cells at two places of a list overlap
abbrev pub OverlapsAreFound : Type 0
OverlapsAreFound = (cells : List Address) → (has_overlap cells ≡ false) ↔ IsApart cells

-- OneResolutionIsApart: cells of one resolution overlap only where one is listed twice
abbrev pub OneResolutionIsApart : Type 0
OneResolutionIsApart =
    (cells : List Address) (r : ℕ) → All (λ c. resolution c ≡ r) cells → IsApart cells ↔ AllPairs (λ a b. a ≢ b) cells

-- CompactsInParts cells parts: no cells of the whole overlap exactly where none do in any part, nor in what the parts
-- give, one list after the other; and that compacts to what the whole does
pub record CompactsInParts (cells : List Address) (parts : List (List Address)) : Type 0 where
  pub apart : IsApart cells ↔ (All IsApart parts × IsApart (flat_map compacted parts))
  pub same : compacted (flat_map compacted parts) ≡ compacted cells

-- ListsCompactInParts: a list may be divided into parts in any way: `CompactsInParts`
abbrev pub ListsCompactInParts : Type 0
ListsCompactInParts =
    (cells : List Address) (parts : List (List Address)) → All IsCell cells
    → IsPermutation cells (flat_map (λ part. part) parts) → CompactsInParts cells parts

-- CompactedListsAreCompacted: `compacted` of a list of cells is a compacted list of what they cover
abbrev pub CompactedListsAreCompacted : Type 0
CompactedListsAreCompacted =
    (cells : List Address) → All IsCell cells
    → IsCompacted (IsCovered cells (finest cells)) (finest cells) (compacted cells)

-- CompactedListsCoverAlike: it covers the same as the cells at each resolution that is not coarser than any of them
abbrev pub CompactedListsCoverAlike : Type 0
CompactedListsCoverAlike =
    (cells : List Address) (r : ℕ) → All IsCell cells → finest cells ≤ r → (x : Address)
    → IsCovered cells r x ↔ IsCovered (compacted cells) r x

-- CoveragesDecideLists: lists that cover the same at one such resolution have the same compacted list
abbrev pub CoveragesDecideLists : Type 0
CoveragesDecideLists =
    (cells others : List Address) (r : ℕ) → All IsCell cells → All IsCell others → finest cells ≤ r → finest others ≤ r
    → r ≤ 15 → ((x : Address) → IsCovered cells r x ↔ IsCovered others r x) → compacted cells ≡ compacted others

-- ApartInAnyOrder: whether no cells of a list overlap does not depend on their order
abbrev pub ApartInAnyOrder : Type 0
ApartInAnyOrder =
    (cells others : List Address) → IsPermutation cells others → IsApart cells → IsApart others

-- AncestorsAreFound: `is_ancestor` finds exactly the ancestors
abbrev pub AncestorsAreFound : Type 0
AncestorsAreFound = (a c : Address) → (is_ancestor a c ≡ true) ↔ IsAncestor a c

-- ReducedListsAreCompacted: cells of which no two overlap, with no complete set of siblings, are those of their
-- compacted list
abbrev pub ReducedListsAreCompacted : Type 0
ReducedListsAreCompacted =
    (cells : List Address) → All IsCell cells → IsApart cells → ((p : Address) → ¬ HasChildren (Contains cells) p)
    → (x : Address) → Contains cells x ↔ Contains (compacted cells) x

-- ReducedListsAreReordered: such cells are those of their compacted list, in some order
abbrev pub ReducedListsAreReordered : Type 0
ReducedListsAreReordered =
    (cells : List Address) → All IsCell cells → IsApart cells → ((p : Address) → ¬ HasChildren (Contains cells) p)
    → IsPermutation (compacted cells) cells
