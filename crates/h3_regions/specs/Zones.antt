-- Zones: cells of which no two overlap, in an order in which one can be looked up.
use Rattle.std.specs.Prelude.{ℕ, ◌<◌, ◌≤◌, ◌&&◌, Bool, List, All, AllPairs, Option, length, slice_index_or}
use Rattle.std.specs.List.{AllWithin, filter, find, list_any}
use Rattle.h3_index.specs.Cell.{Address, IsCell}
use Rattle.h3_index.specs.Count.{cells_up_to}
use Rattle.h3_index.specs.Descendants.{IsAncestor}
use Rattle.h3_tree.specs.PostOrder.{post_order_key}
use Rattle.h3_set.specs.Coverage.{finest, is_ancestor, IsApart}

-- IsZones cells: cells in post order, of which no two overlap
--
-- cells of which no two overlap, each right after where those below it would stand
pub record IsZones (cells : List Address) : Type 0 where
  pub valid : All IsCell cells
  pub in_order : AllPairs (λ a b. post_order_key a < post_order_key b) cells
  pub apart : IsApart cells

-- zone_of zones x: the first zone that is x or an ancestor of it, if there is one
--
-- the zone of a cell: the member that is x, or stands above it, if there is one; where no two overlap there is one at
-- the most
abbrev pub zone_of : List Address → Address → Option Address
zone_of zones x = find (λ z. is_ancestor z x) zones

-- the cells before a place have keys below k; cited by private contracts and proofs alone
abbrev pub AreBelow : List Address → ℕ → ℕ → Type 0
AreBelow cells k i = AllWithin (λ c. post_order_key c < k) cells 0 i

-- the cells from a place on have keys that are k or more; cited as the one above
abbrev pub AreNotBelow : List Address → ℕ → ℕ → Type 0
AreNotBelow cells k i = AllWithin (λ c. k ≤ post_order_key c) cells i (length cells)

-- the place of the first cell whose key is k or more, or the end where there is none; cited as those above
pub record IsFirstPlace (cells : List Address) (k i : ℕ) : Type 0 where
  pub within : i ≤ length cells
  pub before : AreBelow cells k i
  pub after : AreNotBelow cells k i

-- the cell at a place is x, or stands above it; cited by private contracts and proofs alone
abbrev pub StandsAbove : List Address → ℕ → Address → Type 0
StandsAbove cells i x = (d : Address) → IsAncestor (slice_index_or cells i d) x

-- x is one of the cells: one of them is it or stands above it, and is it or stands below it
abbrev pub is_member : List Address → Address → Bool
is_member cells x = list_any (λ c. is_ancestor c x && is_ancestor x c) cells

-- of the cells of all resolutions up to the finest those of the list, in ascending order of their numbers
unfoldable pub by_number : List Address → List Address
by_number cells = filter (is_member cells) (cells_up_to (finest cells))
