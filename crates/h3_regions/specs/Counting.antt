-- Counts of the cells of a list by zones.
use Rattle.std.specs.Prelude.{ℕ, ◌≡◌, ◌+◌, List, length, map, not, sum, count_by}
use Rattle.h3_index.specs.Cell.{Address}
use Rattle.h3_set.specs.Coverage.{is_ancestor, is_covered}

-- count_in zone cells: how many places of the list hold the zone or a cell below it
abbrev pub count_in : Address → List Address → ℕ
count_in zone cells = count_by (λ x. is_ancestor zone x) cells

-- count_outside zones cells: how many hold a cell that no zone covers
abbrev pub count_outside : List Address → List Address → ℕ
count_outside zones cells = count_by (λ x. not (is_covered zones x)) cells

-- these are the counts of zones, in the order of the zones, and this is how many have none, of the places of a list; so
-- each place is counted once
pub record AreCounts (zones cells : List Address) (counts : List ℕ) (others : ℕ) : Type 0 where
  pub each : counts ≡ map (λ zone. count_in zone cells) zones
  pub none : others ≡ count_outside zones cells
  pub all : sum counts + others ≡ length cells
