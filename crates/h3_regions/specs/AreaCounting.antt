-- Counts of the cells of a list by areas.
use Rattle.std.specs.Prelude.{ℕ, ◌≡◌, ◌+◌, List, length, map, not, sum, count_by}
use Rattle.std.specs.List.{range_with_len}
use Rattle.h3_index.specs.Cell.{Address}
use Rattle.h3_set.specs.Coverage.{is_covered}
use Rattle.h3_regions.specs.Areas.{lies_in}

-- count_in_area areas cells n: how many places of the list hold a cell that lies in the area
abbrev pub count_in_area : List (Address × ℕ) → List Address → ℕ → ℕ
count_in_area areas cells n = count_by (λ x. lies_in areas x n) cells

-- count_in_none areas cells: how many hold a cell that no cell of an area covers, so that lies in no area
abbrev pub count_in_none : List (Address × ℕ) → List Address → ℕ
count_in_none areas cells = count_by (λ x. not (is_covered (map (λ p. p.0) areas) x)) cells

-- AreAreaCounts areas cells counts none: these are the counts of areas, by their numbers, and this is how many lie in
-- none, of the cells of a list; so each place is counted once
pub record AreAreaCounts (areas : List (Address × ℕ)) (cells : List Address) (counts : List ℕ) (none : ℕ) : Type 0 where
  pub each : counts ≡ map (count_in_area areas cells) (range_with_len 0 (length counts))
  pub others : none ≡ count_in_none areas cells
  pub all : sum counts + none ≡ length cells
