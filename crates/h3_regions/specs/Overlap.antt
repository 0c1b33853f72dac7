-- Which cells of a list overlap first.
use Rattle.std.specs.Prelude.{ℕ, ◌<◌, List, length, slice_index_or, take}
use Rattle.h3_index.specs.Cell.{Address}
use Rattle.h3_set.specs.Coverage.{IsApart, Overlap}

-- the first place whose cell overlaps x; cited by private contracts and proofs alone
pub record IsFirstToOverlap (cells : List Address) (x : Address) (i : ℕ) : Type 0 where
  pub within : i < length cells
  pub overlap : (d : Address) → Overlap (slice_index_or cells i d) x
  pub first : (k : ℕ) (d : Address) → k < i → ¬ Overlap (slice_index_or cells k d) x

-- IsFirstOverlap cells j i: the cell at place j overlaps an earlier one, none before it does, and i is the first place
-- whose cell it overlaps
pub record IsFirstOverlap (cells : List Address) (j i : ℕ) : Type 0 where
  pub within : j < length cells
  pub apart : IsApart (take j cells)
  pub earlier : i < j
  pub overlap : (d : Address) → Overlap (slice_index_or cells i d) (slice_index_or cells j d)
  pub first : (k : ℕ) (d : Address) → k < i → ¬ Overlap (slice_index_or cells k d) (slice_index_or cells j d)
