-- What is known of the descendants of a cell. Private contracts and proofs alone cite this file.
use Rattle.h3_index.specs.Laws.{DescendantsAreListed, DescendantsAscend, HexagonsHaveSevens, PentagonsHaveFewer}

-- the laws of the list of the descendants, together
pub record DescendantsAreKnown : Type 0 where
  pub members : DescendantsAreListed
  pub ascending : DescendantsAscend
  pub hexagons : HexagonsHaveSevens
  pub pentagons : PentagonsHaveFewer
