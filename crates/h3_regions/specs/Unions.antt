-- The coarsest cells of a list: those that stand below no other of it.
use Rattle.std.specs.Prelude.{List, Contains}
use Rattle.h3_index.specs.Cell.{Address}
use Rattle.h3_index.specs.Descendants.{IsAncestor}
use Rattle.h3_set.specs.Coverage.{IsApart}

-- HasAncestor cells x: a cell of the list is x or an ancestor of it
pub record HasAncestor (cells : List Address) (x : Address) : Type 0 where
  pub by : Address
  pub member : Contains cells by
  pub above : IsAncestor by x

-- of cells that may repeat and overlap some are chosen, of which no two overlap, so that each cell has one of them
-- above it or is one; cited by private contracts and proofs alone
pub record IsCoarsest (kept cells : List Address) : Type 0 where
  pub chosen : (x : Address) → Contains kept x → Contains cells x
  pub all : (x : Address) → Contains cells x → HasAncestor kept x
  pub apart : IsApart kept
