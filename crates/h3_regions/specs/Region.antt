-- Regions: sets of cells, each given by the one list of cells that covers it with no overlap and no complete set of
-- siblings.
use Rattle.std.specs.Prelude.{◌<◌, List, All, AllPairs, Contains}
use Rattle.h3_index.specs.Cell.{Address, IsCell}
use Rattle.h3_tree.specs.PostOrder.{post_order_key}
use Rattle.h3_set.specs.Compacted.{HasChildren}
use Rattle.h3_set.specs.Coverage.{IsApart}

-- IsRegion cells: cells in post order, of which no two overlap, with no complete set of siblings
--
-- the cells of a region, each right after where those below it would stand
pub record IsRegion (cells : List Address) : Type 0 where
  pub valid : All IsCell cells
  pub in_order : AllPairs (λ a b. post_order_key a < post_order_key b) cells
  pub apart : IsApart cells
  pub no_siblings : (p : Address) → ¬ HasChildren (Contains cells) p
