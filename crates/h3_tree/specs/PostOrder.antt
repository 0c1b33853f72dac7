-- An order of cells in which each cell comes right after its descendants.
use Rattle.std.specs.Prelude.{ℕ, ◌≡◌, ◌+◌, ◌-◌, ◌*◌, ◌%◌, ◌^◌, ◌<◌, ◌≤◌, ◌↔◌}
use Rattle.h3_index.specs.Cell.{Address, IsCell, number_of, resolution}
use Rattle.h3_index.specs.Descendants.{IsAncestor}

-- post_order_key c: the cell's number without its mode and resolution
unfoldable pub post_order_key : Address → ℕ
post_order_key c = number_of c % 2 ^ 52

-- CellsFormIntervals: a cell and those below it are the cells whose keys lie in an interval that ends at the cell's own
pub record CellsFormIntervals : Type 0 where
  pub interval : (a x : Address) → IsCell a → IsCell x
      → IsAncestor a x
      ↔ ((post_order_key x ≤ post_order_key a) × (post_order_key a < post_order_key x + 8 ^ (15 - resolution a)))
  -- at one resolution the order is that of the numbers
  pub number : (c : Address) → IsCell c → number_of c ≡ 2 ^ 59 + resolution c * 2 ^ 52 + post_order_key c
