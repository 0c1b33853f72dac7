-- Post order, in which each cell comes right after its descendants; the slots are in it between rounds.
use Rattle.std.specs.Prelude.{◌+◌, ◌-◌, ◌^◌, ◌≤◌, List, AllPairs}
use Rattle.h3_index.specs.Cell.{Address, resolution}
use Rattle.h3_tree.specs.PostOrder.{post_order_key}

-- IsInOrder cells: the list is in post order: no cell has a smaller key than one before it
abbrev pub IsInOrder : List Address → Type 0
IsInOrder = AllPairs (λ a b. post_order_key a ≤ post_order_key b)

-- a comes before b and all cells below b
abbrev pub IsBeforeBlock : Address → Address → Type 0
IsBeforeBlock a b = post_order_key a + 8 ^ (15 - resolution b) ≤ post_order_key b
