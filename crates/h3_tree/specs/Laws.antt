-- Laws of the hierarchy of cells.
use Rattle.std.specs.Prelude.{ℕ, ◌≡◌, ◌<◌, ◌≤◌, ◌↔◌, Contains, AllPairs}
use Rattle.h3_index.specs.Cell.{Address, IsCell, number_of, resolution}
use Rattle.h3_index.specs.Descendants.{center_descendant, ancestor_at, descendants, IsAncestor, IsDescendant}

-- CellsFormTrees: of two ancestors of a cell one stands above the other; a cell has an ancestor at each resolution up
-- to its own, and from there on descendants, as listed
pub record CellsFormTrees : Type 0 where
  -- a cell is an ancestor of itself, and an ancestor of its ancestor is its own
  pub own : (c : Address) → IsAncestor c c
  pub through : (a b c : Address) → IsAncestor a b → IsAncestor b c → IsAncestor a c
  -- of two ancestors of a cell, one that is no finer than the other stands above it
  pub ordered : (a b c : Address) → IsAncestor a c → IsAncestor b c → resolution a ≤ resolution b → IsAncestor a b
  -- an ancestor is no finer, and at the cell's own resolution it is the cell
  pub no_finer : (a c : Address) → IsAncestor a c → resolution a ≤ resolution c
  pub same : (a c : Address) → IsAncestor a c → resolution c ≤ resolution a → c ≡ a
  -- at each resolution up to its own a cell has an ancestor
  pub cut_ancestor : (c : Address) (r : ℕ) → r ≤ resolution c → IsAncestor (ancestor_at c r) c
  pub resolution-ancestor_at : (c : Address) (r : ℕ) → r ≤ resolution c → resolution (ancestor_at c r) ≡ r
  pub cut_cell : (c : Address) (r : ℕ) → IsCell c → r ≤ resolution c → IsCell (ancestor_at c r)
  -- at each resolution from its own on a cell has a descendant, and all that it has are listed, in ascending order
  pub center_descendant : (c : Address) (s : ℕ) → IsCell c → resolution c ≤ s → s ≤ 15
      → IsDescendant c s (center_descendant c s)
  pub listed : (c : Address) (s : ℕ) → IsCell c → resolution c ≤ s → s ≤ 15 → (x : Address)
      → Contains (descendants c s) x ↔ IsDescendant c s x
  pub ascending : (c : Address) (s : ℕ) → AllPairs (λ a b. number_of a < number_of b) (descendants c s)
