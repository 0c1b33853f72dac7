-- The hierarchy of cells: ancestors and descendants.
--
-- H3's hierarchy: the parent of a cell at a coarser resolution keeps the digits up to that resolution; its children
-- at a finer resolution are the cells there that have it as their parent.
use Rattle.std.specs.Prelude.{ℕ, ◌≡◌, ◌+◌, ◌-◌, List, [], ◌∷◌, ◌++◌, take, map, replicate}
use Rattle.h3_index.specs.Cell.{Address, IsCell, is_pentagon, resolution}
use Rattle.h3_index.specs.Paths.{paths}

-- ancestor_at c r: c with its digits up to resolution r
abbrev pub ancestor_at : Address → ℕ → Address
ancestor_at c r = record { base = c.base; digits = take r c.digits }

-- a cell with further digits
abbrev pub along : Address → List ℕ → Address
along c ds = record { base = c.base; digits = c.digits ++ ds }

-- child c d: c with the digit d one level down
abbrev pub child : Address → ℕ → Address
child c d = along c (d ∷ [])

-- center_descendant c s: c with further digits 0 up to resolution s
abbrev pub center_descendant : Address → ℕ → Address
center_descendant c s = along c (replicate (s - resolution c) 0)

-- IsAncestor a c: c cut at the resolution of a is a
--
-- both have the same base cell, and the digits of a begin those of c; a cell is an ancestor of itself
abbrev pub IsAncestor : Address → Address → Type 0
IsAncestor a c = ancestor_at c (resolution a) ≡ a

-- IsDescendant c s x: x is a cell of resolution s with the ancestor c
pub record IsDescendant (c : Address) (s : ℕ) (x : Address) : Type 0 where
  pub valid : IsCell x
  pub resolution_is : resolution x ≡ s
  pub under : IsAncestor c x

-- descendants c s: the descendants of c at resolution s as a list, ascending
unfoldable pub descendants : Address → ℕ → List Address
descendants c s = map (along c) (paths (is_pentagon c) (s - resolution c))

-- children c: the descendants of c one level below it, ascending
abbrev pub children : Address → List Address
children c = descendants c (resolution c + 1)
