-- The last of a cell's descendants at a resolution.
--
-- Below a pentagon the cells of digit 1 are deleted, and none of digit 6.
use Rattle.std.specs.Prelude.{ℕ, ◌-◌, ◌≤◌, ◌↔◌, replicate}
use Rattle.h3_index.specs.Cell.{Address, IsCell, number_of, resolution}
use Rattle.h3_index.specs.Descendants.{along, center_descendant, IsDescendant}

-- last_at c s: c with further digits 6 up to resolution s
abbrev pub last_at : Address → ℕ → Address
last_at c s = along c (replicate (s - resolution c) 6)

-- ChildrenFormRanges: a cell's descendants at a resolution are the cells with numbers from that of the center one to
-- that of the last one, whatever the resolution of these cells
abbrev pub ChildrenFormRanges : Type 0
ChildrenFormRanges =
    (c x : Address) (s : ℕ) → IsCell c → resolution c ≤ s → s ≤ 15 → IsCell x
    → IsDescendant c s x
    ↔ ((number_of (center_descendant c s) ≤ number_of x) × (number_of x ≤ number_of (last_at c s)))
