-- Where a cell stands among the descendants of a cell above it.
use Rattle.std.specs.Prelude.{ℕ, ◌≡◌, ◌≤◌, nat_lt, count_by, slice_get, Some}
use Rattle.h3_index.specs.Cell.{Address, IsCell, number_of, resolution}
use Rattle.h3_index.specs.Descendants.{descendants, IsDescendant}

-- position_under c x: how many descendants of c at the resolution of x have a smaller number than x
unfoldable pub position_under : Address → Address → ℕ
position_under c x =
    count_by (λ y. nat_lt (number_of y) (number_of x)) (descendants c (resolution x))

-- HasPosition c s x n: x is a descendant of c at resolution s, and n is its position
pub record HasPosition (c : Address) (s : ℕ) (x : Address) (position : ℕ) : Type 0 where
  pub descendant : IsDescendant c s x
  pub is : position_under c x ≡ position

-- MembersHavePositions: the descendant at a position has that position
abbrev pub MembersHavePositions : Type 0
MembersHavePositions =
    (c x : Address) (s position : ℕ) → IsCell c → resolution c ≤ s → s ≤ 15
    → slice_get (descendants c s) position ≡ Some x → position_under c x ≡ position

-- PositionsHaveMembers: the descendant at a cell's position is that cell
abbrev pub PositionsHaveMembers : Type 0
PositionsHaveMembers =
    (c x : Address) (s : ℕ) → IsCell c → resolution c ≤ s → s ≤ 15 → IsDescendant c s x
    → slice_get (descendants c s) (position_under c x) ≡ Some x
