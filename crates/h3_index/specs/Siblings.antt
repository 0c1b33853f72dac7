-- The children of one cell, one after another.
use Rattle.std.specs.Prelude.{ℕ, ◌+◌, ◌-◌, nat_lt, slice_index_or, Bool, ◌&&◌, not}
use Rattle.h3_index.specs.Cell.{Address, is_pentagon, resolution}
use Rattle.h3_index.specs.Descendants.{child, ancestor_at}

-- last_digit c: the digit of the cell's own resolution
abbrev pub last_digit : Address → ℕ
last_digit c = slice_index_or c.digits (resolution c - 1) 7

-- raised c: the cell under the same parent whose last digit is one more
abbrev pub raised : Address → Address
raised c = child (ancestor_at c (resolution c - 1)) (last_digit c + 1)

-- has_raised c: there is one; not at resolution 0, nor after the digit 6, nor after a pentagon, whose next child has
-- digit 2
abbrev pub has_raised : Address → Bool
has_raised c = nat_lt (last_digit c) 6 && not (is_pentagon c)
