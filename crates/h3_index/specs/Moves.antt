-- Cells of the same resolution that differ at most in one field.
use Rattle.std.specs.Prelude.{ℕ, ◌-◌, slice_set}
use Rattle.h3_index.specs.Cell.{Address}

-- with_digit c r d: c with the digit d at resolution r
--
-- the cell with this digit at a resolution from 1 up to its own, and all else as it is
abbrev pub with_digit : Address → ℕ → ℕ → Address
with_digit c r d = record { base = c.base; digits = slice_set c.digits (r - 1) d }

-- with_base c b: c with the base cell b
abbrev pub with_base : Address → ℕ → Address
with_base c b = record { base = b; digits = c.digits }
