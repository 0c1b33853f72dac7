-- Digit lists.
--
-- The digits of a cell without its base cell: a digit of 0 to 6 for each resolution from 1 up to its own, which is at
-- most 15.
use Rattle.std.specs.Prelude.{ℕ, ◌≤◌, List, length}
use Rattle.std.specs.Int.Digits.{AllBelowBase}
use Rattle.h3_index.specs.Cell.{Address}

-- IsDigits ds: at most 15 digits, each 0 to 6
pub record IsDigits (ds : List ℕ) : Type 0 where
  pub coarse : length ds ≤ 15
  pub small : AllBelowBase 7 ds

-- cell_of b ds: the cell of a base cell and a digit list
abbrev pub cell_of : ℕ → List ℕ → Address
cell_of b ds = record { base = b; digits = ds }
