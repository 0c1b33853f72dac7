-- Sums of numbers.
use Rattle.std.specs.Prelude.{ℕ, ◌^◌, List, [], ◌∷◌, ℤ, pos, ◌+ℤ◌, ◌*ℤ◌}
use Rattle.h3_numbers.specs.declared.sum.Sum.{Sum}

-- sum_count s: how many numbers were added
abbrev pub sum_count : Sum → ℕ
sum_count s = s.count

-- sum_units s: their sum, in units of 10^-18
abbrev pub sum_units : Sum → ℤ
sum_units s = (s.whole *ℤ pos (10 ^ 18)) +ℤ s.fraction

-- total xs: the sum of a list of integers
abbrev pub total : List ℤ → ℤ
total [] = pos 0
total (x ∷ xs) = x +ℤ total xs
