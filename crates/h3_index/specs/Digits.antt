-- The digits of numbers.
use Rattle.std.specs.Prelude.{ℕ, zero, suc, ◌/◌, ◌%◌, List, [], ◌∷◌, ◌++◌}

-- the last digits of a number in a base, the highest first
abbrev pub last_digits : ℕ → ℕ → ℕ → List ℕ
last_digits base zero m = []
last_digits base (suc count) m = last_digits base count (m / base) ++ (m % base ∷ [])
