-- Texts of sums.
use Rattle.std.specs.Prelude.{ℕ, zero, suc, ◌+◌, ◌/◌, ◌%◌, ◌^◌, ◌==◌, List, [], ◌∷◌, ◌++◌, if◌then◌else◌, decimal, ℤ, pos, negsuc}

-- last_digits count n: the last count digits of n
abbrev pub last_digits : ℕ → ℕ → List ℕ
last_digits zero n = []
last_digits (suc count) n = last_digits count (n / 10) ++ (48 + n % 10) ∷ []

-- first_kept b bytes: a byte in front of others, left out if it is a zero and there are none
abbrev pub first_kept : ℕ → List ℕ → List ℕ
first_kept b [] = if b == 48 then [] else b ∷ []
first_kept b (c ∷ cs) = b ∷ c ∷ cs

-- without_last_zeros digits: the digits without the zeros at their end
abbrev pub without_last_zeros : List ℕ → List ℕ
without_last_zeros [] = []
without_last_zeros (d ∷ ds) = first_kept d (without_last_zeros ds)

-- fraction_text f: a point and the digits that a fraction of units of 10^-18 needs; nothing for 0
abbrev pub fraction_text : ℕ → List ℕ
fraction_text f = if f == 0 then [] else 46 ∷ without_last_zeros (last_digits 18 f)

-- size_text n: n units of 10^-18 as a decimal fraction, with a point and digits after it only if it needs them
abbrev pub size_text : ℕ → List ℕ
size_text n = decimal (n / 10 ^ 18) ++ fraction_text (n % 10 ^ 18)

-- sum_text x: the same for an integer x, with a `-` in front if it is below 0
abbrev pub sum_text : ℤ → List ℕ
sum_text (pos n) = size_text n
sum_text (negsuc n) = 45 ∷ size_text (suc n)
