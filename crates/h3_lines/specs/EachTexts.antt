-- Answers of one or more texts, each on a line of its own.
use Rattle.std.specs.Prelude.{ℕ, List, [], ◌∷◌, ◌++◌}
use Rattle.std.specs.List.{flat_map}

-- numbered_lines text numbers: a line with the text of each number, in order
abbrev pub numbered_lines : (ℕ → List ℕ) → List ℕ → List ℕ
numbered_lines text numbers = flat_map (λ n. text n ++ 10 ∷ []) numbers

-- lines_or none text numbers: the same, or one line with the text `none` if there is no number
abbrev pub lines_or : List ℕ → (ℕ → List ℕ) → List ℕ → List ℕ
lines_or none text [] = none ++ 10 ∷ []
lines_or none text (n ∷ ns) = numbered_lines text (n ∷ ns)
