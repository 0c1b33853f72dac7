-- A function that answers a cell by a name.
use Rattle.std.specs.Prelude.{ℕ, ◌==◌, List, [], ◌∷◌, ◌++◌, Option, None, Some, if◌then◌else◌}
use Rattle.h3_index.specs.declared.error.H3Error.TheVariants.{Failed}
use Rattle.h3_lines.specs.Answer.{Answer, refused, written}

-- name_answer cell name none index: the name, if the index is that of the cell, and else the other text; a word that
-- parses as no index is an error
abbrev pub name_answer : ℕ → List ℕ → List ℕ → Option ℕ → Answer
name_answer cell name none None = refused Failed
name_answer cell name none (Some index) = written ((if index == cell then name else none) ++ 10 ∷ [])
