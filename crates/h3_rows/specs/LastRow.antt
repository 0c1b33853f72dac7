-- The carriage returns of the row before a last one. Private contracts and proofs alone cite this file.
use Rattle.std.proofs.Common.{◌≡◌, ℕ, List, [], ◌∷◌, ◌++◌, ap, ◌∙◌, refl, sym}
use Rattle.h3_lines.specs.Pieces.{Piece}
use Rattle.h3_rows.specs.Row.{returns_of}

-- the carriage returns at the end of the last of these rows; those before them, if there is none
abbrev pub returns_after : List ℕ → List Piece → List ℕ
returns_after returns [] = returns
returns_after returns (p ∷ ps) = returns_after (returns_of p.0) ps

after_both : (returns : List ℕ) (xs ys : List Piece)
    → returns_after returns (xs ++ ys) ≡ returns_after (returns_after returns xs) ys
after_both returns [] ys = refl
after_both returns (x ∷ xs) ys = after_both (returns_of x.0) xs ys

-- after some rows, and then others
pub returns_then : (a b c : List ℕ) (xs ys : List Piece) → b ≡ returns_after a xs → c ≡ returns_after b ys
    → c ≡ returns_after a (xs ++ ys)
returns_then a b c xs ys first later = later ∙ ap (λ l. returns_after l ys) first ∙ sym (after_both a xs ys)
