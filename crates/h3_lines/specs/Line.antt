-- Laws of lines. The implementations that state them and proofs alone cite this file.
use Rattle.std.proofs.Common.{◌≡◌, ℕ, List, [], ◌∷◌, ◌++◌, ap, ◌∙◌, sym, refl, inl, inr, append_assoc, append-nil}
use Rattle.h3_index.specs.Cell.{Address}
use Rattle.h3_lines.specs.Answer.{AreLines, cell_line, cell_lines}
use Rattle.h3_lines.specs.Pieces.{Piece, lines_in}

pub last_is_line : (front : List ℕ) → AreLines (front ++ 10 ∷ [])
last_is_line front = inr (front, refl)

pub both_are_lines : (xs ys : List ℕ) → AreLines xs → AreLines ys → AreLines (xs ++ ys)
both_are_lines xs ys h (inl none) = elim h [
  | inl all ↦ inl (ap (λ l. l ++ ys) all ∙ none)
  | inr (front, is) ↦ inr (front, ap (λ l. xs ++ l) none ∙ append-nil xs ∙ is)
]
both_are_lines xs ys h (inr (front, is)) =
    inr (xs ++ front, ap (λ l. xs ++ l) is ∙ sym (append_assoc xs front (10 ∷ [])))

pub cells_are_lines : (cells : List Address) → AreLines (cell_lines cells)
cells_are_lines [] = inl refl
cells_are_lines (c ∷ cs) = both_are_lines (cell_line c) (cell_lines cs) (last_is_line _) (cells_are_lines cs)

pub lines_in-append : (xs ys : List Piece) → lines_in (xs ++ ys) ≡ lines_in xs ++ lines_in ys
lines_in-append [] ys = refl
lines_in-append (p ∷ ps) ys = ap (λ l. p.0 ∷ l) (lines_in-append ps ys)
