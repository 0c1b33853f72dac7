-- Texts that parse as an index.
use Rattle.std.proofs.Common.{◌≡◌, ℕ, ◌==◌, Bool, false, List, [], ◌∷◌, length, Ok, Some, sym, ◌∙◌, refl, arith}
use Rattle.std.proofs.lemmas.Bool.Decides.{nat_tests}
use Rattle.h3_index.specs.Text.{parsed_number, parsed_index, trimmed, without_prefix}
use Rattle.h3_rows.specs.RowsAnswer.{text_cell}
use Rattle.h3_rows.specs.declared.row_cell.RowCell.TheVariants.{Index}

nothing_left : (rest : List ℕ) (b : Bool) → (length rest == 0) ≡ b → (n : ℕ)
    → parsed_number (without_prefix rest) ≡ Some n → b ≡ false
nothing_left [] b is n parses = absurd (cc)
nothing_left (x ∷ rest) b is n parses =
    let some : (length (x ∷ rest) == 0) ≡ false = grind (arith, nat_tests) in sym is ∙ some

pub text_cell_parsed : (text : List ℕ) (n : ℕ) → parsed_index text ≡ Some n → Ok (Index n) ≡ text_cell text
unfolding parsed_index
text_cell_parsed text n parses =
    let left : (length (trimmed text) == 0) ≡ false = nothing_left (trimmed text) _ refl n parses in
    rw (left, parses) refl
