-- The blanks at the end of a field.
use Rattle.std.proofs.Common.{◌≡◌, ℕ, ◌+◌, ◌-◌, ◌≤◌, List, [], ◌∷◌, ◌++◌, length, take, get_or, true, false, arith, sym, ap, ◌∙◌, refl, reverse}
use Rattle.std.proofs.lemmas.List.{reverse-append, reverse-reverse, take_more, take_all}
use Rattle.h3_index.specs.Text.{is_blank, without_leading_blanks, without_trailing_blanks}

reversed : (rest : List ℕ) → 1 ≤ length rest
    → reverse rest ≡ get_or rest (length rest - 1) 0 ∷ reverse (take (length rest - 1) rest)
reversed rest some =
    let last = length rest - 1 in
    let count : last + 1 ≡ length rest = omega arith in
    let split : rest ≡ take (length rest - 1) rest ++ get_or rest (length rest - 1) 0 ∷ [] =
    sym (take_all (length rest) rest (omega arith)) ∙ ap (λ n. take n rest) (sym count)
    ∙ take_more rest last 0 (omega arith) in
    ap reverse split ∙ reverse-append (take (length rest - 1) rest) (get_or rest (length rest - 1) 0 ∷ [])

pub blank_last : (rest : List ℕ) → 1 ≤ length rest → is_blank (get_or rest (length rest - 1) 0) ≡ true
    → without_leading_blanks (reverse (take (length rest - 1) rest)) ≡ without_leading_blanks (reverse rest)
blank_last rest some blank = rw (reversed rest some, blank) refl

pub other_last : (rest : List ℕ) → 1 ≤ length rest → is_blank (get_or rest (length rest - 1) 0) ≡ false
    → rest ≡ without_trailing_blanks rest
other_last rest some other =
    let stays : without_leading_blanks (reverse rest) ≡ reverse rest = rw (reversed rest some, other) refl in
    sym (reverse-reverse rest) ∙ ap reverse (sym stays)
