-- Rows with answers, cut again.
use Rattle.std.proofs.Common.{◌≡◌, ℕ, ◌==◌, Bool, true, false, not, ◌&&◌, List, [], ◌∷◌, ◌++◌, if◌then◌else◌, sym, ap, ◌∙◌, refl, append_assoc, arith}
use Rattle.std.proofs.lemmas.Bool.Decides.{nat_tests}
use Rattle.h3_rows.specs.Laws.{FieldsAreKept, PairsAreKept, RowsAreWhole}
use Rattle.h3_lines.specs.Pieces.{Piece, cut, inside_after, turned, with_first}
use Rattle.h3_rows.specs.Row.{returns_of, row_body}
use Rattle.h3_rows.proofs.Finding.{same_mark}
use Rattle.h3_rows.proofs.Returns.{body_then_returns}
use Rattle.h3_lines.specs.PiecesLaws.{and_false, cut_at_end, first_piece}

with_first-append : (b : ℕ) (ps qs : List Piece) (p : Piece) (more : List Piece) → ps ≡ p ∷ more
    → with_first b (ps ++ qs) ≡ with_first b ps ++ qs
with_first-append b ps qs p more is = rw is refl

pub both_true : (x y : Bool) → (x && y) ≡ true → (x ≡ true) × (y ≡ true)
both_true true y h = (refl, h)
both_true false y h = absurd (cc)

not_true : (x : Bool) → not x ≡ true → x ≡ false
not_true true h = absurd (cc)
not_true false h = refl

module _ (mark : ℕ) (quotes : Bool) (unquoted : (34 == mark) ≡ false) where
  -- a mark turns nothing
  mark_turns : (inside : Bool) (b : ℕ) → (b == mark) ≡ true → turned quotes inside b ≡ inside
  mark_turns inside b is =
      let other : (b == 34) ≡ false = grind (arith, nat_tests) in
      rw (other, and_false quotes) refl

  cut-append : (inside : Bool) (xs ys : List ℕ) → inside_after quotes inside xs ≡ false
      → cut mark quotes inside (xs ++ mark ∷ ys) ≡ cut mark quotes inside xs ++ cut mark quotes false ys
  cut-append inside [] ys closed = rw (closed, same_mark mark) refl
  cut-append inside (b ∷ bs) ys closed =
      let (p, more, first) = first_piece mark quotes (turned quotes inside b) bs in
      let go : (t : Bool) → ((b == mark) && not inside) ≡ t
      → (if t then ([], false) ∷ cut mark quotes false (bs ++ mark ∷ ys)
      else with_first b (cut mark quotes (turned quotes inside b) (bs ++ mark ∷ ys)))
      ≡ (if t then ([], false) ∷ cut mark quotes false bs
      else with_first b (cut mark quotes (turned quotes inside b) bs))
      ++ cut mark quotes false ys =
      λ t. elim t as (λ t. ((b == mark) && not inside) ≡ t
      → (if t then ([], false) ∷ cut mark quotes false (bs ++ mark ∷ ys)
      else with_first b (cut mark quotes (turned quotes inside b) (bs ++ mark ∷ ys)))
      ≡ (if t then ([], false) ∷ cut mark quotes false bs
      else with_first b (cut mark quotes (turned quotes inside b) bs))
      ++ cut mark quotes false ys) [
        | true ↦ λ is. (
            let (marked, outside) = both_true (b == mark) (not inside) is in
            let now : turned quotes inside b ≡ false = mark_turns inside b marked ∙ not_true inside outside in
            ap (λ l. ([], false) ∷ l) (cut-append false bs ys (ap (λ o. inside_after quotes o bs) (sym now) ∙ closed)))
        | false ↦
            λ is. ap (with_first b) (cut-append (turned quotes inside b) bs ys closed)
            ∙ with_first-append b (cut mark quotes (turned quotes inside b) bs) (cut mark quotes false ys) p more first
      ] in
      go ((b == mark) && not inside) refl

pub fields_are_kept : FieldsAreKept
fields_are_kept separator quotes row a other closed uncut outside =
    cut-append separator quotes other false row a closed
    ∙ ap (λ l. cut separator quotes false row ++ l)
    (cut_at_end separator quotes false a uncut ∙ ap (λ o. (a, o) ∷ []) outside)

pub pairs_are_kept : PairsAreKept
pairs_are_kept separator quotes row a b other closed uncut outside uncut' outside' =
    let first : cut separator quotes false a ≡ (a, false) ∷ [] =
    cut_at_end separator quotes false a uncut ∙ ap (λ o. (a, o) ∷ []) outside in
    let second : cut separator quotes false b ≡ (b, false) ∷ [] =
    cut_at_end separator quotes false b uncut' ∙ ap (λ o. (b, o) ∷ []) outside' in
    cut-append separator quotes other false row (a ++ (separator ∷ b)) closed
    ∙ ap (λ l. cut separator quotes false row ++ l) (cut-append separator quotes other false a b outside
    ∙ ap (λ l. l ++ cut separator quotes false b) first ∙ ap (λ l. (a, false) ∷ l) second)

pub rows_are_whole : RowsAreWhole
rows_are_whole line =
    sym (append_assoc (row_body line) (returns_of line) (10 ∷ [])) ∙ ap (λ l. l ++ 10 ∷ []) (body_then_returns line)
