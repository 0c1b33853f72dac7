-- Rows with answers, read again.
use Rattle.std.proofs.Common.{◌≡◌, ℕ, ◌==◌, Bool, true, false, not, ◌&&◌, List, [], ◌∷◌, ◌++◌, sym, ap, ◌∙◌, refl, subst, append_assoc, arith, eqb-true}
use Rattle.std.proofs.lemmas.Bool.Decides.{nat_tests}
use Rattle.h3_rows.specs.Laws.{OutputReadsBack, RowsReadBack, all_with}
use Rattle.h3_lines.specs.Pieces.{inside_after, is_uncut, pieces_of, turned, Uncut}
use Rattle.h3_rows.specs.Row.{are_returns, returns_of, row_body}
use Rattle.h3_rows.specs.RowsAnswer.{row_with}
use Rattle.h3_rows.proofs.Returns.{body_then_returns, returns_are}
use Rattle.h3_lines.specs.PiecesLaws.{and_false, both, cut_at_mark, inside_after-append, rows_go, uncut_then}

both_true : (x y : Bool) → (x && y) ≡ true → (x ≡ true) × (y ≡ true)
both_true true y h = (refl, h)
both_true false y h = absurd (cc)

-- a beginning of uncut bytes is uncut
pub uncut_front : (mark : ℕ) (quotes inside : Bool) (xs ys : List ℕ) → is_uncut mark quotes inside (xs ++ ys) ≡ true
    → is_uncut mark quotes inside xs ≡ true
uncut_front mark quotes inside [] ys h = refl
uncut_front mark quotes inside (b ∷ bs) ys h =
    let (other, more) = both ((b == mark) && not inside) (is_uncut mark quotes (turned quotes inside b) (bs ++ ys)) h in
    rw other (uncut_front mark quotes (turned quotes inside b) bs ys more)

-- a byte that is no quote and no line feed changes nothing
one : (quotes inside : Bool) (b : ℕ) → (b == 34) ≡ false → (b == 10) ≡ false → Uncut 10 quotes inside (b ∷ []) inside
one quotes inside b q f =
    let calm : (quotes && (b == 34)) ≡ false = ap (λ x. quotes && x) q ∙ and_false quotes in
    record { uncut = rw f refl; inside_is = rw calm refl }

-- carriage returns change nothing
returns_uncut : (quotes : Bool) (bytes : List ℕ) → are_returns bytes ≡ true → Uncut 10 quotes false bytes false
returns_uncut quotes [] h = record { uncut = refl; inside_is = refl }
returns_uncut quotes (b ∷ bs) h =
    let (first, more) = both_true (b == 13) (are_returns bs) h in
    subst (λ x. Uncut 10 quotes false (x ∷ bs) false) (sym (eqb-true b 13 first))
    (uncut_then 10 quotes (13 ∷ []) bs (one quotes false 13 refl refl) (returns_uncut quotes bs more))

-- they are inside where the bytes before them are
returns_keep : (quotes inside : Bool) (bytes : List ℕ) → are_returns bytes ≡ true
    → inside_after quotes inside bytes ≡ inside
returns_keep quotes inside [] h = refl
returns_keep quotes inside (b ∷ bs) h =
    let (first, more) = both_true (b == 13) (are_returns bs) h in
    let other : (b == 34) ≡ false = ap (λ x. x == 34) (eqb-true b 13 first) in
    let calm : (quotes && (b == 34)) ≡ false = ap (λ x. quotes && x) other ∙ and_false quotes in
    rw calm (returns_keep quotes inside bs more)

-- the body of a row is uncut as the row is
pub body_uncut : (quotes : Bool) (line : List ℕ) → Uncut 10 quotes false line false
    → Uncut 10 quotes false (row_body line) false
body_uncut quotes line u =
    let body = row_body line in
    let whole = body_then_returns line in
    record {
      uncut =
          uncut_front 10 quotes false body (returns_of line)
          (subst (λ l. is_uncut 10 quotes false l ≡ true) (sym whole) u.uncut);
      inside_is =
          sym (returns_keep quotes (inside_after quotes false body) (returns_of line) (returns_are line))
          ∙ sym (inside_after-append 10 quotes false body (returns_of line)) ∙ ap (inside_after quotes false) whole
          ∙ u.inside_is;
    }

return_uncut : (quotes : Bool) (line : List ℕ) → Uncut 10 quotes false (returns_of line) false
return_uncut quotes line = returns_uncut quotes (returns_of line) (returns_are line)

flipped : (a b : ℕ) → (a == b) ≡ false → (b == a) ≡ false
flipped a b h = grind (arith, nat_tests)

pub rows_read_back : RowsReadBack
rows_read_back separator quotes line a rest q f uncut closed a_uncut a_closed =
    let body = row_body line in
    let last = returns_of line in
    let u = body_uncut quotes line (record { uncut = uncut; inside_is = closed }) in
    let s = one quotes false separator (flipped 34 separator q) (flipped 10 separator f) in
    let all =
    uncut_then 10 quotes body (separator ∷ (a ++ last)) u (uncut_then 10 quotes (separator ∷ []) (a ++ last) s
    (uncut_then 10 quotes a last (record { uncut = a_uncut; inside_is = a_closed }) (return_uncut quotes line))) in
    let bytes : row_with separator line a ++ rest ≡ (body ++ (separator ∷ (a ++ last))) ++ 10 ∷ rest =
    append_assoc body (separator ∷ (a ++ (last ++ 10 ∷ []))) rest
    ∙ ap (λ l. body ++ (separator ∷ l)) (append_assoc a (last ++ 10 ∷ []) rest
    ∙ ap (λ l. a ++ l) (append_assoc last (10 ∷ []) rest) ∙ sym (append_assoc a last (10 ∷ rest)))
    ∙ sym (append_assoc body (separator ∷ (a ++ last)) (10 ∷ rest)) in
    rows_go quotes (row_with separator line a ++ rest) rest ((body ++ (separator ∷ (a ++ last)), false) ∷ []) (ap
    (pieces_of quotes) bytes ∙ cut_at_mark 10 quotes false
    (body ++ (separator ∷ (a ++ last))) rest all.uncut all.inside_is refl)

pub output_reads_back : OutputReadsBack
output_reads_back separator quotes [] q f are = refl
output_reads_back separator quotes (r ∷ rs) q f (uncut, closed, a_uncut, a_closed, more) =
    rows_read_back separator quotes r.0 r.1 (all_with separator rs) q f uncut closed a_uncut a_closed
    ∙ ap (λ l. (row_body r.0 ++ (separator ∷ (r.1 ++ returns_of r.0)), false) ∷ l)
    (output_reads_back separator quotes rs q f more)
