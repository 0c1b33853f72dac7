-- Answers that are put beside their row, one after another.
use Rattle.std.proofs.Common.{◌≡◌, ℕ, ◌==◌, Bool, true, false, List, [], ◌∷◌, ◌++◌, sym, ap, ◌∙◌, refl, subst, inl, inr, append_assoc, append-nil, eqb-true}
use Rattle.std.specs.List.{flat_map}
use Rattle.h3_lines.specs.Answer.{AreLines}
use Rattle.h3_lines.specs.EachTexts.{lines_or, numbered_lines}
use Rattle.h3_lines.specs.Pieces.{Piece, cut, CutsAt, Uncut, inside_after}
use Rattle.h3_rows.specs.RowsAnswer.{each_with, row_with, rows_with}
use Rattle.h3_rows.proofs.Finding.{cuts_first}
use Rattle.h3_lines.specs.PiecesLaws.{cut_at_end, first_piece, inside_after-append, uncut_none, uncut_then}

each_first : (separator : ℕ) (tail line : List ℕ) (a : Piece) (rest ps : List Piece) (p : Piece) → rest ≡ p ∷ ps
    → each_with separator tail line (a ∷ rest)
    ≡ row_with separator line (a.0 ++ tail) ++ each_with separator tail line rest
each_first separator tail line a rest ps p is = rw is refl

pub first_with : (separator : ℕ) (quotes : Bool) (tail line text answer after : List ℕ)
    → CutsAt 10 quotes false text answer after
    → rows_with separator quotes tail line text
    ≡ row_with separator line (answer ++ tail) ++ rows_with separator quotes tail line after
first_with separator quotes tail line text answer after c =
    let (p, ps, is) = first_piece 10 quotes false after in
    ap (each_with separator tail line) (cuts_first 10 quotes text answer after c)
    ∙ each_first separator tail line (answer, false) (cut 10 quotes false after) ps p is

pub last_with : (separator : ℕ) (quotes : Bool) (tail line text : List ℕ) (end : Bool) → Uncut 10 quotes false text end
    → rows_with separator quotes tail line text ≡ []
last_with separator quotes tail line text end u =
    ap (each_with separator tail line) (cut_at_end 10 quotes false text u.uncut)

-- the row once, with an answer that is one line
pub one_with : (separator : ℕ) (quotes : Bool) (tail line answer : List ℕ) → Uncut 10 quotes false answer false
    → rows_with separator quotes tail line (answer ++ 10 ∷ []) ≡ row_with separator line (answer ++ tail)
one_with separator quotes tail line answer u =
    first_with separator quotes tail line (answer ++ 10 ∷ []) answer [] (record { begins = u; split = refl })
    ∙ append-nil (row_with separator line (answer ++ tail))

-- the row with the text of the first number, and then with those of the others
pub numbered_first : (separator : ℕ) (quotes : Bool) (tail line : List ℕ) (text : ℕ → List ℕ) (numbers : List ℕ) (n : ℕ)
    (more : List ℕ) (own : List ℕ)
    → numbers ≡ n ∷ more → own ≡ text n → Uncut 10 quotes false own false
    → rows_with separator quotes tail line (numbered_lines text numbers)
    ≡ row_with separator line (text n ++ tail) ++ rows_with separator quotes tail line (numbered_lines text more)
numbered_first separator quotes tail line text numbers n more own is same u =
    ap (λ l. rows_with separator quotes tail line (numbered_lines text l)) is
    ∙ first_with separator quotes tail line (numbered_lines text (n ∷ more)) (text n) (numbered_lines text more)
    (record {
      begins = subst (λ t. Uncut 10 quotes false t false) same u;
      split = append_assoc (text n) (10 ∷ []) (numbered_lines text more);
    })

-- the row once, where there is no number
pub none_first : (separator : ℕ) (quotes : Bool) (tail line none : List ℕ) (text : ℕ → List ℕ) (numbers : List ℕ)
    (own : List ℕ)
    → numbers ≡ [] → own ≡ none → Uncut 10 quotes false own false
    → rows_with separator quotes tail line (lines_or none text numbers) ≡ row_with separator line (own ++ tail)
none_first separator quotes tail line none text numbers own empty same u =
    ap (λ l. rows_with separator quotes tail line (lines_or none text l)) empty
    ∙ ap (λ t. rows_with separator quotes tail line (t ++ 10 ∷ [])) (sym same)
    ∙ one_with separator quotes tail line own u

-- a line feed is no quote
feed_stays : (quotes inside : Bool) → inside_after quotes inside (10 ∷ []) ≡ inside
feed_stays true inside = refl
feed_stays false inside = refl

pub closed_before : (quotes : Bool) (line : List ℕ) → inside_after quotes false (line ++ 10 ∷ []) ≡ false
    → inside_after quotes false line ≡ false
closed_before quotes line closed =
    sym (feed_stays quotes (inside_after quotes false line)) ∙ sym (inside_after-append 10 quotes false line (10 ∷ []))
    ∙ closed

pub closed_after : (quotes : Bool) (line : List ℕ) → inside_after quotes false line ≡ false
    → inside_after quotes false (line ++ 10 ∷ []) ≡ false
closed_after quotes line closed =
    inside_after-append 10 quotes false line (10 ∷ []) ∙ feed_stays quotes (inside_after quotes false line) ∙ closed

-- where quotes don't count no place is inside them
pub never_inside : (bytes : List ℕ) → inside_after false false bytes ≡ false
never_inside [] = refl
never_inside (b ∷ bs) = never_inside bs

-- ---- answers one after another

-- a line that grows by a byte that is no line feed
grows : (line : List ℕ) (b : ℕ) → Uncut 10 false false line false → (b == 10) ≡ false
    → Uncut 10 false false (line ++ b ∷ []) false
grows line b u other = uncut_then 10 false line (b ∷ []) u (record { uncut = rw other refl; inside_is = refl })

line_first : (separator : ℕ) (tail row line after : List ℕ) → Uncut 10 false false line false
    → rows_with separator false tail row (line ++ 10 ∷ after)
    ≡ row_with separator row (line ++ tail) ++ rows_with separator false tail row after
line_first separator tail row line after u =
    first_with separator false tail row (line ++ 10 ∷ after) line after (record { begins = u; split = refl })

-- lines, of which the first has begun, and more
lines_more : (separator : ℕ) (tail row line front more : List ℕ) → Uncut 10 false false line false
    → rows_with separator false tail row (line ++ (front ++ 10 ∷ more))
    ≡ rows_with separator false tail row (line ++ (front ++ 10 ∷ [])) ++ rows_with separator false tail row more
lines_more separator tail row line [] more u =
    line_first separator tail row line more u
    ∙ ap (λ l. l ++ rows_with separator false tail row more)
    (sym (line_first separator tail row line [] u ∙ append-nil (row_with separator row (line ++ tail))))
lines_more separator tail row line (b ∷ bs) more u =
    let go : (t : Bool) → (b == 10) ≡ t
    → rows_with separator false tail row (line ++ (b ∷ (bs ++ 10 ∷ more)))
    ≡ rows_with separator false tail row (line ++ (b ∷ (bs ++ 10 ∷ [])))
    ++ rows_with separator false tail row more =
    λ t.
    elim t as
    (λ t.
    (b == 10) ≡ t
    → rows_with separator false tail row (line ++ (b ∷ (bs ++ 10 ∷ more)))
    ≡ rows_with separator false tail row (line ++ (b ∷ (bs ++ 10 ∷ [])))
    ++ rows_with separator false tail row more) [
      | true ↦ λ is. (
          let feed : b ≡ 10 = eqb-true b 10 is in
          let first : (l : List ℕ)
          → rows_with separator false tail row (line ++ (b ∷ l))
          ≡ row_with separator row (line ++ tail) ++ rows_with separator false tail row l =
          λ l. ap (λ x. rows_with separator false tail row (line ++ (x ∷ l))) feed
          ∙ line_first separator tail row line l u in
          first (bs ++ 10 ∷ more)
          ∙ ap (λ l. row_with separator row (line ++ tail) ++ l)
          (lines_more separator tail row [] bs more (uncut_none 10 false false))
          ∙ sym (append_assoc (row_with separator row (line ++ tail))
          (rows_with separator false tail row (bs ++ 10 ∷ [])) (rows_with separator false tail row more))
          ∙ ap (λ l. l ++ rows_with separator false tail row more) (sym (first (bs ++ 10 ∷ []))))
      | false ↦ λ other. (
          let next : (l : List ℕ) → line ++ (b ∷ l) ≡ (line ++ b ∷ []) ++ l = λ l. sym (append_assoc line (b ∷ []) l) in
          ap (rows_with separator false tail row) (next (bs ++ 10 ∷ more))
          ∙ lines_more separator tail row (line ++ b ∷ []) bs more (grows line b u other)
          ∙ ap (λ l. rows_with separator false tail row l ++ rows_with separator false tail row more)
          (sym (next (bs ++ 10 ∷ []))))
    ] in
    go (b == 10) refl

pub with_more : (separator : ℕ) (tail row text more : List ℕ) → AreLines text
    → rows_with separator false tail row (text ++ more)
    ≡ rows_with separator false tail row text ++ rows_with separator false tail row more
with_more separator tail row text more (inl none) = rw none refl
with_more separator tail row text more (inr (front, is)) =
    ap (λ l. rows_with separator false tail row (l ++ more)) is
    ∙ ap (rows_with separator false tail row) (append_assoc front (10 ∷ []) more)
    ∙ lines_more separator tail row [] front more (uncut_none 10 false false)
    ∙ ap (λ l. rows_with separator false tail row l ++ rows_with separator false tail row more) (sym is)

-- the lines of items
pub all_lines : {I : Type 0} (line : I → List ℕ) → ((i : I) → AreLines (line i)) → (items : List I)
    → AreLines (flat_map line items)
all_lines line are [] = inl refl
all_lines line are (i ∷ items) = elim (all_lines line are items) [
  | inl none ↦ subst AreLines (sym (ap (λ l. line i ++ l) none ∙ append-nil (line i))) (are i)
  | inr (front, is) ↦ inr (line i ++ front, ap (λ l. line i ++ l) is ∙ sym (append_assoc (line i) front (10 ∷ [])))
]
