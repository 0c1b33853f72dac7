-- Fields that are found.
use Rattle.std.proofs.Common.{◌≡◌, ℕ, zero, suc, ◌+◌, ◌-◌, ◌<◌, ◌≤◌, ◌==◌, Bool, true, false, List, [], ◌∷◌, Option, None, Some, MatchOption, Bor, ap, ◌∙◌, arith}
use Rattle.std.proofs.lemmas.Bool.Decides.{nat_tests}
use Rattle.h3_lines.specs.Pieces.{Piece, cut, inside_after, CutsAt, Uncut}
use Rattle.h3_rows.specs.Row.{piece_at}
use Rattle.h3_lines.specs.PiecesLaws.{cut_at_end, cut_at_mark}

pub same_mark : (mark : ℕ) → (mark == mark) ≡ true
same_mark mark = grind (arith, nat_tests)

pub cuts_first : (mark : ℕ) (quotes : Bool) (bytes before after : List ℕ) → CutsAt mark quotes false bytes before after
    → cut mark quotes false bytes ≡ (before, false) ∷ cut mark quotes false after
cuts_first mark quotes bytes before after c =
    ap (cut mark quotes false) c.split
    ∙ cut_at_mark mark quotes false before after c.begins.uncut c.begins.inside_is (same_mark mark)

later : (k : ℕ) (p : Piece) (ps : List Piece) → 0 < k → piece_at k (p ∷ ps) ≡ piece_at (k - 1) ps
later zero p ps some = absurd (omega arith)
later (suc k) p ps some = let less : k ≡ suc k - 1 = omega arith in ap (λ n. piece_at n ps) less

-- a field is passed over
pub field_passed : (mark : ℕ) (quotes : Bool) (bytes before after : List ℕ) (k : ℕ) → 0 < k
    → CutsAt mark quotes false bytes before after
    → piece_at k (cut mark quotes false bytes) ≡ piece_at (k - 1) (cut mark quotes false after)
field_passed mark quotes bytes before after k some c =
    ap (piece_at k) (cuts_first mark quotes bytes before after c) ∙ later k (
      before,
      false,
    ) (cut mark quotes false after) some

-- there is no other field
pub no_field : (mark : ℕ) (quotes end : Bool) (bytes : List ℕ) (k : ℕ) → 0 < k → Uncut mark quotes false bytes end
    → piece_at k (cut mark quotes false bytes) ≡ None
no_field mark quotes end bytes k some u =
    ap (piece_at k) (cut_at_end mark quotes false bytes u.uncut) ∙ later k (
      bytes,
      inside_after quotes false bytes,
    ) [] some

pub field_here : (mark : ℕ) (quotes : Bool) (bytes before after : List ℕ) (k : ℕ) → k ≡ 0
    → CutsAt mark quotes false bytes before after → piece_at k (cut mark quotes false bytes) ≡ Some before
field_here mark quotes bytes before after k is c = rw is (ap (piece_at 0) (cuts_first mark quotes bytes before after c))

pub field_last : (mark : ℕ) (quotes end : Bool) (bytes : List ℕ) (k : ℕ) → k ≡ 0 → Uncut mark quotes false bytes end
    → piece_at k (cut mark quotes false bytes) ≡ Some bytes
field_last mark quotes end bytes k is u = rw is (ap (piece_at 0) (cut_at_end mark quotes false bytes u.uncut))

-- ---- a field that is looked for while all are counted

module _ (mark : ℕ) (quotes : Bool) (row : List ℕ) (before : ℕ) where
  -- so many fields are passed over, and the field after others is among them, or is still to come
  abbrev pub Finds : ℕ → List ℕ → Option (Bor (List ℕ)) → Type 0
  Finds passed rest found = MatchOption found
      ((passed ≤ before) × (piece_at before (cut mark quotes false row)
      ≡ piece_at (before - passed) (cut mark quotes false rest)))
      (λ f. (before < passed) × (piece_at before (cut mark quotes false row) ≡ Some f.now))

  pub finds_here : (passed : ℕ) (rest : List ℕ) (found : Option (Bor (List ℕ))) → passed ≡ before
      → Finds passed rest found
      → piece_at before (cut mark quotes false row) ≡ piece_at 0 (cut mark quotes false rest)
  finds_here passed rest None here (up, is) = let none : before - passed ≡ 0 = omega (arith, here) in is
      ∙ ap (λ k. piece_at k (cut mark quotes false rest)) none
  finds_here passed rest (Some f) here (past, is) = absurd (omega (arith, here, past))

  pub finds_later : (passed : ℕ) (rest field after : List ℕ) (found : Option (Bor (List ℕ))) → (passed ≡ before → ⊥)
      → CutsAt mark quotes false rest field after → Finds passed rest found → Finds (passed + 1) after found
  finds_later passed rest field after None other cuts (up, is) =
      let some : 0 < before - passed = omega (arith, other, up) in
      let less : before - passed - 1 ≡ before - (passed + 1) = omega arith in (
        omega (arith, other, up),
        is ∙ field_passed mark quotes rest field after (before - passed) some cuts
            ∙ ap (λ k. piece_at k (cut mark quotes false after)) less,
      )
  finds_later passed rest field after (Some f) other cuts (past, is) = (omega (arith, past), is)

  pub finds_end : (passed : ℕ) (rest : List ℕ) (end : Bool) (found : Option (Bor (List ℕ))) → (passed ≡ before → ⊥)
      → Uncut mark quotes false rest end → Finds passed rest found
      → MatchOption found (piece_at before (cut mark quotes false row) ≡ None)
      (λ f. piece_at before (cut mark quotes false row) ≡ Some f.now)
  finds_end passed rest end None other whole (up, is) = is
      ∙ no_field mark quotes end rest (before - passed) (omega (arith, other, up)) whole
  finds_end passed rest end (Some f) other whole (past, is) = is
