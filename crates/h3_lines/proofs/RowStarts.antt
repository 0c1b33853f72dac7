-- The beginning of a row, at the front of a page or at the end of what was read.
use Rattle.std.proofs.lemmas.Bool.Decides.{nat_tests}
use Rattle.std.proofs.Common.{◌≡◌, ℕ, ◌+◌, ◌-◌, ◌≤◌, ◌==◌, Bool, true, false, not, ◌&&◌, List, [], ◌∷◌, ◌++◌, length, take, drop, sym, ap, ◌∙◌, refl, subst, append_assoc, append-nil, length-append, length-drop, length-take, length-take-le, take-append-drop, arith}
use Rattle.std.proofs.lemmas.List.{take-append-le}
use Rattle.std.proofs.Math.Seq.{drop-append_seam, take-add, take-append-add, take-append_seam}
use Rattle.h3_lines.specs.Pieces.{CutsAt, Piece, Uncut, cut, pieces_of, turned, with_first}
use Rattle.h3_lines.specs.PiecesLaws.{first_piece, uncut_then}
use Rattle.h3_lines.specs.Splitting.{Goes}
use Rattle.h3_lines.proofs.TakenRows.{piece_at_end}

-- ---- bytes that begin with a row's beginning

module _ (mark : ℕ) (quotes : Bool) {mid : Bool} (bytes : List ℕ) (held : ℕ)
    (begun : Uncut mark quotes false (take held bytes) mid) where
  pub uncut_on : {after : Bool} → Uncut mark quotes mid (drop held bytes) after → Uncut mark quotes false bytes after
  uncut_on {after} u =
      subst (λ l. Uncut mark quotes false l after) (take-append-drop held bytes)
      (uncut_then mark quotes (take held bytes) (drop held bytes) begun u)

  pub cut_on : (more after : List ℕ) → CutsAt mark quotes mid (drop held bytes) more after
      → CutsAt mark quotes false bytes (take (held + length more) bytes) after
  cut_on more after cuts =
      let row : take held bytes ++ more ≡ take (held + length more) bytes =
      sym (take-add held (length more) bytes ∙ ap (λ l. take held bytes ++ take (length more) l) cuts.split
      ∙ ap (λ l. take held bytes ++ l) (take-append_seam more (mark ∷ after))) in
      record {
        begins =
            subst (λ l. Uncut mark quotes false l false) row
            (uncut_then mark quotes (take held bytes) more begun cuts.begins);
        split =
            sym (take-append-drop held bytes) ∙ ap (λ l. take held bytes ++ l) cuts.split
            ∙ sym (append_assoc (take held bytes) more (mark ∷ after)) ∙ ap (λ l. l ++ mark ∷ after) row;
      }

-- ---- a read behind a row's beginning

-- the part of a page that is read to
pub part_length : (held size : ℕ) (page part : List ℕ)
    → length part ≡ length (take (held + size - held) (drop held page)) → held + size ≤ length page → length part ≡ size
part_length held size page part is fits = omega (arith, is, length-take {A = ℕ}, length-drop {A = ℕ})

-- the row's beginning, and what was read
pub read_behind : (held n : ℕ) (page part after : List ℕ) → held ≤ length page → n ≤ length part
    → take (held + n) (take held page ++ (part ++ after)) ≡ take held page ++ take n part
read_behind held n page part after within fits =
    let begun : held ≡ length (take held page) = sym (length-take-le held page within) in
    ap (λ k. take (k + n) (take held page ++ (part ++ after))) begun
    ∙ take-append-add (take held page) (part ++ after) n
    ∙ ap (λ l. take held page ++ l) (take-append-le n part after fits)

-- ---- the last piece is the end of the bytes

module _ (mark : ℕ) (quotes : Bool) where
  -- the pieces with a mark between each two
  abbrev joined : List Piece → List ℕ
  joined [] = []
  joined (p ∷ []) = p.0
  joined (p ∷ q ∷ ps) = p.0 ++ mark ∷ joined (q ∷ ps)

  -- the pieces with a mark after each
  abbrev closed : List Piece → List ℕ
  closed [] = []
  closed (p ∷ ps) = p.0 ++ mark ∷ closed ps

  joined-last : (ended : List Piece) (last : Piece) → joined (ended ++ last ∷ []) ≡ closed ended ++ last.0
  joined-last [] last = refl
  joined-last (p ∷ []) last = sym (append_assoc p.0 (mark ∷ []) last.0)
  joined-last (p ∷ q ∷ ps) last =
      ap (λ l. p.0 ++ mark ∷ l) (joined-last (q ∷ ps) last) ∙ sym (append_assoc p.0 (mark ∷ closed (q ∷ ps)) last.0)

  joined-with_first : (b : ℕ) (p : Piece) (ps : List Piece) → joined (with_first b (p ∷ ps)) ≡ b ∷ joined (p ∷ ps)
  joined-with_first b p [] = refl
  joined-with_first b p (q ∷ ps) = refl

  joined-byte : (inside : Bool) (b : ℕ) (bytes : List ℕ) (ends : Bool) → ((b == mark) && not inside) ≡ ends
      → joined (cut mark quotes false bytes) ≡ bytes → joined (cut mark quotes (turned quotes inside b) bytes) ≡ bytes
      → joined (cut mark quotes inside (b ∷ bytes)) ≡ b ∷ bytes
  joined-byte inside b bytes true is later same =
      let (p, ps, first) = first_piece mark quotes false bytes in
      let marked : b ≡ mark = grind (arith, nat_tests) in
      let ends : joined (([], false) ∷ cut mark quotes false bytes) ≡ mark ∷ bytes =
      ap (λ ls. joined (([], false) ∷ ls)) first ∙ ap (λ l. mark ∷ l) (ap joined (sym first) ∙ later) in
      rw is (ends ∙ ap (λ x. x ∷ bytes) (sym marked))
  joined-byte inside b bytes false is later same =
      let (p, ps, first) = first_piece mark quotes (turned quotes inside b) bytes in
      let goes : joined (with_first b (cut mark quotes (turned quotes inside b) bytes)) ≡ b ∷ bytes =
      ap (λ ls. joined (with_first b ls)) first ∙ joined-with_first b p ps
      ∙ ap (λ l. b ∷ l) (ap joined (sym first) ∙ same) in
      rw is goes

  joined-cut : (inside : Bool) (bytes : List ℕ) → joined (cut mark quotes inside bytes) ≡ bytes
  joined-cut inside [] = refl
  joined-cut inside (b ∷ bytes) =
      joined-byte inside b bytes _ refl (joined-cut false bytes) (joined-cut (turned quotes inside b) bytes)

  last_ends : (inside : Bool) (bytes : List ℕ) (ended : List Piece) (last : Piece)
      → cut mark quotes inside bytes ≡ ended ++ last ∷ [] → bytes ≡ closed ended ++ last.0
  last_ends inside bytes ended last is = sym (joined-cut inside bytes) ∙ ap joined is ∙ joined-last ended last

-- what is left of bytes whose rows are taken is their end
pub left_is_end : {V : Type 0} {qs : Bool} {taken : V → List Piece → V → Type 0} {v w : V} {o : Bool}
    (bytes left : List ℕ)
    → Goes qs taken v [] bytes w [] left → Uncut 10 qs false left o
    → (length left ≤ length bytes) × (drop (length bytes - length left) bytes ≡ left)
left_is_end {qs = qs} {o = o} bytes left g u =
    let pieces : pieces_of qs bytes ≡ g.ended ++ (left, o) ∷ [] =
    ap (pieces_of qs) (sym (append-nil bytes)) ∙ g.rows []
    ∙ ap (λ ls. g.ended ++ ls) (ap (pieces_of qs) (append-nil left) ∙ piece_at_end qs left o u) in
    let front = closed 10 qs g.ended in
    let is : bytes ≡ front ++ left = last_ends 10 qs false bytes g.ended (left, o) pieces in
    let parts : length bytes ≡ length front + length left = ap length is ∙ length-append front left in
    let before : length bytes - length left ≡ length front = omega (arith, parts) in
    (omega (arith, parts), ap (λ n. drop n bytes) before ∙ ap (drop (length front)) is ∙ drop-append_seam front left)
