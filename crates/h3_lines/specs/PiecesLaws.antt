-- Laws of pieces that end, that go on, and that grow too long. Proofs alone cite this file.
use Rattle.std.proofs.Common.{◌≡◌, ℕ, ◌==◌, Bool, true, false, not, ◌&&◌, List, [], ◌∷◌, ◌++◌, if◌then◌else◌, sym, ap, ◌∙◌, refl, subst}
use Rattle.h3_lines.specs.Pieces.{Piece, Uncut, cut, inside_after, is_uncut, pieces_of, rows_of, turned, with_first, without_last_nothing}

pub both : (b n : Bool) → (not b && n) ≡ true → (b ≡ false) × (n ≡ true)
both true n h = absurd (cc)
both false n h = (refl, h)

pub and_false : (x : Bool) → (x && false) ≡ false
and_false true = refl
and_false false = refl

module _ (mark : ℕ) (quotes : Bool) where
  -- a piece that ends
  pub cut_at_mark : (inside : Bool) (piece rest : List ℕ) → is_uncut mark quotes inside piece ≡ true
      → inside_after quotes inside piece ≡ false → (mark == mark) ≡ true
      → cut mark quotes inside (piece ++ mark ∷ rest) ≡ (piece, false) ∷ cut mark quotes false rest
  cut_at_mark inside [] rest h closed same = rw (closed, same) refl
  cut_at_mark inside (b ∷ bs) rest h closed same =
      let (other, more) = both ((b == mark) && not inside) (is_uncut mark quotes (turned quotes inside b) bs) h in
      rw (other, cut_at_mark (turned quotes inside b) bs rest more closed same) refl

  -- the last piece
  pub cut_at_end : (inside : Bool) (piece : List ℕ) → is_uncut mark quotes inside piece ≡ true
      → cut mark quotes inside piece ≡ (piece, inside_after quotes inside piece) ∷ []
  cut_at_end inside [] h = refl
  cut_at_end inside (b ∷ bs) h =
      let (other, more) = both ((b == mark) && not inside) (is_uncut mark quotes (turned quotes inside b) bs) h in
      rw (other, cut_at_end (turned quotes inside b) bs more) refl

  -- there is a first piece
  pub first_piece : (inside : Bool) (bytes : List ℕ)
      → (p : Piece) × (ps : List Piece) × (cut mark quotes inside bytes ≡ p ∷ ps)
  first_piece inside [] = (([], inside), [], refl)
  first_piece inside (b ∷ bs) =
      let (p, ps, e) = first_piece (turned quotes inside b) bs in
      elim ((b
      == mark) && not inside) as (λ t. (r : Piece) × (ms : List Piece) × ((if t then (
        [],
        false,
      ) ∷ cut mark quotes false bs else with_first b (cut mark quotes (turned quotes inside b) bs))
      ≡ r ∷ ms))
      [ true ↦ (([], false), cut mark quotes false bs, refl) | false ↦ ((b ∷ p.0, p.1), ps, ap (with_first b) e) ]

  longer : (inside : Bool) (b : ℕ) (bytes piece : List ℕ) (t : Bool) (ps : List Piece)
      → ((b == mark) && not inside) ≡ false → cut mark quotes (turned quotes inside b) bytes ≡ (piece, t) ∷ ps
      → cut mark quotes inside (b ∷ bytes) ≡ (b ∷ piece, t) ∷ ps
  longer inside b bytes piece t ps n e = rw (n, e) refl

  -- a piece that goes on begins with what came of it
  pub cut_goes_on : (inside : Bool) (piece rest : List ℕ) → is_uncut mark quotes inside piece ≡ true
      → (p : List ℕ) × (t : Bool) × (ps : List Piece) × (cut mark quotes inside (piece ++ rest) ≡ (piece ++ p, t) ∷ ps)
  cut_goes_on inside [] rest h = let (p, ps, e) = first_piece inside rest in (p.0, p.1, ps, e)
  cut_goes_on inside (b ∷ bs) rest h =
      let (other, more) = both ((b == mark) && not inside) (is_uncut mark quotes (turned quotes inside b) bs) h in
      let (p, t, ps, e) = cut_goes_on (turned quotes inside b) bs rest more in
      (p, t, ps, longer inside b (bs ++ rest) (bs ++ p) t ps other e)

  pub inside_after-append : (inside : Bool) (xs ys : List ℕ)
      → inside_after quotes inside (xs ++ ys) ≡ inside_after quotes (inside_after quotes inside xs) ys
  inside_after-append inside [] ys = refl
  inside_after-append inside (b ∷ bs) ys = inside_after-append (turned quotes inside b) bs ys

  is_uncut-append : (inside : Bool) (xs ys : List ℕ) → is_uncut mark quotes inside xs ≡ true
      → is_uncut mark quotes (inside_after quotes inside xs) ys ≡ true → is_uncut mark quotes inside (xs ++ ys) ≡ true
  is_uncut-append inside [] ys h k = k
  is_uncut-append inside (b ∷ bs) ys h k =
      let (other, more) = both ((b == mark) && not inside) (is_uncut mark quotes (turned quotes inside b) bs) h in
      rw other (is_uncut-append (turned quotes inside b) bs ys more k)

  -- bytes that are uncut go on with others
  pub uncut_then : {inside mid end : Bool} (xs ys : List ℕ) → Uncut mark quotes inside xs mid
      → Uncut mark quotes mid ys end → Uncut mark quotes inside (xs ++ ys) end
  uncut_then {inside} {mid} {end} xs ys u v =
      record {
        uncut =
            is_uncut-append inside xs ys u.uncut
            (subst (λ o. is_uncut mark quotes o ys ≡ true) (sym u.inside_is) v.uncut);
        inside_is = inside_after-append inside xs ys ∙ ap (λ o. inside_after quotes o ys) u.inside_is ∙ v.inside_is;
      }

  pub uncut_none : (inside : Bool) → Uncut mark quotes inside [] inside
  uncut_none inside = record { uncut = refl; inside_is = refl }

pub uncut_byte : (mark : ℕ) (quotes inside : Bool) (b : ℕ) (bytes : List ℕ) {end : Bool} → (b == mark) ≡ false
    → (quotes && (b == 34)) ≡ false → Uncut mark quotes inside bytes end → Uncut mark quotes inside (b ∷ bytes) end
uncut_byte mark quotes inside b bytes m q u = record { uncut = rw (m, q) u.uncut; inside_is = rw q u.inside_is }

-- ---- rows

pub kept_first : (ended : List Piece) (p : Piece) (ps : List Piece)
    → without_last_nothing (ended ++ p ∷ ps) ≡ ended ++ without_last_nothing (p ∷ ps)
kept_first [] p ps = refl
kept_first (e ∷ []) p ps = refl
kept_first (e ∷ f ∷ more) p ps = ap (λ l. e ∷ l) (kept_first (f ∷ more) p ps)

-- rows that come before others
pub rows_go : (qs : Bool) (bytes later : List ℕ) (ended : List Piece) → pieces_of qs bytes ≡ ended ++ pieces_of qs later
    → rows_of qs bytes ≡ ended ++ rows_of qs later
rows_go qs bytes later ended is =
    let (p, ps, first) = first_piece 10 qs false later in
    ap without_last_nothing (is ∙ ap (λ l. ended ++ l) first) ∙ kept_first ended p ps
    ∙ ap (λ l. ended ++ without_last_nothing l) (sym first)
