-- The last row of a list, which no line feed ends, with the carriage returns that it lacks.
use Rattle.std.proofs.Common.{◌≡◌, ℕ, zero, suc, ◌<◌, ◌==◌, Bool, true, false, not, ◌&&◌, ◌||◌, if◌then◌else◌, List, [], ◌∷◌, ◌++◌, length, replicate, sym, ap, ◌∙◌, refl, arith}
use Rattle.std.proofs.lemmas.Bool.Decides.{nat_tests}
use Rattle.h3_lines.specs.Pieces.{Piece, Uncut, cut, pieces_of, rows_of, turned, with_first, without_last_nothing}
use Rattle.h3_lines.specs.PiecesLaws.{and_false, cut_at_end, first_piece, uncut_byte, uncut_none}
use Rattle.h3_lines.specs.Splitting.{Completes}
use Rattle.h3_lines.specs.SplittingLaws.{rows_end}
use Rattle.h3_rows.specs.LastRow.{returns_after}
use Rattle.h3_rows.specs.Row.{lacking, lacking_last, list_rows, returns_of, row_body}
use Rattle.std.proofs.lemmas.List.{length-replicate}
use Rattle.h3_rows.proofs.Returns.{returns_of_row}

-- ---- bytes behind the last piece

abbrev with_more : List ℕ → List Piece → List Piece
with_more more [] = []
with_more more (p ∷ []) = (p.0 ++ more, p.1) ∷ []
with_more more (p ∷ q ∷ ps) = p ∷ with_more more (q ∷ ps)

first_more : (b : ℕ) (more : List ℕ) (pieces : List Piece)
    → with_first b (with_more more pieces) ≡ with_more more (with_first b pieces)
first_more b more [] = refl
first_more b more (p ∷ []) = refl
first_more b more (p ∷ q ∷ ps) = refl

ended_more : (more : List ℕ) (ended : List Piece) (p : Piece)
    → with_more more (ended ++ p ∷ []) ≡ ended ++ (p.0 ++ more, p.1) ∷ []
ended_more more [] p = refl
ended_more more (e ∷ []) p = refl
ended_more more (e ∷ f ∷ es) p = ap (λ l. e ∷ l) (ended_more more (f ∷ es) p)

-- bytes that cut nothing and turn nothing
module _ (q : Bool) (more : List ℕ) (uncut : (inside : Bool) → Uncut 10 q inside more inside) where
  cut_more : (inside : Bool) (bytes : List ℕ) → cut 10 q inside (bytes ++ more) ≡ with_more more (cut 10 q inside bytes)
  cut_more inside [] =
      cut_at_end 10 q inside more (uncut inside).uncut ∙ ap (λ t. (more, t) ∷ []) (uncut inside).inside_is
  cut_more inside (b ∷ bs) =
      let next = turned q inside b in
      let go : (t : Bool)
      → (if t then ([], false) ∷ cut 10 q false (bs ++ more) else with_first b (cut 10 q next (bs ++ more)))
      ≡ with_more more (if t then ([], false) ∷ cut 10 q false bs else with_first b (cut 10 q next bs)) =
      λ t.
      elim t as
      (λ t.
      (if t then ([], false) ∷ cut 10 q false (bs ++ more) else with_first b (cut 10 q next (bs ++ more)))
      ≡ with_more more (if t then ([], false) ∷ cut 10 q false bs else with_first b (cut 10 q next bs))) [
        | true ↦ (
            let (p, ps, is) = first_piece 10 q false bs in
            let kept : with_more more (([], false) ∷ cut 10 q false bs) ≡ (
              [],
              false,
            ) ∷ with_more more (cut 10 q false bs) =
            rw is refl in
            ap (λ l. ([], false) ∷ l) (cut_more false bs) ∙ sym kept)
        | false ↦ ap (with_first b) (cut_more next bs) ∙ first_more b more (cut 10 q next bs)
      ] in
      go ((b == 10) && not inside)

-- ---- carriage returns

uncut_returns : (q inside : Bool) (n : ℕ) → Uncut 10 q inside (replicate n 13) inside
uncut_returns q inside zero = uncut_none 10 q inside
uncut_returns q inside (suc n) =
    uncut_byte 10 q inside 13 (replicate n 13) refl (and_false q) (uncut_returns q inside n)

uncut_lacking : (q inside : Bool) (n : ℕ) (line : List ℕ) → Uncut 10 q inside (lacking (replicate n 13) line) inside
uncut_lacking q inside n line =
    let go : (t : Bool) → Uncut 10 q inside (if t then [] else replicate n 13) inside =
    λ t.
    elim t as (λ t. Uncut 10 q inside (if t then [] else replicate n 13) inside)
    [ true ↦ uncut_none 10 q inside | false ↦ uncut_returns q inside n ] in
    go ((length line == 0) || not (length (returns_of line) == 0))

lacking_ended : (returns : List ℕ) (ended : List Piece) (p : Piece)
    → lacking_last returns (ended ++ p ∷ []) ≡ lacking (returns_after returns ended) p.0
lacking_ended returns [] p = refl
lacking_ended returns (e ∷ []) p = refl
lacking_ended returns (e ∷ f ∷ es) p = lacking_ended (returns_of e.0) (f ∷ es) p

-- the rows of a list whose last piece is known
pub rows_ended : (q : Bool) (list : List ℕ) (ended : List Piece) (l : List ℕ) (o : Bool) (n : ℕ)
    → pieces_of q list ≡ ended ++ (l, o) ∷ [] → replicate n 13 ≡ returns_after [] ended
    → list_rows q list ≡ ended ++ without_last_nothing ((l ++ lacking (replicate n 13) l, o) ∷ [])
rows_ended q list ended l o n pieces returns =
    let more = lacking (replicate n 13) l in
    let is : lacking_last [] (pieces_of q list) ≡ more =
    ap (lacking_last []) pieces ∙ lacking_ended [] ended (l, o) ∙ ap (λ r. lacking r l) (sym returns) in
    let whole : pieces_of q (list ++ more) ≡ ended ++ (l ++ more, o) ∷ [] =
    cut_more q more (λ inside. uncut_lacking q inside n l) false list ∙ ap (with_more more) pieces
    ∙ ended_more more ended (l, o) in
    ap (λ m. rows_of q (list ++ m)) is ∙ rows_end q (list ++ more) ended (l ++ more, o) whole

-- a last row that has more bytes than some
pub long_kept : (longest : ℕ) (l : List ℕ) (o : Bool) → longest < length l → without_last_nothing ((l, o) ∷ []) ≡ (
  l,
  o,
) ∷ []
long_kept longest l o long = let filled : (length l == 0) ≡ false = grind (arith, nat_tests) in rw filled refl

pub list_completes : (q : Bool) → Completes q (list_rows q)
list_completes q bytes = (lacking_last [] (pieces_of q bytes), refl)

-- ---- what a row lacks

pub lacks_none_empty : (returns line : List ℕ) → (length line == 0) ≡ true → lacking returns line ≡ []
lacks_none_empty returns line none = rw none refl

module _ (returns body : List ℕ) (n : ℕ) (bare : row_body body ≡ body)
    (some : (length (body ++ replicate n 13) == 0) ≡ false) where
  own : length (returns_of (body ++ replicate n 13)) ≡ n
  own = ap length (returns_of_row body n bare) ∙ length-replicate n 13

  -- a row that ends in carriage returns
  pub lacks_none : (n ≡ 0 → ⊥) → lacking returns (body ++ replicate n 13) ≡ []
  lacks_none other = let ends : (n == 0) ≡ false = grind (arith, nat_tests) in rw (some, own, ends) refl

  -- a row that ends in another byte
  pub lacks_all : n ≡ 0 → lacking returns (body ++ replicate n 13) ≡ returns
  lacks_all none = let ends : (n == 0) ≡ true = grind (arith, nat_tests) in rw (some, own, ends) refl
