-- Bytes that are cut into pieces at marks outside quotes; rows, which are cut at line feeds, and lines, which are rows
-- without quotes.
use Rattle.std.specs.Prelude.{◌≡◌, ℕ, ◌==◌, Bool, true, false, not, ◌&&◌, List, [], ◌∷◌, ◌++◌, length, if◌then◌else◌}

-- ---- cutting outside quotes

-- turned quotes inside b: whether the place after a byte is inside quotes, where the place before it is or is not: a
-- quote turns it, if quotes count
abbrev pub turned : Bool → Bool → ℕ → Bool
turned quotes inside b = if quotes && (b == 34) then not inside else inside

-- inside_after quotes inside bytes: whether the place after the bytes is inside quotes
abbrev pub inside_after : Bool → Bool → List ℕ → Bool
inside_after quotes inside [] = inside
inside_after quotes inside (b ∷ bs) = inside_after quotes (turned quotes inside b) bs

-- Piece: bytes that are cut off, without the mark at which they are, and whether the place after them is inside quotes
abbrev pub Piece : Type 0
Piece = List ℕ × Bool

-- with_first b pieces: pieces, the first with one byte more in front
abbrev pub with_first : ℕ → List Piece → List Piece
with_first b [] = []
with_first b (p ∷ ps) = (b ∷ p.0, p.1) ∷ ps

-- cut mark quotes inside bytes: the bytes, of which the first is inside quotes or not, cut at each mark that is not
-- inside quotes; what follows the last such mark is a piece too, if an empty one
abbrev pub cut : ℕ → Bool → Bool → List ℕ → List Piece
cut mark quotes inside [] = ([], inside) ∷ []
cut mark quotes inside (b ∷ bs) =
    if (b == mark) && not inside then (
      [],
      false,
    ) ∷ cut mark quotes false bs else with_first b (cut mark quotes (turned quotes inside b) bs)

-- is_uncut mark quotes inside bytes: each mark in the bytes is inside quotes
abbrev pub is_uncut : ℕ → Bool → Bool → List ℕ → Bool
is_uncut mark quotes inside [] = true
is_uncut mark quotes inside (b ∷ bs) =
    not ((b == mark) && not inside) && is_uncut mark quotes (turned quotes inside b) bs

-- ---- rows

-- pieces_of quotes bytes: the bytes cut at each line feed that is not inside quotes
abbrev pub pieces_of : Bool → List ℕ → List Piece
pieces_of quotes bytes = cut 10 quotes false bytes

-- without_last_nothing pieces: the pieces without the last one, if that is empty
abbrev pub without_last_nothing : List Piece → List Piece
without_last_nothing [] = []
without_last_nothing (p ∷ []) = if length p.0 == 0 then [] else p ∷ []
without_last_nothing (p ∷ q ∷ ps) = p ∷ without_last_nothing (q ∷ ps)

-- rows_of quotes bytes: the rows of a list, each without its line feed: what is before each line feed that is not
-- inside quotes, and what follows the last one, if it has any byte
abbrev pub rows_of : Bool → List ℕ → List Piece
rows_of quotes bytes = without_last_nothing (pieces_of quotes bytes)

-- lines_in pieces: the bytes of each piece
abbrev pub lines_in : List Piece → List (List ℕ)
lines_in [] = []
lines_in (p ∷ ps) = p.0 ∷ lines_in ps

-- ---- bytes that are searched for a mark

-- Uncut mark quotes inside bytes after: no mark cuts the bytes, and this is whether the place after them is inside
-- quotes
pub record Uncut (mark : ℕ) (quotes inside : Bool) (bytes : List ℕ) (after : Bool) : Type 0 where
  pub uncut : is_uncut mark quotes inside bytes ≡ true
  pub inside_is : inside_after quotes inside bytes ≡ after

-- CutsAt mark quotes inside bytes before after: the bytes up to the first mark that cuts them, and those after it
pub record CutsAt (mark : ℕ) (quotes inside : Bool) (bytes before after : List ℕ) : Type 0 where
  pub begins : Uncut mark quotes inside before false
  pub split : bytes ≡ before ++ mark ∷ after
