-- Pages of bytes that are split into rows, which something takes one after another.
use Rattle.std.specs.Prelude.{◌≡◌, ⊤, ℕ, ◌+◌, ◌≤◌, ◌*◌, ◌⊎◌, Bool, false, List, [], ◌∷◌, ◌++◌, length, Option, Some}
use Rattle.std.specs.Io.KnownBytes.{Consumes}
use Rattle.h3_streams.specs.Stream.{HasLeft}
use Rattle.h3_index.specs.Text.{parsed_index}
use Rattle.h3_lines.specs.Pieces.{Piece, Uncut, pieces_of, rows_of}
use Rattle.h3_lines.specs.Reads.{IsWithinReads}
use Rattle.h3_lines.specs.declared.run_error.RunError.{RunError}

-- ---- rows that are taken

-- Goes quotes taken v row bytes w row' bytes': the rows that end in `row ++ bytes`, up to where `row' ++ bytes'` is
-- left, were taken, whatever bytes follow
pub record Goes {V : Type 0} (q : Bool) (taken : V → List Piece → V → Type 0) (v : V) (row bytes : List ℕ) (w : V)
    (row' bytes' : List ℕ) : Type 0 where
  pub ended : List Piece
  pub rows : (rest : List ℕ) → pieces_of q (row ++ (bytes ++ rest)) ≡ ended ++ pieces_of q (row' ++ (bytes' ++ rest))
  pub takes : taken v ended w

-- TakesAll rows taken v w old new reads page: all bytes of the source, in so many reads of such a page, and their rows
-- were taken
pub record TakesAll {V : Type 0} (rows : List ℕ → List Piece) (taken : V → List Piece → V → Type 0) (v w : V)
    (old new : Option (List ℕ)) (reads page : ℕ) : Type 0 where
  pub bytes : List ℕ
  pub held : HasLeft old bytes
  pub consumed : Consumes old new bytes
  pub within : IsWithinReads reads page bytes
  pub takes : taken v (rows bytes) w

-- TakesEnded quotes longest taken v w left inside old new reads page: all bytes of the source, in so many reads of such
-- a page, and the rows that end in them were taken; what follows the last of these is left, and is inside quotes or not
pub record TakesEnded {V : Type 0} (q : Bool) (longest : ℕ) (taken : V → List Piece → V → Type 0) (v w : V)
    (left : List ℕ) (inside : Bool)
    (old new : Option (List ℕ)) (reads page : ℕ) : Type 0 where
  pub bytes : List ℕ
  pub held : HasLeft old bytes
  pub consumed : Consumes old new bytes
  pub within : IsWithinReads reads page bytes
  pub ended : List Piece
  pub pieces : pieces_of q bytes ≡ ended ++ (left, inside) ∷ []
  pub short : length left ≤ longest
  pub takes : taken v ended w

-- StopsReading quotes longest taken settled v w old new fails reads page: a read failed, or none was left; the source
-- had these bytes, of which a part was read before, in so many reads of such a page at most; the rows that end in that
-- part were taken
pub record StopsReading {V : Type 0} (q : Bool) (longest : ℕ) (taken : V → List Piece → V → Type 0)
    (settled : V → Type 0) (v w : V) (old new : Option (List ℕ)) (fails : Type 0) (reads page : ℕ) : Type 0 where
  pub part : List ℕ
  pub rest : List ℕ
  pub held : HasLeft old (part ++ rest)
  pub why : fails ⊎ (reads ≤ length (part ++ rest))
  pub consumed : Consumes old new part
  pub within : length part ≤ reads * page
  pub ended : List Piece
  pub last : Piece
  pub rows : pieces_of q part ≡ ended ++ last ∷ []
  pub short : length last.0 ≤ longest
  pub takes : taken v ended w
  pub settles : settled w

-- RefusesAfter rows refused v w e ended bytes: the rows of the bytes are these, and others that are refused from the
-- one moment to the other
pub record RefusesAfter {V : Type 0} (rows_in : List ℕ → List Piece) (refused : V → List Piece → V → RunError → Type 0)
    (v w : V) (e : RunError) (ended : List Piece) (bytes : List ℕ) : Type 0 where
  pub later : List Piece
  pub rows : rows_in bytes ≡ ended ++ later
  pub refuses : refused v later w e

-- Completes quotes rows_in: bytes are cut as `rows_of` cuts them with some bytes put behind them
abbrev pub Completes : Bool → (List ℕ → List Piece) → Type 0
Completes q rows_in = (bytes : List ℕ) → (more : List ℕ) × (rows_in bytes ≡ rows_of q (bytes ++ more))

-- StopsTaking quotes rows longest taken refused settled v w e old new reads page: a row was refused or a write failed;
-- the rows that end before the last page were taken
--
-- The source had these bytes, of which a part was read, and then a page more at most; the rows that end in that part
-- were taken, and of the others one was refused. So many reads of such a page can find the end of the bytes, or it is
-- refused whatever bytes come after those that were read.
pub record StopsTaking {V : Type 0} (q : Bool) (rows_in : List ℕ → List Piece) (longest : ℕ)
    (taken : V → List Piece → V → Type 0) (refused : V → List Piece → V → RunError → Type 0) (settled : V → Type 0)
    (v w : V) (e : RunError)
    (old new : Option (List ℕ)) (reads page : ℕ) : Type 0 where
  pub part : List ℕ
  pub last : List ℕ
  pub rest : List ℕ
  pub held : HasLeft old (part ++ last ++ rest)
  pub consumed : Consumes old new (part ++ last)
  pub short : length last ≤ page
  pub within : length (part ++ last) ≤ reads * page
  pub ended : List Piece
  pub unended : Piece
  pub rows : pieces_of q part ≡ ended ++ unended ∷ []
  pub begun : length unended.0 ≤ longest
  pub mid : V
  pub takes : taken v ended mid
  pub settles : settled mid
  pub refuses : RefusesAfter rows_in refused mid w e ended (part ++ last ++ rest)
  pub known : IsWithinReads reads page (part ++ last ++ rest)
      ⊎ ((after : List ℕ) → RefusesAfter rows_in refused mid w e ended (part ++ last ++ after))

-- ---- plain lines

-- a line of at most 64 bytes that parses as this index
pub record ParsesAs (line : List ℕ) (index : ℕ) : Type 0 where
  pub short : length line ≤ 64
  pub parses : parsed_index line ≡ Some index

-- the bytes begin with such a line, and after it come these bytes
pub record BeginsPlain (bytes : List ℕ) (index : ℕ) (after : List ℕ) : Type 0 where
  pub line : List ℕ
  pub uncut : (q : Bool) → Uncut 10 q false line false
  pub split : bytes ≡ line ++ 10 ∷ after
  pub parses : ParsesAs line index

-- the rows parse as these indexes, each as its own
abbrev pub ParseAll : List Piece → List ℕ → Type 0
ParseAll [] [] = ⊤
ParseAll (p ∷ ps) (index ∷ indexes) = ParsesAs p.0 index × ParseAll ps indexes
ParseAll [] (index ∷ indexes) = ⊥
ParseAll (p ∷ ps) [] = ⊥

-- the bytes begin with rows that parse as these indexes, and after them come these bytes
pub record BeginsLines (bytes indexes after : List ℕ) : Type 0 where
  pub pieces : List Piece
  pub parse : ParseAll pieces indexes
  pub split : (q : Bool) (rest : List ℕ) → pieces_of q (bytes ++ rest) ≡ pieces ++ pieces_of q (after ++ rest)
  pub shorter : length indexes + length after ≤ length bytes
