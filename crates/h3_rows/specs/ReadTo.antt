-- How the rows of a list are read to its end, or are refused: over what all rows of a list give (`all`), and the first
-- ones of a list of which more may come (`first`).
use Rattle.std.specs.Prelude.{◌≡◌, ℕ, ◌*◌, ◌^◌, ◌≤◌, ◌⊎◌, Bool, true, List, [], ◌∷◌, ◌++◌, length, Option, Result, Ok, Err}
use Rattle.std.specs.Io.KnownBytes.{Consumes}
use Rattle.h3_streams.specs.Stream.{HasLeft}
use Rattle.h3_lines.specs.Reads.{IsWithinReads}
use Rattle.h3_lines.specs.declared.run_error.AnswerError.{AnswerError}
use Rattle.h3_lines.specs.declared.run_error.Fault.TheVariants.{Memory, Read, Write}
use Rattle.h3_lines.specs.declared.run_error.RunError.{RunError}
use Rattle.h3_lines.specs.declared.run_error.RunError.TheVariants.{Error, Fault}
use Rattle.h3_lines.specs.Pieces.{Piece, pieces_of, rows_of}

-- Gives: what rows give, or their error
abbrev pub Gives : Type 0 → Type 0
Gives C = List Piece → Result (List C) AnswerError

-- AllRead quotes all taken: all bytes of a list are read, in reads that may be made, and this is what its rows give, or
-- its error
pub record AllRead {C : Type 0} (quotes : Bool) (all : Gives C) (taken : Result (List C) AnswerError)
    (old new : Option (List ℕ)) : Type 0 where
  pub list : List ℕ
  pub held : HasLeft old list
  pub consumed : Consumes old new list
  pub within : IsWithinReads (2 ^ 40) 65536 list
  pub is : all (rows_of quotes list) ≡ taken

-- ReadTo quotes first most: a part of a list is read, and then at most so many bytes more, in reads that may be made;
-- the rows that end in the part have no error, and the one that does not has at most 1,114,111 bytes in it
pub record ReadTo {C : Type 0} (quotes : Bool) (first : Gives C) (most : ℕ) (old new : Option (List ℕ)) : Type 0 where
  pub part : List ℕ
  pub last : List ℕ
  pub rest : List ℕ
  pub held : HasLeft old (part ++ last ++ rest)
  pub consumed : Consumes old new (part ++ last)
  pub short : length last ≤ most
  pub within : length (part ++ last) ≤ 2 ^ 40 * 65536
  pub ended : List Piece
  pub unended : Piece
  pub rows : pieces_of quotes part ≡ ended ++ unended ∷ []
  pub begun : length unended.0 ≤ 1114111
  pub taken : List C
  pub good : first ended ≡ Ok taken

-- RefusesAtEnd quotes all first e: all rows of a list are read, and none of them has an error; the list has this one at
-- its end
pub record RefusesAtEnd {C : Type 0} (quotes : Bool) (all first : Gives C) (e : AnswerError)
    (old new : Option (List ℕ)) : Type 0 where
  pub read : AllRead quotes all (Err e) old new
  pub taken : List C
  pub good : first (rows_of quotes read.list) ≡ Ok taken

-- RefusesInPage quotes all first e: a row of a list has this error, and at most a page is read beyond rows without one;
-- the list ends within the reads that may be made, or each that begins with what is read has the error
pub record RefusesInPage {C : Type 0} (quotes : Bool) (all first : Gives C) (e : AnswerError)
    (old new : Option (List ℕ)) : Type 0 where
  pub stop : ReadTo quotes first 65536 old new
  pub is : all (rows_of quotes (stop.part ++ stop.last ++ stop.rest)) ≡ Err e
  pub of_row : first (rows_of quotes (stop.part ++ stop.last ++ stop.rest)) ≡ Err e
  pub known : IsWithinReads (2 ^ 40) 65536 (stop.part ++ stop.last ++ stop.rest)
      ⊎ ((after : List ℕ) → all (rows_of quotes (stop.part ++ stop.last ++ after)) ≡ Err e)

-- RefusesRead quotes all first: how the reading of rows is refused: by the list's own error, of its end or of a row in
-- the last page that is read; for want of memory; or by a read that fails, or the last one that may be made
abbrev pub RefusesRead : {C : Type 0} → Bool → Gives C → Gives C → Option (List ℕ) → Option (List ℕ) → Bool → Bool
    → RunError → Type 0
RefusesRead quotes all first old new had has (Error e) =
    (has ≡ had) × (RefusesAtEnd quotes all first e old new ⊎ RefusesInPage quotes all first e old new)
RefusesRead quotes all first old new had has (Fault Memory) = (has ≡ had) × ReadTo quotes first 65536 old new
RefusesRead quotes all first old new had has (Fault Read) =
    (stop : ReadTo quotes first 0 old new) × ((has ≡ true) ⊎ (2 ^ 40 ≤ length (stop.part ++ stop.last ++ stop.rest)))
RefusesRead quotes all first old new had has (Fault Write) = ⊥
