-- Laws of pages that are split into rows. Proofs alone cite this file.
use Rattle.std.proofs.Common.{◌≡◌, ℕ, ◌+◌, ◌*◌, ◌≤◌, Bool, List, [], ◌∷◌, ◌++◌, length, Option, sym, ap, ◌∙◌, subst, inl, append-nil, arith}
use Rattle.std.specs.Io.KnownBytes.{Consumes}
use Rattle.h3_streams.specs.Stream.{HasLeft}
use Rattle.h3_lines.specs.declared.run_error.RunError.{RunError}
use Rattle.h3_lines.specs.Pieces.{Piece, pieces_of, rows_of, without_last_nothing}
use Rattle.h3_lines.specs.PiecesLaws.{kept_first}
use Rattle.h3_lines.specs.Splitting.{Completes, StopsTaking, TakesAll, TakesEnded}

-- the rows of bytes, and of none behind them
pub completes_none : (q : Bool) → Completes q (rows_of q)
completes_none q bytes = ([], ap (rows_of q) (sym (append-nil bytes)))

-- the rows of bytes whose last piece is known
pub rows_end : (q : Bool) (bytes : List ℕ) (ended : List Piece) (p : Piece) → pieces_of q bytes ≡ ended ++ p ∷ []
    → rows_of q bytes ≡ ended ++ without_last_nothing (p ∷ [])
rows_end q bytes ended p is = ap without_last_nothing is ∙ kept_first ended p []

-- all bytes of a source are read, and the rows that end in them are taken; the rows of these bytes are those and more
module _ {V : Type 0} (q : Bool) (longest : ℕ) (taken : V → List Piece → V → Type 0) (rows_in : List ℕ → List Piece)
    {v w : V} {left : List ℕ} {inside : Bool} {old new : Option (List ℕ)} {reads page : ℕ}
    (t : TakesEnded q longest taken v w left inside old new reads page) (more : List Piece)
    (rows : rows_in t.bytes ≡ t.ended ++ more) where
  -- more are taken
  pub ended_taken : ((u v w : V) (xs ys : List Piece) → taken u xs v → taken v ys w → taken u (xs ++ ys) w) → {x : V}
      → taken w more x → TakesAll rows_in taken v x old new reads page
  ended_taken both {x} takes =
      record {
        bytes = t.bytes;
        held = t.held;
        consumed = t.consumed;
        within = t.within;
        takes = subst (λ ls. taken v ls x) (sym rows) (both v w x t.ended more t.takes takes);
      }

  -- one of them is refused
  pub ended_refused : (refused : V → List Piece → V → RunError → Type 0) (settled : V → Type 0) {x : V} {e : RunError}
      → settled w → refused w more x e → StopsTaking q rows_in longest taken refused settled v x e old new reads page
  ended_refused refused settled {x} {e} settles refuses =
      let within : length t.bytes + page ≤ reads * page = t.within in
      let front : length (t.bytes ++ []) ≡ length t.bytes = ap length (append-nil t.bytes) in
      let whole : t.bytes ++ [] ++ [] ≡ t.bytes = append-nil (t.bytes ++ []) ∙ append-nil t.bytes in
      let size : length (t.bytes ++ [] ++ []) ≡ length t.bytes = ap length whole in
      record {
        part = t.bytes;
        last = [];
        rest = [];
        held = subst (HasLeft old) (sym whole) t.held;
        consumed = subst (Consumes old new) (sym (append-nil t.bytes)) t.consumed;
        short = omega arith;
        within = omega (arith, front, within);
        ended = t.ended;
        unended = (left, inside);
        rows = t.pieces;
        begun = t.short;
        mid = w;
        takes = t.takes;
        settles = settles;
        refuses = record { later = more; rows = ap rows_in whole ∙ rows; refuses = refuses };
        known = inl (omega (arith, size, within));
      }
