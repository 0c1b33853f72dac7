-- Lines, as the rows of bytes in which no quote counts.
use Rattle.std.proofs.Common.{◌≡◌, ℕ, ◌+◌, ◌==◌, Bool, true, false, List, [], ◌∷◌, ◌++◌, length, Option, None, Some, Result, Ok, Err, if◌then◌else◌, sym, ap, ◌∙◌, refl}
use Rattle.h3_index.specs.Cell.{Address}
use Rattle.h3_index.specs.declared.error.H3Error.{H3Error}
use Rattle.h3_lines.proofs.Lengths.{empty_from_test}
use Rattle.h3_lines.specs.Answer.{Answer}
use Rattle.h3_lines.specs.EachLine.{followed_by, line_answer, lines_answer}
use Rattle.h3_lines.specs.Line.{lines_in-append}
use Rattle.h3_lines.specs.List.{Says, cells_said, lines_of, listed_as, said_as, said_before}
use Rattle.h3_lines.specs.Numbered.{RefusesAt, faulty_from, number_of_fault}
use Rattle.h3_lines.specs.Pieces.{Piece, lines_in, pieces_of, rows_of, without_last_nothing}
use Rattle.h3_lines.specs.Taking.{IsRefusal, cells_from, read_before}
use Rattle.h3_lines.specs.declared.run_error.AnswerError.{AnswerError}
use Rattle.h3_lines.specs.declared.run_error.AnswerError.TheVariants.{At}
use Rattle.h3_lines.specs.declared.run_error.Fault.TheVariants.{Memory, Read, Write}
use Rattle.h3_lines.specs.declared.run_error.RunError.{RunError}
use Rattle.h3_lines.specs.declared.run_error.RunError.TheVariants.{Error, Fault}

-- the lines that end in bytes, and the last one
pub lines_begun : (bytes : List ℕ) (ended : List Piece) (last : Piece) → pieces_of false bytes ≡ ended ++ last ∷ []
    → lines_of bytes ≡ lines_in ended ++ last.0 ∷ []
lines_begun bytes ended last is = ap lines_in is ∙ lines_in-append ended (last ∷ [])

-- ---- a last line without a byte is blank

module _ (answer : Option ℕ → Answer) where
  last_answered : (n : ℕ) (p : Piece) (t : Bool) → (length p.0 == 0) ≡ t
      → lines_answer answer n (lines_in (if t then [] else p ∷ [])) ≡ lines_answer answer n (p.0 ∷ [])
  last_answered n p true is = rw (empty_from_test p.0 true (sym is) refl) refl
  last_answered n p false is = refl

  pieces_answered : (n : ℕ) (ps : List Piece)
      → lines_answer answer n (lines_in (without_last_nothing ps)) ≡ lines_answer answer n (lines_in ps)
  pieces_answered n [] = refl
  pieces_answered n (p ∷ []) = last_answered n p (length p.0 == 0) refl
  pieces_answered n (p ∷ q ∷ ps) = ap (followed_by n (line_answer answer p.0)) (pieces_answered (n + 1) (q ∷ ps))

  pub rows_answered : (bytes : List ℕ)
      → lines_answer answer 1 (lines_in (rows_of false bytes)) ≡ lines_answer answer 1 (lines_of bytes)
  rows_answered bytes = pieces_answered 1 (pieces_of false bytes)

-- the cells, or the error of the first faulty line, at its number
last_read : (says : Says) (n : ℕ) (p : Piece) (t : Bool) → (length p.0 == 0) ≡ t
    → cells_from tt (says, n) (if t then [] else p ∷ []) ≡ cells_from tt (says, n) (p ∷ [])
last_read says n p true is = rw (empty_from_test p.0 true (sym is) refl) refl
last_read says n p false is = refl

pieces_read : (says : Says) (n : ℕ) (ps : List Piece)
    → cells_from tt (says, n) (without_last_nothing ps) ≡ cells_from tt (says, n) ps
pieces_read says n [] = refl
pieces_read says n (p ∷ []) = last_read says n p (length p.0 == 0) refl
pieces_read says n (p ∷ q ∷ ps) = ap (read_before n (said_as says p.0)) (pieces_read says (n + 1) (q ∷ ps))

-- ---- the cells of rows, as those of a list

-- the cells of a list, or its error, at the line with this number
abbrev pub numbered : ℕ → Result (List Address) H3Error → Result (List Address) AnswerError
numbered n (Ok cells) = Ok cells
numbered n (Err e) = Err (At n e)

numbered_before : (n faulty : ℕ) (said : Result (Option Address) H3Error) (list : Result (List Address) H3Error)
    → read_before n said (numbered faulty list) ≡ numbered (number_of_fault n said faulty) (said_before said list)
numbered_before n faulty (Err e) list = refl
numbered_before n faulty (Ok None) (Ok cells) = refl
numbered_before n faulty (Ok None) (Err e) = refl
numbered_before n faulty (Ok (Some cell)) (Ok cells) = refl
numbered_before n faulty (Ok (Some cell)) (Err e) = refl

pub lines_numbered : (says : Says) (n : ℕ) (ps : List Piece)
    → cells_from tt (says, n) ps ≡ numbered (faulty_from says n (lines_in ps)) (cells_said says (lines_in ps))
lines_numbered says n [] = refl
lines_numbered says n (p ∷ ps) =
    ap (read_before n (said_as says p.0)) (lines_numbered says (n + 1) ps)
    ∙ numbered_before n (faulty_from says (n + 1) (lines_in ps)) (said_as says p.0) (cells_said says (lines_in ps))

pub rows_numbered : (says : Says) (n : ℕ) (bytes : List ℕ)
    → cells_from tt (says, n) (rows_of false bytes)
    ≡ numbered (faulty_from says n (lines_of bytes)) (listed_as says bytes)
rows_numbered says n bytes =
    pieces_read says n (pieces_of false bytes) ∙ lines_numbered says n (pieces_of false bytes)

pub numbered_cells : (n : ℕ) (list : Result (List Address) H3Error) (cells : List Address) → numbered n list ≡ Ok cells
    → list ≡ Ok cells
numbered_cells n (Ok found) cells is = let same : found ≡ cells = cc is in ap Ok same
numbered_cells n (Err e) cells is = absurd (cc is)

-- a refusal of the cells of a list, with the number of its line, whatever may be said of reads
pub numbered_refused : (reads : Type 0) (n : ℕ) (list : Result (List Address) H3Error) (e : RunError)
    → IsRefusal (numbered n list) e → RefusesAt reads list n e
numbered_refused reads n (Ok cells) (Error e) is = absurd (cc is)
numbered_refused reads n (Err d) (Error e) is = (d, refl, cc is)
numbered_refused reads n list (Fault Memory) h = tt
numbered_refused reads n list (Fault Read) h = absurd h
numbered_refused reads n list (Fault Write) h = absurd h
