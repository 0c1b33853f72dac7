-- Laws of cells that are taken as the rows of a list are read. The implementations that state them and proofs alone
-- cite this file.
use Rattle.std.proofs.Common.{◌≡◌, List, [], ◌++◌, Result, Ok, Err, sym, ap, ◌∙◌, refl, subst, append_assoc, append-nil}
use Rattle.h3_lines.specs.Pieces.{Piece}
use Rattle.h3_lines.specs.Taking.{HaveCells, IsRefusal, RefusesCells, cells_before}
use Rattle.h3_lines.specs.declared.run_error.AnswerError.{AnswerError}
use Rattle.h3_lines.specs.declared.run_error.Fault.TheVariants.{Memory, Read, Write}
use Rattle.h3_lines.specs.declared.run_error.RunError.{RunError}
use Rattle.h3_lines.specs.declared.run_error.RunError.TheVariants.{Error, Fault}

none_before : {C : Type 0} (later : Result (List C) AnswerError) → later ≡ cells_before [] later
none_before (Ok cells) = refl
none_before (Err e) = refl

before_both : {C : Type 0} (xs ys : List C) (later : Result (List C) AnswerError)
    → cells_before xs (cells_before ys later) ≡ cells_before (xs ++ ys) later
before_both xs ys (Ok cells) = ap Ok (sym (append_assoc xs ys cells))
before_both xs ys (Err e) = refl

before_refused : {C : Type 0} (cells : List C) (later : Result (List C) AnswerError) (e : RunError) → IsRefusal later e
    → IsRefusal (cells_before cells later) e
before_refused cells later (Error e) is = ap (cells_before cells) is
before_refused cells later (Fault Memory) h = h
before_refused cells later (Fault Read) h = absurd h
before_refused cells later (Fault Write) h = absurd h

module _ {C L N : Type 0} (cells_of : L → N → List Piece → Result (List C) AnswerError) where
  pub have_none : (v : N) → HaveCells cells_of v [] [] v
  have_none v last more = none_before (cells_of last v more)

  pub have_then : (u v w : N) (xs ys : List Piece) (cells1 cells2 : List C) → HaveCells cells_of u xs cells1 v
      → HaveCells cells_of v ys cells2 w → HaveCells cells_of u (xs ++ ys) (cells1 ++ cells2) w
  have_then u v w xs ys cells1 cells2 p q last more =
      ap (cells_of last u) (append_assoc xs ys more) ∙ p last (ys ++ more) ∙ ap (cells_before cells1) (q last more)
      ∙ before_both cells1 cells2 (cells_of last w more)

  -- with nothing after them
  pub have_all : (v w : N) (rows : List Piece) (cells : List C) → HaveCells cells_of v rows cells w → (last : L)
      → cells_of last v rows ≡ cells_before cells (cells_of last w [])
  have_all v w rows cells have last = ap (cells_of last v) (sym (append-nil rows)) ∙ have last []

  pub refuses_after : (u v : N) (xs ys : List Piece) (cells : List C) (e : RunError) → HaveCells cells_of u xs cells v
      → RefusesCells cells_of v ys e → RefusesCells cells_of u (xs ++ ys) e
  refuses_after u v xs ys cells e have refuses last =
      subst (λ l. IsRefusal l e) (sym (have last ys)) (before_refused cells (cells_of last v ys) e (refuses last))
