-- The cells of rows that are taken to the end of a list, or to a refusal.
use Rattle.std.proofs.Common.{◌≡◌, ℕ, ◌^◌, Bool, List, [], Option, Result, Ok, Err, refl, subst, sym}
use Rattle.h3_index.specs.Cell.{Address}
use Rattle.h3_lines.specs.declared.run_error.AnswerError.{AnswerError}
use Rattle.h3_lines.specs.declared.run_error.Fault.TheVariants.{Memory}
use Rattle.h3_lines.specs.declared.run_error.RunError.{RunError}
use Rattle.h3_lines.specs.declared.run_error.RunError.TheVariants.{Fault}
use Rattle.h3_lines.specs.Pieces.{Piece, rows_of}
use Rattle.h3_lines.specs.Splitting.{TakesAll}
use Rattle.h3_rows.specs.ReadTo.{RefusesAtEnd}
use Rattle.h3_rows.proofs.Taken.{StopsEarly, Takes, no_memory as taken_no_memory, read_all as taken_all, read_none as taken_none, refused_early as taken_refused}
use Rattle.h3_rows.specs.Cells.{AllRowsRead, RefusesRows, begun_cells, cells_end, cells_of, cells_then}
use Rattle.h3_rows.specs.CellsIn.{cells_in}
use Rattle.h3_rows.specs.RowsAnswer.{Form, columns_first}
use Rattle.h3_rows.specs.declared.state.Columns.{Columns}
use Rattle.h3_rows.specs.declared.state.RowState.{RowState}

module _ {V : Type 0} (state : V → Form × RowState) (taken : V → List Address → V → Type 0) (v w : V)
    (old new : Option (List ℕ))
    (first : (state v).1.number ≡ 1)
    (start : (state v).1.columns ≡ columns_first (state v).0.has_header (state v).0.choice) where
  from_start : (last : Option Columns → Result (List Address) AnswerError) (rows : List Piece)
      → cells_then last (state v).0 1 (columns_first (state v).0.has_header (state v).0.choice) rows
      ≡ cells_in last (state v) rows
  from_start last rows = rw (first, start) refl

  pub refused_early : (had has : Bool) (e : RunError)
      → StopsEarly cells_in state taken (state v).0.quotes v w old new had has e
      → RefusesRows (state v).0 old new had has e
  refused_early =
      taken_refused cells_in state taken (state v).0.quotes (cells_of (state v).0) (begun_cells (state v).0) v w old new
      (cells_end (state v).0.choice) (λ b. Ok [])
      (from_start (cells_end (state v).0.choice)) (from_start (λ b. Ok [])) (λ n. refl)

  pub read_all : (t : TakesAll (rows_of (state v).0.quotes) (Takes cells_in state taken) v w old new (2 ^ 40) 65536)
      → cells_end (state v).0.choice (state w).1.columns ≡ Ok [] → AllRowsRead (state v).0 (Ok t.takes.0) old new
  read_all =
      taken_all cells_in state taken (state v).0.quotes (cells_of (state v).0) (begun_cells (state v).0) v w old new
      (cells_end (state v).0.choice) (λ b. Ok [])
      (from_start (cells_end (state v).0.choice)) (from_start (λ b. Ok [])) (λ n. refl)

  pub read_none : (t : TakesAll (rows_of (state v).0.quotes) (Takes cells_in state taken) v w old new (2 ^ 40) 65536)
      (e : AnswerError)
      → cells_end (state v).0.choice (state w).1.columns ≡ Err e
      → RefusesAtEnd (state v).0.quotes (cells_of (state v).0) (begun_cells (state v).0) e old new
  read_none =
      taken_none cells_in state taken (state v).0.quotes (cells_of (state v).0) (begun_cells (state v).0) v w old new
      (cells_end (state v).0.choice) (λ b. Ok [])
      (from_start (cells_end (state v).0.choice)) (from_start (λ b. Ok [])) (λ n. refl)

-- nothing is read where there is no memory
pub no_memory : (form : Form) (old : Option (List ℕ)) (had : Bool) → RefusesRows form old old had had (Fault Memory)
no_memory form = taken_no_memory form.quotes (cells_of form) (begun_cells form) [] refl

-- the same of what the source is then
pub refused_at : {R : Type 0} (left : R → Option (List ℕ)) (failed : R → Bool) (after x : R) (form : Form)
    (old : Option (List ℕ)) (had : Bool) (e : RunError)
    → x ≡ after
    → RefusesRows form old (left after) had (failed after) e → RefusesRows form old (left x) had (failed x) e
refused_at left failed after x form old had e is r =
    subst (λ s. RefusesRows form old (left s) had (failed s) e) (sym is) r

pub read_at : {R : Type 0} (left : R → Option (List ℕ)) (after x : R) (form : Form) (old : Option (List ℕ))
    (cells : Result (List Address) AnswerError)
    → x ≡ after → AllRowsRead form cells old (left after) → AllRowsRead form cells old (left x)
read_at left after x form old cells is r = subst (λ s. AllRowsRead form cells old (left s)) (sym is) r
