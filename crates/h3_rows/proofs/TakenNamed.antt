-- The cells of a table with their names that are taken to the end of a list, or to a refusal.
use Rattle.std.proofs.Common.{◌≡◌, ℕ, ◌^◌, Bool, List, [], Option, Result, Ok, Err, refl, subst, sym}
use Rattle.h3_lines.specs.declared.run_error.AnswerError.{AnswerError}
use Rattle.h3_lines.specs.declared.run_error.Fault.TheVariants.{Memory}
use Rattle.h3_lines.specs.declared.run_error.RunError.{RunError}
use Rattle.h3_lines.specs.declared.run_error.RunError.TheVariants.{Fault}
use Rattle.h3_lines.specs.Pieces.{Piece, rows_of}
use Rattle.h3_lines.specs.Splitting.{TakesAll}
use Rattle.h3_rows.specs.ReadTo.{RefusesAtEnd}
use Rattle.h3_rows.proofs.Taken.{StopsEarly, Takes, no_memory as taken_no_memory, read_all as taken_all, read_none as taken_none, refused_early as taken_refused}
use Rattle.h3_rows.specs.Named.{AllNamedRead, Entry, RefusesNamed, Table, begun_named, named_cells, named_end, named_then, table_first}
use Rattle.h3_rows.specs.NamedIn.{named_in}
use Rattle.h3_rows.specs.declared.table.TableColumns.{TableColumns}
use Rattle.h3_rows.specs.declared.table.TableState.{TableState}

module _ {V : Type 0} (state : V → Table × TableState) (taken : V → List Entry → V → Type 0) (v w : V)
    (old new : Option (List ℕ))
    (first : (state v).1.number ≡ 1) (start : (state v).1.columns ≡ table_first (state v).0) where
  from_start : (last : Option TableColumns → Result (List Entry) AnswerError) (rows : List Piece)
      → named_then last (state v).0 1 (table_first (state v).0) rows ≡ named_in last (state v) rows
  from_start last rows = rw (first, start) refl

  pub refused_early : (had has : Bool) (e : RunError)
      → StopsEarly named_in state taken (state v).0.form.quotes v w old new had has e
      → RefusesNamed (state v).0 old new had has e
  refused_early =
      taken_refused named_in state taken (state v).0.form.quotes (named_cells (state v).0) (begun_named (state v).0) v w
      old new (named_end (state v).0) (λ b. Ok [])
      (from_start (named_end (state v).0)) (from_start (λ b. Ok [])) (λ n. refl)

  pub read_all :
      (t : TakesAll (rows_of (state v).0.form.quotes) (Takes named_in state taken) v w old new (2 ^ 40) 65536)
      → named_end (state v).0 (state w).1.columns ≡ Ok [] → AllNamedRead (state v).0 (Ok t.takes.0) old new
  read_all =
      taken_all named_in state taken (state v).0.form.quotes (named_cells (state v).0) (begun_named (state v).0) v w old
      new (named_end (state v).0) (λ b. Ok [])
      (from_start (named_end (state v).0)) (from_start (λ b. Ok [])) (λ n. refl)

  pub read_none :
      (t : TakesAll (rows_of (state v).0.form.quotes) (Takes named_in state taken) v w old new (2 ^ 40) 65536)
      (e : AnswerError)
      → named_end (state v).0 (state w).1.columns ≡ Err e
      → RefusesAtEnd (state v).0.form.quotes (named_cells (state v).0) (begun_named (state v).0) e old new
  read_none =
      taken_none named_in state taken (state v).0.form.quotes (named_cells (state v).0) (begun_named (state v).0) v w
      old new (named_end (state v).0) (λ b. Ok [])
      (from_start (named_end (state v).0)) (from_start (λ b. Ok [])) (λ n. refl)

-- nothing is read where there is no memory
pub no_memory : (table : Table) (old : Option (List ℕ)) (had : Bool) → RefusesNamed table old old had had (Fault Memory)
no_memory table = taken_no_memory table.form.quotes (named_cells table) (begun_named table) [] refl

-- the same of what the source is then
pub refused_at : {R : Type 0} (left : R → Option (List ℕ)) (failed : R → Bool) (after x : R) (table : Table)
    (old : Option (List ℕ)) (had : Bool) (e : RunError)
    → x ≡ after
    → RefusesNamed table old (left after) had (failed after) e → RefusesNamed table old (left x) had (failed x) e
refused_at left failed after x table old had e is r =
    subst (λ s. RefusesNamed table old (left s) had (failed s) e) (sym is) r

pub read_at : {R : Type 0} (left : R → Option (List ℕ)) (after x : R) (table : Table) (old : Option (List ℕ))
    (entries : Result (List Entry) AnswerError)
    → x ≡ after → AllNamedRead table entries old (left after) → AllNamedRead table entries old (left x)
read_at left after x table old entries is r = subst (λ s. AllNamedRead table entries old (left s)) (sym is) r
