-- How a list is read whose cells are answered as a whole, and how the command ends then.
use Rattle.std.proofs.Common.{◌≡◌, ℕ, List, [], ◌++◌, Option, None, Some, Result, Ok, Err, IfOk, sym, ap, ◌∙◌, subst, inl, inr}
use Rattle.h3_index.specs.Cell.{Address}
use Rattle.h3_lines.specs.Answer.{Answer}
use Rattle.h3_lines.specs.List.{Says, itself, listed_as}
use Rattle.h3_lines.specs.Reads.{IsReadToEnd, NoReadFails, SourceUse}
use Rattle.h3_lines.specs.Write.{IsLeft, SinkUse}
use Rattle.h3_lines.specs.declared.run_error.Fault.TheVariants.{Memory}
use Rattle.h3_lines.specs.declared.run_error.RunError.{RunError}
use Rattle.h3_lines.specs.declared.run_error.RunError.TheVariants.{Fault}
use Rattle.h3_rows.specs.Cells.{AllRowsRead}
use Rattle.h3_rows.specs.RowsAnswer.{Form}
use Rattle.h3_command.specs.Listed.{GivesCells, RefusesCells, RefusesNumbered}
use Rattle.h3_command.specs.Run.{EndsList, EndsNumberedList, GivesRows, IsReadSoFar, WritesUnlessMemory}
use Rattle.h3_command.proofs.Endings.{list_refused, list_written, numbered_refused, numbered_written}

-- ---- what is known of a reading

pub rows_given : {V : Type 0} (taken : List Address → V → Type 0) (form : Form) (input : SourceUse)
    (r : Result V RunError)
    → IfOk r (λ v. (cells : List Address) × AllRowsRead form (Ok cells) input.left input.left_after × taken cells v)
    → IfOk r (λ v. NoReadFails input)
    → IfOk r (λ v. (cells : List Address) × GivesRows form input cells × taken cells v)
rows_given taken form input (Ok v) (cells, all, t) sound = (cells, (sound, all), t)
rows_given taken form input (Err e) told sound = tt

-- the cells that were taken are those of what was empty before
pub items_given : {V : Type 0} (items : V → List Address) (none : List Address) (gives : List Address → Type 0)
    (r : Result V RunError)
    → none ≡ []
    → IfOk r (λ v. (cells : List Address) × gives cells × (items v ≡ none ++ cells)) → IfOk r (λ v. gives (items v))
items_given items none gives (Ok v) empty (cells, given, is) = subst gives (sym (is ∙ ap (λ l. l ++ cells) empty)) given
items_given items none gives (Err e) empty told = tt

-- ---- how the command ends

-- a list that was read to its end is read so far where there is no memory for the answer
read_before : (says : Says) (cells : List Address) (list : List ℕ) (input : SourceUse) → listed_as says list ≡ Ok cells
    → IsReadToEnd input → IsReadSoFar says (listed_as says list) input (Err (Fault Memory))
read_before says cells list input is whole =
    subst (λ l. IsReadSoFar says l input (Err (Fault Memory))) (sym is) (inl whole)

-- the list is read, and the answer about its cells is written, or there is no memory for it
pub list_ends : (form : Option Form) (about : List Address → Answer) (cells : List Address) (input : SourceUse)
    (ending : Result (Unit {0}) RunError) (out : SinkUse)
    → GivesCells itself form input cells → WritesUnlessMemory (about cells) ending out
    → EndsList form about input ending out
list_ends None about cells input ending out given (inl writes) = list_written about cells input ending out given writes
list_ends None about cells input ending out given (inr (is, left)) =
    subst (λ e. EndsList None about input e out) (sym is) (
      given.list,
      given.held,
      (given.sound, left),
      read_before itself cells given.list input given.is given.whole,
    )
list_ends (Some form) about cells input ending out given writes = inl (cells, given, writes)

-- the list is refused
pub list_unanswered : (form : Option Form) (about : List Address → Answer) (input : SourceUse) (e : RunError)
    (out : SinkUse)
    → RefusesCells form input e → IsLeft out → EndsList form about input (Err e) out
list_unanswered None about input e out refused left = list_refused about input e out refused left
list_unanswered (Some form) about input e out refused left = inr (refused, left)

-- the same two, where the error of a faulty line is reported with its number
pub numbered_ends : (says : Says) (form : Option Form) (about : List Address → Answer) (cells : List Address)
    (input : SourceUse)
    (ending : Result (Unit {0}) RunError) (out : SinkUse)
    → GivesCells says form input cells → WritesUnlessMemory (about cells) ending out
    → EndsNumberedList says form about input ending out
numbered_ends says None about cells input ending out given (inl writes) =
    numbered_written says about cells input ending out given writes
numbered_ends says None about cells input ending out given (inr (is, left)) =
    subst (λ e. EndsNumberedList says None about input e out) (sym is) (
      given.list,
      given.held,
      (given.sound, left),
      read_before says cells given.list input given.is given.whole,
    )
numbered_ends says (Some form) about cells input ending out given writes = inl (cells, given, writes)

pub numbered_unanswered : (says : Says) (form : Option Form) (about : List Address → Answer) (input : SourceUse)
    (e : RunError)
    (out : SinkUse)
    → RefusesNumbered says form input e → IsLeft out → EndsNumberedList says form about input (Err e) out
numbered_unanswered says None about input e out refused left = numbered_refused says about input e out refused left
numbered_unanswered says (Some form) about input e out refused left = inr (refused, left)
