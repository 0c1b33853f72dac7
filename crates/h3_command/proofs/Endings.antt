-- How the reading of a list or a table ends, and what is written then.
use Rattle.std.proofs.Common.{◌≡◌, ℕ, ◌^◌, false, List, Option, None, Some, Result, Ok, Err, [], sym, ◌∙◌, subst, refl, inl, inr, arith}
use Rattle.h3_index.specs.Cell.{Address}
use Rattle.h3_streams.specs.Stream.{HasLeft}
use Rattle.h3_index.specs.declared.error.H3Error.{H3Error}
use Rattle.h3_table.specs.Fields.{records_of}
use Rattle.h3_table.specs.Links.{Links}
use Rattle.h3_table.specs.Table.{RefusesTable, links_of, table_fault}
use Rattle.h3_directions.specs.declared.error.TableError.{TableError}
use Rattle.h3_directions.specs.declared.error.TableError.TheVariants as in_table
use Rattle.h3_lines.specs.Answer.{Answer, answer_or_error}
use Rattle.h3_lines.specs.List.{Says, itself, listed_as, listed_cells}
use Rattle.h3_lines.specs.Numbered.{faulty_line_as}
use Rattle.h3_lines.specs.ListRead.{ListRead, ListRefused, RefusesByError, RefusesByLine}
use Rattle.h3_lines.specs.Reads.{IsReadToEnd, IsWithinReads, NoReadFails, SourceUse, StopsAtFault, StopsWithin}
use Rattle.h3_lines.specs.RunError.{table_refusal}
use Rattle.h3_lines.specs.declared.run_error.AnswerError.{AnswerError}
use Rattle.h3_lines.specs.declared.run_error.AnswerError.TheVariants.{Call, At, Table}
use Rattle.h3_lines.specs.declared.run_error.Fault.TheVariants.{Memory, Read, Write}
use Rattle.h3_lines.specs.declared.run_error.RunError.{RunError}
use Rattle.h3_lines.specs.declared.run_error.RunError.TheVariants.{Error, Fault}
use Rattle.h3_lines.specs.Write.{IsLeft, SinkUse, Writes}
use Rattle.h3_command.specs.Answer.{about_numbered_list, about_table, answer_or_error_at, with_table, unless_faulty}
use Rattle.h3_command.specs.Run.{Ends, EndsEntries, EndsNumberedList, IsReadSoFar, IsReadWhole, ReadFails, RefusesTableFile, WritesOfList, WritesOfNumberedList, WritesReading}
use Rattle.h3_rows.specs.Named.{Entry}
use Rattle.h3_rows.specs.Named.{Table as NamedTable}
use Rattle.h3_rows.specs.Cells.{RefusesRows}
use Rattle.h3_rows.specs.RowsAnswer.{Form}
use Rattle.std.proofs.KnownBytes.{Consumes-nil}
use Rattle.std.specs.Io.KnownBytes.{Consumes}
use Rattle.h3_command.proofs.Written.{nothing, writes_refused}

-- an answer to what was read is written, and no read failed
reading_written : (a : Answer) (bytes : List ℕ) (was_read : Type 0) (source : SourceUse)
    (ending : Result (Unit {0}) RunError) (out : SinkUse)
    → was_read → NoReadFails source → Writes a ending out
    → WritesReading a bytes was_read source ending out
unfolding Writes
reading_written a bytes was_read source (Ok u) out all sound writes = (all, sound, writes)
reading_written a bytes was_read source (Err (Error e)) out all sound writes = (all, sound, writes)
reading_written a bytes was_read source (Err (Fault Memory)) out all sound never = absurd never
reading_written a bytes was_read source (Err (Fault Read)) out all sound never = absurd never
reading_written a bytes was_read source (Err (Fault Write)) out all sound writes = (all, sound, writes)

-- ---- a list

-- a list whose cells are answered is read to its end
read_whole : (says : Says) (a : Answer) (list : List ℕ) (cells : List Address) (input : SourceUse)
    (ending : Result (Unit {0}) RunError) (out : SinkUse)
    → listed_as says list ≡ Ok cells → Writes a ending out → IsReadToEnd input
    → IsReadSoFar says (listed_as says list) input ending
unfolding Writes
read_whole says a list cells input (Ok u) out is writes whole =
    subst (λ l. IsReadSoFar says l input (Ok u)) (sym is) whole
read_whole says a list cells input (Err (Error e)) out is writes whole =
    subst (λ l. IsReadSoFar says l input (Err (Error e))) (sym is) whole
read_whole says a list cells input (Err (Fault Memory)) out is never whole = absurd never
read_whole says a list cells input (Err (Fault Read)) out is never whole = absurd never
read_whole says a list cells input (Err (Fault Write)) out is writes whole =
    subst (λ l. IsReadSoFar says l input (Err (Fault Write))) (sym is) whole

-- where there is no memory, a list may not be read to its end
read_in_part : (says : Says) (cells : Result (List Address) H3Error) (input : SourceUse) → StopsWithin says 65536 input
    → IsReadSoFar says cells input (Err (Fault Memory))
read_in_part says (Ok cells) input stops = inr stops
read_in_part says (Err e) input stops = stops

-- the list is refused
pub list_refused : (about : List Address → Answer) (input : SourceUse) (e : RunError) (out : SinkUse)
    → ListRefused itself RefusesByError (2 ^ 40) 65536 input e → IsLeft out → WritesOfList about input (Err e) out
list_refused about input (Error d) out told left =
    let (error, is, call) = told.refused in (
      told.list,
      told.held,
      (
        told.within (λ never. cc never) (λ never. cc never),
        told.sound (λ never. cc never),
        subst (λ c. Writes (answer_or_error about (listed_cells told.list)) (Err (Error c)) out) (sym call)
            (subst (λ cells. Writes (answer_or_error about cells) (Err (Error (Call error))) out) (sym is)
            (writes_refused error out left)),
      ),
      subst (λ l. IsReadSoFar itself l input (Err (Error d))) (sym is) told.stops,
    )
list_refused about input (Fault Memory) out told left = (
  told.list,
  told.held,
  (told.sound (λ never. cc never), left),
  read_in_part itself (listed_cells told.list) input told.stops,
)
list_refused about input (Fault Read) out told left = (told.list, told.held, (told.refused, left), told.faults refl)
list_refused about input (Fault Write) out told left = absurd told.refused

-- the list is read, and the answer about its cells is written
pub list_written : (about : List Address → Answer) (cells : List Address) (input : SourceUse)
    (ending : Result (Unit {0}) RunError) (out : SinkUse)
    → ListRead itself (2 ^ 40) 65536 input cells → Writes (about cells) ending out
    → WritesOfList about input ending out
list_written about cells input ending out told writes = (
  told.list,
  told.held,
  reading_written _ told.list _ input ending out (inl told.within) told.sound
      (subst (λ read. Writes (answer_or_error about read) ending out) (sym told.is) writes),
  read_whole itself _ told.list cells input ending out told.is writes told.whole,
)

-- ---- a list whose faulty line is reported with its number

-- an error in place of an answer is written
error_written : (e : AnswerError) (out : SinkUse) → IsLeft out
    → Writes (record { output = []; ending = Err e }) (Err (Error e)) out
unfolding Writes
error_written e out left = (refl, (nothing _ _ left.0, left.1))

-- the list is refused
pub numbered_refused : (says : Says) (about : List Address → Answer) (input : SourceUse) (e : RunError) (out : SinkUse)
    → ListRefused says RefusesByLine (2 ^ 40) 65536 input e → IsLeft out
    → WritesOfNumberedList says about input (Err e) out
numbered_refused says about input (Error d) out told left =
    let (error, is, at) = told.refused in (
      told.list,
      told.held,
      (
        told.within (λ never. cc never) (λ never. cc never),
        told.sound (λ never. cc never),
        subst (λ c. Writes (about_numbered_list says None about told.list) (Err (Error c)) out) (sym at)
            (subst (λ cells. Writes (answer_or_error_at (faulty_line_as says told.list) about cells)
            (Err (Error (At (faulty_line_as says told.list) error))) out) (sym is) (error_written
            (At (faulty_line_as says told.list) error) out left)),
      ),
      subst (λ l. IsReadSoFar says l input (Err (Error d))) (sym is) told.stops,
    )
numbered_refused says about input (Fault Memory) out told left = (
  told.list,
  told.held,
  (told.sound (λ never. cc never), left),
  read_in_part says (listed_as says told.list) input told.stops,
)
numbered_refused says about input (Fault Read) out told left =
    (told.list, told.held, (told.refused, left), told.faults refl)
numbered_refused says about input (Fault Write) out told left = absurd told.refused

-- there are some bytes left
pub some_left : (left : Option (List ℕ)) → (bytes : List ℕ) × HasLeft left bytes
some_left None = ([], tt)
some_left (Some bytes) = (bytes, refl)

-- where nothing is read, no line is known to be faulty
unread : (says : Says) (list : List ℕ) → StopsAtFault says 65536 list list
unread says list =
    record {
      before = [];
      last = [];
      split = refl;
      within = omega arith;
      good =
          record { ended = []; last = []; lines = refl; good = refl; short = omega arith };
    }

-- there is no memory before any of the list is read
numbered_unread : (says : Says) (about : List Address → Answer) (input : SourceUse) (out : SinkUse)
    → NoReadFails input → input.left_after ≡ input.left → IsLeft out
    → WritesOfNumberedList says about input (Err (Fault Memory)) out
numbered_unread says about input out sound alone left =
    let (bytes, held) = some_left input.left in (
      bytes,
      held,
      (sound, left),
      read_in_part says (listed_as says bytes) input (λ list known. (list, alone ∙ known, unread says list)),
    )

-- the list is read, and the answer about its cells is written
pub numbered_written : (says : Says) (about : List Address → Answer) (cells : List Address) (input : SourceUse)
    (ending : Result (Unit {0}) RunError) (out : SinkUse)
    → ListRead says (2 ^ 40) 65536 input cells → Writes (about cells) ending out
    → WritesOfNumberedList says about input ending out
numbered_written says about cells input ending out told writes = (
  told.list,
  told.held,
  reading_written _ told.list _ input ending out (inl told.within) told.sound
      (subst (λ read. Writes (answer_or_error_at (faulty_line_as says told.list) about read) ending out) (sym told.is)
      writes),
  read_whole says _ told.list cells input ending out told.is writes told.whole,
)

-- there is no memory before any of the rows is read
rows_unread : (form : Form) (input : SourceUse) → NoReadFails input → input.left_after ≡ input.left
    → RefusesRows form input.left input.left_after input.had_failed input.has_failed (Fault Memory)
rows_unread form input sound alone =
    let (bytes, held) = some_left input.left in
    let told = subst (λ after. Consumes input.left after []) (sym alone) (Consumes-nil input.left) in (
      sound,
      record {
        part = [];
        last = [];
        rest = bytes;
        held = held;
        consumed = told;
        short = omega arith;
        within = omega arith;
        ended = [];
        unended = ([], false);
        rows = refl;
        begun = omega arith;
        taken = [];
        good = refl;
      },
    )

-- there is no memory before any of a list is read, bare or of rows
pub list_unread : (form : Option Form) (about : List Address → Answer) (input : SourceUse) (out : SinkUse)
    → NoReadFails input → input.left_after ≡ input.left → IsLeft out
    → EndsNumberedList itself form about input (Err (Fault Memory)) out
list_unread None about input out sound alone left = numbered_unread itself about input out sound alone left
list_unread (Some form) about input out sound alone left = inr (rows_unread form input sound alone, left)

-- there is no memory before any of the rows is read of which a second field is read too
pub entries_unread : (table : NamedTable) (about : List Entry → Answer) (input : SourceUse) (out : SinkUse)
    → NoReadFails input → input.left_after ≡ input.left → IsLeft out
    → EndsEntries table about input (Err (Fault Memory)) out
entries_unread table about input out sound alone left =
    let (bytes, held) = some_left input.left in
    let told = subst (λ after. Consumes input.left after []) (sym alone) (Consumes-nil input.left) in
    inr (
      (
        sound,
        record {
          part = [];
          last = [];
          rest = bytes;
          held = held;
          consumed = told;
          short = omega arith;
          within = omega arith;
          ended = [];
          unended = ([], false);
          rows = refl;
          begun = omega arith;
          taken = [];
          good = refl;
        },
      ),
      left,
    )

-- ---- a table

-- there is an error in place of the value, and the table is not read
pub value_refused : {A : Type 0} (about : A → Links → Answer) (value : Result A H3Error) (e : H3Error)
    (input table : SourceUse) (out : SinkUse)
    → Err e ≡ value → IsLeft out
    → Ends (with_table about value) input table (Err (Error (Call e))) out
value_refused about value e input table out is left =
    subst (λ c. Ends (with_table about c) input table (Err (Error (Call e))) out) is (writes_refused e out left)

-- an error of the table stands in place of an answer
table_error : (a : Answer) (first : Option TableError) (e : TableError) (file : List ℕ) (table : SourceUse)
    (out : SinkUse)
    → first ≡ Some e → (was_read : Type 0) → ((e ≡ in_table.Read → ⊥) → (e ≡ in_table.Memory → ⊥) → was_read)
    → ((e ≡ in_table.Read → ⊥) → NoReadFails table) → IsLeft out → (e ≡ in_table.Read → ⊥) → (e ≡ in_table.Memory → ⊥)
    → WritesReading (unless_faulty first a) file was_read table (Err (Error (Table e))) out
unfolding Writes
table_error a first e file table out is was_read all sound left other memory = (
  all other memory,
  sound other,
  subst (λ f. Writes (unless_faulty f a) (Err (Error (Table e))) out) (sym is) (
    refl,
    (nothing _ _ left.0, left.1),
  ),
)

table_refuses : (a : Answer) (first : Option TableError) (e : TableError) (file : List ℕ) (table : SourceUse)
    (out : SinkUse)
    → RefusesTable (ReadFails table file) first e → (was_read : Type 0)
    → ((e ≡ in_table.Read → ⊥) → (e ≡ in_table.Memory → ⊥) → was_read) → ((e ≡ in_table.Read → ⊥) → NoReadFails table)
    → IsLeft out → WritesReading (unless_faulty first a) file was_read table (Err (table_refusal e)) out
table_refuses a first in_table.Read file table out fails was_read all sound left = (fails, left)
table_refuses a first in_table.Memory file table out any was_read all sound left = (sound (λ never. cc never), left)
table_refuses a first (in_table.Form row) file table out is was_read all sound left =
    table_error a first _ file table out is was_read all sound left (λ never. cc never) (λ never. cc never)
table_refuses a first (in_table.Range row) file table out is was_read all sound left =
    table_error a first _ file table out is was_read all sound left (λ never. cc never) (λ never. cc never)
table_refuses a first (in_table.Repeated row) file table out is was_read all sound left =
    table_error a first _ file table out is was_read all sound left (λ never. cc never) (λ never. cc never)
table_refuses a first in_table.Missing file table out is was_read all sound left =
    table_error a first _ file table out is was_read all sound left (λ never. cc never) (λ never. cc never)
table_refuses a first (in_table.Neighbours b) file table out is was_read all sound left =
    table_error a first _ file table out is was_read all sound left (λ never. cc never) (λ never. cc never)
table_refuses a first (in_table.Reversal b d) file table out is was_read all sound left =
    table_error a first _ file table out is was_read all sound left (λ never. cc never) (λ never. cc never)
table_refuses a first (in_table.Corner b d) file table out is was_read all sound left =
    table_error a first _ file table out is was_read all sound left (λ never. cc never) (λ never. cc never)

-- a table that is refused for what is in it was read to its end
pub table_read : (e : TableError) (table : SourceUse)
    → ((e ≡ in_table.Read → ⊥) → (e ≡ in_table.Memory → ⊥) → IsReadToEnd table)
    → IsReadWhole table (Err (table_refusal e))
table_read in_table.Read table whole = tt
table_read in_table.Memory table whole = tt
table_read (in_table.Form row) table whole = whole (λ never. cc never) (λ never. cc never)
table_read (in_table.Range row) table whole = whole (λ never. cc never) (λ never. cc never)
table_read (in_table.Repeated row) table whole = whole (λ never. cc never) (λ never. cc never)
table_read in_table.Missing table whole = whole (λ never. cc never) (λ never. cc never)
table_read (in_table.Neighbours b) table whole = whole (λ never. cc never) (λ never. cc never)
table_read (in_table.Reversal b d) table whole = whole (λ never. cc never) (λ never. cc never)
table_read (in_table.Corner b d) table whole = whole (λ never. cc never) (λ never. cc never)

-- whatever comes after it was read
whole_anyway : (table : SourceUse) (ending : Result (Unit {0}) RunError) → IsReadToEnd table → IsReadWhole table ending
whole_anyway table (Ok u) whole = whole
whole_anyway table (Err (Error e)) whole = whole
whole_anyway table (Err (Fault Write)) whole = whole
whole_anyway table (Err (Fault Memory)) whole = tt
whole_anyway table (Err (Fault Read)) whole = tt

-- the table is refused
pub table_refused_so : {A : Type 0} (about : A → Links → Answer) (read : Result A H3Error) (value : A) (e : TableError)
    (input table : SourceUse) (out : SinkUse)
    → Ok value ≡ read
    → (file : List ℕ) × HasLeft table.left file × RefusesTable (ReadFails table file) (table_fault (records_of file)) e
    × ((e ≡ in_table.Read → ⊥) → (e ≡ in_table.Memory → ⊥) → IsWithinReads (2 ^ 40) 4096 file)
    → ((e ≡ in_table.Read → ⊥) → NoReadFails table)
    → ((e ≡ in_table.Read → ⊥) → (e ≡ in_table.Memory → ⊥) → IsReadToEnd table) → IsLeft out
    → Ends (with_table about read) input table (Err (table_refusal e)) out
table_refused_so about read value e input table out is (file, held, refuses, all) sound whole left =
    subst (λ c. Ends (with_table about c) input table (Err (table_refusal e)) out) is (
      file,
      held,
      table_refuses _ _ e file table out refuses _ all sound left,
      table_read e table whole,
    )

-- the table is read, and the answer about its links is written
pub table_answered : {A : Type 0} (about : A → Links → Answer) (read : Result A H3Error) (value : A) (links : Links)
    (ending : Result (Unit {0}) RunError) (input table : SourceUse) (out : SinkUse)
    → Ok value ≡ read
    → (file : List ℕ) → HasLeft table.left file → IsWithinReads (2 ^ 40) 4096 file
    → table_fault (records_of file) ≡ None → links ≡ links_of (records_of file) → NoReadFails table → IsReadToEnd table
    → Writes (about value links) ending out
    → Ends (with_table about read) input table ending out
table_answered about read value links ending input table out is file held short none same sound whole writes =
    let about_file : Writes (about_table (about value) file) ending out =
    subst (λ f. Writes (unless_faulty f (about value (links_of (records_of file)))) ending out) (sym none)
    (subst (λ l. Writes (about value l) ending out) same writes) in
    subst (λ c. Ends (with_table about c) input table ending out) is (
      file,
      held,
      reading_written _ file _ table ending out short sound about_file,
      whole_anyway table ending whole,
    )

-- a table before a list is refused
pub table_file_refused : (e : TableError) (bytes : List ℕ) (table : SourceUse)
    → RefusesTable (ReadFails table bytes) (table_fault (records_of bytes)) e
    → ((e ≡ in_table.Read → ⊥) → (e ≡ in_table.Memory → ⊥) → IsWithinReads (2 ^ 40) 4096 bytes)
    → ((e ≡ in_table.Read → ⊥) → NoReadFails table)
    → ((e ≡ in_table.Read → ⊥) → (e ≡ in_table.Memory → ⊥) → IsReadToEnd table)
    → RefusesTableFile bytes table (Err (table_refusal e))
table_file_refused in_table.Read bytes table fails all sound whole = fails
table_file_refused in_table.Memory bytes table any all sound whole = sound (λ never. cc never)
table_file_refused (in_table.Form row) bytes table is all sound whole = (
  in_table.Form row,
  is,
  refl,
  all (λ never. cc never) (λ never. cc never),
  sound (λ never. cc never),
  whole (λ never. cc never) (λ never. cc never),
)
table_file_refused (in_table.Range row) bytes table is all sound whole = (
  in_table.Range row,
  is,
  refl,
  all (λ never. cc never) (λ never. cc never),
  sound (λ never. cc never),
  whole (λ never. cc never) (λ never. cc never),
)
table_file_refused (in_table.Repeated row) bytes table is all sound whole = (
  in_table.Repeated row,
  is,
  refl,
  all (λ never. cc never) (λ never. cc never),
  sound (λ never. cc never),
  whole (λ never. cc never) (λ never. cc never),
)
table_file_refused in_table.Missing bytes table is all sound whole = (
  in_table.Missing,
  is,
  refl,
  all (λ never. cc never) (λ never. cc never),
  sound (λ never. cc never),
  whole (λ never. cc never) (λ never. cc never),
)
table_file_refused (in_table.Neighbours b) bytes table is all sound whole = (
  in_table.Neighbours b,
  is,
  refl,
  all (λ never. cc never) (λ never. cc never),
  sound (λ never. cc never),
  whole (λ never. cc never) (λ never. cc never),
)
table_file_refused (in_table.Reversal b d) bytes table is all sound whole = (
  in_table.Reversal b d,
  is,
  refl,
  all (λ never. cc never) (λ never. cc never),
  sound (λ never. cc never),
  whole (λ never. cc never) (λ never. cc never),
)
table_file_refused (in_table.Corner b d) bytes table is all sound whole = (
  in_table.Corner b d,
  is,
  refl,
  all (λ never. cc never) (λ never. cc never),
  sound (λ never. cc never),
  whole (λ never. cc never) (λ never. cc never),
)
