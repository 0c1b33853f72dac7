-- What a run does whose ending is known: what its streams hold then.
use Rattle.std.proofs.Common.{◌≡◌, ℕ, ◌⊎◌, Bool, true, false, not, is_some, List, Option, None, Some, Result, Ok, Err, IsTrue, ◌++◌, sym, ap, subst, refl, inl, inr}
use Rattle.std.specs.Result.{is_ok}
use Rattle.h3_index.specs.Cell.{Address}
use Rattle.h3_streams.specs.Stream.{HasLeft}
use Rattle.h3_table.specs.Fields.{records_of}
use Rattle.h3_table.specs.Links.{Links}
use Rattle.h3_table.specs.Table.{links_of, table_fault}
use Rattle.h3_lines.specs.List.{Says}
use Rattle.h3_lines.specs.Answer.{Answer}
use Rattle.h3_lines.specs.EachLine.{EndsEach, list_answer}
use Rattle.h3_lines.specs.Reads.{SourceUse}
use Rattle.h3_lines.specs.RunError.{ending_of}
use Rattle.h3_lines.specs.declared.run_error.CellFile.{CellFile}
use Rattle.h3_lines.specs.declared.run_error.Fault.TheVariants.{Memory, Read, Write}
use Rattle.h3_lines.specs.declared.run_error.RunError.{RunError}
use Rattle.h3_lines.specs.declared.run_error.RunError.TheVariants.{Error, Fault}
use Rattle.h3_lines.specs.Write.{IsLeft, Reports, Writes}
use Rattle.h3_command.specs.Answer.{ListRequest, Request, about_list, about_numbered_list, about_rows, about_table, about_table_rows, answer_of_list, unless_faulty}
use Rattle.h3_command.specs.Areas.{areas_of_file}
use Rattle.h3_command.specs.Files.{file_cells, unless_refused}
use Rattle.h3_command.specs.Answer.ListRequest.{of_lines, of_numbered, of_rows, of_whole}
use Rattle.h3_command.specs.Answer.Request.{after_areas, after_file, after_table, of_list, of_table, plain}
use Rattle.h3_command.specs.Run.{Answers, Ends, EndsEntries, EndsLines, EndsList, EndsNumberedList, EndsOfList, Gives, ReadFails, RefusesAreas, RefusesEntries, RefusesFile, RefusesInput, RefusesTableFile, Runs, RunsOutOfMemory, Streams, WritesOfRows, WritesReading}
use Rattle.h3_rows.specs.Each.{EndsRows}
use Rattle.h3_rows.specs.Named.{Entry}
use Rattle.h3_rows.specs.Named.{Table as NamedTable}
use Rattle.h3_rows.specs.RowsAnswer.{Form, begun_answer, rows_answer}
use Rattle.h3_rows.specs.RowsAnswer.{list_answer as row_answers}
use Rattle.h3_command.specs.Rows.{listed_answer}
use Rattle.h3_command.proofs.Written.{nothing}
use Rattle.h3_command.proofs.Endings.{some_left}

-- ---- a run

-- an answer that was written, where no write failed, is given
gives_written : (a : Answer) (ending : Result (Unit {0}) RunError) (status : ℕ) (s : Streams) → Writes a ending s.out
    → s.out.has_failed ≡ false → Reports ending status s.err → Gives a status s
unfolding Writes
gives_written a (Ok u) status s writes w reports =
    record { output = writes.1; report = subst (λ e. Reports (ending_of e) status s.err) (sym writes.0) reports }
gives_written a (Err (Error e)) status s writes w reports =
    record { output = writes.1; report = subst (λ e. Reports (ending_of e) status s.err) (sym writes.0) reports }
gives_written a (Err (Fault Memory)) status s never w reports = absurd never
gives_written a (Err (Fault Read)) status s never w reports = absurd never
gives_written a (Err (Fault Write)) status s writes w reports = let failed : s.out.has_failed ≡ true = writes.1.1 in cc

-- the same of an answer to what was read
gives_reading : (a : Answer) (bytes : List ℕ) (was_read : Type 0) (source : SourceUse)
    (ending : Result (Unit {0}) RunError) (status : ℕ) (s : Streams)
    → WritesReading a bytes was_read source ending s.out
    → (ReadFails source bytes → ⊥) → s.out.has_failed ≡ false → Reports ending status s.err
    → Gives a status s ⊎ RunsOutOfMemory status s
gives_reading a bytes was_read source (Ok u) status s writes r w reports =
    inl (gives_written a (Ok u) status s writes.2 w reports)
gives_reading a bytes was_read source (Err (Error e)) status s writes r w reports =
    inl (gives_written a (Err (Error e)) status s writes.2 w reports)
gives_reading a bytes was_read source (Err (Fault Memory)) status s writes r w reports =
    inr (record { output = writes.1; report = reports })
gives_reading a bytes was_read source (Err (Fault Read)) status s writes r w reports = absurd (r writes.0)
gives_reading a bytes was_read source (Err (Fault Write)) status s writes r w reports =
    inl (gives_written a (Err (Fault Write)) status s writes.2 w reports)

-- the same of a list whose lines are answered
gives_each : (about : Option ℕ → Answer) (ending : Result (Unit {0}) RunError) (status : ℕ) (s : Streams)
    → EndsEach about s.input.left s.input.left_after s.input.had_failed s.input.has_failed ending s.out
    → Reports ending status s.err
    → (list : List ℕ) × HasLeft s.input.left list
    × ((ReadFails s.input list → ⊥) → s.out.has_failed ≡ false
    → Gives (list_answer about list) status s ⊎ RunsOutOfMemory status s)
gives_each about (Ok u) status s (sound, all) reports =
    (all.list, all.held, λ r w. inl (gives_written (list_answer about all.list) (Ok u) status s all.writes w reports))
gives_each about (Err (Error e)) status s (sound, at, (stop, writes)) reports = (
  stop.part ++ stop.last ++ stop.rest,
  stop.held,
  λ r w. inl (gives_written
      (list_answer about (stop.part ++ stop.last ++ stop.rest)) (Err (Error e)) status s writes w reports),
)
gives_each about (Err (Fault Write)) status s (sound, (stop, takes)) reports =
    (stop.part ++ stop.last ++ stop.rest, stop.held, λ r w. absurd (cc (takes.failed, w)))
gives_each about (Err (Fault Read)) status s stops reports =
    (stops.part ++ stops.rest, stops.held, λ r w. absurd (r stops.fails))
gives_each about (Err (Fault Memory)) status s (sound, kept, left) reports =
    let (list, held) = some_left s.input.left in
    (list, held, λ r w. inr (record { output = left; report = reports }))

-- the same of a list whose rows are answered
gives_rows : (form : Form) (about : Option ℕ → Answer) (ending : Result (Unit {0}) RunError) (status : ℕ) (s : Streams)
    → EndsRows form.quotes (rows_answer form about)
    (begun_answer form about) s.input.left s.input.left_after s.input.had_failed s.input.has_failed ending s.out
    → Reports ending status s.err
    → (list : List ℕ) × HasLeft s.input.left list
    × ((ReadFails s.input list → ⊥) → s.out.has_failed ≡ false
    → Gives (row_answers form about list) status s ⊎ RunsOutOfMemory status s)
gives_rows form about (Ok u) status s (sound, all) reports = (
  all.list,
  all.held,
  λ r w. inl (gives_written (row_answers form about all.list) (Ok u) status s all.writes w reports),
)
gives_rows form about (Err (Error e)) status s (sound, inl (all, good)) reports = (
  all.list,
  all.held,
  λ r w. inl (gives_written (row_answers form about all.list) (Err (Error e)) status s all.writes w reports),
)
gives_rows form about (Err (Error e)) status s (sound, inr ((stop, writes), of_row)) reports = (
  stop.part ++ stop.last ++ stop.rest,
  stop.held,
  λ r w. inl (gives_written
      (row_answers form about (stop.part ++ stop.last ++ stop.rest)) (Err (Error e)) status s writes w reports),
)
gives_rows form about (Err (Fault Write)) status s (sound, inl (all, good)) reports = (
  all.list,
  all.held,
  λ r w. inl (gives_written (row_answers form about all.list) (Err (Fault Write)) status s all.writes w reports),
)
gives_rows form about (Err (Fault Write)) status s (sound, inr (stop, takes)) reports =
    (stop.part ++ stop.last ++ stop.rest, stop.held, λ r w. absurd (cc (takes.failed, w)))
gives_rows form about (Err (Fault Read)) status s stops reports =
    (stops.part ++ stops.rest, stops.held, λ r w. absurd (r stops.fails))
gives_rows form about (Err (Fault Memory)) status s (sound, kept, left) reports =
    let (list, held) = some_left s.input.left in
    (list, held, λ r w. inr (record { output = left; report = reports }))

-- the same of either
gives_lines : (form : Option Form) (about : Option ℕ → Answer) (ending : Result (Unit {0}) RunError) (status : ℕ)
    (s : Streams)
    → EndsLines form about s.input ending s.out → Reports ending status s.err
    → (list : List ℕ) × HasLeft s.input.left list
    × ((ReadFails s.input list → ⊥) → s.out.has_failed ≡ false
    → Gives (listed_answer form about list) status s ⊎ RunsOutOfMemory status s)
gives_lines None about ending status s ends reports = gives_each about ending status s ends reports
gives_lines (Some form) about ending status s ends reports = gives_rows form about ending status s ends reports

-- the cells of rows are refused, or not read to their end
gives_refused_rows : (form : Form) (about : List Address → Answer) (ending : Result (Unit {0}) RunError) (status : ℕ)
    (s : Streams)
    → RefusesInput form s.input ending → IsLeft s.out → Reports ending status s.err
    → (list : List ℕ) × HasLeft s.input.left list
    × ((ReadFails s.input list → ⊥) → Gives (about_rows form about list) status s ⊎ RunsOutOfMemory status s)
gives_refused_rows form about (Ok u) status s never left reports = absurd never
gives_refused_rows form about (Err (Error e)) status s (sound, inl late) left reports =
    let all = late.read in (
      all.list,
      all.held,
      λ r. inl (subst (λ c. Gives (unless_refused about c) status s) (sym all.is)
          (record { output = (nothing _ _ left.0, left.1); report = reports })),
    )
gives_refused_rows form about (Err (Error e)) status s (sound, inr page) left reports =
    let stop = page.stop in (
      stop.part ++ stop.last ++ stop.rest,
      stop.held,
      λ r. inl (subst (λ c. Gives (unless_refused about c) status s)
          (sym page.is) (record { output = (nothing _ _ left.0, left.1); report = reports })),
    )
gives_refused_rows form about (Err (Fault Memory)) status s (sound, stop) left reports =
    (stop.part ++ stop.last ++ stop.rest, stop.held, λ r. inr (record { output = left; report = reports }))
gives_refused_rows form about (Err (Fault Read)) status s (stop, fails) left reports =
    (stop.part ++ stop.last ++ stop.rest, stop.held, λ r. absurd (r fails))
gives_refused_rows form about (Err (Fault Write)) status s never left reports = absurd never

-- the same of rows about whose cells is answered
gives_cells : (form : Form) (about : List Address → Answer) (ending : Result (Unit {0}) RunError) (status : ℕ)
    (s : Streams)
    → WritesOfRows form about s.input ending s.out → Reports ending status s.err
    → (list : List ℕ) × HasLeft s.input.left list
    × ((ReadFails s.input list → ⊥) → s.out.has_failed ≡ false
    → Gives (about_rows form about list) status s ⊎ RunsOutOfMemory status s)
gives_cells form about ending status s (inl (cells, (sound, all), inr (is, left))) reports =
    (all.list, all.held, λ r w. inr (record { output = left; report = subst (λ e. Reports e status s.err) is reports }))
gives_cells form about ending status s (inl (cells, (sound, all), inl writes)) reports = (
  all.list,
  all.held,
  λ r w. inl (subst (λ c. Gives (unless_refused about c) status s) (sym all.is)
      (gives_written (about cells) ending status s writes w reports)),
)
gives_cells form about ending status s (inr (refuses, left)) reports =
    let (list, held, given) = gives_refused_rows form about ending status s refuses left reports in
    (list, held, λ r w. given r)

-- the same of a list about whose cells is answered, bare or of rows
gives_list : (form : Option Form) (about : List Address → Answer) (ending : Result (Unit {0}) RunError) (status : ℕ)
    (s : Streams)
    → EndsList form about s.input ending s.out → Reports ending status s.err
    → (list : List ℕ) × HasLeft s.input.left list
    × ((ReadFails s.input list → ⊥) → s.out.has_failed ≡ false
    → Gives (about_list form about list) status s ⊎ RunsOutOfMemory status s)
gives_list None about ending status s (list, held, writes, so_far) reports =
    (list, held, λ r w. gives_reading _ list _ s.input ending status s writes r w reports)
gives_list (Some form) about ending status s ends reports = gives_cells form about ending status s ends reports

-- the same, where the error of a faulty line is reported with its number
gives_numbered_list : (says : Says) (form : Option Form) (about : List Address → Answer)
    (ending : Result (Unit {0}) RunError) (status : ℕ) (s : Streams)
    → EndsNumberedList says form about s.input ending s.out → Reports ending status s.err
    → (list : List ℕ) × HasLeft s.input.left list
    × ((ReadFails s.input list → ⊥) → s.out.has_failed ≡ false
    → Gives (about_numbered_list says form about list) status s ⊎ RunsOutOfMemory status s)
gives_numbered_list says None about ending status s (list, held, writes, so_far) reports =
    (list, held, λ r w. gives_reading _ list _ s.input ending status s writes r w reports)
gives_numbered_list says (Some form) about ending status s ends reports =
    gives_cells form about ending status s ends reports

-- the entries of rows are refused, or not read to their end
gives_refused_entries : (table : NamedTable) (about : List Entry → Answer) (ending : Result (Unit {0}) RunError)
    (status : ℕ) (s : Streams)
    → RefusesEntries table s.input ending → IsLeft s.out → Reports ending status s.err
    → (list : List ℕ) × HasLeft s.input.left list
    × ((ReadFails s.input list → ⊥) → Gives (about_table_rows table about list) status s ⊎ RunsOutOfMemory status s)
gives_refused_entries table about (Ok u) status s never left reports = absurd never
gives_refused_entries table about (Err (Error e)) status s (sound, inl late) left reports =
    let all = late.read in (
      all.list,
      all.held,
      λ r. inl (subst (λ c. Gives (unless_refused about c) status s) (sym all.is)
          (record { output = (nothing _ _ left.0, left.1); report = reports })),
    )
gives_refused_entries table about (Err (Error e)) status s (sound, inr page) left reports =
    let stop = page.stop in (
      stop.part ++ stop.last ++ stop.rest,
      stop.held,
      λ r. inl (subst (λ c. Gives (unless_refused about c) status s)
          (sym page.is) (record { output = (nothing _ _ left.0, left.1); report = reports })),
    )
gives_refused_entries table about (Err (Fault Memory)) status s (sound, stop) left reports =
    (stop.part ++ stop.last ++ stop.rest, stop.held, λ r. inr (record { output = left; report = reports }))
gives_refused_entries table about (Err (Fault Read)) status s (stop, fails) left reports =
    (stop.part ++ stop.last ++ stop.rest, stop.held, λ r. absurd (r fails))
gives_refused_entries table about (Err (Fault Write)) status s never left reports = absurd never

-- the same of rows about whose entries is answered
gives_entries : (table : NamedTable) (about : List Entry → Answer) (ending : Result (Unit {0}) RunError) (status : ℕ)
    (s : Streams)
    → EndsEntries table about s.input ending s.out → Reports ending status s.err
    → (list : List ℕ) × HasLeft s.input.left list
    × ((ReadFails s.input list → ⊥) → s.out.has_failed ≡ false
    → Gives (about_table_rows table about list) status s ⊎ RunsOutOfMemory status s)
gives_entries table about ending status s (inl (entries, (sound, all), inr (is, left))) reports =
    (all.list, all.held, λ r w. inr (record { output = left; report = subst (λ e. Reports e status s.err) is reports }))
gives_entries table about ending status s (inl (entries, (sound, all), inl writes)) reports = (
  all.list,
  all.held,
  λ r w. inl (subst (λ c. Gives (unless_refused about c) status s) (sym all.is)
      (gives_written (about entries) ending status s writes w reports)),
)
gives_entries table about ending status s (inr (refuses, left)) reports =
    let (list, held, given) = gives_refused_entries table about ending status s refuses left reports in
    (list, held, λ r w. given r)

with_memory : {A B : Type 0} (memory : Bool) → IsTrue memory → A ⊎ B → A ⊎ (IsTrue memory × B)
with_memory memory takes (inl a) = inl a
with_memory memory takes (inr b) = inr (takes, b)

-- what is asked of a list
gives_listed : (r : ListRequest) (ending : Result (Unit {0}) RunError) (status : ℕ) (s : Streams)
    → EndsOfList r s.input ending s.out → Reports ending status s.err
    → (list : List ℕ) × HasLeft s.input.left list
    × ((ReadFails s.input list → ⊥) → s.out.has_failed ≡ false
    → Gives (answer_of_list r list) status s ⊎ RunsOutOfMemory status s)
gives_listed (of_whole form about) ending status s ends reports = gives_list form about ending status s ends reports
gives_listed (of_numbered says form about) ending status s ends reports =
    gives_numbered_list says form about ending status s ends reports
gives_listed (of_lines form about) ending status s ends reports =
    gives_lines form about ending status s ends reports
gives_listed (of_rows table about) ending status s ends reports = gives_entries table about ending status s ends reports

-- a file that is refused, or not read to its end
gives_refused : (f : CellFile) (rows : Option Form) (about : List Address → Answer) (bytes : List ℕ)
    (ending : Result (Unit {0}) RunError)
    (status : ℕ) (s : Streams) → RefusesFile f rows bytes s.table ending → IsLeft s.out → (ReadFails s.table bytes → ⊥)
    → Reports ending status s.err
    → Gives (unless_refused about (file_cells f rows bytes)) status s ⊎ RunsOutOfMemory status s
gives_refused f rows about bytes (Ok u) status s never left r reports = absurd never
gives_refused f rows about bytes (Err (Error e)) status s (is, sound, told) left r reports =
    inl (subst (λ c. Gives (unless_refused about c) status s) (sym is)
    (record { output = (nothing _ _ left.0, left.1); report = reports }))
gives_refused f rows about bytes (Err (Fault Memory)) status s told left r reports =
    inr (record { output = left; report = reports })
gives_refused f rows about bytes (Err (Fault Read)) status s (fails, told) left r reports = absurd (r fails)
gives_refused f rows about bytes (Err (Fault Write)) status s never left r reports = absurd never

-- the list is read after a file that has these cells
read_after : (f : CellFile) (rows : Option Form) (bytes : List ℕ) (cells : List Address)
    → file_cells f rows bytes ≡ Ok cells
    → IsTrue (is_ok (file_cells f rows bytes))
read_after f rows bytes cells is = ap is_ok is

-- the same after a file of cells
file_answers : (f : CellFile) (rows : Option Form) (then_list : List Address → ListRequest)
    (ending : Result (Unit {0}) RunError) (status : ℕ) (s : Streams)
    → Ends (after_file f rows then_list) s.input s.table ending s.out → Reports ending status s.err
    → Answers (after_file f rows then_list) status s
file_answers f rows then_list ending status s (bytes, held, inr (refuses, alone, left)) reports =
    let (list, known) = some_left s.input.left in
    record {
      list = list;
      file = bytes;
      list_is = known;
      file_is = held;
      given =
          λ none. with_memory true refl (gives_refused f rows
          (λ cells. answer_of_list (then_list cells) list) bytes ending status s refuses left
          (none.table_read refl) reports);
    }
file_answers f rows then_list ending status s (bytes, held, inl (cells, gives, ends)) reports =
    let (list, known, given) = gives_listed (then_list cells) ending status s ends reports in
    record {
      list = list;
      file = bytes;
      list_is = known;
      file_is = held;
      given =
          λ none. subst (λ c. Gives (unless_refused (λ cells. answer_of_list (then_list cells) list) c) status s
          ⊎ (IsTrue true × RunsOutOfMemory status s)) (sym gives.is)
          (with_memory true refl (given (none.list_read (read_after f rows bytes cells gives.is)) none.answer_written));
    }

-- a table that is refused, or not read to its end
gives_refused_table : (about : Links → Answer) (bytes : List ℕ) (ending : Result (Unit {0}) RunError) (status : ℕ)
    (s : Streams)
    → RefusesTableFile bytes s.table ending → IsLeft s.out → (ReadFails s.table bytes → ⊥) → Reports ending status s.err
    → Gives (about_table about bytes) status s ⊎ RunsOutOfMemory status s
gives_refused_table about bytes (Ok u) status s never left r reports = absurd never
gives_refused_table about bytes (Err (Error e)) status s (fault, is, same, within, sound, whole) left r reports =
    inl (subst (λ f. Gives (unless_faulty f (about (links_of (records_of bytes)))) status s) (sym is) (record {
      output =
          (nothing _ _ left.0, left.1);
      report = subst (λ d. Reports (Err (Error d)) status s.err) same reports;
    }))
gives_refused_table about bytes (Err (Fault Memory)) status s told left r reports =
    inr (record { output = left; report = reports })
gives_refused_table about bytes (Err (Fault Read)) status s fails left r reports = absurd (r fails)
gives_refused_table about bytes (Err (Fault Write)) status s never left r reports = absurd never

-- the list is read after a table that has no fault
read_after_table : (bytes : List ℕ) → table_fault (records_of bytes) ≡ None
    → IsTrue (not (is_some (table_fault (records_of bytes))))
read_after_table bytes is = ap (λ f. not (is_some f)) is

table_answers : (then_list : Links → ListRequest) (ending : Result (Unit {0}) RunError) (status : ℕ) (s : Streams)
    → Ends (after_table then_list) s.input s.table ending s.out → Reports ending status s.err
    → Answers (after_table then_list) status s
table_answers then_list ending status s (bytes, held, inr (refuses, alone, left)) reports =
    let (list, known) = some_left s.input.left in
    record {
      list = list;
      file = bytes;
      list_is = known;
      file_is = held;
      given =
          λ none. with_memory true refl (gives_refused_table
          (λ link. answer_of_list (then_list link) list) bytes ending status s refuses left
          (none.table_read refl) reports);
    }
table_answers then_list ending status s (bytes, held, inl (link, gives, ends)) reports =
    let (list, known, given) = gives_listed (then_list link) ending status s ends reports in
    record {
      list = list;
      file = bytes;
      list_is = known;
      file_is = held;
      given =
          λ none. subst (λ f. Gives
          (unless_faulty f (answer_of_list (then_list (links_of (records_of bytes))) list)) status s ⊎
          (IsTrue true × RunsOutOfMemory status s)) (sym gives.accepted)
          (subst (λ l. Gives (answer_of_list (then_list l) list) status s ⊎ (IsTrue true × RunsOutOfMemory status s))
          gives.is
          (with_memory true refl (given (none.list_read (read_after_table bytes gives.accepted)) none.answer_written)));
    }

-- a table of zones with names that is refused, or not read to its end
gives_refused_areas : (overlapping : Bool) (table : NamedTable) (about : List Entry → Answer) (bytes : List ℕ)
    (ending : Result (Unit {0}) RunError) (status : ℕ) (s : Streams)
    → RefusesAreas overlapping table bytes s.table ending → IsLeft s.out → (ReadFails s.table bytes → ⊥)
    → Reports ending status s.err
    → Gives (unless_refused about (areas_of_file overlapping table bytes)) status s ⊎ RunsOutOfMemory status s
gives_refused_areas overlapping table about bytes (Ok u) status s never left r reports = absurd never
gives_refused_areas overlapping table about bytes (Err (Error e)) status s (is, sound, told) left r reports =
    inl (subst (λ c. Gives (unless_refused about c) status s) (sym is)
    (record { output = (nothing _ _ left.0, left.1); report = reports }))
gives_refused_areas overlapping table about bytes (Err (Fault Memory)) status s told left r reports =
    inr (record { output = left; report = reports })
gives_refused_areas overlapping table about bytes (Err (Fault Read)) status s (fails, told) left r reports =
    absurd (r fails)
gives_refused_areas overlapping table about bytes (Err (Fault Write)) status s never left r reports = absurd never

-- the list is read after a table of zones that has these names
read_after_areas : (overlapping : Bool) (table : NamedTable) (bytes : List ℕ) (entries : List Entry)
    → areas_of_file overlapping table bytes ≡ Ok entries → IsTrue (is_ok (areas_of_file overlapping table bytes))
read_after_areas overlapping table bytes entries is = ap is_ok is

areas_answers : (overlapping : Bool) (table : NamedTable) (then_list : List Entry → ListRequest)
    (ending : Result (Unit {0}) RunError) (status : ℕ) (s : Streams)
    → Ends (after_areas overlapping table then_list) s.input s.table ending s.out → Reports ending status s.err
    → Answers (after_areas overlapping table then_list) status s
areas_answers overlapping table then_list ending status s (bytes, held, inr (refuses, alone, left)) reports =
    let (list, known) = some_left s.input.left in
    record {
      list = list;
      file = bytes;
      list_is = known;
      file_is = held;
      given =
          λ none. with_memory true refl (gives_refused_areas overlapping table
          (λ entries. answer_of_list (then_list entries) list) bytes ending status s refuses left
          (none.table_read refl) reports);
    }
areas_answers overlapping table then_list ending status s (bytes, held, inl (entries, gives, ends)) reports =
    let (list, known, given) = gives_listed (then_list entries) ending status s ends reports in
    record {
      list = list;
      file = bytes;
      list_is = known;
      file_is = held;
      given =
          λ none. subst (λ c. Gives
          (unless_refused (λ entries. answer_of_list (then_list entries) list) c) status s ⊎
          (IsTrue true × RunsOutOfMemory status s)) (sym gives.is)
          (with_memory true refl
          (given (none.list_read (read_after_areas overlapping table bytes entries gives.is)) none.answer_written));
    }

answers : (r : Request) (ending : Result (Unit {0}) RunError) (status : ℕ) (s : Streams)
    → Ends r s.input s.table ending s.out → Reports ending status s.err → Answers r status s
answers (plain a) ending status s writes reports =
    let (list, held) = some_left s.input.left in
    let (file, kept) = some_left s.table.left in
    record {
      list = list;
      file = file;
      list_is = held;
      file_is = kept;
      given =
          λ none. inl (gives_written a ending status s writes none.answer_written reports);
    }
answers (of_table about) ending status s (file, held, writes, all) reports =
    let (list, kept) = some_left s.input.left in
    record {
      list = list;
      file = file;
      list_is = kept;
      file_is = held;
      given =
          λ none. with_memory true refl
          (gives_reading _ file _ s.table ending status s writes (none.table_read refl) none.answer_written reports);
    }
answers (of_list r) ending status s ends reports =
    let (list, held, given) = gives_listed r ending status s ends reports in
    let (file, kept) = some_left s.table.left in
    record {
      list = list;
      file = file;
      list_is = held;
      file_is = kept;
      given =
          λ none. with_memory true refl (given (none.list_read refl) none.answer_written);
    }
answers (after_table then_list) ending status s ends reports =
    table_answers then_list ending status s ends reports
answers (after_file f rows then_list) ending status s ends reports =
    file_answers f rows then_list ending status s ends reports
answers (after_areas overlapping table then_list) ending status s ends reports =
    areas_answers overlapping table then_list ending status s ends reports

-- a run ends so, and reports it
pub run_meets_contract : (r : Request) (ending : Result (Unit {0}) RunError) (status : ℕ) (s : Streams)
    → Ends r s.input s.table ending s.out → Reports ending status s.err → Runs r status s
run_meets_contract r ending status s ends reports =
    record { answers = answers r ending status s ends reports; ending = ending; ends = ends; reports = reports }
