-- What a run does with its streams.
use Rattle.std.specs.Prelude.{◌≡◌, ⊤, ℕ, ◌≤◌, ◌^◌, ◌⊎◌, Bool, true, false, List, ◌++◌, length, Option, None, Some, Result, Ok, Err, IsOk, IsTrue}
use Rattle.h3_index.specs.Cell.{Address}
use Rattle.h3_streams.specs.Stream.{HasLeft}
use Rattle.h3_index.specs.declared.error.H3Error.{H3Error}
use Rattle.h3_table.specs.Fields.{records_of}
use Rattle.h3_table.specs.Links.{Links}
use Rattle.h3_table.specs.Table.{links_of, table_fault}
use Rattle.h3_directions.specs.declared.error.TableError.{TableError}
use Rattle.h3_lines.specs.declared.run_error.AnswerError.{AnswerError}
use Rattle.h3_lines.specs.declared.run_error.AnswerError.TheVariants.{File, Table}
use Rattle.h3_lines.specs.declared.run_error.CellFile.{CellFile}
use Rattle.h3_lines.specs.declared.run_error.Fault.TheVariants.{Memory, Read, Write}
use Rattle.h3_lines.specs.declared.run_error.RunError.{RunError}
use Rattle.h3_lines.specs.declared.run_error.RunError.TheVariants.{Error, Fault}
use Rattle.h3_lines.specs.Answer.{Answer}
use Rattle.h3_lines.specs.Write.{IsLeft, Reports, SinkUse, Takes, Writes}
use Rattle.h3_lines.specs.EachLine.{EndsEach}
use Rattle.h3_lines.specs.List.{Says, itself, listed_as, listed_cells}
use Rattle.h3_lines.specs.Pieces.{rows_of}
use Rattle.h3_lines.specs.Reads.{IsListWithinReads, IsReadToEnd, IsWithinReads, NoReadFails, SourceUse, StopsWithin}
use Rattle.h3_lines.specs.RunError.{ending_of}
use Rattle.h3_rows.specs.Each.{EndsRows}
use Rattle.h3_rows.specs.Cells.{AllRowsRead, RefusesRows, RefusesRowsInPage, RowsReadTo, begun_cells}
use Rattle.h3_rows.specs.Named.{AllNamedRead, Entry, NamedReadTo, RefusesNamed, RefusesNamedInPage, begun_named}
use Rattle.h3_rows.specs.Named.{Table as NamedTable}
use Rattle.h3_rows.specs.RowsAnswer.{Form, begun_answer, rows_answer}
use Rattle.h3_command.specs.Areas.{areas_of_file, entries_of_table}
use Rattle.h3_command.specs.Files.{cells_of_table, file_cells}
use Rattle.h3_command.specs.Answer.{ListRequest, Request, about_list, about_numbered_list, about_table, answer_to, reads_list_after, reads_table, takes_memory}
use Rattle.h3_command.specs.Answer.ListRequest.{of_lines, of_numbered, of_rows, of_whole}
use Rattle.h3_command.specs.Answer.Request.{after_areas, after_file, after_table, of_list, of_table, plain}

-- ---- streams

-- the streams of a run
pub record Streams : Type 1 where
  pub input : SourceUse
  pub table : SourceUse
  pub out : SinkUse
  pub err : SinkUse

-- IsLeftAlone source: the source is left alone: all of its bytes are still left, and no call of it failed
abbrev pub IsLeftAlone : SourceUse → Type 0
IsLeftAlone source = (source.left_after ≡ source.left) × NoReadFails source

-- ReadFails source bytes: one did, or there are at least 2^40 bytes
abbrev pub ReadFails : SourceUse → List ℕ → Type 0
ReadFails source bytes = (source.has_failed ≡ true) ⊎ (2 ^ 40 ≤ length bytes)

-- ---- how a run ends

-- WritesReading: what is written for what is read: the answer, where 2^40 reads of a page can find the end of a table,
-- or the end or a faulty line of a list; nothing where there is no memory, or a read fails
--
-- The answer to these bytes of a source is written, no read fails, and `was_read` holds. Or there is no memory, or a
-- read fails, and then nothing is written.
abbrev pub WritesReading : Answer → List ℕ → Type 0 → SourceUse → Result (Unit {0}) RunError → SinkUse → Type 0
WritesReading a bytes was_read source (Err (Fault Memory)) out = NoReadFails source × IsLeft out
WritesReading a bytes was_read source (Err (Fault Read)) out = ReadFails source bytes × IsLeft out
WritesReading a bytes was_read source ending out = was_read × NoReadFails source × Writes a ending out

-- IsReadSoFar says cells source ending: how far a list is read: one that has cells to its end, but where there is no
-- memory; one with a first error at most a page further than bytes in which no line is known to be faulty; where a read
-- fails, no further than these
abbrev pub IsReadSoFar : Says → Result (List Address) H3Error → SourceUse → Result (Unit {0}) RunError → Type 0
IsReadSoFar says cells source (Err (Fault Read)) = StopsWithin says 0 source
IsReadSoFar says (Err e) source ending = StopsWithin says 65536 source
IsReadSoFar says (Ok cells) source (Err (Fault Memory)) = IsReadToEnd source ⊎ StopsWithin says 65536 source
IsReadSoFar says (Ok cells) source ending = IsReadToEnd source

-- WritesOfList about input ending out: there are bytes of the list, those left where known, and what is written is the
-- answer about them
--
-- there are bytes of the list, those left in the source where these are known, and the answer about the cells in them
-- is written, and 2^40 reads can find the end of the list or a faulty line
abbrev pub WritesOfList : (List Address → Answer) → SourceUse → Result (Unit {0}) RunError → SinkUse → Type 0
WritesOfList about input ending out =
    (list : List ℕ) × HasLeft input.left list
    × WritesReading (about_list None about list) list (IsListWithinReads itself (2 ^ 40) 65536 list) input ending out
    × IsReadSoFar itself (listed_cells list) input ending

-- WritesOfNumberedList says about input ending out: the same, where this is taken for the indexes of the cells, and the
-- error of a faulty line is reported with its number
abbrev pub WritesOfNumberedList : Says → (List Address → Answer) → SourceUse → Result (Unit {0}) RunError → SinkUse
    → Type 0
WritesOfNumberedList says about input ending out =
    (list : List ℕ) × HasLeft input.left list
    × WritesReading (about_numbered_list says None about list) list
    (IsListWithinReads says (2 ^ 40) 65536 list) input ending out
    × IsReadSoFar says (listed_as says list) input ending

-- GivesRows form input cells: the rows of a list are read to their end, no read fails, and these are their cells
abbrev pub GivesRows : Form → SourceUse → List Address → Type 0
GivesRows form input cells = NoReadFails input × AllRowsRead form (Ok cells) input.left input.left_after

-- RefusesInput form input ending: the reading of the cells of rows is refused, as `RefusesRows` says
abbrev pub RefusesInput : Form → SourceUse → Result (Unit {0}) RunError → Type 0
RefusesInput form input (Ok u) = ⊥
RefusesInput form input (Err e) = RefusesRows form input.left input.left_after input.had_failed input.has_failed e

-- WritesUnlessMemory a ending out: the answer is written; or there is no memory, and nothing is
abbrev pub WritesUnlessMemory : Answer → Result (Unit {0}) RunError → SinkUse → Type 0
WritesUnlessMemory a ending out = Writes a ending out ⊎ ((ending ≡ Err (Fault Memory)) × IsLeft out)

-- WritesOfRows form about input ending out: the rows of a list are read, and the answer about their cells is written,
-- or there is no memory for it; or they are refused, and nothing is written
abbrev pub WritesOfRows : Form → (List Address → Answer) → SourceUse → Result (Unit {0}) RunError → SinkUse → Type 0
WritesOfRows form about input ending out =
    ((cells : List Address) × GivesRows form input cells × WritesUnlessMemory (about cells) ending out)
    ⊎ (RefusesInput form input ending × IsLeft out)

-- EndsList form about input ending out: how a command ends that answers about the cells of a list, bare or of rows in a
-- form
abbrev pub EndsList : Option Form → (List Address → Answer) → SourceUse → Result (Unit {0}) RunError → SinkUse → Type 0
EndsList None about input ending out = WritesOfList about input ending out
EndsList (Some form) about input ending out = WritesOfRows form about input ending out

-- EndsNumberedList says form about input ending out: the same, where this is taken for the indexes of the cells, and
-- the error of a faulty line is reported with its number
abbrev pub EndsNumberedList : Says → Option Form → (List Address → Answer) → SourceUse → Result (Unit {0}) RunError
    → SinkUse → Type 0
EndsNumberedList says None about input ending out = WritesOfNumberedList says about input ending out
EndsNumberedList says (Some form) about input ending out = WritesOfRows form about input ending out

-- IsReadWhole source ending: the source is read to its end, but where there is no memory or a read fails
abbrev pub IsReadWhole : SourceUse → Result (Unit {0}) RunError → Type 0
IsReadWhole source (Err (Fault Read)) = ⊤
IsReadWhole source (Err (Fault Memory)) = ⊤
IsReadWhole source ending = IsReadToEnd source

-- WritesOfTable about table ending out: the same of a table
--
-- the same of a table, of which 2^40 reads can find the end, and the answer about its links; a table is read to its end
abbrev pub WritesOfTable : (Links → Answer) → SourceUse → Result (Unit {0}) RunError → SinkUse → Type 0
WritesOfTable about table ending out =
    (file : List ℕ) × HasLeft table.left file
    × WritesReading (about_table about file) file (IsWithinReads (2 ^ 40) 4096 file) table ending out
    × IsReadWhole table ending

-- EndsLines form about input ending out: how the answering of a list ends, line by line, or row by row in a form
abbrev pub EndsLines : Option Form → (Option ℕ → Answer) → SourceUse → Result (Unit {0}) RunError → SinkUse → Type 0
EndsLines None about input ending out =
    EndsEach about input.left input.left_after input.had_failed input.has_failed ending out
EndsLines (Some form) about input ending out =
    EndsRows form.quotes (rows_answer form about)
    (begun_answer form about) input.left input.left_after input.had_failed input.has_failed ending out

-- IsTableReadTo form n bytes file: a part of these bytes of a table of cells is read, and then at most n bytes more;
-- the rows that end in the part have no error, and the one that does not has at most 1,114,111 bytes in it
pub record IsTableReadTo (form : Form) (most : ℕ) (bytes : List ℕ) (file : SourceUse) : Type 0 where
  pub stop : RowsReadTo form most file.left file.left_after
  pub of : stop.part ++ stop.last ++ stop.rest ≡ bytes

-- IsFileReadTo form n bytes file: at most n bytes of a file of cells are read after those in which no line is known
-- to be faulty; or, if it has rows in a form, after rows that have no error
abbrev pub IsFileReadTo : Option Form → ℕ → List ℕ → SourceUse → Type 0
IsFileReadTo None most bytes file = StopsWithin itself most file
IsFileReadTo (Some form) most bytes file = IsTableReadTo form most bytes file

-- IsFileReadWhole bytes file: the file of cells is read to its end, in reads that may be made
abbrev pub IsFileReadWhole : List ℕ → SourceUse → Type 0
IsFileReadWhole bytes file = IsWithinReads (2 ^ 40) 65536 bytes × IsReadToEnd file

-- IsTableReadSoFar form cells bytes file: how far a table of cells is read that is refused: to its end if none of its
-- rows has an error, since it is then refused as a whole, or its header did not come; and else at most a page further
-- than rows that have no error, in reads that may be made
abbrev pub IsTableReadSoFar : Form → Result (List Address) AnswerError → List ℕ → SourceUse → Type 0
IsTableReadSoFar form (Ok cells) bytes file = IsFileReadWhole bytes file
IsTableReadSoFar form (Err e) bytes file =
    (IsFileReadWhole bytes file × IsOk (begun_cells form (rows_of form.quotes bytes)))
    ⊎ ((refused : RefusesRowsInPage form e file.left file.left_after)
    × (refused.stop.part ++ refused.stop.last ++ refused.stop.rest ≡ bytes))

-- IsFileReadSoFar form e bytes file: how far a file of cells with this error is read: to its end for one of the file
-- as a whole, and else at most a page further than bytes in which no line is known to be faulty; or, if it has rows
-- in a form, as `IsTableReadSoFar` says of their cells
abbrev pub IsFileReadSoFar : Option Form → AnswerError → List ℕ → SourceUse → Type 0
IsFileReadSoFar None (File f e) bytes file = IsFileReadWhole bytes file
IsFileReadSoFar None e bytes file =
    IsListWithinReads itself (2 ^ 40) 65536 bytes × StopsWithin itself 65536 file
IsFileReadSoFar (Some form) e bytes file = IsTableReadSoFar form (cells_of_table form bytes) bytes file

-- RefusesFile f form bytes file ending: the bytes of a file of cells, which may have rows in a form, are refused, as
-- a whole and then read to their end, or for a faulty line or row, or there is no memory, and then read as
-- `IsFileReadSoFar` and `IsFileReadTo` say; or a read fails, and they are read no further than those without a fault
abbrev pub RefusesFile : CellFile → Option Form → List ℕ → SourceUse → Result (Unit {0}) RunError → Type 0
RefusesFile f form bytes file (Ok u) = ⊥
RefusesFile f form bytes file (Err (Fault Memory)) = NoReadFails file × IsFileReadTo form 65536 bytes file
RefusesFile f form bytes file (Err (Fault Read)) = ReadFails file bytes × IsFileReadTo form 0 bytes file
RefusesFile f form bytes file (Err (Fault Write)) = ⊥
RefusesFile f form bytes file (Err (Error e)) =
    (file_cells f form bytes ≡ Err e) × NoReadFails file × IsFileReadSoFar form e bytes file

-- GivesFile f form bytes file cells: the bytes of a file of cells are read to their end, and have these cells
pub record GivesFile (f : CellFile) (form : Option Form) (bytes : List ℕ) (file : SourceUse) (cells : List Address)
    : Type 0 where
  pub is : file_cells f form bytes ≡ Ok cells
  pub within : IsWithinReads (2 ^ 40) 65536 bytes
  pub sound : NoReadFails file
  pub whole : IsReadToEnd file

-- EndsOverFile f form then_ends input file ending out: there are bytes of a file of cells, those left where known,
-- which are read first: `then_ends` says of their cells what follows; or they are refused, and standard input is left
-- alone and nothing is written
abbrev pub EndsOverFile : CellFile → Option Form → (List Address → Type 0) → SourceUse → SourceUse
    → Result (Unit {0}) RunError → SinkUse → Type 0
EndsOverFile f form then_ends input file ending out =
    (bytes : List ℕ) × HasLeft file.left bytes
    × (((cells : List Address) × GivesFile f form bytes file cells × then_ends cells)
    ⊎ (RefusesFile f form bytes file ending × IsLeftAlone input × IsLeft out))

-- GivesTable bytes table link: the bytes of a table are read to their end, have no fault, and hold these links
pub record GivesTable (bytes : List ℕ) (table : SourceUse) (link : Links) : Type 0 where
  pub accepted : table_fault (records_of bytes) ≡ None
  pub is : link ≡ links_of (records_of bytes)
  pub within : IsWithinReads (2 ^ 40) 4096 bytes
  pub sound : NoReadFails table
  pub whole : IsReadToEnd table

-- RefusesTableFile bytes table ending: the bytes of a table are read to their end, and refused for their first fault;
-- or there is no memory, or a read fails
abbrev pub RefusesTableFile : List ℕ → SourceUse → Result (Unit {0}) RunError → Type 0
RefusesTableFile bytes table (Ok u) = ⊥
RefusesTableFile bytes table (Err (Fault Memory)) = NoReadFails table
RefusesTableFile bytes table (Err (Fault Read)) = ReadFails table bytes
RefusesTableFile bytes table (Err (Fault Write)) = ⊥
RefusesTableFile bytes table (Err (Error e)) =
    (fault : TableError) × (table_fault (records_of bytes) ≡ Some fault) × (e ≡ Table fault)
    × IsWithinReads (2 ^ 40) 4096 bytes × NoReadFails table × IsReadToEnd table

-- EndsOverTable then_ends input table ending out: there are bytes of a table, those left where known, which are read
-- first: `then_ends` says of their links what follows; or they are refused, and standard input is left alone and
-- nothing is written
abbrev pub EndsOverTable : (Links → Type 0) → SourceUse → SourceUse → Result (Unit {0}) RunError → SinkUse → Type 0
EndsOverTable then_ends input table ending out =
    (bytes : List ℕ) × HasLeft table.left bytes
    × (((link : Links) × GivesTable bytes table link × then_ends link)
    ⊎ (RefusesTableFile bytes table ending × IsLeftAlone input × IsLeft out))

-- IsNamedReadTo table n bytes file: a part of these bytes of a table of zones with names is read, and then at most n
-- bytes more; the rows that end in the part have no error, and the one that does not has at most 1,114,111 bytes in it
pub record IsNamedReadTo (table : NamedTable) (most : ℕ) (bytes : List ℕ) (file : SourceUse) : Type 0 where
  pub stop : NamedReadTo table most file.left file.left_after
  pub of : stop.part ++ stop.last ++ stop.rest ≡ bytes

-- IsNamedReadSoFar table entries bytes file: how far a table of zones with names is read that is refused: to its end if
-- none of its rows has an error, since it is then refused as a whole, or its header did not come; and else at most a
-- page further than rows that have no error, in reads that may be made
abbrev pub IsNamedReadSoFar : NamedTable → Result (List Entry) AnswerError → List ℕ → SourceUse → Type 0
IsNamedReadSoFar table (Ok entries) bytes file = IsFileReadWhole bytes file
IsNamedReadSoFar table (Err e) bytes file =
    (IsFileReadWhole bytes file × IsOk (begun_named table (rows_of table.form.quotes bytes)))
    ⊎ ((refused : RefusesNamedInPage table e file.left file.left_after)
    × (refused.stop.part ++ refused.stop.last ++ refused.stop.rest ≡ bytes))

-- RefusesAreas overlapping table bytes file ending: the bytes of a table of zones with names are refused, and read as
-- `IsNamedReadSoFar` says; or there is no memory, and they are read to their end, if none of the rows has an error, or
-- as `IsNamedReadTo` says; or a read fails, and they are read no further than rows without an error
abbrev pub RefusesAreas : Bool → NamedTable → List ℕ → SourceUse → Result (Unit {0}) RunError → Type 0
RefusesAreas overlapping table bytes file (Ok u) = ⊥
RefusesAreas overlapping table bytes file (Err (Fault Memory)) =
    NoReadFails file
    × ((IsFileReadWhole bytes file × IsOk (entries_of_table table bytes)) ⊎ IsNamedReadTo table 65536 bytes file)
RefusesAreas overlapping table bytes file (Err (Fault Read)) = ReadFails file bytes × IsNamedReadTo table 0 bytes file
RefusesAreas overlapping table bytes file (Err (Fault Write)) = ⊥
RefusesAreas overlapping table bytes file (Err (Error e)) =
    (areas_of_file overlapping table bytes ≡ Err e) × NoReadFails file
    × IsNamedReadSoFar table (entries_of_table table bytes) bytes file

-- GivesAreas overlapping table bytes file entries: the bytes of a table of zones with names are read to their end, have
-- these cells with their names, and no two of its areas overlap, or they may
pub record GivesAreas (overlapping : Bool) (table : NamedTable) (bytes : List ℕ) (file : SourceUse)
    (entries : List Entry) : Type 0 where
  pub is : areas_of_file overlapping table bytes ≡ Ok entries
  pub within : IsWithinReads (2 ^ 40) 65536 bytes
  pub sound : NoReadFails file
  pub whole : IsReadToEnd file

-- EndsOverAreas overlapping table then_ends input file ending out: there are bytes of a table of zones with names,
-- those left where known, which are read first: `then_ends` says of its cells with their names what follows; or they
-- are refused, and standard input is left alone and nothing is written
abbrev pub EndsOverAreas : Bool → NamedTable → (List Entry → Type 0) → SourceUse → SourceUse
    → Result (Unit {0}) RunError
    → SinkUse → Type 0
EndsOverAreas overlapping table then_ends input file ending out =
    (bytes : List ℕ) × HasLeft file.left bytes
    × (((entries : List Entry) × GivesAreas overlapping table bytes file entries × then_ends entries)
    ⊎ (RefusesAreas overlapping table bytes file ending × IsLeftAlone input × IsLeft out))

-- GivesEntries table input entries: the rows of a list are read to their end, no read fails, and these are their
-- entries: each a cell and its second field
abbrev pub GivesEntries : NamedTable → SourceUse → List Entry → Type 0
GivesEntries table input entries = NoReadFails input × AllNamedRead table (Ok entries) input.left input.left_after

-- RefusesEntries table input ending: the reading of the entries of rows is refused, as `RefusesNamed` says
abbrev pub RefusesEntries : NamedTable → SourceUse → Result (Unit {0}) RunError → Type 0
RefusesEntries table input (Ok u) = ⊥
RefusesEntries table input (Err e) =
    RefusesNamed table input.left input.left_after input.had_failed input.has_failed e

-- EndsEntries table about input ending out: the rows of a list are read, and the answer about their entries is written,
-- or there is no memory for it; or they are refused, and nothing is written
abbrev pub EndsEntries : NamedTable → (List Entry → Answer) → SourceUse → Result (Unit {0}) RunError → SinkUse → Type 0
EndsEntries table about input ending out =
    ((entries : List Entry) × GivesEntries table input entries × WritesUnlessMemory (about entries) ending out)
    ⊎ (RefusesEntries table input ending × IsLeft out)

-- EndsOfList r input ending out: how the answering ends of what is asked of a list
abbrev pub EndsOfList : ListRequest → SourceUse → Result (Unit {0}) RunError → SinkUse → Type 0
EndsOfList (of_whole form about) input ending out = EndsList form about input ending out
EndsOfList (of_numbered says form about) input ending out = EndsNumberedList says form about input ending out
EndsOfList (of_lines form about) input ending out = EndsLines form about input ending out
EndsOfList (of_rows table about) input ending out = EndsEntries table about input ending out

-- Ends r input table ending out: how a run may end, by its request
abbrev pub Ends : Request → SourceUse → SourceUse → Result (Unit {0}) RunError → SinkUse → Type 0
Ends (plain a) input table ending out = Writes a ending out
Ends (of_table about) input table ending out = WritesOfTable about table ending out
Ends (of_list r) input table ending out = EndsOfList r input ending out
Ends (after_table then_list) input table ending out =
    EndsOverTable (λ link. EndsOfList (then_list link) input ending out) input table ending out
Ends (after_file f rows then_list) input file ending out =
    EndsOverFile f rows (λ cells. EndsOfList (then_list cells) input ending out) input file ending out
Ends (after_areas overlapping table then_list) input file ending out =
    EndsOverAreas overlapping table (λ entries. EndsOfList (then_list entries) input ending out) input file ending out

-- ---- where nothing fails

-- no source that the request reads fails, nor does standard output
pub record NothingFails (r : Request) (list file : List ℕ) (s : Streams) : Type 0 where
  pub list_read : IsTrue (reads_list_after r file) → ¬ ReadFails s.input list
  pub table_read : IsTrue (reads_table r) → ¬ ReadFails s.table file
  pub answer_written : s.out.has_failed ≡ false

-- an answer is given whole
pub record Gives (a : Answer) (status : ℕ) (s : Streams) : Type 0 where
  pub output : Takes s.out a.output
  pub report : Reports (ending_of a.ending) status s.err

-- nothing is written, and out of memory is reported
pub record RunsOutOfMemory (status : ℕ) (s : Streams) : Type 0 where
  pub output : IsLeft s.out
  pub report : Reports (Err (Fault Memory)) status s.err

-- Answers r status s: there are bytes of the list and of the table, or of a file of cells in its place, those left
-- where known, and where nothing fails the answer to them is given, or out of memory where memory is taken
pub record Answers (r : Request) (status : ℕ) (s : Streams) : Type 0 where
  pub list : List ℕ
  pub file : List ℕ
  pub list_is : HasLeft s.input.left list
  pub file_is : HasLeft s.table.left file
  pub given : NothingFails r list file s
      → Gives (answer_to r list file) status s ⊎ (IsTrue (takes_memory r) × RunsOutOfMemory status s)

-- Runs r status s: what a run does with its streams: `Answers`, `Ends`, and the line and status of its ending
--
-- what a run of this request does that returns this status: what it writes where nothing fails, and how it may end
pub record Runs (r : Request) (status : ℕ) (s : Streams) : Type 0 where
  pub answers : Answers r status s
  pub ending : Result (Unit {0}) RunError
  pub ends : Ends r s.input s.table ending s.out
  pub reports : Reports ending status s.err
