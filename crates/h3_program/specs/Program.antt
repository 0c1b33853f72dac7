-- What a program does for the words of its command line.
use Rattle.std.specs.Prelude.{◌≡◌, ◌⊎◌, ◌++◌, ℕ, false, List, [], ◌∷◌, codes, Option, Some, None, string_bytes, Result, Ok, Err}
use Rattle.std.specs.Io.KnownBytes.{Appends}
use Rattle.h3_lines.specs.Answer.{written}
use Rattle.h3_lines.specs.Reads.{NoReadFails, SourceUse}
use Rattle.h3_lines.specs.Write.{AppendsPart, IsLeft, Reports, SinkUse, Writes}
use Rattle.h3_lines.specs.declared.run_error.Fault.TheVariants as fault
use Rattle.h3_lines.specs.declared.run_error.RunError.{RunError}
use Rattle.h3_lines.specs.declared.run_error.RunError.TheVariants as refusal
use Rattle.h3_command.specs.Answer.{Request, reads_list, reads_table, request_of}
use Rattle.h3_command.specs.Run.{Runs, Streams}
use Rattle.h3_words.specs.Options.{path_of}
use Rattle.h3_words.specs.declared.options.CommandFile.{CommandFile}
use Rattle.h3_words.specs.declared.options.CommandFile.TheVariants as named
use Rattle.h3_words.specs.declared.words.Words.{Words}
use Rattle.h3_words.specs.declared.words.ArgsError.{ArgsError}
use Rattle.h3_words.specs.declared.words.ArgsError.TheVariants.{Help, Version, Usage, Memory}

-- a stream before a run and after it
pub record Change (S : Type 0) : Type 0 where
  pub old : S
  pub new : S

abbrev pub IsUntouched : {S : Type 0} → Change S → Type 0
IsUntouched stream = stream.new ≡ stream.old

-- the states of a file right after an opening of a path that succeeds, and after one that fails; and its use as a
-- source from one state to another
pub record Files (F : Type 0) : Type 1 where
  pub opens : F → List ℕ → F → Type 0
  pub fails_to_open : F → List ℕ → F → Type 0
  pub as_source : F → F → SourceUse

-- the request is run; a source that it does not read stays as it is
pub record RunsOver {R F : Type 0} (r : Request) (status : ℕ) (input : Change R) (file : Change F) (s : Streams)
    : Type 0 where
  pub runs : Runs r status s
  pub input_kept : reads_list r ≡ false → IsUntouched input
  pub file_kept : reads_table r ≡ false → IsUntouched file

-- the line on standard error of a file that cannot be opened, by its kind
abbrev pub open_line : CommandFile → List ℕ
open_line (named.Table path) = codes "table: open" ++ 10 ∷ []
open_line (named.Region path) = codes "region: open" ++ 10 ∷ []
open_line (named.Zones path) = codes "zones: open" ++ 10 ∷ []

-- a line goes to standard error, or a beginning of it where that fails
abbrev pub WritesLine : List ℕ → SinkUse → Type 0
WritesLine line err =
    AppendsPart err.before err.after line × (err.has_failed ≡ false → Appends err.before err.after line)

-- an error line says that the file cannot be opened, the status is 3, and nothing is run
pub record CannotOpen {R : Type 0} (f : CommandFile) (status : ℕ) (input : Change R) (s : Streams) : Type 0 where
  pub status_is : status ≡ 3
  pub line : WritesLine (open_line f) s.err
  pub silent : IsLeft s.out
  pub input_kept : IsUntouched input

-- RunsCommand: a command without a file is run; one with a file is run over a state that comes right after an opening
-- by its path, or the opening fails, and nothing is run
abbrev pub RunsCommand : {R F : Type 0} → Files F → Option CommandFile → Request → ℕ → Change R → Change F → Streams
    → Type 0
RunsCommand files None r status input file s = RunsOver r status input file s
RunsCommand {F = F} files (Some f) r status input file s =
    ((opened : F) × files.opens file.old (path_of f) opened
    × RunsOver r status input (record { old = opened; new = file.new })
    (record s { table = files.as_source opened file.new }))
    ⊎ (files.fails_to_open file.old (path_of f) file.new × CannotOpen f status input s)

-- what a program does once it knows what the words ask: how it leaves a list that it makes ready, and the lines by
-- which it says that the list cannot be read
pub record Before (R : Type 0) : Type 1 where
  pub readies : Words → R → R → Type 0
  pub refuses : Words → List ℕ → Type 0

-- a source has the same bytes left, and has failed as before
abbrev pub IsUnread : SourceUse → Type 0
IsUnread source = (source.left_after ≡ source.left) × NoReadFails source

-- a line on standard error says why the list cannot be read, the status is 3, and nothing is opened or run
pub record NotRun {F : Type 0} (line : List ℕ) (status : ℕ) (file : Change F) (s : Streams) : Type 0 where
  pub status_is : status ≡ 3
  pub line_is : WritesLine line s.err
  pub silent : IsLeft s.out
  pub unread : IsUnread s.input
  pub file_kept : IsUntouched file

-- RunsOnceReady: the command is run over a list that was made ready for it, with the same bytes left; or its list
-- cannot be read, and nothing is run
abbrev pub RunsOnceReady : {R F : Type 0} → Before R → Files F → Words → ℕ → Change R → Change F → Streams → Type 0
RunsOnceReady {R = R} before files words status input file s =
    ((ready : R) × before.readies words input.old ready
    × RunsCommand files words.file (request_of words.tables words.command) status
    (record { old = ready; new = input.new }) file s)
    ⊎ ((line : List ℕ) × before.refuses words line × NotRun line status file s)

-- version_line: `h3`, a space, the version and a line feed
abbrev pub version_line : List ℕ
version_line = codes "h3 1.3.0" ++ 10 ∷ []

-- Follows: what is done and written for what words parse as
--
-- a command is run, once its list is made ready; help and the version go to standard output, where a write may fail;
-- the text of an invalid command line goes to standard error, with status 2; out of memory is an error line; where no
-- command is run, nothing is made ready, opened or read
abbrev pub Follows : {R F : Type 0} → Before R → Files F → Result Words ArgsError → ℕ → Change R → Change F → Streams
    → Type 0
Follows before files (Ok words) status input file s = RunsOnceReady before files words status input file s
Follows before files (Err (Help text)) status input file s =
    ((ending : Result (Unit {0}) RunError) × Writes (written (string_bytes text)) ending s.out
    × Reports ending status s.err)
    × IsUntouched input × IsUntouched file
Follows before files (Err Version) status input file s =
    ((ending : Result (Unit {0}) RunError) × Writes (written version_line) ending s.out × Reports ending status s.err)
    × IsUntouched input × IsUntouched file
Follows before files (Err (Usage text)) status input file s =
    ((status ≡ 2) × IsLeft s.out × WritesLine (string_bytes text) s.err) × IsUntouched input × IsUntouched file
Follows before files (Err Memory) status input file s =
    (Reports (Err (refusal.Fault fault.Memory)) status s.err × IsLeft s.out) × IsUntouched input × IsUntouched file
