-- What is written to a sink: bytes, an answer, the line of an error.
use Rattle.std.specs.Prelude.{◌≡◌, ℕ, ◌⊎◌, Bool, true, false, List, [], Option, Result, Ok, Err, IsErr}
use Rattle.std.specs.Io.KnownBytes.{Appends, Keeps}
use Rattle.h3_streams.specs.Stream.{KeepsOrHides}
use Rattle.h3_lines.specs.Answer.{Answer}
use Rattle.h3_lines.specs.Beginning.{SomeBeginning}
use Rattle.h3_lines.specs.RunError.{ending_line, ending_status}
use Rattle.h3_lines.specs.declared.run_error.Fault.TheVariants.{Memory, Read, Write}
use Rattle.h3_lines.specs.declared.run_error.RunError.{RunError}
use Rattle.h3_lines.specs.declared.run_error.RunError.TheVariants.{Error, Fault}

-- MayHaveTaken: there is a state of the sink in which it has taken these bytes with no failed call, and in the new one
-- they are kept or no longer known, as after a flush that failed
--
-- There is a state of the sink in which it has taken these bytes, with no failed call, and in the new one they are kept
-- or no longer known, as by a flush that fails. A function over any sink knows of such a state only by pushing the
-- bytes.
abbrev pub MayHaveTaken : {S : Type 0} → (S → Option (List ℕ)) → (S → Bool) → S → S → List ℕ → Type 0
MayHaveTaken {S = S} taken failed old new bytes =
    (whole : S) × Appends (taken old) (taken whole) bytes × (failed whole ≡ failed old)
    × KeepsOrHides (taken whole) (taken new)

-- SinkUse: what a sink had taken before a call and has after it, where known, whether it had failed and has, and which
-- bytes it may have taken before a flush that failed
pub record SinkUse : Type 1 where
  pub before : Option (List ℕ)
  pub after : Option (List ℕ)
  pub had_failed : Bool
  pub has_failed : Bool
  pub may_have_taken : List ℕ → Type 0

-- sink_use: that use of a sink, from its two states
abbrev pub sink_use : {S : Type 0} → (S → Option (List ℕ)) → (S → Bool) → S → S → SinkUse
sink_use taken failed old new =
    record {
      before = taken old;
      after = taken new;
      had_failed = failed old;
      has_failed = failed new;
      may_have_taken = MayHaveTaken taken failed old new;
    }

-- IsLeft sink: it took nothing, and did not fail
abbrev pub IsLeft : SinkUse → Type 0
IsLeft sink = Keeps sink.before sink.after × (sink.has_failed ≡ sink.had_failed)

-- Takes sink bytes: it took these bytes, and did not fail
abbrev pub Takes : SinkUse → List ℕ → Type 0
Takes sink bytes = Appends sink.before sink.after bytes × (sink.has_failed ≡ sink.had_failed)

-- AppendsPart old new bytes: some beginning of the bytes was appended, and nothing more
abbrev pub AppendsPart : Option (List ℕ) → Option (List ℕ) → List ℕ → Type 0
AppendsPart old new bytes = SomeBeginning (Appends old new) bytes

-- TakesPart sink bytes: it failed, and took a beginning of the bytes, or may have taken all of them before a flush that
-- failed
abbrev pub TakesPart : SinkUse → List ℕ → Type 0
TakesPart sink bytes = (AppendsPart sink.before sink.after bytes ⊎ sink.may_have_taken bytes) × (sink.has_failed ≡ true)

-- ---- an answer

-- IsErrorAlone a: the answer is an error and no output: no write fault comes in its place
abbrev pub IsErrorAlone : Answer → Type 0
IsErrorAlone a = (a.output ≡ []) × IsErr a.ending

-- Writes a ending sink: the answer is written, or a part of it and a write fault
--
-- the answer is written: all of its output, and then the run ends as the answer does, or a part of it and a write fault
unfoldable pub Writes : Answer → Result (Unit {0}) RunError → SinkUse → Type 0
Writes a (Ok u) out = (a.ending ≡ Ok u) × Takes out a.output
Writes a (Err (Error e)) out = (a.ending ≡ Err e) × Takes out a.output
Writes a (Err (Fault Memory)) out = ⊥
Writes a (Err (Fault Read)) out = ⊥
Writes a (Err (Fault Write)) out = (¬ IsErrorAlone a) × TakesPart out a.output

-- ---- the line of an error

-- Reports ending status err: the status, and the line on standard error, or a beginning of it where that failed
pub record Reports (ending : Result (Unit {0}) RunError) (status : ℕ) (err : SinkUse) : Type 0 where
  pub status_is : status ≡ ending_status ending
  pub line : err.has_failed ≡ false → Appends err.before err.after (ending_line ending)
  pub part : AppendsPart err.before err.after (ending_line ending)
