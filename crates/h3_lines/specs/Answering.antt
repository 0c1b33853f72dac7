-- Lines and rows that are answered one after another, with answers held back in a block. Of this file public contracts
-- cite `Puts`, `Breaks` and `EndsBy` alone.
use Rattle.std.specs.Prelude.{◌≡◌, ⊤, ℕ, ◌<◌, ◌⊎◌, Bool, true, List, [], ◌++◌, length, take, Option, None, Some, Result, Ok, Err}
use Rattle.std.specs.Io.KnownBytes.{Appends}
use Rattle.h3_index.specs.declared.error.H3Error.{H3Error}
use Rattle.h3_lines.specs.declared.run_error.Fault.TheVariants.{Memory, Read, Write}
use Rattle.h3_lines.specs.declared.run_error.RunError.{RunError}
use Rattle.h3_lines.specs.declared.run_error.RunError.TheVariants.{Error, Fault}
use Rattle.h3_lines.specs.Answer.{Answer, before, refused, written}
use Rattle.h3_lines.specs.Beginning.{SomeBeginning}
use Rattle.h3_lines.specs.EachLine.{IsAtLine, lines_answer}
use Rattle.h3_lines.specs.Pieces.{Piece, lines_in}
use Rattle.h3_lines.specs.Write.{AppendsPart, SinkUse, Takes}

-- Puts a old new at end: an answer that is bytes alone is put into a block, from one byte on, up to another
pub record Puts (a : Answer) (old new : List ℕ) (at end : ℕ) : Type 0 where
  pub text : List ℕ
  pub is : a ≡ written text
  pub put : take end new ≡ take at old ++ text

-- what is answered to a line that has an index, or none, or an error
abbrev pub answer_said : (Option ℕ → Answer) → Result (Option (Option ℕ)) H3Error → Answer
answer_said answer (Ok (Some index)) = answer index
answer_said answer (Ok None) = written []
answer_said answer (Err e) = refused e

-- ---- bytes that are written

-- TakesSome sink bytes: a call of the sink failed: it took a beginning of the bytes, or it took one, and then a flush
-- failed
abbrev pub TakesSome : SinkUse → List ℕ → Type 0
TakesSome sink bytes =
    SomeBeginning (λ part. Appends sink.before sink.after part ⊎ sink.may_have_taken part) bytes
    × (sink.has_failed ≡ true)

-- Breaks bytes sink e: a write fails, and a beginning of these bytes is taken
abbrev pub Breaks : List ℕ → SinkUse → RunError → Type 0
Breaks all sink e = (e ≡ Fault Write) × (0 < length all) × TakesSome sink all

-- a push fails, and a beginning of these bytes is taken; private contracts alone cite it
abbrev pub FailsPush : List ℕ → SinkUse → Type 0
FailsPush all sink = (0 < length all) × AppendsPart sink.before sink.after all × (sink.has_failed ≡ true)

-- from one moment to a later one, of these bytes some are taken, and these are still held back
pub record Moves {S : Type 0} (taken : S → Option (List ℕ)) (failed : S → Bool) (all held : List ℕ)
    (s t : S) : Type 0 where
  pub part : List ℕ
  pub split : all ≡ part ++ held
  pub grown : Appends (taken s) (taken t) part
  pub sound : failed t ≡ failed s

-- ---- pieces that are answered: `answer last v pieces` is the answer to them in the state v, and then to what is last

-- From one moment to a later one these pieces are answered, from the one state to the other: some of the answers is
-- taken by the sink, and the rest held back.
pub record Answered {S L N : Type 0} (taken : S → Option (List ℕ)) (failed : S → Bool)
    (answer : L → N → List Piece → Answer) (v w : N) (held held' : List ℕ) (old new : S)
    (pieces : List Piece) : Type 0 where
  pub text : List ℕ
  pub says : (last : L) (more : List Piece) → answer last v (pieces ++ more) ≡ before text (answer last w more)
  pub moves : Moves taken failed (held ++ text) held' old new

-- an answer ends by its error, all before it taken, or by a write that fails
abbrev pub EndsBy : Answer → RunError → SinkUse → Type 0
EndsBy a (Error e) out = (a.ending ≡ Err e) × Takes out a.output
EndsBy a (Fault Write) out = (0 < length a.output) × TakesSome out a.output
EndsBy a (Fault Read) out = ⊥
EndsBy a (Fault Memory) out = ⊥

-- these bytes and the answer to these pieces, in this state, end so, whatever is last
abbrev pub RefusesEach : {L N : Type 0} → (L → N → List Piece → Answer) → N → List ℕ → List Piece → RunError → SinkUse
    → Type 0
RefusesEach {L = L} answer v held pieces e out = (last : L) → EndsBy (before held (answer last v pieces)) e out

-- ---- pieces that are lines

-- the answers to pieces as lines, of which the first has the number n; nothing is last
abbrev pub lines_from : (Option ℕ → Answer) → Unit {0} → ℕ → List Piece → Answer
lines_from answer last n pieces = lines_answer answer n (lines_in pieces)

-- if it is no fault, it is an H3 error at a line
abbrev pub TellsLine : RunError → Type 0
TellsLine (Error e) = IsAtLine e
TellsLine (Fault f) = ⊤

-- these bytes and the answer to these lines, of which the first is the line n, end so, and an error tells its line
abbrev pub RefusesLines : (Option ℕ → Answer) → ℕ → List ℕ → List Piece → RunError → SinkUse → Type 0
RefusesLines answer n held lines e out = TellsLine e × RefusesEach (lines_from answer) n held lines e out
