-- How the answering of a list ends that is read page by page, and whose pieces are answered one after another: `cut`
-- cuts bytes into pieces; a piece has `size` bytes, at most `longest` of them where a fault cuts it; `whole` is the
-- answer to the bytes of a list, and `begun` that to the first pieces of one.
use Rattle.std.specs.Prelude.{◌≡◌, ℕ, ◌*◌, ◌^◌, ◌<◌, ◌≤◌, ◌⊎◌, Bool, true, List, [], ◌∷◌, ◌++◌, length, Option, Result, Ok, Err}
use Rattle.std.specs.Io.KnownBytes.{Appends, Consumes}
use Rattle.h3_streams.specs.Stream.{HasLeft}
use Rattle.h3_lines.specs.declared.run_error.Fault.TheVariants.{Memory, Read, Write}
use Rattle.h3_lines.specs.declared.run_error.RunError.{RunError}
use Rattle.h3_lines.specs.declared.run_error.RunError.TheVariants.{Error, Fault}
use Rattle.h3_lines.specs.Answer.{Answer}
use Rattle.h3_lines.specs.Beginning.{SomeBeginning}
use Rattle.h3_lines.specs.Reads.{IsWithinReads}
use Rattle.h3_lines.specs.Write.{SinkUse, Writes}

-- AnswersAll whole ..: all bytes of the list are read, in reads that may be made, and the answer to it is written
--
-- there are bytes of the list, those left in the source where they are known; all of them are read, in reads that may
-- be made, and the answer is written
pub record AnswersAll (whole : List ℕ → Answer) (old new : Option (List ℕ)) (ending : Result (Unit {0}) RunError)
    (out : SinkUse) : Type 0 where
  pub list : List ℕ
  pub held : HasLeft old list
  pub consumed : Consumes old new list
  pub within : IsWithinReads (2 ^ 40) 65536 list
  pub writes : Writes (whole list) ending out

-- AnswersBeforeFault cut size longest begun ..: a read fails, or none is left; what was read before is a beginning of
-- the list, and the rest is left in the source; the pieces that end in it are answered, without an error, and no other
--
-- A read fails, or none is left. What was read before is a beginning of the list, and the rest is still left in the
-- source: a read that fails takes none. The pieces that end in what was read are answered, without an error that ends
-- the answer, and no other: not the one that the fault cuts, of which no more was read than a piece may have. What was
-- read fits into the reads that may be made.
pub record AnswersBeforeFault {P : Type 0} (cut : List ℕ → List P) (size : P → ℕ) (longest : ℕ)
    (begun : List P → Answer) (old new : Option (List ℕ)) (has_failed : Bool) (out : SinkUse) : Type 0 where
  pub part : List ℕ
  pub rest : List ℕ
  pub held : HasLeft old (part ++ rest)
  pub fails : (has_failed ≡ true) ⊎ (2 ^ 40 ≤ length (part ++ rest))
  pub consumed : Consumes old new part
  pub within : length part ≤ 2 ^ 40 * 65536
  pub ended : List P
  pub last : P
  pub pieces : cut part ≡ ended ++ last ∷ []
  pub short : size last ≤ longest
  pub writes : Writes (begun ended) (Ok tt) out

-- StopsInPage cut size longest begun ..: a part of the list is read, and then at most a page more; the pieces that end
-- in that part do not end the answer, and the one that does not end in it is no longer than a piece may be
--
-- The bytes of the list, those left in the source where they are known. A part of them is read, and then at most a page
-- more. The answer to the pieces that end in that part has no error, and of the piece that does not end in it no more
-- was read before that page than a piece may have.
pub record StopsInPage {P : Type 0} (cut : List ℕ → List P) (size : P → ℕ) (longest : ℕ) (begun : List P → Answer)
    (old new : Option (List ℕ)) : Type 0 where
  pub part : List ℕ
  pub last : List ℕ
  pub rest : List ℕ
  pub held : HasLeft old (part ++ last ++ rest)
  pub consumed : Consumes old new (part ++ last)
  pub short : length last ≤ 65536
  pub within : length (part ++ last) ≤ 2 ^ 40 * 65536
  pub ended : List P
  pub unended : P
  pub pieces : cut part ≡ ended ++ unended ∷ []
  pub bounded : size unended ≤ longest
  pub good : (begun ended).ending ≡ Ok tt

-- list_at stop: the list whose reading stops so
abbrev pub list_at : {P : Type 0} {cut : List ℕ → List P} {size : P → ℕ} {longest : ℕ} {begun : List P → Answer}
    {old new : Option (List ℕ)}
    → StopsInPage cut size longest begun old new → List ℕ
list_at s = s.part ++ s.last ++ s.rest

-- TakesBeginning first whole sink: it failed, and took a beginning of the answer: that to the pieces of earlier pages,
-- and more
--
-- A write fails: the answers to the pieces that end in the part are taken, and then a beginning of what the answer has
-- after them, which is not empty; or it is taken, and then a flush fails.
pub record TakesBeginning (first whole : List ℕ) (out : SinkUse) : Type 0 where
  pub after : List ℕ
  pub split : whole ≡ first ++ after
  pub some : 0 < length after
  pub part : SomeBeginning
      (λ more. Appends out.before out.after (first ++ more) ⊎ out.may_have_taken (first ++ more)) after
  pub failed : out.has_failed ≡ true

-- EndsEarly cut size longest begun whole ..: how the answering of a list ends before the list does: an error ends the
-- answer, or a write fails, and nothing is read beyond the page; or a read fails, or none is left
abbrev pub EndsEarly : {P : Type 0} → (List ℕ → List P) → (P → ℕ) → ℕ → (List P → Answer) → (List ℕ → Answer)
    → Option (List ℕ) → Option (List ℕ) → Bool → RunError → SinkUse → Type 0
EndsEarly cut size longest begun whole old new has (Error e) out =
    (stop : StopsInPage cut size longest begun old new) × Writes (whole (list_at stop)) (Err (Error e)) out
EndsEarly cut size longest begun whole old new has (Fault Write) out =
    (stop : StopsInPage cut size longest begun old new)
    × TakesBeginning (begun stop.ended).output (whole (list_at stop)).output out
EndsEarly cut size longest begun whole old new has (Fault Read) out =
    AnswersBeforeFault cut size longest begun old new has out
EndsEarly cut size longest begun whole old new has (Fault Memory) out = ⊥
