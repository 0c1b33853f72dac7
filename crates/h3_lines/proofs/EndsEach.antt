-- How the answering of the lines of a list ends.
use Rattle.std.proofs.Common.{◌≡◌, ℕ, ◌^◌, ◌⊎◌, Bool, true, false, List, [], length, Option, Result, Ok, Err, IfErr, OnOk, ap, ◌∙◌, refl, subst, inl, inr}
use Rattle.h3_lines.specs.Answer.{Answer}
use Rattle.h3_lines.specs.Answering.{Answered, RefusesLines, lines_from}
use Rattle.h3_lines.specs.EachLine.{EndsEach, EndsLinesEarly, lines_answer, list_answer}
use Rattle.h3_lines.specs.EndingLaws.{begun_written, ends_early}
use Rattle.h3_lines.specs.List.{lines_of}
use Rattle.h3_lines.specs.Pieces.{Piece, lines_in, rows_of}
use Rattle.h3_lines.specs.Splitting.{StopsReading, StopsTaking, TakesAll}
use Rattle.h3_lines.specs.Write.{Writes, sink_use}
use Rattle.h3_lines.specs.declared.run_error.Fault.TheVariants.{Memory, Read, Write}
use Rattle.h3_lines.specs.declared.run_error.RunError.{RunError}
use Rattle.h3_lines.specs.declared.run_error.RunError.TheVariants.{Error, Fault}
use Rattle.h3_lines.proofs.RowLines.{lines_begun, rows_answered}

-- the answer to the rows of a list, as lines of which the first has the number 1
all_lines : (answer : Option ℕ → Answer) (n : ℕ) → n ≡ 1 → (bytes : List ℕ)
    → lines_from answer tt n (rows_of false bytes) ≡ list_answer answer bytes
all_lines answer n one bytes =
    ap (λ k. lines_answer answer k (lines_in (rows_of false bytes))) one ∙ rows_answered answer bytes

-- what takes the lines, and how it answers them
module _ {S V : Type 0} (taken : S → Option (List ℕ)) (failed : S → Bool) (answer_of : V → Option ℕ → Answer)
    (number : V → ℕ) (held : V → List ℕ) (out : V → S)
    (takes : V → List Piece → V → Type 0) (refused : V → List Piece → V → RunError → Type 0) (settled : V → Type 0)
    (answers : (v w : V) (ls : List Piece) → takes v ls w
    → Answered taken failed (lines_from (answer_of v)) (number v) (number w) (held v) (held w) (out v) (out w) ls)
    (same : (v w : V) (ls : List Piece) → takes v ls w → answer_of w ≡ answer_of v)
    (refuses : (v w : V) (ls : List Piece) (e : RunError) → refused v ls w e
    → RefusesLines (answer_of v) (number v) (held v) ls e (sink_use taken failed (out v) (out w)))
    (empty : (v : V) → settled v → held v ≡ []) where
  early : (v w : V) (old new : Option (List ℕ)) (had has : Bool) (e : RunError) → number v ≡ 1 → held v ≡ []
      → ((e ≡ Fault Read) × StopsReading false 64 takes settled v w old new (has ≡ true) (2 ^ 40) 65536)
      ⊎ (StopsTaking false (rows_of false) 64 takes refused settled v w e old new (2 ^ 40) 65536 × (has ≡ had))
      → EndsLinesEarly (answer_of v) old new has e (sink_use taken failed (out v) (out w))
  early v w old new had has e one none stops =
      ends_early false (rows_of false) 64 taken failed (λ v. lines_from (answer_of v)) tt
      (λ v n. refl) number held out takes refused settled answers
      (λ v w ls t. ap (λ a. lines_from a) (same v w ls t)) (λ v w ls e r. (refuses v w ls e r).1) empty
      lines_of lines_in (λ p. p.0) lines_begun length (λ p. refl) v w tt none (lines_answer (answer_of v) 1)
      (λ ls. ap (λ n. lines_answer (answer_of v) n (lines_in ls)) one) (list_answer (answer_of v))
      (all_lines (answer_of v) (number v) one) old new had has e stops

  -- how it ends, by what is known of the reading
  pub ends_each : (v w : V) (old new : Option (List ℕ)) (had has : Bool) (r : Result (Unit {0}) RunError) → number v ≡ 1
      → held v ≡ [] → OnOk r (TakesAll (rows_of false) takes v w old new (2 ^ 40) 65536) → OnOk r (settled w)
      → OnOk r (has ≡ had)
      → IfErr r (λ e. ((e ≡ Fault Read) × StopsReading false 64 takes settled v w old new (has ≡ true) (2 ^ 40) 65536)
      ⊎ (StopsTaking false (rows_of false) 64 takes refused settled v w e old new (2 ^ 40) 65536 × (has ≡ had)))
      → EndsEach (answer_of v) old new had has r (sink_use taken failed (out v) (out w))
  ends_each v w old new had has (Ok u) one none all settles sound stops = (
    sound,
    record {
      list = all.bytes;
      held = all.held;
      consumed = all.consumed;
      within = all.within;
      writes =
          subst (λ a. Writes a (Ok tt) (sink_use taken failed (out v) (out w)))
          (all_lines (answer_of v) (number v) one all.bytes)
          (begun_written taken failed (lines_from (answer_of v)) (answers v w _ all.takes) none
          (empty w settles) tt refl);
    },
  )
  ends_each v w old new had has (Err (Error e)) one none all settles sound (inr (s, kept)) = (
    kept,
    (refuses s.mid w s.refuses.later (Error e) s.refuses.refuses).0,
    early v w old new had has (Error e) one none (inr (s, kept)),
  )
  ends_each v w old new had has (Err (Fault Write)) one none all settles sound (inr (s, kept)) =
      (kept, early v w old new had has (Fault Write) one none (inr (s, kept)))
  ends_each v w old new had has (Err (Fault Memory)) one none all settles sound (inr (s, kept)) =
      absurd (early v w old new had has (Fault Memory) one none (inr (s, kept)))
  ends_each v w old new had has (Err (Fault Read)) one none all settles sound stops =
      early v w old new had has (Fault Read) one none stops
  ends_each v w old new had has (Err (Fault Write)) one none all settles sound (inl (is, s)) = absurd (cc is)
  ends_each v w old new had has (Err (Fault Memory)) one none all settles sound (inl (is, s)) = absurd (cc is)
  ends_each v w old new had has (Err (Error e)) one none all settles sound (inl (is, s)) = absurd (cc is)
