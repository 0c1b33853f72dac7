-- Lines that are answered one after another.
use Rattle.std.proofs.Common.{◌≡◌, ℕ, ◌+◌, ◌-◌, ◌<◌, ◌≤◌, ◌==◌, nat_lt, Bool, true, false, List, [], ◌∷◌, ◌++◌, length, take, get_or, Option, Some, Result, Ok, Err, IfErr, OnOk, sym, ap, ◌∙◌, refl, subst, inl, inr, append-nil, arith}
use Rattle.std.proofs.lemmas.Bool.Decides.{nat_tests}
use Rattle.std.proofs.lemmas.List.{take_more}
use Rattle.h3_index.specs.Text.{parsed_index, trimmed}
use Rattle.h3_index.specs.declared.error.H3Error.{H3Error}
use Rattle.h3_index.specs.declared.error.H3Error.TheVariants.{Failed}
use Rattle.h3_lines.specs.Answer.{Answer, before, refused, written}
use Rattle.h3_lines.specs.Answering.{Answered, Breaks, EndsBy, Moves, Puts, RefusesEach, RefusesLines, TakesSome, TellsLine, lines_from}
use Rattle.h3_lines.specs.EachLaws.{answered_by, breaks_before, breaks_ends, moves_none, moves_put, moves_then, refuses_then}
use Rattle.h3_lines.specs.EachLine.{followed_by, line_answer}
use Rattle.h3_lines.specs.Pieces.{Piece}
use Rattle.h3_lines.specs.Write.{SinkUse, Takes, TakesPart, Writes, sink_use}
use Rattle.h3_lines.specs.declared.run_error.AnswerError.TheVariants.{At}
use Rattle.h3_lines.specs.declared.run_error.Fault.TheVariants.{Memory, Read, Write}
use Rattle.h3_lines.specs.declared.run_error.RunError.{RunError}
use Rattle.h3_lines.specs.declared.run_error.RunError.TheVariants.{Error, Fault}
use Rattle.h3_lines.proofs.PlainLines.{nothing_left}

-- a line that parses as an index is not blank
pub answer_parsed : (answer : Option ℕ → Answer) (line : List ℕ) (n : ℕ) → length line ≤ 64 → parsed_index line ≡ Some n
    → line_answer answer line ≡ answer (Some n)
unfolding parsed_index
answer_parsed answer line n short parses =
    let few : nat_lt 64 (length line) ≡ false = grind (arith, nat_tests) in
    let left : (length (trimmed line) == 0) ≡ false = nothing_left (trimmed line) _ refl n parses in
    rw (few, left) (ap answer parses)

-- a line that is too long
pub answer_long : (answer : Option ℕ → Answer) (line : List ℕ) → 64 < length line
    → line_answer answer line ≡ refused Failed
answer_long answer line long =
    let many : nat_lt 64 (length line) ≡ true = grind (arith, nat_tests) in
    rw many refl

-- ---- bytes that are written

some_of_whole : (bytes : List ℕ) (out : SinkUse) → TakesPart out bytes → TakesSome out bytes
some_of_whole bytes out (inl p, failed) =
    (record { part = p.part; rest = p.rest; split = p.split; holds = inl p.holds }, failed)
some_of_whole bytes out (inr whole, failed) =
    (record { part = bytes; rest = []; split = sym (append-nil bytes); holds = inr whole }, failed)

pub written_takes : (bytes : List ℕ) (out : SinkUse) (r : Result (Unit {0}) RunError) → Writes (written bytes) r out
    → OnOk r (Takes out bytes)
unfolding Writes
written_takes bytes out (Ok u) w = w.1
written_takes bytes out (Err e) w = tt

pub written_fails : (bytes : List ℕ) (out : SinkUse) (r : Result (Unit {0}) RunError) → 0 < length bytes
    → Writes (written bytes) r out
    → IfErr r (λ e. (e ≡ Fault Write) × (0 < length bytes) × TakesSome out bytes)
unfolding Writes
written_fails bytes out (Ok u) some w = tt
written_fails bytes out (Err (Error e)) some w = absurd (cc (w.0))
written_fails bytes out (Err (Fault Memory)) some never = absurd never
written_fails bytes out (Err (Fault Read)) some never = absurd never
written_fails bytes out (Err (Fault Write)) some w = (refl, some, some_of_whole bytes out w.1)

-- ---- the block

-- the block is written but for its last byte
pub last_left : (block : List ℕ) (end : ℕ) → 0 < end → end ≤ length block
    → take end block ≡ take (end - 1) block ++ get_or block (end - 1) 0 ∷ []
last_left block end some within =
    let on : end - 1 + 1 ≡ end = omega arith in
    ap (λ n. take n block) (sym on) ∙ take_more block (end - 1) 0 (omega arith)

module _ {S : Type 0} (taken : S → Option (List ℕ)) (failed : S → Bool) where
  -- more of the bytes held back are taken
  pub moves_on : (all held held' : List ℕ) (s t u : S) → Moves taken failed all held s t
      → Moves taken failed held held' t u → Moves taken failed all held' s u
  moves_on all held held' s t u m k = subst (λ l. Moves taken failed l held' s u) (append-nil all)
      (moves_then taken failed all held [] held' s t u m
      (subst (λ l. Moves taken failed l held' t u) (sym (append-nil held)) k))

  -- a line that has no answer
  pub answered_blank : (answer : Option ℕ → Answer) (n : ℕ) (held : List ℕ) (s : S) (line : Piece)
      → line_answer answer line.0 ≡ written []
      → Answered taken failed (lines_from answer) n (n + 1) held held s s (line ∷ [])
  answered_blank answer n held s line is = record {
    text = [];
    says = λ last more. ap (λ b. followed_by n b (lines_from answer last (n + 1) more)) is;
    moves = subst (λ l. Moves taken failed l held s s) (sym (append-nil held)) (moves_none taken failed held s);
  }

  -- an answer is put into the block, where bytes before it are taken
  pub answered_index : (answer : Option ℕ → Answer) {n : ℕ} {held block block' : List ℕ} {at end : ℕ} {s t : S}
      (line : Piece) {a : Answer}
      → Moves taken failed held (take at block) s t → line_answer answer line.0 ≡ a → Puts a block block' at end
      → Answered taken failed (lines_from answer) n (n + 1) held (take end block') s t (line ∷ [])
  answered_index answer {n} {held} {block} {block'} {at} {end} {s} {t} line m is p = record {
    text = p.text;
    says = λ last more. ap (λ b. followed_by n b (lines_from answer last (n + 1) more)) (is ∙ p.is);
    moves = moves_put taken failed held (take at block) p.text (take end block') s t m p.put;
  }

  pub refused_index : (answer : Option ℕ → Answer) (n : ℕ) {held held1 held2 : List ℕ} {s t : S} (u : S) (e : RunError)
      (lines : List Piece)
      → Moves taken failed held held1 s t → held2 ≡ held1
      → RefusesLines answer n held2 lines e (sink_use taken failed t u)
      → RefusesLines answer n held lines e (sink_use taken failed s u)
  refused_index answer n {held} {held1} {s = s} {t = t} u e lines m same (tells, r) = (
    tells,
    refuses_then taken failed (λ a. lines_from a) {f = answer} {g = answer} u [] lines e refl
        (answered_by taken failed (lines_from answer) n n held held1 s t refl m)
        (subst (λ h. RefusesEach (lines_from answer) n h lines e (sink_use taken failed t u)) same r),
  )

tells_line : (n : ℕ) (error : H3Error) (bytes : List ℕ) (r : RunError) (out : SinkUse)
    → EndsBy (record { output = bytes; ending = Err (At n error) }) r out → TellsLine r
tells_line n error bytes (Error e) out ends = let same : Err (At n error) ≡ Err e = ends.0 in (n, error, cc)
tells_line n error bytes (Fault f) out ends = tt

-- a line is refused after what is held back is written, or a write of that fails
pub lines_refused : (answer : Option ℕ → Answer) (n : ℕ) (held : List ℕ) (line : Piece) (later : List Piece)
    (error : H3Error) (r : RunError) (out : SinkUse)
    → line_answer answer line.0 ≡ refused error
    → EndsBy (record { output = held; ending = Err (At n error) }) r out
    → RefusesLines answer n held (line ∷ later) r out
lines_refused answer n held line later error r out is ends = (
  tells_line n error held r out ends,
  λ last.
      let own : lines_from answer last n (line ∷ later) ≡ record { output = []; ending = Err (At n error) } =
      ap (λ b. followed_by n b (lines_from answer last (n + 1) later)) is in
      subst (λ a. EndsBy (before held a) r out) (sym own)
      (subst (λ l. EndsBy (record { output = l; ending = Err (At n error) }) r out) (sym (append-nil held)) ends),
)

-- a write of what is held back fails
pub ends_unwritten : (answer : Option ℕ → Answer) (n : ℕ) (held : List ℕ) (lines : List Piece) (e : RunError)
    (out : SinkUse)
    → Breaks held out e → RefusesLines answer n held lines e out
ends_unwritten answer n held lines e out b =
    (subst TellsLine (sym b.0) tt, λ last. breaks_before held (lines_from answer last n lines) e out b)

-- bytes of an answer that are not all taken
pub lines_break : (answer : Option ℕ → Answer) (n : ℕ) (held text : List ℕ) (line : Piece) (later : List Piece)
    (e : RunError) (out : SinkUse) {a : Answer}
    → line_answer answer line.0 ≡ a → a ≡ written text → Breaks (held ++ text) out e
    → RefusesLines answer n held (line ∷ later) e out
lines_break answer n held text line later e out is said b = (
  subst TellsLine (sym b.0) tt,
  λ last.
      let next = lines_from answer last (n + 1) later in
      let own : lines_from answer last n (line ∷ later) ≡ before text next =
      ap (λ a. followed_by n a next) (is ∙ said) in
      subst (λ a. EndsBy (before held a) e out) (sym own) (breaks_ends held text next e out b),
)
