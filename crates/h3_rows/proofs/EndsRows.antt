-- How the answering of rows ends.
use Rattle.std.proofs.Common.{◌≡◌, ℕ, ◌^◌, ◌⊎◌, Bool, true, List, [], ◌++◌, length, Option, Result, Ok, Err, sym, ap, ◌∙◌, refl, subst, inl, inr}
use Rattle.h3_lines.specs.Answer.{Answer, written}
use Rattle.h3_lines.specs.Answering.{Answered, RefusesEach}
use Rattle.h3_lines.specs.Ending.{AnswersAll}
use Rattle.h3_lines.specs.EndingLaws.{begun_written, ends_at_piece, ends_early as early, last_written}
use Rattle.h3_lines.specs.Pieces.{Piece, pieces_of}
use Rattle.h3_lines.specs.Splitting.{Completes, StopsReading, StopsTaking, TakesEnded}
use Rattle.h3_lines.specs.SplittingLaws.{ended_refused}
use Rattle.h3_lines.specs.Write.{SinkUse, Writes, sink_use}
use Rattle.h3_lines.specs.declared.run_error.AnswerError.{AnswerError}
use Rattle.h3_lines.specs.declared.run_error.Fault.TheVariants.{Memory, Read, Write}
use Rattle.h3_lines.specs.declared.run_error.RunError.{RunError}
use Rattle.h3_lines.specs.declared.run_error.RunError.TheVariants.{Error, Fault}
use Rattle.h3_rows.specs.Each.{EndsAtRow, EndsRows, EndsRowsEarly, EndsRowsLate, by_rows}
use Rattle.h3_rows.specs.Row.{list_rows}
use Rattle.h3_rows.specs.RowsAnswer.{Form, State, begun_answer, end_of, rows_answer, rows_then, start}
use Rattle.h3_rows.proofs.LastRow.{list_completes}

-- what is last where more rows may come
abbrev pub nothing_last : State → Answer
nothing_last s = written []

-- what takes the rows, and how it answers them
module _ {S V : Type 0} (qs : Bool) (taken : S → Option (List ℕ)) (failed : S → Bool)
    (answer_of : V → (State → Answer) → State → List Piece → Answer)
    (none_left : (v : V) (last : State → Answer) (s : State) → answer_of v last s [] ≡ last s)
    (state : V → State) (held : V → List ℕ) (out : V → S)
    (takes : V → List Piece → V → Type 0) (refused : V → List Piece → V → RunError → Type 0) (settled : V → Type 0)
    (answers : (v w : V) (ls : List Piece) → takes v ls w
    → Answered taken failed (answer_of v) (state v) (state w) (held v) (held w) (out v) (out w) ls)
    (same : (v w : V) (ls : List Piece) → takes v ls w → answer_of w ≡ answer_of v)
    (refuses : (v w : V) (ls : List Piece) (e : RunError) → refused v ls w e
    → RefusesEach (answer_of v) (state v) (held v) ls e (sink_use taken failed (out v) (out w)))
    (empty : (v : V) → settled v → held v ≡ []) where
  module _ (last : State → Answer) (v w : V) (old new : Option (List ℕ)) (none : held v ≡ []) where
    -- a read or a write fails
    by_fault : (had has : Bool) (e : RunError)
        → ((e ≡ Fault Read) × StopsReading qs 1114111 takes settled v w old new (has ≡ true) (2 ^ 40) 65536)
        ⊎ (StopsTaking qs (list_rows qs) 1114111 takes refused settled v w e old new (2 ^ 40) 65536 × (has ≡ had))
        → EndsRowsEarly qs (answer_of v last (state v)) (answer_of v nothing_last (state v)) old new has e
        (sink_use taken failed (out v) (out w))
    by_fault had has e stops =
        early qs (list_rows qs) 1114111 taken failed answer_of nothing_last
        (λ v s. none_left v nothing_last s) state held out takes refused settled answers same refuses empty
        (pieces_of qs) (λ ps. ps) (λ p. p) (λ bytes ended last is. is) (λ p. length p.0) (λ p. refl) v w last none
        (answer_of v nothing_last (state v)) (λ ls. refl) (by_rows qs (answer_of v last (state v)))
        (λ bytes. refl) old new had has e stops

    -- a row ends the answer
    at_row : (has : Bool) (e : AnswerError)
        → StopsTaking qs (list_rows qs) 1114111 takes refused settled v w (Error e) old new (2 ^ 40) 65536
        → EndsAtRow qs (answer_of v last (state v)) (answer_of v nothing_last (state v)) old new has e
        (sink_use taken failed (out v) (out w))
    at_row has e s =
        let (stop, writes, of_row) =
        ends_at_piece qs (list_rows qs) 1114111 taken failed answer_of nothing_last
        (λ v s. none_left v nothing_last s) state held out takes refused settled answers same refuses empty
        (pieces_of qs) (λ ps. ps) (λ p. p) (λ bytes ended last is. is) (λ p. length p.0) (λ p. refl) v w last none
        (answer_of v nothing_last (state v)) (λ ls. refl) (by_rows qs (answer_of v last (state v))) (λ bytes. refl)
        old new e s in
        ((stop, writes), of_row nothing_last)

    -- either
    pub ends_early : (had has : Bool) (e : RunError)
        → ((e ≡ Fault Read) × StopsReading qs 1114111 takes settled v w old new (has ≡ true) (2 ^ 40) 65536)
        ⊎ (StopsTaking qs (list_rows qs) 1114111 takes refused settled v w e old new (2 ^ 40) 65536 × (has ≡ had))
        → EndsRows qs (answer_of v last (state v)) (answer_of v nothing_last (state v)) old new had has (Err e)
        (sink_use taken failed (out v) (out w))
    ends_early had has (Error e) (inr (s, kept)) = (kept, inr (at_row has e s))
    ends_early had has (Error e) (inl (is, s)) = absurd (cc is)
    ends_early had has (Fault Read) stops = by_fault had has (Fault Read) stops
    ends_early had has (Fault Write) (inr (s, kept)) = (kept, inr (by_fault had has (Fault Write) (inr (s, kept))))
    ends_early had has (Fault Write) (inl (is, s)) = absurd (cc is)
    ends_early had has (Fault Memory) stops = absurd (by_fault had has (Fault Memory) stops)

  -- the same before the end of the source
  pub ends_before : (last : State → Answer) (v w : V) (old new : Option (List ℕ)) (had has : Bool) (e : RunError)
      → held v ≡ []
      → ((e ≡ Fault Read) × StopsReading qs 1114111 takes settled v w old new (has ≡ true) (2 ^ 40) 65536)
      ⊎ (((rows_in : List ℕ → List Piece) → Completes qs rows_in
      → StopsTaking qs rows_in 1114111 takes refused settled v w e old new (2 ^ 40) 65536) × (has ≡ had))
      → EndsRows qs (answer_of v last (state v)) (answer_of v nothing_last (state v)) old new had has (Err e)
      (sink_use taken failed (out v) (out w))
  ends_before last v w old new had has e none (inl stops) = ends_early last v w old new none had has e (inl stops)
  ends_before last v w old new had has e none (inr (stops, kept)) =
      ends_early last v w old new none had has e (inr (stops (list_rows qs) (list_completes qs), kept))

  -- all bytes are read, and the last row ends the answer, or a write fails
  pub ends_last : (last : State → Answer) (v w x : V) {left : List ℕ} {inside : Bool} (old new : Option (List ℕ))
      (had has : Bool) (e : RunError) (more : List Piece)
      → held v ≡ [] → (t : TakesEnded qs 1114111 takes v w left inside old new (2 ^ 40) 65536)
      → list_rows qs t.bytes ≡ t.ended ++ more → settled w → has ≡ had → refused w more x e
      → EndsRows qs (answer_of v last (state v)) (answer_of v nothing_last (state v)) old new had has (Err e)
      (sink_use taken failed (out v) (out x))
  ends_last last v w x old new had has e more none t rows settles sound refuses =
      ends_early last v x old new none had has e
      (inr (ended_refused qs 1114111 takes (list_rows qs) t more rows refused settled settles refuses, sound))

  module _ (last : State → Answer) (v w x : V) (u : S) {left : List ℕ} {inside : Bool} (old new : Option (List ℕ))
      (r : Result (Unit {0}) RunError) (more : List Piece) (none : held v ≡ [])
      (t : TakesEnded qs 1114111 takes v w left inside old new (2 ^ 40) 65536)
      (rows : list_rows qs t.bytes ≡ t.ended ++ more)
      (answered : Answered taken failed (answer_of v) (state v) (state x) (held v) (held x) (out v) (out x)
      (t.ended ++ more))
      (settles : settled x) (writes : Writes (last (state x)) r (sink_use taken failed (out x) u)) where
    all_answered : AnswersAll (by_rows qs (answer_of v last (state v))) old new r (sink_use taken failed (out v) u)
    all_answered =
        let end : Writes (answer_of v last (state x) []) r (sink_use taken failed (out x) u) =
        subst (λ b. Writes b r (sink_use taken failed (out x) u)) (sym (none_left v last (state x))) writes in
        record {
          list = t.bytes;
          held = t.held;
          consumed = t.consumed;
          within = t.within;
          writes =
              subst (λ ls. Writes (answer_of v last (state v) ls) r (sink_use taken failed (out v) u)) (sym rows)
              (last_written taken failed (answer_of v) answered none (empty x settles) last u r end);
        }

    -- no row ended the answer
    none_ended : (answer_of v nothing_last (state v) (list_rows qs t.bytes)).ending ≡ Ok tt
    unfolding Writes
    none_ended =
        let begun =
        begun_written taken failed (answer_of v) answered none (empty x settles) nothing_last
        (none_left v nothing_last (state x)) in
        ap (λ ls. (answer_of v nothing_last (state v) ls).ending) rows ∙ begun.0

  ends_at_end : (last : State → Answer) (v w x : V) (u : S) {left : List ℕ} {inside : Bool} (old new : Option (List ℕ))
      (e : RunError) (more : List Piece)
      → held v ≡ [] → (t : TakesEnded qs 1114111 takes v w left inside old new (2 ^ 40) 65536)
      → list_rows qs t.bytes ≡ t.ended ++ more
      → Answered taken failed (answer_of v) (state v) (state x) (held v) (held x) (out v) (out x) (t.ended ++ more)
      → settled x
      → Writes (last (state x)) (Err e) (sink_use taken failed (out x) u)
      → EndsRowsLate qs (answer_of v last (state v)) (answer_of v nothing_last (state v)) old new e
      (sink_use taken failed (out v) u)
  unfolding all_answered
  ends_at_end last v w x u old new e more none t rows answered settles writes = (
    all_answered last v w x u old new (Err e) more none t rows answered settles writes,
    none_ended last v w x u old new (Err e) more none t rows answered settles writes,
  )

  -- all rows are answered, and then what is last is written
  pub ends_late : (last : State → Answer) (v w x : V) (u : S) {left : List ℕ} {inside : Bool}
      (old new : Option (List ℕ)) (had has : Bool) (r : Result (Unit {0}) RunError) (more : List Piece)
      → held v ≡ [] → (t : TakesEnded qs 1114111 takes v w left inside old new (2 ^ 40) 65536)
      → list_rows qs t.bytes ≡ t.ended ++ more
      → Answered taken failed (answer_of v) (state v) (state x) (held v) (held x) (out v) (out x) (t.ended ++ more)
      → settled x → has ≡ had
      → Writes (last (state x)) r (sink_use taken failed (out x) u)
      → EndsRows qs (answer_of v last (state v)) (answer_of v nothing_last (state v)) old new had has r
      (sink_use taken failed (out v) u)
  unfolding Writes
  ends_late last v w x u old new had has (Ok y) more none t rows answered settles sound writes =
      (sound, all_answered last v w x u old new (Ok y) more none t rows answered settles writes)
  ends_late last v w x u old new had has (Err (Error e)) more none t rows answered settles sound writes =
      (sound, inl (ends_at_end last v w x u old new (Error e) more none t rows answered settles writes))
  ends_late last v w x u old new had has (Err (Fault Write)) more none t rows answered settles sound writes =
      (sound, inl (ends_at_end last v w x u old new (Fault Write) more none t rows answered settles writes))
  ends_late last v w x u old new had has (Err (Fault Read)) more none t rows answered settles sound never = absurd never
  ends_late last v w x u old new had has (Err (Fault Memory)) more none t rows answered settles sound never =
      absurd never

-- the same of what the source is then
ends_at : {R : Type 0} (left : R → Option (List ℕ)) (failed : R → Bool) (after x : R) (qs : Bool)
    (whole begun : List Piece → Answer) (old : Option (List ℕ)) (had : Bool) (r : Result (Unit {0}) RunError)
    (sink : SinkUse)
    → x ≡ after
    → EndsRows qs whole begun old (left after) had (failed after) r sink
    → EndsRows qs whole begun old (left x) had (failed x) r sink
ends_at left failed after x qs whole begun old had r sink is ends =
    subst (λ s. EndsRows qs whole begun old (left s) had (failed s) r sink) (sym is) ends

-- from the beginning of a list
pub ends_from : {R : Type 0} (left : R → Option (List ℕ)) (failed : R → Bool) (after x : R) (qs : Bool) (form : Form)
    (answer : Option ℕ → Answer) (s : State) (old : Option (List ℕ)) (had : Bool) (r : Result (Unit {0}) RunError)
    (sink : SinkUse)
    → x ≡ after → s ≡ start form
    → EndsRows qs (rows_then (λ t. end_of form.choice t t.columns) form answer s)
    (rows_then nothing_last form answer s) old (left after) had (failed after) r sink
    → EndsRows qs (rows_answer form answer) (begun_answer form answer) old (left x) had (failed x) r sink
ends_from left failed after x qs form answer s old had r sink is first ends =
    ends_at left failed after x qs (rows_answer form answer) (begun_answer form answer) old had r sink is
    (subst (λ t. EndsRows qs (rows_then (λ t. end_of form.choice t t.columns) form answer t)
    (rows_then nothing_last form answer t) old (left after) had (failed after) r sink) first ends)
