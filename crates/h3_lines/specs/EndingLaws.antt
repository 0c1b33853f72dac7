-- Laws of how the answering of a list ends. Proofs alone cite this file.
use Rattle.std.proofs.Common.{◌≡◌, ℕ, ◌^◌, ◌⊎◌, Bool, true, List, [], ◌∷◌, ◌++◌, length, Option, Result, Ok, Err, sym, ap, ◌∙◌, refl, subst, inl, inr, append-nil}
use Rattle.std.proofs.KnownBytes.{Appends-trans}
use Rattle.std.specs.Io.KnownBytes.{Appends}
use Rattle.h3_lines.specs.Answer.{Answer, before, written}
use Rattle.h3_lines.specs.Answering.{Answered, EndsBy, RefusesEach}
use Rattle.h3_lines.specs.EachLaws.{may_after, part_after, taken_after}
use Rattle.h3_lines.specs.Ending.{EndsEarly, StopsInPage, TakesBeginning, list_at}
use Rattle.h3_lines.specs.Pieces.{Piece, pieces_of}
use Rattle.h3_lines.specs.Splitting.{StopsReading, StopsTaking}
use Rattle.h3_lines.specs.Write.{SinkUse, Takes, TakesPart, Writes, sink_use}
use Rattle.h3_lines.specs.declared.run_error.AnswerError.{AnswerError}
use Rattle.h3_lines.specs.declared.run_error.Fault.TheVariants.{Memory, Read, Write}
use Rattle.h3_lines.specs.declared.run_error.RunError.{RunError}
use Rattle.h3_lines.specs.declared.run_error.RunError.TheVariants.{Error, Fault}

-- ---- what is written, by parts of it

pub writes_whole : (bytes : List ℕ) (out : SinkUse) → Takes out bytes → Writes (written bytes) (Ok tt) out
unfolding Writes
writes_whole bytes out takes = (refl, takes)

none_after : (xs ys : List ℕ) → xs ++ ys ≡ [] → ys ≡ []
none_after [] ys is = is
none_after (x ∷ xs) ys is = absurd (cc)

module _ {S : Type 0} (taken : S → Option (List ℕ)) (failed : S → Bool) (first mid last : S) where
  -- what was taken of an answer, after bytes that were taken
  answer_after : (done bytes : List ℕ) → Appends (taken first) (taken mid) done → failed mid ≡ failed first
      → TakesPart (sink_use taken failed mid last) bytes → TakesPart (sink_use taken failed first last) (done ++ bytes)
  answer_after done bytes grown same (inl p, fault) =
      (inl (part_after taken failed first mid last done bytes grown p), fault)
  answer_after done bytes grown same (inr may, fault) =
      (inr (may_after taken failed first mid last done bytes grown same may), fault)

  -- an answer that is written after bytes that were
  pub writes_after : (a : Answer) (done : List ℕ) (ending : Result (Unit {0}) RunError)
      → Appends (taken first) (taken mid) done → failed mid ≡ failed first
      → Writes a ending (sink_use taken failed mid last)
      → Writes (before done a) ending (sink_use taken failed first last)
  unfolding Writes
  writes_after a done (Ok u) grown same w =
      (w.0, (Appends-trans (taken first) (taken mid) (taken last) done a.output grown w.1.0, w.1.1 ∙ same))
  writes_after a done (Err (Error e)) grown same w =
      (w.0, (Appends-trans (taken first) (taken mid) (taken last) done a.output grown w.1.0, w.1.1 ∙ same))
  writes_after a done (Err (Fault Memory)) grown same never = absurd never
  writes_after a done (Err (Fault Read)) grown same never = absurd never
  writes_after a done (Err (Fault Write)) grown same w =
      (λ alone. w.0 (none_after done a.output alone.0, alone.1), answer_after done a.output grown same w.1)

-- ---- pieces that are answered to their end, where nothing was held back before them and nothing is after them

module _ {S L N : Type 0} (taken : S → Option (List ℕ)) (failed : S → Bool) (answer : L → N → List Piece → Answer)
    {v w : N} {s t : S} {h1 h2 : List ℕ} {ls : List Piece} (a : Answered taken failed answer v w h1 h2 s t ls)
    (first : h1 ≡ []) (none : h2 ≡ []) where
  moved : a.text ≡ a.moves.part
  moved = ap (λ l. l ++ a.text) (sym first) ∙ a.moves.split ∙ ap (λ l. a.moves.part ++ l) none ∙ append-nil a.moves.part

  -- the answer to them and others
  split_answer : (last : L) (later : List Piece)
      → answer last v (ls ++ later) ≡ before a.moves.part (answer last w later)
  split_answer last later = a.says last later ∙ ap (λ l. before l (answer last w later)) moved

  -- the answer to them, and then what is last
  whole_answer : (last : L) → answer last v ls ≡ before a.moves.part (answer last w [])
  whole_answer last = ap (answer last v) (sym (append-nil ls)) ∙ split_answer last []

  begun_whole : (last : L) → answer last w [] ≡ written [] → answer last v ls ≡ written a.moves.part
  begun_whole last is = whole_answer last ∙ ap (before a.moves.part) is ∙ ap written (append-nil a.moves.part)

  pub begun_written : (last : L) → answer last w [] ≡ written []
      → Writes (answer last v ls) (Ok tt) (sink_use taken failed s t)
  begun_written last is =
      subst (λ b. Writes b (Ok tt) (sink_use taken failed s t)) (sym (begun_whole last is))
      (writes_whole a.moves.part (sink_use taken failed s t) (a.moves.grown, a.moves.sound))

  -- what is last is written after them
  pub last_written : (last : L) (u : S) (r : Result (Unit {0}) RunError)
      → Writes (answer last w []) r (sink_use taken failed t u)
      → Writes (answer last v ls) r (sink_use taken failed s u)
  last_written last u r writes =
      subst (λ b. Writes b r (sink_use taken failed s u)) (sym (whole_answer last))
      (writes_after taken failed s t u (answer last w []) a.moves.part r a.moves.grown a.moves.sound writes)

  error_written : (last : L) (u : S) (later all : List Piece) (e : AnswerError) → all ≡ ls ++ later
      → RefusesEach answer w h2 later (Error e) (sink_use taken failed t u)
      → Writes (answer last v all) (Err (Error e)) (sink_use taken failed s u)
  unfolding Writes
  error_written last u later all e split ends =
      let rest = answer last w later in
      let now : EndsBy rest (Error e) (sink_use taken failed t u) =
      subst (λ l. EndsBy (before l rest) (Error e) (sink_use taken failed t u)) none (ends last) in
      subst (λ b. Writes b (Err (Error e)) (sink_use taken failed s u))
      (sym (ap (answer last v) split ∙ split_answer last later))
      (writes_after taken failed s t u rest a.moves.part (Err (Error e)) a.moves.grown a.moves.sound now)

  part_written : (nothing last : L) (u : S) (later all : List Piece) → answer nothing w [] ≡ written []
      → all ≡ ls ++ later → RefusesEach answer w h2 later (Fault Write) (sink_use taken failed t u)
      → TakesBeginning (answer nothing v ls).output (answer last v all).output (sink_use taken failed s u)
  part_written nothing last u later all is split ends =
      let rest = answer last w later in
      let (some, (b, fault)) : EndsBy rest (Fault Write) (sink_use taken failed t u) =
      subst (λ l. EndsBy (before l rest) (Fault Write) (sink_use taken failed t u)) none (ends last) in
      let begun : (answer nothing v ls).output ≡ a.moves.part = ap (λ b. b.output) (begun_whole nothing is) in
      rw begun (record {
        after = rest.output;
        split = ap (λ b. b.output) (ap (answer last v) split ∙ split_answer last later);
        some = some;
        part = record {
          part = b.part;
          rest = b.rest;
          split = b.split;
          holds = taken_after taken failed s t u a.moves.part b.part a.moves.grown a.moves.sound b.holds;
        };
        failed = fault;
      })

-- what takes the pieces, how it answers them, and how a contract cuts the list
module _ {S V L N P : Type 0} (qs : Bool) (rows_in : List ℕ → List Piece) (longest : ℕ) (taken : S → Option (List ℕ))
    (failed : S → Bool) (answer_of : V → L → N → List Piece → Answer) (nothing : L)
    (is_nothing : (v : V) (n : N) → answer_of v nothing n [] ≡ written [])
    (state : V → N) (held : V → List ℕ) (out : V → S) (takes : V → List Piece → V → Type 0)
    (refused : V → List Piece → V → RunError → Type 0) (settled : V → Type 0)
    (answers : (v w : V) (ls : List Piece) → takes v ls w
    → Answered taken failed (answer_of v) (state v) (state w) (held v) (held w) (out v) (out w) ls)
    (same : (v w : V) (ls : List Piece) → takes v ls w → answer_of w ≡ answer_of v)
    (refuses : (v w : V) (ls : List Piece) (e : RunError) → refused v ls w e
    → RefusesEach (answer_of v) (state v) (held v) ls e (sink_use taken failed (out v) (out w)))
    (empty : (v : V) → settled v → held v ≡ [])
    (cut : List ℕ → List P) (each : List Piece → List P) (one : Piece
    → P) (cuts : (bytes : List ℕ) (ended : List Piece) (last : Piece) → pieces_of qs bytes ≡ ended ++ last ∷ []
    → cut bytes ≡ each ended ++ one last ∷ [])
    (size : P → ℕ) (sizes : (p : Piece) → size (one p) ≡ length p.0)
    (v w : V) (last : L) (none : held v ≡ []) (begun : List P → Answer)
    (begins : (ls : List Piece) → answer_of v nothing (state v) ls ≡ begun (each ls))
    (whole : List ℕ → Answer) (wholes : (bytes : List ℕ) → answer_of v last (state v) (rows_in bytes) ≡ whole bytes)
    (old new : Option (List ℕ)) where
  stops_in_page : (e : RunError) → StopsTaking qs rows_in longest takes refused settled v w e old new (2 ^ 40) 65536
      → StopsInPage cut size longest begun old new
  stops_in_page e s = record {
    part = s.part;
    last = s.last;
    rest = s.rest;
    held = s.held;
    consumed = s.consumed;
    short = s.short;
    within = s.within;
    ended = each s.ended;
    unended = one s.unended;
    pieces = cuts s.part s.ended s.unended s.rows;
    bounded = rw (sizes s.unended) s.begun;
    good =
        ap (λ b. b.ending) (sym (begins s.ended) ∙ begun_whole taken failed (answer_of v)
        (answers v s.mid s.ended s.takes) none (empty s.mid s.settles) nothing (is_nothing v (state s.mid)));
  }

  refuses_mid : (e : RunError) → (s : StopsTaking qs rows_in longest takes refused settled v w e old new (2 ^ 40) 65536)
      → RefusesEach (answer_of v) (state s.mid) (held s.mid) s.refuses.later e
      (sink_use taken failed (out s.mid) (out w))
  refuses_mid e s =
      subst
      (λ a. RefusesEach a (state s.mid) (held s.mid) s.refuses.later e (sink_use taken failed (out s.mid) (out w)))
      (same v s.mid s.ended s.takes) (refuses s.mid w s.refuses.later e s.refuses.refuses)

  stopped : (e : RunError) (has : Bool)
      → StopsTaking qs rows_in longest takes refused settled v w e old new (2 ^ 40) 65536
      → EndsEarly cut size longest begun whole old new has e (sink_use taken failed (out v) (out w))
  unfolding stops_in_page
  stopped (Error e) has s = (
    stops_in_page (Error e) s,
    subst (λ b. Writes b (Err (Error e)) (sink_use taken failed (out v) (out w))) (wholes (s.part ++ s.last ++ s.rest))
        (error_written taken failed (answer_of v) (answers v s.mid s.ended s.takes) none (empty s.mid s.settles) last
        (out w) s.refuses.later _ e s.refuses.rows (refuses_mid (Error e) s)),
  )
  stopped (Fault Write) has s = (
    stops_in_page (Fault Write) s,
    subst (λ b. TakesBeginning b.output (whole (s.part ++ s.last ++ s.rest)).output
        (sink_use taken failed (out v) (out w))) (begins s.ended)
        (subst
        (λ b.
        TakesBeginning (answer_of v nothing (state v) s.ended).output b.output
        (sink_use taken failed (out v) (out w)))
        (wholes (s.part ++ s.last ++ s.rest))
        (part_written taken failed (answer_of v) (answers v s.mid s.ended s.takes) none (empty s.mid s.settles) nothing
        last (out w) s.refuses.later _ (is_nothing v (state s.mid)) s.refuses.rows (refuses_mid (Fault Write) s))),
  )
  stopped (Fault Read) has s = absurd (refuses_mid (Fault Read) s last)
  stopped (Fault Memory) has s = absurd (refuses_mid (Fault Memory) s last)

  -- a piece ends the answer with an error, whatever comes last
  pub ends_at_piece : (e : AnswerError)
      → StopsTaking qs rows_in longest takes refused settled v w (Error e) old new (2 ^ 40) 65536
      → (stop : StopsInPage cut size longest begun old new)
      × Writes (whole (list_at stop)) (Err (Error e)) (sink_use taken failed (out v) (out w))
      × ((other : L) → (answer_of v other (state v) (rows_in (list_at stop))).ending ≡ Err e)
  unfolding stops_in_page Writes
  ends_at_piece e s =
      let written_by : (other : L)
      → Writes (answer_of v other (state v) (rows_in (s.part ++ s.last ++ s.rest))) (Err (Error e))
      (sink_use taken failed (out v) (out w)) =
      λ other.
      error_written taken failed (answer_of v) (answers v s.mid s.ended s.takes) none (empty s.mid s.settles) other
      (out w) s.refuses.later _ e s.refuses.rows (refuses_mid (Error e) s) in (
        stops_in_page (Error e) s,
        subst (λ b. Writes b (Err (Error e)) (sink_use taken failed (out v) (out w)))
            (wholes (s.part ++ s.last ++ s.rest)) (written_by last),
        λ other. (written_by other).0,
      )

  -- a read fails, or a piece ends the answer, or a write fails
  pub ends_early : (had has : Bool) (e : RunError)
      → ((e ≡ Fault Read) × StopsReading qs longest takes settled v w old new (has ≡ true) (2 ^ 40) 65536)
      ⊎ (StopsTaking qs rows_in longest takes refused settled v w e old new (2 ^ 40) 65536 × (has ≡ had))
      → EndsEarly cut size longest begun whole old new has e (sink_use taken failed (out v) (out w))
  ends_early had has e (inr (s, kept)) = stopped e has s
  ends_early had has (Fault Read) (inl (is, s)) = record {
    part = s.part;
    rest = s.rest;
    held = s.held;
    fails = s.why;
    consumed = s.consumed;
    within = s.within;
    ended = each s.ended;
    last = one s.last;
    pieces = cuts s.part s.ended s.last s.rows;
    short = rw (sizes s.last) s.short;
    writes = subst (λ b. Writes b (Ok tt) (sink_use taken failed (out v) (out w))) (begins s.ended)
        (begun_written taken failed (answer_of v) (answers v w s.ended s.takes) none (empty w s.settles) nothing
        (is_nothing v (state w)));
  }
  ends_early had has (Fault Write) (inl (is, s)) = absurd (cc is)
  ends_early had has (Fault Memory) (inl (is, s)) = absurd (cc is)
  ends_early had has (Error e) (inl (is, s)) = absurd (cc is)
