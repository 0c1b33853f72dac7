-- Laws of lines and rows that are answered one after another. The implementations that state them and proofs alone cite
-- this file.
use Rattle.std.proofs.Common.{◌≡◌, ℕ, ◌<◌, ◌⊎◌, Bool, true, List, [], ◌++◌, length, Option, sym, ap, ◌∙◌, refl, subst, inl, inr, append_assoc, append-nil, length-append, arith}
use Rattle.std.proofs.KnownBytes.{Appends-nil, Appends-trans}
use Rattle.std.specs.Io.KnownBytes.{Appends}
use Rattle.h3_lines.specs.Answer.{Answer, before}
use Rattle.h3_lines.specs.Answering.{Answered, Breaks, EndsBy, FailsPush, Moves, RefusesEach, TakesSome}
use Rattle.h3_lines.specs.Beginning.{SomeBeginning}
use Rattle.h3_lines.specs.Pieces.{Piece}
use Rattle.h3_lines.specs.Write.{AppendsPart, MayHaveTaken, SinkUse, sink_use}
use Rattle.h3_lines.specs.declared.run_error.Fault.TheVariants.{Memory, Read, Write}
use Rattle.h3_lines.specs.declared.run_error.RunError.{RunError}
use Rattle.h3_lines.specs.declared.run_error.RunError.TheVariants.{Error, Fault}

pub before_before : (xs ys : List ℕ) (a : Answer) → before xs (before ys a) ≡ before (xs ++ ys) a
before_before xs ys a = ap (λ l. record { output = l; ending = a.ending }) (sym (append_assoc xs ys a.output))

-- ---- bytes that are not all taken

pub beginning_longer : {P : List ℕ → Type 0} {xs : List ℕ} (ys : List ℕ) → SomeBeginning P xs
    → SomeBeginning P (xs ++ ys)
beginning_longer ys b =
    record {
      part = b.part;
      rest = b.rest ++ ys;
      split = ap (λ l. l ++ ys) b.split ∙ append_assoc b.part b.rest ys;
      holds = b.holds;
    }

beginning_after : {P Q : List ℕ → Type 0} {bytes : List ℕ} (done : List ℕ)
    → ((part : List ℕ) → P part → Q (done ++ part)) → SomeBeginning P bytes → SomeBeginning Q (done ++ bytes)
beginning_after done more b =
    record {
      part = done ++ b.part;
      rest = b.rest;
      split = ap (λ l. done ++ l) b.split ∙ sym (append_assoc done b.part b.rest);
      holds = more b.part b.holds;
    }

pub some_of_part : (xs ys zs : List ℕ) (out : SinkUse) → zs ≡ xs ++ ys → AppendsPart out.before out.after xs
    → out.has_failed ≡ true → TakesSome out zs
some_of_part xs ys zs out is p failed =
    let b = beginning_longer ys p in
    (record { part = b.part; rest = b.rest; split = is ∙ b.split; holds = inl b.holds }, failed)

more_bytes : (xs ys : List ℕ) → 0 < length xs → 0 < length (xs ++ ys)
more_bytes xs ys some = omega (arith, length-append xs ys, some)

pub push_more : (xs ys : List ℕ) (sink : SinkUse) → FailsPush xs sink → FailsPush (xs ++ ys) sink
push_more xs ys sink (some, b, failed) = (more_bytes xs ys some, beginning_longer ys b, failed)

pub push_breaks : (bytes : List ℕ) (sink : SinkUse) → FailsPush bytes sink → Breaks bytes sink (Fault Write)
push_breaks bytes sink (some, b, failed) =
    (refl, some, some_of_part bytes [] bytes sink (sym (append-nil bytes)) b failed)

pub breaks_more : (xs ys : List ℕ) (sink : SinkUse) (e : RunError) → Breaks xs sink e → Breaks (xs ++ ys) sink e
breaks_more xs ys sink e (is, some, (b, failed)) = (is, more_bytes xs ys some, (beginning_longer ys b, failed))

-- an answer after these bytes
pub breaks_before : (held : List ℕ) (a : Answer) (e : RunError) (sink : SinkUse) → Breaks held sink e
    → EndsBy (before held a) e sink
breaks_before held a e sink b =
    let (is, some, takes) = breaks_more held a.output sink e b in
    subst (λ r. EndsBy (before held a) r sink) (sym is) (some, takes)

pub breaks_ends : (held text : List ℕ) (next : Answer) (e : RunError) (sink : SinkUse) → Breaks (held ++ text) sink e
    → EndsBy (before held (before text next)) e sink
breaks_ends held text next e sink b =
    subst (λ a. EndsBy a e sink) (sym (before_before held text next)) (breaks_before (held ++ text) next e sink b)

module _ {S : Type 0} (taken : S → Option (List ℕ)) (failed : S → Bool) where
  -- ---- bytes that are put after those held back, of which some are taken

  pub moves_none : (held : List ℕ) (s : S) → Moves taken failed held held s s
  moves_none held s = record { part = []; split = refl; grown = Appends-nil (taken s); sound = refl }

  -- all of them are taken
  pub moves_all : (all : List ℕ) (s t : S) → Appends (taken s) (taken t) all → failed t ≡ failed s
      → Moves taken failed all [] s t
  moves_all all s t grown sound = record { part = all; split = sym (append-nil all); grown = grown; sound = sound }

  pub moves_then : (all held more held' : List ℕ) (s t u : S) → Moves taken failed all held s t
      → Moves taken failed (held ++ more) held' t u → Moves taken failed (all ++ more) held' s u
  moves_then all held more held' s t u m k = record {
    part = m.part ++ k.part;
    split =
        ap (λ l. l ++ more) m.split ∙ append_assoc m.part held more ∙ ap (λ l. m.part ++ l) k.split
        ∙ sym (append_assoc m.part k.part held');
    grown = Appends-trans (taken s) (taken t) (taken u) m.part k.part m.grown k.grown;
    sound = k.sound ∙ m.sound;
  }

  -- bytes that are put into the block, where some before them are taken
  pub moves_put : (all held more held' : List ℕ) (s t : S) → Moves taken failed all held s t → held' ≡ held ++ more
      → Moves taken failed (all ++ more) held' s t
  moves_put all held more held' s t m is =
      moves_then all held more held' s t t m
      (record { part = []; split = sym is; grown = Appends-nil (taken t); sound = refl })

  pub may_after : (s t u : S) (done bytes : List ℕ) → Appends (taken s) (taken t) done → failed t ≡ failed s
      → MayHaveTaken taken failed t u bytes → MayHaveTaken taken failed s u (done ++ bytes)
  may_after s t u done bytes grown same (whole, more, sound, kept) =
      (whole, Appends-trans (taken s) (taken t) (taken whole) done bytes grown more, sound ∙ same, kept)

  -- bytes that were taken, or may have been, after others that were
  pub taken_after : (s t u : S) (done bytes : List ℕ) → Appends (taken s) (taken t) done → failed t ≡ failed s
      → Appends (taken t) (taken u) bytes ⊎ MayHaveTaken taken failed t u bytes
      → Appends (taken s) (taken u) (done ++ bytes) ⊎ MayHaveTaken taken failed s u (done ++ bytes)
  taken_after s t u done bytes grown same (inl more) =
      inl (Appends-trans (taken s) (taken t) (taken u) done bytes grown more)
  taken_after s t u done bytes grown same (inr may) = inr (may_after s t u done bytes grown same may)

  -- a beginning of bytes, after others that were taken
  pub part_after : (s t u : S) (done bytes : List ℕ) → Appends (taken s) (taken t) done
      → AppendsPart (taken t) (taken u) bytes → AppendsPart (taken s) (taken u) (done ++ bytes)
  part_after s t u done bytes grown b =
      beginning_after done (λ part more. Appends-trans (taken s) (taken t) (taken u) done part grown more) b

  pub some_after : (s t u : S) (done bytes : List ℕ) → Appends (taken s) (taken t) done → failed t ≡ failed s
      → TakesSome (sink_use taken failed t u) bytes → TakesSome (sink_use taken failed s u) (done ++ bytes)
  some_after s t u done bytes grown same (b, fault) =
      (beginning_after done (λ part. taken_after s t u done part grown same) b, fault)

  regrouped : (all held more : List ℕ) (s t : S) (m : Moves taken failed all held s t)
      → all ++ more ≡ m.part ++ (held ++ more)
  regrouped all held more s t m = ap (λ l. l ++ more) m.split ∙ append_assoc m.part held more

  some_more : (done bytes : List ℕ) → 0 < length bytes → 0 < length (done ++ bytes)
  some_more done bytes some = omega (arith, length-append done bytes, some)

  pub push_then : (all held more : List ℕ) (s t u : S) → Moves taken failed all held s t
      → FailsPush (held ++ more) (sink_use taken failed t u) → FailsPush (all ++ more) (sink_use taken failed s u)
  push_then all held more s t u m (some, b, fault) =
      subst (λ l. FailsPush l (sink_use taken failed s u)) (sym (regrouped all held more s t m))
      (some_more m.part (held ++ more) some, part_after s t u m.part (held ++ more) m.grown b, fault)

  pub breaks_then : (all held more : List ℕ) (s t u : S) (e : RunError) → Moves taken failed all held s t
      → Breaks (held ++ more) (sink_use taken failed t u) e → Breaks (all ++ more) (sink_use taken failed s u) e
  breaks_then all held more s t u e m (is, some, takes) =
      subst (λ l. Breaks l (sink_use taken failed s u) e) (sym (regrouped all held more s t m)) (
        is,
        some_more m.part (held ++ more) some,
        some_after s t u m.part (held ++ more) m.grown m.sound takes,
      )

  -- ---- pieces that are answered

  pub ends_after : (s t u : S) (a : Answer) (done : List ℕ) (e : RunError) → Appends (taken s) (taken t) done
      → failed t ≡ failed s → EndsBy a e (sink_use taken failed t u)
      → EndsBy (before done a) e (sink_use taken failed s u)
  ends_after s t u a done (Error e) grown same (ending, takes) =
      (ending, (Appends-trans (taken s) (taken t) (taken u) done a.output grown takes.0, takes.1 ∙ same))
  ends_after s t u a done (Fault Write) grown same w = (
    let some : 0 < length a.output = w.0 in
        omega (arith, length-append done a.output),
    some_after s t u done a.output grown same w.1,
  )
  ends_after s t u a done (Fault Read) grown same never = absurd never
  ends_after s t u a done (Fault Memory) grown same never = absurd never

  -- bytes that were held back are taken, and no piece answered
  pub answered_by : {L N : Type 0} (answer : L → N → List Piece → Answer) (v w : N) (held held' : List ℕ) (s t : S)
      → w ≡ v → Moves taken failed held held' s t → Answered taken failed answer v w held held' s t []
  answered_by answer v w held held' s t same m =
      record {
        text = [];
        says = λ last more. ap (λ x. answer last x more) (sym same);
        moves = subst (λ l. Moves taken failed l held' s t) (sym (append-nil held)) m;
      }

  pub answered_none : {L N : Type 0} (answer : L → N → List Piece → Answer) (v : N) (held : List ℕ) (s : S)
      → Answered taken failed answer v v held held s s []
  answered_none answer v held s = answered_by answer v v held held s s refl (moves_none held s)

  pub answered_then : {F L N : Type 0} (answer_of : F → L → N → List Piece → Answer) {f g : F} {v w x : N}
      {h1 h2 h3 : List ℕ} {s t u : S} (xs ys : List Piece)
      → g ≡ f → Answered taken failed (answer_of f) v w h1 h2 s t xs
      → Answered taken failed (answer_of g) w x h2 h3 t u ys
      → Answered taken failed (answer_of f) v x h1 h3 s u (xs ++ ys)
  answered_then {L = L} answer_of {f} {g} {v} {w} {x} {h1} {h2} {h3} {s} {t} {u} xs ys same p q =
      let says : (last : L) (more : List Piece)
      → answer_of f last w (ys ++ more) ≡ before q.text (answer_of f last x more) =
      subst
      (λ e.
      (last : L) (more : List Piece)
      → answer_of e last w (ys ++ more) ≡ before q.text (answer_of e last x more))
      same q.says in
      record {
        text = p.text ++ q.text;
        says =
            λ last more. ap (answer_of f last v) (append_assoc xs ys more) ∙ p.says last (ys ++ more)
            ∙ ap (before p.text) (says last more) ∙ before_before p.text q.text (answer_of f last x more);
        moves =
            subst (λ l. Moves taken failed l h3 s u) (append_assoc h1 p.text q.text)
            (moves_then (h1 ++ p.text) h2 q.text h3 s t u p.moves q.moves);
      }

  pub refuses_then : {F L N : Type 0} (answer_of : F → L → N → List Piece → Answer) {f g : F} {v w : N} {h1 h2 : List ℕ}
      {s t : S} (u : S) (xs ys : List Piece) (e : RunError)
      → g ≡ f → Answered taken failed (answer_of f) v w h1 h2 s t xs
      → RefusesEach (answer_of g) w h2 ys e (sink_use taken failed t u)
      → RefusesEach (answer_of f) v h1 (xs ++ ys) e (sink_use taken failed s u)
  refuses_then answer_of {f} {g} {v} {w} {h1} {h2} {s} {t} u xs ys e same p refuses last =
      let rest = answer_of f last w ys in
      let m = p.moves in
      let is : before h1 (answer_of f last v (xs ++ ys)) ≡ before m.part (before h2 rest) =
      ap (before h1) (p.says last ys) ∙ before_before h1 p.text rest ∙ ap (λ l. before l rest) m.split
      ∙ sym (before_before m.part h2 rest) in
      let after : EndsBy (before h2 rest) e (sink_use taken failed t u) =
      subst (λ d. EndsBy (before h2 (answer_of d last w ys)) e (sink_use taken failed t u)) same (refuses last) in
      subst (λ a. EndsBy a e (sink_use taken failed s u)) (sym is)
      (ends_after s t u (before h2 rest) m.part e m.grown m.sound after)
