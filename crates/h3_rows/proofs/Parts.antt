-- Bytes that are put part by part, after those that are held back.
use Rattle.std.proofs.Common.{◌≡◌, ℕ, ◌<◌, Bool, true, List, [], ◌++◌, length, Option, sym, ap, ◌∙◌, refl, subst, append_assoc, append-nil}
use Rattle.std.specs.Io.KnownBytes.{Appends}
use Rattle.h3_lines.specs.Answering.{Breaks, Moves, TakesSome}
use Rattle.h3_lines.specs.EachLaws.{breaks_more, breaks_then, moves_all, moves_then, some_after, some_of_part}
use Rattle.h3_lines.specs.Write.{AppendsPart, SinkUse, sink_use}
use Rattle.h3_lines.specs.declared.run_error.Fault.TheVariants.{Write}
use Rattle.h3_lines.specs.declared.run_error.RunError.TheVariants.{Fault}
use Rattle.h3_lines.specs.declared.run_error.RunError.{RunError}

parts : (held a b c : List ℕ) → ((held ++ a) ++ b) ++ c ≡ held ++ (a ++ (b ++ c))
parts held a b c = append_assoc (held ++ a) b c ∙ append_assoc held a (b ++ c)

-- a write fails in the first part
pub breaks_first : (held a rest all : List ℕ) (sink : SinkUse) (e : RunError) → a ++ rest ≡ all
    → Breaks (held ++ a) sink e → Breaks (held ++ all) sink e
breaks_first held a rest all sink e is b =
    subst (λ l. Breaks l sink e) (append_assoc held a rest ∙ ap (λ l. held ++ l) is)
    (breaks_more (held ++ a) rest sink e b)

module _ {S : Type 0} (taken : S → Option (List ℕ)) (failed : S → Bool) where
  pub moves_two : (held a b all h1 h2 : List ℕ) (s t u : S) → a ++ b ≡ all → Moves taken failed (held ++ a) h1 s t
      → Moves taken failed (h1 ++ b) h2 t u → Moves taken failed (held ++ all) h2 s u
  moves_two held a b all h1 h2 s t u is m n =
      subst (λ l. Moves taken failed l h2 s u) (append_assoc held a b ∙ ap (λ l. held ++ l) is)
      (moves_then taken failed (held ++ a) h1 b h2 s t u m n)

  pub moves_three : (held a b c all h1 h2 h3 : List ℕ) (s t u v : S) → a ++ (b ++ c) ≡ all
      → Moves taken failed (held ++ a) h1 s t → Moves taken failed (h1 ++ b) h2 t u
      → Moves taken failed (h2 ++ c) h3 u v
      → Moves taken failed (held ++ all) h3 s v
  moves_three held a b c all h1 h2 h3 s t u v is m n o =
      subst (λ l. Moves taken failed l h3 s v) (parts held a b c ∙ ap (λ l. held ++ l) is) (moves_then taken failed
      ((held ++ a) ++ b) h2 c h3 s u v (moves_then taken failed (held ++ a) h1 b h2 s t u m n) o)

  -- a write fails in the second part
  pub breaks_second : (held a b rest all h1 : List ℕ) (s t u : S) (e : RunError) → a ++ (b ++ rest) ≡ all
      → Moves taken failed (held ++ a) h1 s t → Breaks (h1 ++ b) (sink_use taken failed t u) e
      → Breaks (held ++ all) (sink_use taken failed s u) e
  breaks_second held a b rest all h1 s t u e is m b' =
      subst (λ l. Breaks l (sink_use taken failed s u) e) (parts held a b rest ∙ ap (λ l. held ++ l) is) (breaks_more
      ((held ++ a) ++ b) rest (sink_use taken failed s u) e
      (breaks_then taken failed (held ++ a) h1 b s t u e m b'))

  pub breaks_last : (held a b all h1 : List ℕ) (s t u : S) (e : RunError) → a ++ b ≡ all
      → Moves taken failed (held ++ a) h1 s t → Breaks (h1 ++ b) (sink_use taken failed t u) e
      → Breaks (held ++ all) (sink_use taken failed s u) e
  breaks_last held a b all h1 s t u e is m b' =
      subst (λ l. Breaks l (sink_use taken failed s u) e) (append_assoc held a b ∙ ap (λ l. held ++ l) is)
      (breaks_then taken failed (held ++ a) h1 b s t u e m b')

  -- a write fails in the third part
  pub breaks_third : (held a b c all h1 h2 : List ℕ) (s t u v : S) (e : RunError) → a ++ (b ++ c) ≡ all
      → Moves taken failed (held ++ a) h1 s t → Moves taken failed (h1 ++ b) h2 t u
      → Breaks (h2 ++ c) (sink_use taken failed u v) e
      → Breaks (held ++ all) (sink_use taken failed s v) e
  breaks_third held a b c all h1 h2 s t u v e is m n b' =
      subst (λ l. Breaks l (sink_use taken failed s v) e) (parts held a b c ∙ ap (λ l. held ++ l) is)
      (breaks_then taken failed ((held ++ a) ++ b) h2 c s u v e
      (moves_then taken failed (held ++ a) h1 b h2 s t u m n) b')

  -- what is held back then is written
  pub written_moves : (all held : List ℕ) (s t u : S) → Moves taken failed all held s t
      → Appends (taken t) (taken u) held → failed u ≡ failed t → Moves taken failed all [] s u
  written_moves all held s t u m grown sound =
      subst (λ l. Moves taken failed l [] s u) (append-nil all) (moves_then taken failed all held [] [] s t u m (subst
      (λ l. Moves taken failed l [] t u) (sym (append-nil held)) (moves_all taken failed held t u grown sound)))

  pub written_breaks : (all held : List ℕ) (s t u : S) → 0 < length all → Moves taken failed all held s t
      → AppendsPart (taken t) (taken u) held → failed u ≡ true → Breaks all (sink_use taken failed s u) (Fault Write)
  written_breaks all held s t u some m part fails =
      let took : TakesSome (sink_use taken failed t u) held =
      some_of_part held [] held (sink_use taken failed t u) (sym (append-nil held)) part fails in (
        refl,
        some,
        subst (TakesSome (sink_use taken failed s u)) (sym m.split)
            (some_after taken failed s t u m.part held m.grown m.sound took),
      )

  -- what is held back then is written in part
  pub moves_on : (all held held' : List ℕ) (s t u : S) → Moves taken failed all held s t
      → Moves taken failed held held' t u
      → Moves taken failed all held' s u
  moves_on all held held' s t u m n =
      subst (λ l. Moves taken failed l held' s u) (append-nil all)
      (moves_then taken failed all held [] held' s t u m
      (subst (λ l. Moves taken failed l held' t u) (sym (append-nil held)) n))

  pub breaks_on : (all held : List ℕ) (s t u : S) (e : RunError) → Moves taken failed all held s t
      → Breaks held (sink_use taken failed t u) e → Breaks all (sink_use taken failed s u) e
  breaks_on all held s t u e m b =
      subst (λ l. Breaks l (sink_use taken failed s u) e) (append-nil all)
      (breaks_then taken failed all held [] s t u e m
      (subst (λ l. Breaks l (sink_use taken failed t u) e) (sym (append-nil held)) b))
