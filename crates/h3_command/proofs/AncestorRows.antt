-- How the rows of ancestors are put one after another.
use Rattle.std.proofs.Common.{◌≡◌, ℕ, Bool, List, [], ◌∷◌, ◌++◌, Option, sym, ap, ◌∙◌, subst, append-nil, append_assoc}
use Rattle.std.proofs.lemmas.Grind.{flat_map-append}
use Rattle.std.specs.List.{flat_map}
use Rattle.h3_lines.specs.Answering.{FailsPush, Moves}
use Rattle.h3_lines.specs.EachLaws.{moves_then, push_more, push_then}
use Rattle.h3_lines.specs.Write.{sink_use}

module _ {X : Type 0} (line : X → List ℕ) (rows : List X) (row : X) where
  -- the lines of rows, and one more
  one_line : flat_map line (rows ++ row ∷ []) ≡ flat_map line rows ++ line row
  one_line =
      flat_map-append line rows (row ∷ []) ∙ ap (λ l. flat_map line rows ++ l) (append-nil (line row))

  module _ {S : Type 0} (taken : S → Option (List ℕ)) (failed : S → Bool) (start held : List ℕ) (s t u : S)
      (so_far : Moves taken failed (start ++ flat_map line rows) held s t) where
    -- one row more is put
    pub row_put : (held' : List ℕ) → Moves taken failed (held ++ line row) held' t u
        → Moves taken failed (start ++ flat_map line (rows ++ row ∷ [])) held' s u
    row_put held' one =
        subst (λ l. Moves taken failed l held' s u)
        (append_assoc start (flat_map line rows) (line row) ∙ ap (λ l. start ++ l) (sym one_line))
        (moves_then taken failed (start ++ flat_map line rows) held (line row) held' s t u so_far one)

    -- the next one is not
    pub row_fails : (all later : List X) → all ≡ (rows ++ row ∷ []) ++ later
        → FailsPush (held ++ line row) (sink_use taken failed t u)
        → FailsPush (start ++ flat_map line all) (sink_use taken failed s u)
    row_fails all later is fails =
        let lines = flat_map line rows in
        let whole : ((start ++ lines) ++ line row) ++ flat_map line later ≡ start ++ flat_map line all =
        ap (λ l. l ++ flat_map line later) (append_assoc start lines (line row))
        ∙ append_assoc start (lines ++ line row) (flat_map line later)
        ∙ ap (λ l. start ++ (l ++ flat_map line later)) (sym one_line)
        ∙ ap (λ l. start ++ l) (sym (flat_map-append line (rows ++ row ∷ []) later))
        ∙ ap (λ l. start ++ flat_map line l) (sym is) in
        subst (λ l. FailsPush l (sink_use taken failed s u)) whole
        (push_more ((start ++ lines) ++ line row) (flat_map line later) (sink_use taken failed s u)
        (push_then taken failed (start ++ lines) held (line row) s t u so_far fails))
