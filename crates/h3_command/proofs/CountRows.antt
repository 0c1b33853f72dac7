-- How the rows of counts are put one after another, and written.
use Rattle.std.proofs.Common.{◌≡◌, ℕ, ◌+◌, ◌<◌, ◌≤◌, Bool, List, [], ◌∷◌, ◌++◌, get_or, length, take, drop, Option, None, Some, unwrap_or, IfNone, IfSome, Result, Err, sym, ap, ◌∙◌, subst, inl, arith, append-nil, append_assoc, take-append-drop}
use Rattle.std.proofs.lemmas.Grind.{flat_map-append}
use Rattle.std.proofs.lemmas.List.FromFn.{map-range_with_len_more, take-map-range_with_len}
use Rattle.std.specs.List.{flat_map}
use Rattle.h3_lines.specs.Answer.{written}
use Rattle.h3_lines.specs.Answering.{FailsPush, Moves}
use Rattle.h3_lines.specs.EachLaws.{moves_then, push_more, push_then}
use Rattle.h3_lines.specs.EndingLaws.{writes_after}
use Rattle.h3_lines.specs.Write.{SinkUse, Writes, sink_use}
use Rattle.h3_lines.specs.declared.run_error.Fault.TheVariants.{Write}
use Rattle.h3_lines.specs.declared.run_error.RunError.{RunError}
use Rattle.h3_lines.specs.declared.run_error.RunError.TheVariants.{Fault}
use Rattle.h3_command.specs.AreaCounts.{count_row, counts_table, header_row}
use Rattle.h3_command.specs.AreaTally.{named_counts}

-- a name and a byte after it, and then what is left of a row
pub row_parts : (held name : List ℕ) (last : ℕ) (rest : List ℕ)
    → (held ++ (name ++ last ∷ [])) ++ rest ≡ held ++ (name ++ last ∷ rest)
row_parts held name last rest =
    append_assoc held (name ++ last ∷ []) rest ∙ ap (λ l. held ++ l) (append_assoc name (last ∷ []) rest)

-- the name with a number, which is there
pub name_there : {B : Type 0} (now : B → List ℕ) (found : Option B) (other : B) (names : List (List ℕ)) (n : ℕ)
    → n < length names
    → IfSome found (λ b. now b ≡ get_or names n []) → IfNone found (length names ≤ n)
    → now (unwrap_or found other) ≡ get_or names n []
name_there now (Some b) other names n lt some none = some
name_there now None other names n lt some none = absurd (omega (arith, lt, none))

-- ---- one row after another

one_row : (separator : ℕ) (row : List ℕ × ℕ) → flat_map (count_row separator) (row ∷ []) ≡ count_row separator row
one_row separator row = append-nil (count_row separator row)

-- the rows of the first n names, and one more
pub rows_more : (separator : ℕ) (names : List (List ℕ)) (counts : List ℕ) (n : ℕ)
    → flat_map (count_row separator) (named_counts names counts (n + 1))
    ≡ flat_map (count_row separator) (named_counts names counts n)
    ++ count_row separator (get_or names n [], get_or counts n 0)
rows_more separator names counts n =
    let one : List ℕ × ℕ = (get_or names n [], get_or counts n 0) in
    let more = map-range_with_len_more (λ k. (get_or names k [], get_or counts k 0)) 0 n n (omega arith) in
    ap (flat_map (count_row separator)) more
    ∙ flat_map-append (count_row separator) (named_counts names counts n) (one ∷ [])
    ∙ ap (λ l. flat_map (count_row separator) (named_counts names counts n) ++ l) (one_row separator one)

-- the rows of the first k names are the first of all
pub rows_split : (separator : ℕ) (names : List (List ℕ)) (counts : List ℕ) (n k : ℕ) → k ≤ n
    → flat_map (count_row separator) (named_counts names counts n)
    ≡ flat_map (count_row separator) (named_counts names counts k)
    ++ flat_map (count_row separator) (drop k (named_counts names counts n))
rows_split separator names counts n k le =
    let all = named_counts names counts n in
    let first : take k all ≡ named_counts names counts k =
    take-map-range_with_len (λ j. (get_or names j [], get_or counts j 0)) 0 n k le in
    ap (flat_map (count_row separator)) (sym (take-append-drop k all))
    ∙ flat_map-append (count_row separator) (take k all) (drop k all)
    ∙ ap (λ l. flat_map (count_row separator) l ++ flat_map (count_row separator) (drop k all)) first

-- a header, rows and one more row are a table
pub table_parts : (separator : ℕ) (title : Option (List ℕ)) (rows : List (List ℕ × ℕ)) (last : List ℕ × ℕ)
    → (header_row separator title ++ flat_map (count_row separator) rows) ++ count_row separator last
    ≡ counts_table separator title (rows ++ last ∷ [])
table_parts separator title rows last =
    append_assoc (header_row separator title) (flat_map (count_row separator) rows) (count_row separator last)
    ∙ ap (λ l. header_row separator title ++ l)
    (ap (λ l. flat_map (count_row separator) rows ++ l) (sym (one_row separator last))
    ∙ sym (flat_map-append (count_row separator) rows (last ∷ [])))

module _ {S : Type 0} (taken : S → Option (List ℕ)) (failed : S → Bool) where
  -- one row more is put
  pub rows_put : (start : List ℕ) (separator : ℕ) (names : List (List ℕ)) (counts : List ℕ) (n : ℕ)
      (held held' : List ℕ) (s t u : S)
      → Moves taken failed (start ++ flat_map (count_row separator) (named_counts names counts n)) held s t
      → Moves taken failed (held ++ count_row separator (get_or names n [], get_or counts n 0)) held' t u
      → Moves taken failed (start ++ flat_map (count_row separator) (named_counts names counts (n + 1))) held' s u
  rows_put start separator names counts n held held' s t u so_far row =
      let rows = flat_map (count_row separator) (named_counts names counts n) in
      let one = count_row separator (get_or names n [], get_or counts n 0) in
      subst (λ l. Moves taken failed l held' s u)
      (append_assoc start rows one ∙ ap (λ l. start ++ l) (sym (rows_more separator names counts n)))
      (moves_then taken failed (start ++ rows) held one held' s t u so_far row)

  -- the next one is not
  pub rows_fail : (start : List ℕ) (separator : ℕ) (names : List (List ℕ)) (counts : List ℕ) (n size : ℕ)
      (held : List ℕ) (s t u : S)
      → n < size
      → Moves taken failed (start ++ flat_map (count_row separator) (named_counts names counts n)) held s t
      → FailsPush (held ++ count_row separator (get_or names n [], get_or counts n 0)) (sink_use taken failed t u)
      → FailsPush (start ++ flat_map (count_row separator) (named_counts names counts size)) (sink_use taken failed s u)
  rows_fail start separator names counts n size held s t u lt so_far fails =
      let rows = flat_map (count_row separator) (named_counts names counts n) in
      let one = count_row separator (get_or names n [], get_or counts n 0) in
      let later = flat_map (count_row separator) (drop (n + 1) (named_counts names counts size)) in
      let next : flat_map (count_row separator) (named_counts names counts (n + 1)) ≡ rows ++ one =
      rows_more separator names counts n in
      let all : flat_map (count_row separator) (named_counts names counts size) ≡ (rows ++ one) ++ later =
      rows_split separator names counts size (n + 1) (omega (arith, lt)) ∙ ap (λ l. l ++ later) next in
      let whole : ((start ++ rows) ++ one) ++ later ≡ start
      ++ flat_map (count_row separator) (named_counts names counts size) =
      ap (λ l. l ++ later) (append_assoc start rows one) ∙ append_assoc start (rows ++ one) later
      ∙ ap (λ l. start ++ l) (sym all) in
      subst (λ l. FailsPush l (sink_use taken failed s u)) whole
      (push_more ((start ++ rows) ++ one) later (sink_use taken failed s u)
      (push_then taken failed (start ++ rows) held one s t u so_far fails))

  -- bytes that are held back are written after others
  pub writes_held : (first mid last : S) (all held : List ℕ) (ending : Result (Unit {0}) RunError)
      → Moves taken failed all held first mid
      → Writes (written held) ending (sink_use taken failed mid last)
      → Writes (written all) ending (sink_use taken failed first last)
  writes_held first mid last all held ending m writes =
      subst (λ l. Writes (written l) ending (sink_use taken failed first last)) (sym m.split)
      (writes_after taken failed first mid last (written held) m.part ending m.grown m.sound writes)

-- a push fails
pub push_written : (bytes : List ℕ) (out : SinkUse) → FailsPush bytes out
    → Writes (written bytes) (Err (Fault Write)) out
unfolding Writes
push_written bytes out (some, p, failed) = ((λ alone. cc alone.1), (inl p, failed))
