-- How rows are put one after another. Proofs of several tables cite this file.
use Rattle.std.proofs.Common.{get_or, Result, Ok, Err, IfOk, OnErr, codes, inl, ◌≡◌, ℕ, ◌+◌, ◌<◌, ◌≤◌, Bool, List, [], ◌∷◌, ◌++◌, length, map, take, drop, Option, sym, ap, ◌∙◌, subst, arith, append-nil, append_assoc, take-append-drop}
use Rattle.std.proofs.lemmas.Grind.{flat_map-append}
use Rattle.std.proofs.lemmas.List.FromFn.{map-range_with_len_more, take-map-range_with_len}
use Rattle.std.specs.List.{flat_map, range_with_len}
use Rattle.std.specs.Prelude.{ℤ, pos}
use Rattle.std.proofs.lemmas.List.{get_or-map}
use Rattle.h3_lines.specs.Answer.{written}
use Rattle.h3_lines.specs.Answering.{FailsPush, Moves}
use Rattle.h3_lines.specs.EndingLaws.{writes_after}
use Rattle.h3_lines.specs.Write.{SinkUse, Writes}
use Rattle.h3_lines.specs.declared.run_error.Fault.TheVariants.{Write}
use Rattle.h3_lines.specs.declared.run_error.RunError.{RunError}
use Rattle.h3_lines.specs.declared.run_error.RunError.TheVariants.{Fault}
use Rattle.h3_numbers.specs.declared.sum.Sum.{Sum}
use Rattle.h3_command.specs.SumRows.{named_row, row_of, value_of, values_of}
use Rattle.h3_command.specs.SumTables.{SumRow, sum_row, sums_table, titles_row}
use Rattle.h3_lines.specs.EachLaws.{moves_then, push_more, push_then}
use Rattle.h3_lines.specs.Write.{sink_use}

module _ {X : Type 0} (line : X → List ℕ) (row : ℕ → X) where
  -- the lines of the first n rows, and one more
  pub lines_more : (n : ℕ)
      → flat_map line (map row (range_with_len 0 (n + 1)))
      ≡ flat_map line (map row (range_with_len 0 n)) ++ line (row n)
  lines_more n =
      ap (flat_map line) (map-range_with_len_more row 0 n n (omega arith))
      ∙ flat_map-append line (map row (range_with_len 0 n)) (row n ∷ [])
      ∙ ap (λ l. flat_map line (map row (range_with_len 0 n)) ++ l) (append-nil (line (row n)))

  -- the lines of the first k rows are the first of all
  pub lines_split : (n k : ℕ) → k ≤ n
      → flat_map line (map row (range_with_len 0 n))
      ≡ flat_map line (map row (range_with_len 0 k)) ++ flat_map line (drop k (map row (range_with_len 0 n)))
  lines_split n k le =
      let all = map row (range_with_len 0 n) in
      let first : take k all ≡ map row (range_with_len 0 k) = take-map-range_with_len row 0 n k le in
      ap (flat_map line) (sym (take-append-drop k all))
      ∙ flat_map-append line (take k all) (drop k all)
      ∙ ap (λ l. flat_map line l ++ flat_map line (drop k all)) first

  module _ {S : Type 0} (taken : S → Option (List ℕ)) (failed : S → Bool) (start : List ℕ) (n : ℕ) (held : List ℕ)
      (s t u : S)
      (so_far : Moves taken failed (start ++ flat_map line (map row (range_with_len 0 n))) held s t) where
    -- one row more is put
    pub line_put : (held' : List ℕ) → Moves taken failed (held ++ line (row n)) held' t u
        → Moves taken failed (start ++ flat_map line (map row (range_with_len 0 (n + 1)))) held' s u
    line_put held' one =
        let rows = flat_map line (map row (range_with_len 0 n)) in
        subst (λ l. Moves taken failed l held' s u)
        (append_assoc start rows (line (row n)) ∙ ap (λ l. start ++ l) (sym (lines_more n)))
        (moves_then taken failed (start ++ rows) held (line (row n)) held' s t u so_far one)

    -- the next one is not
    pub line_fails : (size : ℕ) → n < size → FailsPush (held ++ line (row n)) (sink_use taken failed t u)
        → FailsPush (start ++ flat_map line (map row (range_with_len 0 size))) (sink_use taken failed s u)
    line_fails size lt fails =
        let rows = flat_map line (map row (range_with_len 0 n)) in
        let one = line (row n) in
        let later = flat_map line (drop (n + 1) (map row (range_with_len 0 size))) in
        let all : flat_map line (map row (range_with_len 0 size)) ≡ (rows ++ one) ++ later =
        lines_split size (n + 1) (omega (arith, lt)) ∙ ap (λ l. l ++ later) (lines_more n) in
        let whole : ((start ++ rows) ++ one) ++ later ≡ start ++ flat_map line (map row (range_with_len 0 size)) =
        ap (λ l. l ++ later) (append_assoc start rows one) ∙ append_assoc start (rows ++ one) later
        ∙ ap (λ l. start ++ l) (sym all) in
        subst (λ l. FailsPush l (sink_use taken failed s u)) whole
        (push_more ((start ++ rows) ++ one) later (sink_use taken failed s u)
        (push_then taken failed (start ++ rows) held one s t u so_far fails))

-- a name and a byte after it, and then what is left of a row
pub row_parts : (held name : List ℕ) (last : ℕ) (rest : List ℕ)
    → (held ++ (name ++ last ∷ [])) ++ rest ≡ held ++ (name ++ last ∷ rest)
row_parts held name last rest =
    append_assoc held (name ++ last ∷ []) rest ∙ ap (λ l. held ++ l) (append_assoc name (last ∷ []) rest)

-- the titles of the columns of names and counts, and then what is left of the row
pub title_parts : (names : List ℕ) (separator : ℕ) (rest : List ℕ)
    → ((names ++ separator ∷ []) ++ (codes "count" ++ separator ∷ [])) ++ rest
    ≡ names ++ separator ∷ (codes "count" ++ separator ∷ rest)
title_parts names separator rest =
    append_assoc (names ++ separator ∷ []) (codes "count" ++ separator ∷ []) rest
    ∙ append_assoc names (separator ∷ []) (codes "count" ++ separator ∷ rest)

-- what follows from the value of a result
pub when_ok : {A E : Type 0} (r : Result A E) (P Q : A → Type 0) → IfOk r P → ((a : A) → P a → Q a) → IfOk r Q
when_ok (Ok a) P Q h f = f a h
when_ok (Err e) P Q h f = h

pub when_err : {A E : Type 0} (r : Result A E) (P Q : Type 0) → OnErr r P → (P → Q) → OnErr r Q
when_err (Ok a) P Q h f = h
when_err (Err e) P Q h f = f h

-- the row of a name and a sum is that of its number
pub row_there : (names : List (List ℕ)) (sums : List Sum) (n : ℕ) (s : Sum) → n < length sums → s ≡ get_or sums n s
    → (name : List ℕ) → name ≡ get_or names n []
    → row_of name s ≡ named_row names (values_of sums) n
row_there names sums n s lt own name is =
    let value : value_of s ≡ get_or (values_of sums) n (0, pos 0) =
    ap value_of own ∙ sym (get_or-map value_of sums n s (0, pos 0) lt) in
    ap (λ l. row_of l s) is
    ∙ ap (λ (v : ℕ × ℤ). record { name = get_or names n []; count = v.0; units = v.1 }) value

-- titles, rows and one more row are a table
pub table_parts : (separator : ℕ) (titles : Option (List ℕ × List ℕ)) (rows : List SumRow) (last : SumRow)
    → (titles_row separator titles ++ flat_map (sum_row separator) rows) ++ sum_row separator last
    ≡ sums_table separator titles (rows ++ last ∷ [])
table_parts separator titles rows last =
    append_assoc (titles_row separator titles) (flat_map (sum_row separator) rows) (sum_row separator last)
    ∙ ap (λ l. titles_row separator titles ++ l)
    (ap (λ l. flat_map (sum_row separator) rows ++ l) (sym (append-nil (sum_row separator last)))
    ∙ sym (flat_map-append (sum_row separator) rows (last ∷ [])))

-- bytes that are held back are written after others
pub writes_held : {S : Type 0} (taken : S → Option (List ℕ)) (failed : S → Bool) (first mid last : S)
    (all held : List ℕ) (ending : Result (Unit {0}) RunError)
    → Moves taken failed all held first mid
    → Writes (written held) ending (sink_use taken failed mid last)
    → Writes (written all) ending (sink_use taken failed first last)
writes_held taken failed first mid last all held ending m writes =
    subst (λ l. Writes (written l) ending (sink_use taken failed first last)) (sym m.split)
    (writes_after taken failed first mid last (written held) m.part ending m.grown m.sound writes)

-- a push fails
pub push_written : (bytes : List ℕ) (out : SinkUse) → FailsPush bytes out
    → Writes (written bytes) (Err (Fault Write)) out
unfolding Writes
push_written bytes out (some, p, failed) = ((λ alone. cc alone.1), (inl p, failed))
