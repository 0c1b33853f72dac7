-- The lists of values, one after another.
use Rattle.std.proofs.Common.{◌≡◌, ℕ, zero, suc, ◌+◌, ◌<◌, ◌≤◌, List, [], ◌∷◌, ◌++◌, get_or, take, drop, Option, Result, Ok, Err, inl, inr, sym, ap, ◌∙◌, refl, subst, arith, append-nil, append_assoc, take-append-drop, Bool}
use Rattle.std.proofs.lemmas.Bool.{cases_eq}
use Rattle.std.proofs.lemmas.Grind.{flat_map-append}
use Rattle.std.proofs.lemmas.List.{map-id}
use Rattle.std.proofs.lemmas.List.FromFn.{map-range_with_len_more, take-map-range_with_len}
use Rattle.std.specs.List.{flat_map, range_with_len}
use Rattle.h3_index.specs.Cell.{Address}
use Rattle.h3_index.specs.declared.error.H3Error.{H3Error}
use Rattle.h3_lines.specs.Answering.{FailsPush, Moves}
use Rattle.h3_lines.specs.EachLaws.{moves_then, push_more, push_then}
use Rattle.h3_lines.specs.Write.{sink_use}
use Rattle.h3_lines.specs.declared.run_error.AnswerError.TheVariants.{AtRow}
use Rattle.h3_lines.specs.declared.run_error.RowError.TheVariants.{Call}
use Rattle.h3_command.specs.By.{lists_of, lists_then, value_lines}
use Rattle.h3_command.specs.ByValue.{IsFirstError}
use Rattle.h3_regions.specs.Areas.{cells_of}

-- ---- texts of numbers, one after another

range_more : (n : ℕ) → range_with_len 0 (n + 1) ≡ range_with_len 0 n ++ n ∷ []
range_more n =
    sym (map-id (range_with_len 0 (n + 1))) ∙ map-range_with_len_more (λ k. k) 0 n n (omega arith)
    ∙ ap (λ l. l ++ n ∷ []) (map-id (range_with_len 0 n))

pub text_more : (f : ℕ → List ℕ) (n : ℕ)
    → flat_map f (range_with_len 0 (n + 1)) ≡ flat_map f (range_with_len 0 n) ++ f n
text_more f n =
    ap (flat_map f) (range_more n) ∙ flat_map-append f (range_with_len 0 n) (n ∷ [])
    ∙ ap (λ l. flat_map f (range_with_len 0 n) ++ l) (append-nil (f n))

pub text_split : (f : ℕ → List ℕ) (n k : ℕ) → k ≤ n
    → flat_map f (range_with_len 0 n) ≡ flat_map f (range_with_len 0 k) ++ flat_map f (drop k (range_with_len 0 n))
text_split f n k le =
    let all = range_with_len 0 n in
    let first : take k all ≡ range_with_len 0 k =
    ap (take k) (sym (map-id all)) ∙ take-map-range_with_len (λ j. j) 0 n k le ∙ map-id (range_with_len 0 k) in
    ap (flat_map f) (sym (take-append-drop k all)) ∙ flat_map-append f (take k all) (drop k all)
    ∙ ap (λ l. flat_map f l ++ flat_map f (drop k all)) first

module _ {S : Type 0} (taken : S → Option (List ℕ)) (failed : S → Bool) (f : ℕ → List ℕ) where
  -- one text more is put
  pub text_put : (start : List ℕ) (n : ℕ) (held held' : List ℕ) (s t u : S)
      → Moves taken failed (start ++ flat_map f (range_with_len 0 n)) held s t
      → Moves taken failed (held ++ f n) held' t u
      → Moves taken failed (start ++ flat_map f (range_with_len 0 (n + 1))) held' s u
  text_put start n held held' s t u so_far one =
      let done = flat_map f (range_with_len 0 n) in
      subst (λ l. Moves taken failed l held' s u)
      (append_assoc start done (f n) ∙ ap (λ l. start ++ l) (sym (text_more f n)))
      (moves_then taken failed (start ++ done) held (f n) held' s t u so_far one)

  -- the next one is not
  pub text_fails : (start : List ℕ) (n size : ℕ) (held : List ℕ) (s t u : S) → n < size
      → Moves taken failed (start ++ flat_map f (range_with_len 0 n)) held s t
      → FailsPush (held ++ f n) (sink_use taken failed t u)
      → FailsPush (start ++ flat_map f (range_with_len 0 size)) (sink_use taken failed s u)
  text_fails start n size held s t u lt so_far fails =
      let done = flat_map f (range_with_len 0 n) in
      let later = flat_map f (drop (n + 1) (range_with_len 0 size)) in
      let all : flat_map f (range_with_len 0 size) ≡ (done ++ f n) ++ later =
      text_split f size (n + 1) (omega (arith, lt)) ∙ ap (λ l. l ++ later) (text_more f n) in
      let whole : ((start ++ done) ++ f n) ++ later ≡ start ++ flat_map f (range_with_len 0 size) =
      ap (λ l. l ++ later) (append_assoc start done (f n)) ∙ append_assoc start (done ++ f n) later
      ∙ ap (λ l. start ++ l) (sym all) in
      subst (λ l. FailsPush l (sink_use taken failed s u)) whole
      (push_more ((start ++ done) ++ f n) later (sink_use taken failed s u)
      (push_then taken failed (start ++ done) held (f n) s t u so_far fails))

-- ---- the lists of values

module _ (separator : ℕ) (function : List Address → Result (List Address) H3Error) (names : List (List ℕ))
    (rows : List ℕ)
    (pairs : List (Address × ℕ)) (size : ℕ) where
  -- all are made
  pub lists_made : (lists : ℕ → List Address) → ((n : ℕ) → n < size → function (cells_of pairs n) ≡ Ok (lists n))
      → (count start : ℕ) → start + count ≤ size
      → lists_of separator function names rows pairs (range_with_len start count)
      ≡ Ok (flat_map (λ n. value_lines separator (get_or names n []) (lists n)) (range_with_len start count))
  lists_made lists made zero start le = refl
  lists_made lists made (suc count) start le =
      let later = lists_made lists made count (start + 1) (omega (arith, le)) in
      let name = get_or names start [] in
      ap (λ r. lists_then separator name (get_or rows start 0) r
      (lists_of separator function names rows pairs (range_with_len (start + 1) count))) (made start
      (omega (arith, le)))
      ∙ ap (lists_then separator name (get_or rows start 0) (Ok (lists start))) later

  -- one is refused
  pub lists_refused : (k : ℕ) (e : H3Error) → IsFirstError function pairs size k e → (count start : ℕ) → start ≤ k
      → k < start + count
      → lists_of separator function names rows pairs (range_with_len start count)
      ≡ Err (AtRow (get_or rows k 0) (Call e))
  lists_refused k e first zero start le lt = absurd (omega (arith, le, lt))
  lists_refused k e first (suc count) start le lt =
      let name = get_or names start [] in
      let later = lists_of separator function names rows pairs (range_with_len (start + 1) count) in
      elim (cases_eq start k) [
        | inl same ↦
            ap (λ r. lists_then separator name (get_or rows start 0) r later)
            (ap (λ n. function (cells_of pairs n)) same ∙ first.is)
            ∙ ap (λ n. Err (AtRow (get_or rows n 0) (Call e))) same
        | inr other ↦
            let (list, made) = first.before start (omega (arith, le, other)) in
            ap (λ r. lists_then separator name (get_or rows start 0) r later) made
            ∙ ap (lists_then separator name (get_or rows start 0) (Ok list))
            (lists_refused k e first count (start + 1) (omega (arith, le, other)) (omega (arith, lt)))
      ]
