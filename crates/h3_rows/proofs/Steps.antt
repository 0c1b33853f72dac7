-- Rows that are put with their answer, and the states after them.
use Rattle.std.proofs.Common.{◌≡◌, ℕ, ◌+◌, ◌≤◌, ◌<◌, nat_lt, ◌||◌, Bool, true, false, List, [], ◌∷◌, ◌++◌, length, take, Option, None, Some, Result, Err, Ok, sym, ap, ◌∙◌, refl, subst, append-nil, arith}
use Rattle.std.proofs.lemmas.Bool.Decides.{nat_tests}
use Rattle.std.proofs.KnownBytes.{Appends-nil}
use Rattle.std.specs.Io.KnownBytes.{Appends}
use Rattle.h3_lines.specs.Answer.{Answer, before, written}
use Rattle.h3_lines.specs.RunError.{row_error_name}
use Rattle.h3_lines.specs.Write.{SinkUse, sink_use}
use Rattle.h3_lines.specs.declared.run_error.AnswerError.TheVariants.{AtRow, Column}
use Rattle.h3_lines.specs.declared.run_error.ColumnError.{ColumnError}
use Rattle.h3_lines.specs.declared.run_error.RowError.{RowError}
use Rattle.h3_lines.specs.declared.run_error.RowError.TheVariants as row_error
use Rattle.h3_lines.specs.declared.run_error.RowFault.TheVariants.{TooLong}
use Rattle.h3_lines.specs.declared.run_error.RunError.{RunError}
use Rattle.h3_lines.specs.declared.run_error.RunError.TheVariants.{Error}
use Rattle.h3_lines.specs.Answering.{Answered, Breaks, EndsBy, Moves}
use Rattle.h3_lines.specs.EachLaws.{answered_by, breaks_ends, moves_all, moves_none}
use Rattle.h3_rows.specs.Answering.{StepEnds, StepsTo, held_of, pending_of, state_of}
use Rattle.h3_lines.specs.Pieces.{Piece}
use Rattle.h3_rows.specs.Row.{next_number, read_of, row_body}
use Rattle.h3_rows.specs.RowsAnswer.{Form, State, Step, empty_step, ends, faulty, goes_on, header_step, header_with, malformed, one_more, passed, row_step, unanswered}
use Rattle.h3_rows.specs.declared.state.Columns.{Columns}
use Rattle.h3_rows.specs.declared.state.RowState.{RowState}

or_true : (x : Bool) → (x || true) ≡ true
or_true true = refl
or_true false = refl

-- the bytes in the block are held back, or they are empty rows before a header
pub both_parts : (b : Option Columns) (bytes : List ℕ) → held_of b bytes ++ pending_of b bytes ≡ bytes
both_parts None bytes = refl
both_parts (Some k) bytes = append-nil bytes

-- a row ends the answer
pub refused_ends : (step : Step) (s : RowState) (bytes : List ℕ) (e : RowError) (r : RunError) (sink : SinkUse)
    → step ≡ ends (state_of s bytes) e → EndsBy (record { output = bytes; ending = Err (AtRow s.number e) }) r sink
    → StepEnds step (held_of s.columns bytes) r sink
refused_ends step s bytes e r sink is h =
    subst (λ x. StepEnds x (held_of s.columns bytes) r sink) (sym is)
    (λ next. subst (λ l. EndsBy (record { output = l; ending = Err (AtRow s.number e) }) r sink)
    (sym (both_parts s.columns bytes)) h)

-- ---- after a header

module _ (s a : RowState) (k : Columns) (known : s.columns ≡ Some k) (line bytes : List ℕ) where
  pub passed_is : (bytes' : List ℕ) → a.number ≡ next_number s.number line → a.columns ≡ s.columns → a.kept ≡ s.kept
      → passed (state_of s bytes) line ≡ state_of a bytes'
  passed_is bytes' n b kept = rw (n, b, kept, known) refl

  pub puts : {S : Type 0} (taken : S → Option (List ℕ)) (failed : S → Bool) (step : Step) (text bytes' : List ℕ)
      (x y : S)
      → a.number ≡ next_number s.number line → a.columns ≡ s.columns → a.kept ≡ s.kept
      → step ≡ goes_on (state_of s bytes) line text
      → Moves taken failed (bytes ++ text) bytes' x y
      → StepsTo taken failed step (state_of a bytes') (held_of s.columns bytes) (held_of a.columns bytes') x y
  puts taken failed step text bytes' x y n b kept is m =
      record {
        text = text;
        is = is ∙ ap (λ w. record { answer = written text; after = w }) (passed_is bytes' n b kept);
        moves = rw (b, known) m;
      }

  pub puts_faulty : {S : Type 0} (taken : S → Option (List ℕ)) (failed : S → Bool) (form : Form) (step : Step)
      (e : RowError) (bytes' : List ℕ) (x y : S)
      → form.keeps_going ≡ true → a.number ≡ next_number s.number line → a.columns ≡ s.columns
      → a.kept ≡ Some (one_more s.number e s.kept) → step ≡ faulty form (state_of s bytes) line e
      → Moves taken failed (bytes ++ unanswered form line (row_error_name e)) bytes' x y
      → StepsTo taken failed step (state_of a bytes') (held_of s.columns bytes) (held_of a.columns bytes') x y
  puts_faulty taken failed form step e bytes' x y goes n b kept is m =
      let after : faulty form (state_of s bytes) line e
      ≡ record { answer = written (unanswered form line (row_error_name e)); after = state_of a bytes' } =
      rw (goes, n, b, kept, known) refl in
      record { text = unanswered form line (row_error_name e); is = is ∙ after; moves = rw (b, known) m }

-- bytes of a row's answer that are not all taken
pub breaks_step : (s : RowState) (k : Columns) (line text bytes : List ℕ) (step : Step) (e : RunError) (sink : SinkUse)
    → s.columns ≡ Some k → step ≡ goes_on (state_of s bytes) line text → Breaks (bytes ++ text) sink e
    → StepEnds step (held_of s.columns bytes) e sink
breaks_step s k line text bytes step e sink known is b =
    let held : held_of s.columns bytes ≡ bytes = rw known refl in
    subst (λ x. StepEnds x (held_of s.columns bytes) e sink) (sym is)
    (λ next. subst (λ l. EndsBy (before l (before text next)) e sink) (sym held) (breaks_ends bytes text next e sink b))

pub breaks_faulty : (form : Form) (s : RowState) (k : Columns) (line bytes : List ℕ) (error : RowError) (step : Step)
    (e : RunError) (sink : SinkUse)
    → form.keeps_going ≡ true → s.columns ≡ Some k → step ≡ faulty form (state_of s bytes) line error
    → Breaks (bytes ++ unanswered form line (row_error_name error)) sink e
    → StepEnds step (held_of s.columns bytes) e sink
breaks_faulty form s k line bytes error step e sink goes known is b =
    let held : held_of s.columns bytes ≡ bytes = rw known refl in
    let text = unanswered form line (row_error_name error) in
    subst (λ x. StepEnds x (held_of s.columns bytes) e sink) (sym is)
    (λ next. rw goes
    (subst (λ l. EndsBy (before l (before text next)) e sink) (sym held) (breaks_ends bytes text next e sink b)))

-- a header that is not all taken
pub breaks_header : (form : Form) (s : RowState) (line bytes : List ℕ) (columns : Result Columns ColumnError)
    (c : Columns) (e : RunError) (sink : SinkUse)
    → s.columns ≡ None → columns ≡ Ok c → Breaks (bytes ++ header_with form.separator line form.names) sink e
    → StepEnds (header_step form (state_of s bytes) line columns) (held_of s.columns bytes) e sink
breaks_header form s line bytes columns c e sink known is b next =
    rw (known, is) (breaks_ends [] (bytes ++ header_with form.separator line form.names) next e sink b)

-- a header that does not serve
pub refused_header : {S : Type 0} (form : Form) (s : RowState) (line bytes : List ℕ)
    (columns : Result Columns ColumnError) (e : ColumnError) (taken : S → Option (List ℕ)) (failed : S → Bool)
    (x : S)
    → s.columns ≡ None → columns ≡ Err e
    → StepEnds (header_step form (state_of s bytes) line columns) (held_of s.columns bytes) (Error (Column e))
    (sink_use taken failed x x)
refused_header form s line bytes columns e taken failed x known is next =
    rw (known, is) (refl, (Appends-nil (taken x), refl))

-- a header that is taken
pub puts_header : {S : Type 0} (taken : S → Option (List ℕ)) (failed : S → Bool) (form : Form) (s a : RowState)
    (line bytes bytes' : List ℕ) (columns : Result Columns ColumnError) (c : Columns) (x y : S)
    → s.columns ≡ None → columns ≡ Ok c
    → a.number ≡ next_number s.number line → a.columns ≡ Some c → a.kept ≡ s.kept
    → Moves taken failed (bytes ++ header_with form.separator line form.names) bytes' x y
    → StepsTo taken failed (header_step form (state_of s bytes) line columns) (state_of a bytes')
    (held_of s.columns bytes) (held_of a.columns bytes') x y
puts_header taken failed form s a line bytes bytes' columns c x y known is n b kept m =
    record {
      text = bytes ++ header_with form.separator line form.names;
      is = rw (known, is, n, b, kept) refl;
      moves = rw (known, b) m;
    }

-- the bytes before a header are no answers
pub held_nothing : (b : Option Columns) (n : ℕ) (bytes : List ℕ) → n ≡ 0 → held_of b (take n bytes) ≡ []
held_nothing None n bytes none = refl
held_nothing (Some k) n bytes none = rw none refl

-- ---- empty rows before a header

module _ (s a : RowState) (none : s.columns ≡ None) (line bytes bytes' : List ℕ)
    (count : a.number ≡ next_number s.number line) (b : a.columns ≡ s.columns) (kept : a.kept ≡ s.kept) where
  -- it is held back
  pub holds_empty : {S : Type 0} (taken : S → Option (List ℕ)) (failed : S → Bool) (x : S)
      → length bytes + length line + 1 ≤ 32768 → bytes' ≡ bytes ++ (line ++ 10 ∷ [])
      → StepsTo taken failed (empty_step (state_of s bytes) line s.columns) (state_of a bytes')
      (held_of s.columns bytes) (held_of a.columns bytes') x x
  holds_empty taken failed x few is =
      let fits : nat_lt 32768 (length bytes + length line + 1) ≡ false = grind (arith, nat_tests) in
      record {
        text = [];
        is = rw (none, fits, count, b, none, kept, is) refl;
        moves = rw (none, b, none) (moves_none taken failed [] x);
      }

  -- all are written
  pub writes_empty : {S : Type 0} (taken : S → Option (List ℕ)) (failed : S → Bool) (x y : S)
      → 32768 < length bytes + length line + 1 → bytes' ≡ [] → Moves taken failed (bytes ++ (line ++ 10 ∷ [])) [] x y
      → StepsTo taken failed (empty_step (state_of s bytes) line s.columns) (state_of a bytes')
      (held_of s.columns bytes) (held_of a.columns bytes') x y
  writes_empty taken failed x y many is m =
      let full : nat_lt 32768 (length bytes + length line + 1) ≡ true = grind (arith, nat_tests) in
      record {
        text = bytes ++ (line ++ 10 ∷ []);
        is = rw (none, full, count, b, none, kept, is) refl;
        moves = rw (none, b, none) m;
      }

pub breaks_empty : (s : RowState) (line bytes : List ℕ) (e : RunError) (sink : SinkUse) → s.columns ≡ None
    → 32768 < length bytes + length line + 1 → Breaks (bytes ++ (line ++ 10 ∷ [])) sink e
    → StepEnds (empty_step (state_of s bytes) line s.columns) (held_of s.columns bytes) e sink
breaks_empty s line bytes e sink none many b next =
    let full : nat_lt 32768 (length bytes + length line + 1) ≡ true = grind (arith, nat_tests) in
    rw (none, full) (breaks_ends [] (bytes ++ (line ++ 10 ∷ [])) next e sink b)

-- ---- rows that are too long

pub long_is_malformed : (form : Form) (n : ℕ) (p : Piece) → 1114111 < length p.0 → malformed form n p ≡ Some TooLong
long_is_malformed form n p long =
    let more : nat_lt 1114111 (length p.0) ≡ true = grind (arith, nat_tests) in
    rw (more, or_true (nat_lt 1048575 (length (read_of n (row_body p.0))))) refl

pub long_ends : (form : Form) (answer : Option ℕ → Answer) (s : State) (p : Piece) → 1114111 < length p.0
    → row_step form answer s p ≡ ends s (row_error.Bad TooLong)
long_ends form answer s p long = rw (long_is_malformed form s.number p long) refl

-- what is held back after a header is written
pub settled_moves : {S : Type 0} (taken : S → Option (List ℕ)) (failed : S → Bool)
    (answer : (State → Answer) → State → List Piece → Answer) (s : RowState) (k : Columns)
    → s.columns ≡ Some k → (bytes : List ℕ) (x y : S)
    → Appends (taken x) (taken y) bytes → failed y ≡ failed x
    → Answered taken failed answer (state_of s bytes) (state_of s []) (held_of s.columns bytes) (held_of s.columns
    []) x y []
settled_moves taken failed answer s k known bytes x y grown sound =
    answered_by taken failed answer (state_of s bytes) (state_of s []) (held_of s.columns bytes) (held_of s.columns
    []) x y (rw known refl) (rw known (moves_all taken failed bytes x y grown sound))
