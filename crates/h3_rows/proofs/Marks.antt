-- The byte order mark before the first row of a list.
use Rattle.std.proofs.Common.{◌≡◌, ℕ, zero, suc, ◌+◌, ◌==◌, nat_le, Bool, true, false, ◌&&◌, List, [], ◌∷◌, ◌++◌, length, take, drop, replicate, if◌then◌else◌, Option, Some, Err, sym, ap, ◌∙◌, refl, subst, append_assoc, eqb-true, arith}
use Rattle.std.proofs.lemmas.List.{take-append-drop, take-take}
use Rattle.std.specs.List.{count_by}
use Rattle.h3_lines.specs.Answer.{Answer, before, written}
use Rattle.h3_lines.specs.Answering.{Breaks, EndsBy, Moves}
use Rattle.h3_lines.specs.EachLaws.{before_before, breaks_ends, ends_after, moves_then}
use Rattle.h3_lines.specs.EachLine.{then_answer}
use Rattle.h3_lines.specs.RunError.{row_error_name}
use Rattle.h3_lines.specs.Write.{SinkUse, sink_use}
use Rattle.h3_lines.specs.declared.run_error.AnswerError.TheVariants.{AtRow}
use Rattle.h3_lines.specs.declared.run_error.RowError.{RowError}
use Rattle.h3_lines.specs.declared.run_error.RunError.{RunError}
use Rattle.h3_rows.specs.Answering.{StepEnds, StepsTo, held_of, mark_in, state_of}
use Rattle.h3_rows.specs.Laws.{MarksAreKept}
use Rattle.h3_rows.specs.Line.{line_of}
use Rattle.h3_rows.specs.Row.{are_returns, has_order_mark, mark_of, next_number, read_of, returns_of, row_body, unmarked}
use Rattle.h3_rows.specs.RowsAnswer.{Form, State, Step, ends, faulty, goes_on, marked, one_more, unanswered}
use Rattle.h3_rows.specs.declared.row.Row.{Row}
use Rattle.h3_rows.specs.declared.state.Columns.{Columns}
use Rattle.h3_rows.specs.declared.state.RowState.{RowState}
use Rattle.h3_rows.proofs.Returns.{body_of_row, body_then_returns, returns_of_row}
use Rattle.h3_rows.proofs.Steps.{refused_ends}

-- ---- a row without its mark

-- what is left of a row that ends in no carriage return ends in none
bare_less : (b : ℕ) (bs : List ℕ) (t : Bool) → are_returns (b ∷ bs) ≡ t → row_body (b ∷ bs) ≡ b ∷ bs → row_body bs ≡ bs
bare_less b bs true is h = absurd (let none : (let l : List ℕ = [] in l) ≡ b ∷ bs = rw is at h in cc)
bare_less b bs false is h = ap (drop 1) (let rest : b ∷ row_body bs ≡ b ∷ bs = rw is at h in rest)

bare_drop : (n : ℕ) (l : List ℕ) → row_body l ≡ l → row_body (drop n l) ≡ drop n l
bare_drop zero l h = h
bare_drop (suc n) [] h = refl
bare_drop (suc n) (b ∷ bs) h = bare_drop n bs (bare_less b bs (are_returns (b ∷ bs)) refl h)

pub bare_read : (n : ℕ) (row : List ℕ) → row_body row ≡ row → row_body (read_of n row) ≡ read_of n row
bare_read n row h =
    elim (n == 1) as
    (λ t.
    row_body (if t then (if has_order_mark row then drop 3 row else row) else row)
    ≡ (if t then (if has_order_mark row then drop 3 row else row) else row)) [
      | true ↦
          elim (has_order_mark row) as (λ u. row_body (if u then drop 3 row else row) ≡ (if u then drop 3 row else row))
          [ true ↦ bare_drop 3 row h | false ↦ h ]
      | false ↦ h
    ]

-- a line without its mark, by its parts
pub unmarked_row : (n : ℕ) (r : Row) → unmarked n (line_of r) ≡ read_of n r.body.now ++ replicate r.returns 13
unmarked_row n r = rw (body_of_row r.body.now r.returns r.bare, returns_of_row r.body.now r.returns r.bare) refl

-- a later row has none
pub later_unmarked : (n : ℕ) (line : List ℕ) → (n == 1) ≡ false → unmarked n line ≡ line
later_unmarked n line later = rw later (body_then_returns line)

pub later_mark : (n : ℕ) (row : List ℕ) → (n == 1) ≡ false → mark_of n row ≡ []
later_mark n row later = rw later refl

-- the mark and what is read are the row
mark_then_read : (n : ℕ) (row : List ℕ) → mark_of n row ++ read_of n row ≡ row
mark_then_read n row =
    elim (n == 1) as
    (λ t.
    (if t && has_order_mark row then take 3 row else [])
    ++ (if t then (if has_order_mark row then drop 3 row else row) else row)
    ≡ row) [
      | true ↦
          elim (has_order_mark row) as (λ u. (if u then take 3 row else []) ++ (if u then drop 3 row else row) ≡ row) [
            | true ↦ take-append-drop 3 row
            | false ↦ refl
          ]
      | false ↦ refl
    ]

pub marks_are_kept : MarksAreKept
marks_are_kept n line =
    sym (append_assoc (mark_of n (row_body line)) (read_of n (row_body line)) (returns_of line))
    ∙ ap (λ l. l ++ returns_of line) (mark_then_read n (row_body line)) ∙ body_then_returns line

-- ---- a mark has no line feed

abbrev feeds : List ℕ → ℕ
feeds bytes = count_by (λ b. b == 10) bytes

all_three : (l a b c : Bool) → (l && a && b && c) ≡ true → (a ≡ true) × (b ≡ true) × (c ≡ true)
all_three true true true true h = (refl, refl, refl)
all_three true true true false h = absurd (cc)
all_three true true false c h = absurd (cc)
all_three true false b c h = absurd (cc)
all_three false a b c h = absurd (cc)

no_feed : (b : ℕ) (bytes : List ℕ) → (b == 10) ≡ false → feeds (b ∷ bytes) ≡ feeds bytes
no_feed b bytes other = rw other refl

mark_feeds : (a b c : ℕ) (bs more : List ℕ) (t : Bool) → has_order_mark (a ∷ b ∷ c ∷ bs) ≡ t
    → feeds ((if t then bs else a ∷ b ∷ c ∷ bs) ++ more) ≡ feeds (a ∷ b ∷ c ∷ (bs ++ more))
mark_feeds a b c bs more true is =
    let (x, y, z) = all_three (nat_le 3 (length (a ∷ b ∷ c ∷ bs))) (a == 239) (b == 187) (c == 191) is in
    let first : (a == 10) ≡ false = ap (λ n. n == 10) (eqb-true a 239 x) in
    let second : (b == 10) ≡ false = ap (λ n. n == 10) (eqb-true b 187 y) in
    let third : (c == 10) ≡ false = ap (λ n. n == 10) (eqb-true c 191 z) in
    sym (no_feed a (b ∷ c ∷ (bs ++ more)) first ∙ no_feed b (c ∷ (bs ++ more)) second ∙ no_feed c (bs ++ more) third)
mark_feeds a b c bs more false is = refl

marked_feeds : (row more : List ℕ)
    → feeds ((if has_order_mark row then drop 3 row else row) ++ more) ≡ feeds (row ++ more)
marked_feeds [] more = refl
marked_feeds (a ∷ []) more = refl
marked_feeds (a ∷ b ∷ []) more = refl
marked_feeds (a ∷ b ∷ c ∷ bs) more = mark_feeds a b c bs more _ refl

read_feeds : (n : ℕ) (row more : List ℕ) → feeds (read_of n row ++ more) ≡ feeds (row ++ more)
read_feeds n row more =
    elim (n == 1) as
    (λ t. feeds ((if t then (if has_order_mark row then drop 3 row else row) else row) ++ more) ≡ feeds (row ++ more))
    [ true ↦ marked_feeds row more | false ↦ refl ]

pub next_unmarked : (n : ℕ) (line : List ℕ) → next_number n (unmarked n line) ≡ next_number n line
next_unmarked n line =
    ap (λ k. n + 1 + k) (read_feeds n (row_body line) (returns_of line) ∙ ap feeds (body_then_returns line))

-- ---- a row that is put after its mark

pub held_mark : (end size : ℕ) (block : List ℕ) → take (end + size) block ≡ take end block ++ mark_in end size block
held_mark end size block =
    sym (take-append-drop end (take (end + size) block))
    ∙ ap (λ l. l ++ mark_in end size block) (take-take end (end + size) block (omega arith))

pub marked_goes : (mark line text : List ℕ) (s : State) (step : Step) → step ≡ goes_on s line text
    → marked mark step ≡ goes_on s line (mark ++ text)
marked_goes mark line text s step is = ap (marked mark) is

pub marked_ends : (mark : List ℕ) (s : State) (e : RowError) (step : Step) → step ≡ ends s e
    → marked mark step ≡ ends s e
marked_ends mark s e step is = ap (marked mark) is

pub marked_moves : {S : Type 0} (taken : S → Option (List ℕ)) (failed : S → Bool) (end size : ℕ)
    (block text held' : List ℕ) (x y : S)
    → Moves taken failed (take (end + size) block ++ text) held' x y
    → Moves taken failed (take end block ++ (mark_in end size block ++ text)) held' x y
marked_moves taken failed end size block text held' x y m =
    subst (λ l. Moves taken failed l held' x y)
    (ap (λ l. l ++ text) (held_mark end size block) ∙ append_assoc (take end block) (mark_in end size block) text) m

pub marked_breaks : (end size : ℕ) (block text : List ℕ) (sink : SinkUse) (e : RunError)
    → Breaks (take (end + size) block ++ text) sink e
    → Breaks (take end block ++ (mark_in end size block ++ text)) sink e
marked_breaks end size block text sink e b =
    subst (λ l. Breaks l sink e)
    (ap (λ l. l ++ text) (held_mark end size block) ∙ append_assoc (take end block) (mark_in end size block) text) b

-- a row with an error, over which the run goes on
pub marked_faulty : (mark : List ℕ) (form : Form) (s : State) (line : List ℕ) (e : RowError) (step : Step)
    → form.keeps_going ≡ true → step ≡ faulty form s line e
    → marked mark step
    ≡ record
    { answer = written (mark ++ unanswered form line (row_error_name e)); after = (faulty form s line e).after }
marked_faulty mark form s line e step goes is = ap (marked mark) is ∙ rw goes refl

pub puts_marked : {S : Type 0} (taken : S → Option (List ℕ)) (failed : S → Bool) (mark : List ℕ) (form : Form)
    (s a : RowState) (k : Columns) (line bytes bytes' : List ℕ) (e : RowError) (step : Step) (x y : S)
    → s.columns ≡ Some k → form.keeps_going ≡ true → a.number ≡ next_number s.number line → a.columns ≡ s.columns
    → a.kept ≡ Some (one_more s.number e s.kept) → step ≡ faulty form (state_of s bytes) line e
    → Moves taken failed (bytes ++ (mark ++ unanswered form line (row_error_name e))) bytes' x y
    → StepsTo taken failed (marked mark step) (state_of a bytes') (held_of s.columns bytes)
    (held_of a.columns bytes') x y
puts_marked taken failed mark form s a k line bytes bytes' e step x y known goes n b kept is m =
    let after : marked mark (faulty form (state_of s bytes) line e)
    ≡ record { answer = written (mark ++ unanswered form line (row_error_name e)); after = state_of a bytes' } =
    rw (goes, n, b, kept, known) refl in
    record {
      text = mark ++ unanswered form line (row_error_name e);
      is = ap (marked mark) is ∙ after;
      moves = rw (b, known) m;
    }

pub breaks_marked : (mark : List ℕ) (form : Form) (s : RowState) (k : Columns) (line bytes : List ℕ) (error : RowError)
    (step : Step) (e : RunError) (sink : SinkUse)
    → form.keeps_going ≡ true → s.columns ≡ Some k
    → step ≡ faulty form (state_of s bytes) line error
    → Breaks (bytes ++ (mark ++ unanswered form line (row_error_name error))) sink e
    → StepEnds (marked mark step) (held_of s.columns bytes) e sink
breaks_marked mark form s k line bytes error step e sink goes known is b =
    let held : held_of s.columns bytes ≡ bytes = rw known refl in
    let text = mark ++ unanswered form line (row_error_name error) in
    subst (λ x. StepEnds x (held_of s.columns bytes) e sink) (sym (ap (marked mark) is))
    (λ next. rw goes
    (subst (λ l. EndsBy (before l (before text next)) e sink) (sym held) (breaks_ends bytes text next e sink b)))

-- and a row that ends the answer
pub refused_marked : (mark : List ℕ) (form : Form) (step : Step) (s : RowState) (line bytes : List ℕ) (e : RowError)
    (r : RunError) (sink : SinkUse)
    → form.keeps_going ≡ false → step ≡ faulty form (state_of s bytes) line e
    → EndsBy (record { output = bytes; ending = Err (AtRow s.number e) }) r sink
    → StepEnds (marked mark step) (held_of s.columns bytes) r sink
refused_marked mark form step s line bytes e r sink stops is h =
    refused_ends (marked mark step) s bytes e r sink (ap (marked mark) is ∙ rw stops refl) h

-- ---- what is held back is written before the mark

ends_moved : {S : Type 0} (taken : S → Option (List ℕ)) (failed : S → Bool) (held held' : List ℕ) (a : Answer)
    (e : RunError) (s t u : S)
    → Moves taken failed held held' s t
    → EndsBy (before held' a) e (sink_use taken failed t u) → EndsBy (before held a) e (sink_use taken failed s u)
ends_moved taken failed held held' a e s t u m h =
    subst (λ x. EndsBy x e (sink_use taken failed s u))
    (before_before m.part held' a ∙ ap (λ l. before l a) (sym m.split))
    (ends_after taken failed s t u (before held' a) m.part e m.grown m.sound h)

module _ {S : Type 0} (taken : S → Option (List ℕ)) (failed : S → Bool) (k : Columns) (state : RowState)
    (known : state.columns ≡ Some k) (held held' : List ℕ) (s t : S) (m : Moves taken failed held held' s t) where
  pub steps_moved : (step : State → Step) (after : State) (columns : Option Columns) (bytes : List ℕ) (u : S)
      → StepsTo taken failed (step (state_of state held')) after (held_of state.columns held')
      (held_of columns bytes) t u
      → StepsTo taken failed (step (state_of state held)) after (held_of state.columns held) (held_of columns bytes) s u
  steps_moved step after columns bytes u h =
      let same : state_of state held' ≡ state_of state held = rw known refl in
      let moves : Moves taken failed (held' ++ h.text) (held_of columns bytes) t u =
      subst (λ c. Moves taken failed (held_of c held' ++ h.text) (held_of columns bytes) t u) known h.moves in
      record {
        text = h.text;
        is = ap step (sym same) ∙ h.is;
        moves =
            subst (λ c. Moves taken failed (held_of c held ++ h.text) (held_of columns bytes) s u) (sym known)
            (moves_then taken failed held held' h.text (held_of columns bytes) s t u m moves);
      }

  pub ends_moved_step : (step : State → Step) (e : RunError) (u : S)
      → StepEnds (step (state_of state held')) (held_of state.columns held') e (sink_use taken failed t u)
      → StepEnds (step (state_of state held)) (held_of state.columns held) e (sink_use taken failed s u)
  ends_moved_step step e u h next =
      let same : state_of state held' ≡ state_of state held = rw known refl in
      let own : EndsBy
      (before held'
      (then_answer (step (state_of state held)).answer.output (step (state_of state held)).answer.ending next))
      e (sink_use taken failed t u) =
      subst (λ c. EndsBy (before (held_of c held') (then_answer (step (state_of state held)).answer.output
      (step (state_of state held)).answer.ending next)) e (sink_use taken failed t u)) known
      (subst
      (λ x.
      EndsBy
      (before (held_of state.columns held')
      (then_answer (step x).answer.output (step x).answer.ending next))
      e (sink_use taken failed t u))
      same (h next)) in
      subst (λ c. EndsBy (before (held_of c held) (then_answer (step (state_of state held)).answer.output
      (step (state_of state held)).answer.ending next)) e (sink_use taken failed s u)) (sym known)
      (ends_moved taken failed held held' _ e s t u m own)
