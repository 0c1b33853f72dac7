-- Each row stands in the output.
use Rattle.std.proofs.Common.{◌≡◌, ℕ, ◌==◌, ◌⊎◌, Bool, true, false, not, ◌&&◌, List, [], ◌∷◌, ◌++◌, length, Option, None, Some, Result, Ok, Err, if◌then◌else◌, sym, ap, ◌∙◌, refl, subst, inl, inr, append_assoc, eqb-true}
use Rattle.std.proofs.Common.{arith}
use Rattle.std.proofs.lemmas.Bool.Decides.{nat_tests}
use Rattle.std.proofs.lemmas.List.{append_cancel_right}
use Rattle.std.specs.List.{flat_map}
use Rattle.h3_lines.specs.Answer.{Answer, written}
use Rattle.h3_lines.specs.EachLine.{then_answer}
use Rattle.h3_lines.specs.declared.run_error.AnswerError.{AnswerError}
use Rattle.h3_lines.specs.declared.run_error.AnswerError.TheVariants as ending_by
use Rattle.h3_lines.specs.declared.run_error.ColumnError.{ColumnError}
use Rattle.h3_lines.specs.declared.run_error.RowError.{RowError}
use Rattle.h3_lines.specs.declared.run_error.RowError.TheVariants as row_error
use Rattle.h3_lines.specs.declared.run_error.RowFault.{RowFault}
use Rattle.h3_lines.specs.RunError.{row_error_name}
use Rattle.h3_rows.specs.Laws.{HeaderStands, IsWholeOrRefused, RowsGiveBack, RowsStand, RowsStandUntil, answered_so, numbered, own_lines, with_own}
use Rattle.h3_lines.specs.Pieces.{Piece, cut, pieces_of, rows_of, turned, with_first, without_last_nothing}
use Rattle.h3_rows.specs.Row.{is_empty_row, lacking_last, mark_of, next_number, read_of, row_body, unmarked}
use Rattle.h3_rows.specs.RowsAnswer.{Form, State, Step, answer_to_cell, begun_with, beside, columns_in, ends, faulty, free_columns, goes_on, header_step, header_with, malformed, marked, row_cell, row_step, rows_then, unanswered}
use Rattle.h3_rows.specs.declared.state.Columns.{Columns}
use Rattle.h3_rows.specs.declared.row_cell.RowCell.{RowCell}
use Rattle.h3_rows.specs.declared.row_cell.RowCell.TheVariants.{Index, Missing}
use Rattle.h3_lines.specs.PiecesLaws.{first_piece}
use Rattle.h3_rows.proofs.Marks.{next_unmarked}

-- a step that ends nothing: its text, the number after it, and that the fields before the cell's and the rows that are
-- held back are the same
record StepStands (step : Step) (s : State) (line text : List ℕ) : Type 0 where
  pub ending : step.answer.ending ≡ Ok tt
  pub output : step.answer.output ≡ text
  pub number : step.after.number ≡ next_number s.number line
  pub columns : step.after.columns ≡ s.columns
  pub pending : step.after.pending ≡ s.pending

ended : {A : Type 0} (e : AnswerError) → (let r : Result (Unit {0}) AnswerError = Err e in r) ≡ Ok tt → A
ended e is = absurd (cc)

faulty_stands : (form : Form) (s : State) (line : List ℕ) (e : RowError) (b : Bool) → form.keeps_going ≡ b
    → (faulty form s line e).answer.ending ≡ Ok tt
    → StepStands (faulty form s line e) s line (unanswered form line (row_error_name e))
faulty_stands form s line e true goes good =
    rw goes (record { ending = refl; output = refl; number = refl; columns = refl; pending = refl })
faulty_stands form s line e false goes good =
    absurd (let stops : (ends s e).answer.ending ≡ Ok tt = rw goes at good in cc)

beside_stands : (form : Form) (s : State) (line output : List ℕ) (r : Result (Unit {0}) AnswerError)
    → (beside form s line output r).answer.ending ≡ Ok tt
    → StepStands (beside form s line output r) s line (answered_so form line output r)
beside_stands form s line output (Ok u) good =
    record { ending = refl; output = refl; number = refl; columns = refl; pending = refl }
beside_stands form s line output (Err (ending_by.Call e)) good =
    faulty_stands form s line (row_error.Call e) form.keeps_going refl good
beside_stands form s line output (Err (ending_by.At n e)) good = absurd (cc)
beside_stands form s line output (Err (ending_by.AtRow n e)) good = absurd (cc)
beside_stands form s line output (Err (ending_by.AtRowAndMore n e more)) good = absurd (cc)
beside_stands form s line output (Err (ending_by.Column e)) good = absurd (cc)
beside_stands form s line output (Err (ending_by.Table e)) good = absurd (cc)
beside_stands form s line output (Err (ending_by.FileAt f n e)) good = absurd (cc)
beside_stands form s line output (Err (ending_by.FileAtRow f n e)) good = absurd (cc)
beside_stands form s line output (Err (ending_by.FileColumn f e)) good = absurd (cc)
beside_stands form s line output (Err (ending_by.File f e)) good = absurd (cc)

said_stands : (form : Form) (answer : Option ℕ → Answer) (s : State) (line : List ℕ) (said : Result RowCell RowFault)
    → (answer_to_cell form answer s line said).answer.ending ≡ Ok tt
    → StepStands (answer_to_cell form answer s line said) s line (with_own form answer line said)
said_stands form answer s line (Err fault) good =
    faulty_stands form s line (row_error.Bad fault) form.keeps_going refl good
said_stands form answer s line (Ok Missing) good =
    record { ending = refl; output = refl; number = refl; columns = refl; pending = refl }
said_stands form answer s line (Ok (Index index)) good =
    beside_stands form s line (answer (Some index)).output (answer (Some index)).ending good

-- the same after a mark
marked_stands : (mark : List ℕ) (step : Step) (s : State) (line whole text : List ℕ)
    → next_number s.number line ≡ next_number s.number whole → StepStands step s line text
    → StepStands (marked mark step) s whole (mark ++ text)
marked_stands mark step s line whole text feeds h = record {
  ending = h.ending;
  output =
      let written : begun_with mark step.answer.ending step.answer.output ≡ mark ++ step.answer.output =
      rw h.ending refl in
      written ∙ ap (λ l. mark ++ l) h.output;
  number = h.number ∙ feeds;
  columns = h.columns;
  pending = h.pending;
}

-- a row after a header
row_stands : (form : Form) (answer : Option ℕ → Answer) (k : Columns) (s : State) (p : Piece) (m : Option RowFault)
    (e : Bool)
    → s.columns ≡ Some k → malformed form s.number p ≡ m → (is_empty_row s.number (row_body p.0)) ≡ e
    → (row_step form answer s p).answer.ending ≡ Ok tt
    → StepStands (row_step form answer s p) s p.0 (own_lines form answer k (s.number, p))
row_stands form answer k s p (Some fault) e known bad empty good =
    absurd (let stops : (ends s (row_error.Bad fault)).answer.ending ≡ Ok tt = rw bad at good in cc)
row_stands form answer k s p None true known sound empty good =
    let is : row_step form answer s p ≡ goes_on s p.0 (p.0 ++ 10 ∷ []) = rw (sound, empty, known) refl in
    let text : own_lines form answer k (s.number, p) ≡ p.0 ++ 10 ∷ [] = rw empty refl in
    subst (λ x. StepStands x s p.0 (own_lines form answer k (s.number, p))) (sym is) (subst
    (λ l. StepStands (goes_on s p.0 (p.0 ++ 10 ∷ [])) s p.0 l) (sym text)
    (record { ending = refl; output = refl; number = refl; columns = refl; pending = refl }))
row_stands form answer k s p None false known sound empty good =
    let said = row_cell form s.number k (row_body p.0) in
    let mark = mark_of s.number (row_body p.0) in
    let line = unmarked s.number p.0 in
    let step = answer_to_cell form answer s line said in
    let is : row_step form answer s p ≡ marked mark step = rw (sound, empty, known) refl in
    let text : own_lines form answer k (s.number, p) ≡ mark ++ with_own form answer line said = rw empty refl in
    let stands = marked_stands mark step s line p.0 (with_own form answer line said) (next_unmarked s.number p.0)
    (said_stands form answer s line said (subst (λ x. x.answer.ending ≡ Ok tt) is good)) in
    subst (λ x. StepStands x s p.0 (own_lines form answer k (s.number, p))) (sym is)
    (subst (λ l. StepStands (marked mark step) s p.0 l) (sym text) stands)

-- the error of the first answer is that of both
first_good : (output : List ℕ) (r : Result (Unit {0}) AnswerError) (next : Answer)
    → (then_answer output r next).ending ≡ Ok tt → (r ≡ Ok tt) × (next.ending ≡ Ok tt)
first_good output (Ok tt) next good = (refl, good)
first_good output (Err e) next good = absurd (cc)

pub rows_stand : RowsStand
rows_stand form answer k s [] known good = refl
rows_stand form answer k s (p ∷ ps) known good =
    let step = row_step form answer s p in
    let later = rows_then (λ t. written []) form answer step.after ps in
    let (first, more) = first_good step.answer.output step.answer.ending later good in
    let stands =
    row_stands form answer k s p (malformed form s.number p)
    (is_empty_row s.number (row_body p.0)) known refl refl first in
    let rest = rows_stand form answer k step.after ps (stands.columns ∙ known) more in
    let joined : (then_answer step.answer.output step.answer.ending later).output ≡ step.answer.output ++ later.output =
    rw first refl in
    joined ∙ ap (λ l. l ++ later.output) stands.output
    ∙ ap (λ l. own_lines form answer k (s.number, p) ++ l)
    (rest ∙ ap (λ n. flat_map (own_lines form answer k) (numbered n ps)) stands.number)

-- ---- up to the row that ends the answer

faulty_silent : (form : Form) (s : State) (line : List ℕ) (e : RowError) (b : Bool) (by : AnswerError)
    → form.keeps_going ≡ b → s.pending ≡ [] → (faulty form s line e).answer.ending ≡ Err by
    → (faulty form s line e).answer.output ≡ []
faulty_silent form s line e true by goes none bad =
    absurd (let stops : (let r : Result (Unit {0}) AnswerError = Ok tt in r) ≡ Err by = rw goes at bad in cc)
faulty_silent form s line e false by goes none bad = rw goes none

beside_silent : (form : Form) (s : State) (line : List ℕ) (a : Answer) (by : AnswerError) → IsWholeOrRefused a
    → s.pending ≡ [] → (beside form s line a.output a.ending).answer.ending ≡ Err by
    → (beside form s line a.output a.ending).answer.output ≡ []
beside_silent form s line a by (inl whole) none bad =
    absurd (let stops : (let r : Result (Unit {0}) AnswerError = Ok tt in r) ≡ Err by = rw whole at bad in cc)
beside_silent form s line a by (inr (e, is)) none bad =
    let silent : (faulty form s line (row_error.Call e)).answer.ending ≡ Err by
    → (faulty form s line (row_error.Call e)).answer.output ≡ [] =
    faulty_silent form s line (row_error.Call e) form.keeps_going by refl none in
    rw is (silent (rw is at bad))

said_silent : (form : Form) (answer : Option ℕ → Answer) (s : State) (line : List ℕ) (said : Result RowCell RowFault)
    (by : AnswerError)
    → ((index : Option ℕ) → IsWholeOrRefused (answer index)) → s.pending ≡ []
    → (answer_to_cell form answer s line said).answer.ending ≡ Err by
    → (answer_to_cell form answer s line said).answer.output ≡ []
said_silent form answer s line (Err fault) by refuses none bad =
    faulty_silent form s line (row_error.Bad fault) form.keeps_going by refl none bad
said_silent form answer s line (Ok Missing) by refuses none bad = absurd (cc)
said_silent form answer s line (Ok (Index index)) by refuses none bad =
    beside_silent form s line (answer (Some index)) by (refuses (Some index)) none bad

row_silent : (form : Form) (answer : Option ℕ → Answer) (k : Columns) (s : State) (p : Piece) (m : Option RowFault)
    (e : Bool) (by : AnswerError)
    → ((index : Option ℕ) → IsWholeOrRefused (answer index)) → s.columns ≡ Some k → s.pending ≡ []
    → malformed form s.number p ≡ m → (is_empty_row s.number (row_body p.0)) ≡ e
    → (row_step form answer s p).answer.ending ≡ Err by → (row_step form answer s p).answer.output ≡ []
row_silent form answer k s p (Some fault) e by refuses known none fails empty bad = rw fails none
row_silent form answer k s p None true by refuses known none sound empty bad = absurd
    (let stops : (let r : Result (Unit {0}) AnswerError = Ok tt in r) ≡ Err by = rw (sound, empty, known) at bad in cc)
row_silent form answer k s p None false by refuses known none sound empty bad =
    let said = row_cell form s.number k (row_body p.0) in
    let line = unmarked s.number p.0 in
    let step = answer_to_cell form answer s line said in
    let is : row_step form answer s p ≡ marked (mark_of s.number (row_body p.0)) step = rw (sound, empty, known) refl in
    let fails : step.answer.ending ≡ Err by = subst (λ x. x.answer.ending ≡ Err by) is bad in
    subst (λ x. x.answer.output ≡ []) (sym is) (rw fails (said_silent form answer s line said by refuses none fails))

pub rows_stand_until : RowsStandUntil
rows_stand_until form answer k s [] refuses known none = ([], [], refl, refl, λ good. refl)
rows_stand_until form answer k s (p ∷ ps) refuses known none =
    let step = row_step form answer s p in
    let later = rows_then (λ t. written []) form answer step.after ps in
    let go : (r : Result (Unit {0}) AnswerError) → step.answer.ending ≡ r
    → (done : List Piece) × (more : List Piece) × (p ∷ ps ≡ done ++ more)
    × ((then_answer step.answer.output step.answer.ending later).output
    ≡ flat_map (own_lines form answer k) (numbered s.number done))
    × ((then_answer step.answer.output step.answer.ending later).ending ≡ Ok tt → more ≡ []) =
    λ r. elim r as (λ r. step.answer.ending ≡ r
    → (done : List Piece) × (more : List Piece) × (p ∷ ps ≡ done ++ more)
    × ((then_answer step.answer.output step.answer.ending later).output
    ≡ flat_map (own_lines form answer k) (numbered s.number done))
    × ((then_answer step.answer.output step.answer.ending later).ending ≡ Ok tt → more ≡ [])) [
      | Ok tt ↦ λ good. (
          let stands =
          row_stands form answer k s p (malformed form s.number p)
          (is_empty_row s.number (row_body p.0)) known refl refl good in
          let (done, more, split, output, whole) =
          rows_stand_until form answer k step.after ps refuses (stands.columns ∙ known) (stands.pending ∙ none) in
          let joined : (then_answer step.answer.output step.answer.ending later).output
          ≡ step.answer.output ++ later.output =
          rw good refl in
          let ending : (then_answer step.answer.output step.answer.ending later).ending ≡ later.ending =
          rw good refl in (
            p ∷ done,
            more,
            ap (λ l. p ∷ l) split,
            joined ∙ ap (λ l. l ++ later.output) stands.output
                ∙ ap (λ l. own_lines form answer k (s.number, p) ++ l)
                (output ∙ ap (λ n. flat_map (own_lines form answer k) (numbered n done)) stands.number),
            λ all. whole (sym ending ∙ all),
          ))
      | Err e ↦ λ bad. (
          let silent =
          row_silent form answer k s p (malformed form s.number p)
          (is_empty_row s.number (row_body p.0)) e refuses known none refl refl bad in (
            [],
            p ∷ ps,
            refl,
            rw bad silent,
            λ all.
                absurd
                (let stops : (let r : Result (Unit {0}) AnswerError = Err e in r) ≡ Ok tt = rw bad at all in cc),
          ))
    ] in
    go step.answer.ending refl

-- ---- the header

named_stands : (form : Form) (s : State) (line : List ℕ) (columns : Result Columns ColumnError)
    → (header_step form s line columns).answer.ending ≡ Ok tt
    → ((header_step form s line columns).answer.output ≡ s.pending ++ header_with form.separator line form.names)
    × ((header_step form s line columns).after.pending ≡ [])
    × ((c : Columns) × ((header_step form s line columns).after.columns ≡ Some c))
named_stands form s line (Err e) good = absurd (cc)
named_stands form s line (Ok c) good = (refl, refl, (c, refl))

header_by : (form : Form) (answer : Option ℕ → Answer) (s : State) (p : Piece) (m : Option RowFault)
    → malformed form s.number p ≡ m → s.columns ≡ None → (is_empty_row s.number (row_body p.0)) ≡ false
    → (row_step form answer s p).answer.ending ≡ Ok tt
    → ((row_step form answer s p).answer.output ≡ s.pending ++ header_with form.separator p.0 form.names)
    × ((row_step form answer s p).after.pending ≡ [])
    × ((c : Columns) × ((row_step form answer s p).after.columns ≡ Some c))
header_by form answer s p (Some fault) bad none filled good =
    absurd (let stops : (ends s (row_error.Bad fault)).answer.ending ≡ Ok tt = rw bad at good in cc)
header_by form answer s p None sound none filled good =
    let read = read_of s.number (row_body p.0) in
    let columns = free_columns form read (columns_in form read) in
    let is : row_step form answer s p ≡ header_step form s p.0 columns = rw (sound, filled, none) refl in
    subst (λ x. (x.answer.output ≡ s.pending ++ header_with form.separator p.0 form.names) × (x.after.pending ≡ []) ×
    ((c : Columns) × (x.after.columns ≡ Some c))) (sym is) (named_stands form s p.0 columns
    (subst (λ x. x.answer.ending ≡ Ok tt) is good))

pub header_stands : HeaderStands
header_stands form answer s p none filled good =
    header_by form answer s p (malformed form s.number p) refl none filled good

-- ---- the rows are the list

both_hold : (x y : Bool) → (x && y) ≡ true → x ≡ true
both_hold true y h = refl
both_hold false y h = absurd (cc)

first_fed : (b : ℕ) (ps more : List Piece) (p : Piece) → ps ≡ p ∷ more
    → flat_map (λ r. r.0 ++ 10 ∷ []) (with_first b ps) ≡ b ∷ flat_map (λ r. r.0 ++ 10 ∷ []) ps
first_fed b ps more p is = rw is refl

pieces_give : (quotes inside : Bool) (bytes : List ℕ)
    → flat_map (λ r. r.0 ++ 10 ∷ []) (cut 10 quotes inside bytes) ≡ bytes ++ 10 ∷ []
pieces_give quotes inside [] = refl
pieces_give quotes inside (b ∷ bs) =
    let (p, more, first) = first_piece 10 quotes (turned quotes inside b) bs in
    let go : (t : Bool) → ((b == 10) && not inside) ≡ t
    → flat_map (λ r. r.0 ++ 10 ∷ []) (if t then (
      [],
      false,
    ) ∷ cut 10 quotes false bs else with_first b (cut 10 quotes (turned quotes inside b) bs))
    ≡ b ∷ (bs ++ 10 ∷ []) =
    λ t. elim t as (λ t. ((b == 10) && not inside) ≡ t
    → flat_map (λ r. r.0 ++ 10 ∷ []) (if t then (
      [],
      false,
    ) ∷ cut 10 quotes false bs else with_first b (cut 10 quotes (turned quotes inside b) bs))
    ≡ b ∷ (bs ++ 10 ∷ [])) [
      | true ↦ λ is. (
          let feed : b ≡ 10 = eqb-true b 10 (both_hold (b == 10) (not inside) is) in
          ap (λ l. 10 ∷ l) (pieces_give quotes false bs) ∙ ap (λ x. x ∷ (bs ++ 10 ∷ [])) (sym feed))
      | false ↦
          λ is. first_fed b (cut 10 quotes (turned quotes inside b) bs) more p first
          ∙ ap (λ l. b ∷ l) (pieces_give quotes (turned quotes inside b) bs)
    ] in
    go ((b == 10) && not inside) refl

no_bytes : (l : List ℕ) → (length l == 0) ≡ true → l ≡ []
no_bytes [] h = refl
no_bytes (x ∷ xs) h = absurd (grind (arith, nat_tests))

last_dropped : (p : Piece) (ps : List Piece)
    → (flat_map (λ r. r.0 ++ 10 ∷ []) (without_last_nothing (p ∷ ps)) ≡ flat_map (λ r. r.0 ++ 10 ∷ []) (p ∷ ps))
    ⊎ (flat_map (λ r. r.0 ++ 10 ∷ []) (without_last_nothing (p ∷ ps)) ++ 10 ∷ []
    ≡ flat_map (λ r. r.0 ++ 10 ∷ []) (p ∷ ps))
last_dropped p [] =
    let go : (t : Bool) → (length p.0 == 0) ≡ t
    → (flat_map (λ r. r.0 ++ 10 ∷ []) (if t then [] else p ∷ []) ≡ (p.0 ++ 10 ∷ []) ++ [])
    ⊎ (flat_map (λ r. r.0 ++ 10 ∷ []) (if t then [] else p ∷ []) ++ 10 ∷ [] ≡ (p.0 ++ 10 ∷ []) ++ []) =
    λ t. elim t as (λ t. (length p.0 == 0) ≡ t
    → (flat_map (λ r. r.0 ++ 10 ∷ []) (if t then [] else p ∷ []) ≡ (p.0 ++ 10 ∷ []) ++ [])
    ⊎ (flat_map (λ r. r.0 ++ 10 ∷ []) (if t then [] else p ∷ []) ++ 10 ∷ [] ≡ (p.0 ++ 10 ∷ []) ++ [])) [
      | true ↦ λ is. inr (ap (λ l. (l ++ 10 ∷ []) ++ []) (sym (no_bytes p.0 is)))
      | false ↦ λ is. inl refl
    ] in
    go (length p.0 == 0) refl
last_dropped p (q ∷ ps) = elim (last_dropped q ps) [
  | inl e ↦ inl (ap (λ l. (p.0 ++ 10 ∷ []) ++ l) e)
  | inr e ↦
      inr (append_assoc (p.0 ++ 10 ∷ []) (flat_map (λ r. r.0 ++ 10 ∷ []) (without_last_nothing (q ∷ ps))) (10 ∷ [])
      ∙ ap (λ l. (p.0 ++ 10 ∷ []) ++ l) e)
]

pieces_give_back : (quotes : Bool) (bytes : List ℕ)
    → let whole : List ℕ =
    flat_map (λ p. p.0 ++ 10 ∷ []) (rows_of quotes bytes) in (whole ≡ bytes) ⊎ (whole ≡ bytes ++ 10 ∷ [])
pieces_give_back quotes bytes =
    let (p, ps, first) = first_piece 10 quotes false bytes in
    let rows : rows_of quotes bytes ≡ without_last_nothing (p ∷ ps) = ap without_last_nothing first in
    let all : flat_map (λ r. r.0 ++ 10 ∷ []) (p ∷ ps) ≡ bytes ++ 10 ∷ [] =
    ap (flat_map (λ r. r.0 ++ 10 ∷ [])) (sym first) ∙ pieces_give quotes false bytes in
    elim (last_dropped p ps) [
      | inl e ↦ inr (ap (flat_map (λ r. r.0 ++ 10 ∷ [])) rows ∙ e ∙ all)
      | inr e ↦
          inl (ap (flat_map (λ r. r.0 ++ 10 ∷ [])) rows ∙ append_cancel_right
          (flat_map (λ r. r.0 ++ 10 ∷ []) (without_last_nothing (p ∷ ps))) bytes (10 ∷ []) (e ∙ all))
    ]

pub rows_give_back : RowsGiveBack
rows_give_back quotes bytes = pieces_give_back quotes (bytes ++ lacking_last [] (pieces_of quotes bytes))
