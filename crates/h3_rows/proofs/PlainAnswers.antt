-- Plain rows that are put with the one line that answers their cell.
use Rattle.std.proofs.Common.{◌≡◌, ℕ, ◌+◌, ◌-◌, ◌<◌, ◌≤◌, ◌==◌, nat_le, Bool, true, false, not, ◌&&◌, if◌then◌else◌, List, [], ◌∷◌, ◌++◌, length, take, drop, get_or, replicate, Option, Some, sym, ap, ◌∙◌, refl, append_assoc, append-nil, length-append, length-take, eqb-true, arith}
use Rattle.std.proofs.KnownBytes.{Appends-nil}
use Rattle.std.proofs.Math.Seq.{drop-append-add, drop-append_seam, take-append_seam}
use Rattle.std.proofs.lemmas.Bool.Decides.{nat_tests}
use Rattle.std.proofs.lemmas.List.{length-take-le, take-append-le, take-take}
use Rattle.std.proofs.lemmas.List.Elements.{All-get_or}
use Rattle.std.proofs.lemmas.List.Sums.{AllPass-from_list_all}
use Rattle.std.specs.Char.{is_digit}
use Rattle.std.specs.List.{list_all}
use mathlib.Core.Bool.{beq}
use Rattle.h3_index.specs.Text.{is_blank, trimmed, without_leading_blanks, without_trailing_blanks}
use Rattle.h3_lines.specs.Answer.{Answer, written}
use Rattle.h3_lines.specs.EachLine.{then_answer}
use Rattle.h3_lines.specs.Answering.{Answered}
use Rattle.h3_rows.specs.Answering.{PutsPlain, held_of, state_of}
use Rattle.h3_rows.specs.Lanes.{IsOneLine}
use Rattle.h3_rows.specs.Plain.{IsPlainField, IsPlainRow}
use Rattle.h3_rows.specs.Row.{field_text, next_number, returns_of, unmarked, unquoted}
use Rattle.h3_rows.specs.RowsAnswer.{Form, Step, answered_with, goes_on, row_step, row_with, rows_then, rows_with}
use Rattle.h3_lines.specs.Pieces.{CutsAt, Uncut, inside_after, pieces_of}
use Rattle.h3_rows.specs.declared.state.Columns.{Columns}
use Rattle.h3_rows.specs.declared.state.RowState.{RowState}
use Rattle.h3_rows.proofs.Beside.{closed_before, one_with}
use Rattle.h3_rows.proofs.Blanks.{other_last}
use Rattle.h3_lines.specs.PiecesLaws.{cut_at_mark}
use Rattle.h3_rows.proofs.WholeFields.{feedless_uncut, row_bare, row_feeds, row_uncut}
use Rattle.h3_rows.proofs.Marks.{later_mark, later_unmarked}
use Rattle.h3_rows.proofs.Returns.{returns_of_row, row_length}
use Rattle.h3_rows.proofs.PlainCells.{not_first, plain_body, plain_filled, plain_said, plain_sound, same_quotes}
use Rattle.h3_rows.proofs.Steps.{passed_is}

-- ---- digits are no blanks and no quotes

is_not : (n b : ℕ) (t : Bool) → (b == n) ≡ t → is_digit n 16 ≡ false → is_digit b 16 ≡ true → t ≡ false
is_not n b false is other digit = refl
is_not n b true is other digit =
    let never : is_digit n 16 ≡ true = ap (λ m. is_digit m 16) (sym (eqb-true b n is)) ∙ digit in
    absurd (cc (never, other))

no_blank : (b : ℕ) → is_digit b 16 ≡ true → is_blank b ≡ false
no_blank b digit =
    rw (
      is_not 32 b (b == 32) refl refl digit,
      is_not 9 b (b == 9) refl refl digit,
      is_not 13 b (b == 13) refl refl digit,
    ) refl

digit_first : (b : ℕ) (bs : List ℕ) → list_all (λ b. is_digit b 16) (b ∷ bs) ≡ true → is_digit b 16 ≡ true
digit_first b bs h =
    All-get_or (λ b. is_digit b 16 ≡ true) (b ∷ bs) 0 0 (omega arith)
    (AllPass-from_list_all (λ b. is_digit b 16) (b ∷ bs) h)

digits_trimmed : (field : List ℕ) → list_all (λ b. is_digit b 16) field ≡ true → trimmed field ≡ field
digits_trimmed [] h = refl
digits_trimmed (b ∷ bs) h =
    let whole = b ∷ bs in
    let last : is_digit (get_or whole (length whole - 1) 0) 16 ≡ true =
    All-get_or (λ b. is_digit b 16 ≡ true) whole (length whole - 1) 0 (omega arith)
    (AllPass-from_list_all (λ b. is_digit b 16) whole h) in
    let front : without_leading_blanks whole ≡ whole = rw (no_blank b (digit_first b bs h)) refl in
    ap without_trailing_blanks front
    ∙ sym (other_last whole (omega arith) (no_blank (get_or whole (length whole - 1) 0) last))

not_both : (t u : Bool) (xs ys : List ℕ) → (if t && false && u then xs else ys) ≡ ys
not_both true u xs ys = refl
not_both false u xs ys = refl

digits_unquoted : (field : List ℕ) → list_all (λ b. is_digit b 16) field ≡ true → unquoted field ≡ field
digits_unquoted [] h = refl
digits_unquoted (b ∷ bs) h =
    rw (is_not 34 b (b == 34) refl refl (digit_first b bs h))
    (not_both (nat_le 2 (length (b ∷ bs))) (get_or (b ∷ bs) (length (b ∷ bs) - 1) 0 == 34) _ (b ∷ bs))

pub digits_text : (quotes : Bool) (field : List ℕ) → list_all (λ b. is_digit b 16) field ≡ true
    → field_text quotes field ≡ field
digits_text true field h = ap unquoted (digits_trimmed field h) ∙ digits_unquoted field h
digits_text false field h = digits_trimmed field h

-- the text between two quotes
pub quoted_text : (field : List ℕ) → 2 ≤ length field → get_or field 0 0 ≡ 34 → get_or field (length field - 1) 0 ≡ 34
    → field_text true field ≡ take (length field - 2) (drop 1 field)
quoted_text [] two first last = absurd (omega (arith, two))
quoted_text (b ∷ bs) two first last =
    let whole = b ∷ bs in
    let long : nat_le 2 (length whole) ≡ true = grind (arith, nat_tests, two) in
    let opens : (get_or whole 0 0 == 34) ≡ true = ap (λ n. n == 34) first in
    let closes : (get_or whole (length whole - 1) 0 == 34) ≡ true = ap (λ n. n == 34) last in
    let front : without_leading_blanks whole ≡ whole = rw first refl in
    let trims : trimmed whole ≡ whole =
    ap without_trailing_blanks front ∙ sym (other_last whole (omega arith) (ap is_blank last)) in
    ap unquoted trims ∙ rw (long, opens, closes) refl

pub some_from_test : (l : List ℕ) (b : Bool) → b ≡ (length l == 0) → b ≡ false → 0 < length l
some_from_test [] b is h = absurd (cc (is, h))
some_from_test (x ∷ xs) b is h = omega arith

-- ---- the row

module _ (form : Form) (answer : Option ℕ → Answer) (s : RowState) (k : Columns) (known : s.columns ≡ Some k)
    (later : s.number ≡ 1 → ⊥) (silent : form.shows_errors ≡ false) where
  module _ (bytes row field held : List ℕ) (n : ℕ) (p : IsPlainRow form.separator form.quotes k bytes row n field)
      (some : 0 < length row) (few : length row ≤ 1048575) where
    abbrev line : List ℕ
    line = row ++ replicate n 13

    steps : (index : ℕ) (text : List ℕ) → IsPlainField form.quotes field index → answer (Some index) ≡ written text
        → row_step form answer (state_of s held) (line, false)
        ≡ goes_on (state_of s held) line (answered_with form line text)
    steps index text plain is =
        let first = not_first form s.number k later in
        let sound = plain_sound form s.number k later bytes row field n p few in
        let body = plain_body form s.number k later bytes row field n p in
        let filled = plain_filled form s.number k later bytes row field n p some in
        let said = plain_said form s.number k later bytes row field n p index plain in
        let bare : unmarked s.number line ≡ line = later_unmarked s.number line first in
        rw (known, sound, bare, body, filled, later_mark s.number row first, said, is) refl

    one_row : (text : List ℕ) (l : IsOneLine text) → inside_after form.quoted_answers false text ≡ false
        → answered_with form line text
        ≡ row ++ (form.separator ∷ (l.line ++ (replicate n 13 ++ 10 ∷ [])))
    one_row text l closed =
        let body = plain_body form s.number k later bytes row field n p in
        let within : inside_after form.quoted_answers false l.line ≡ false =
        closed_before form.quoted_answers l.line (rw l.split at closed) in
        let whole : Uncut 10 form.quoted_answers false l.line false =
        record { uncut = feedless_uncut form.quoted_answers false l.line l.whole; inside_is = within } in
        let ends : returns_of line ≡ replicate n 13 = returns_of_row row n (row_bare row p.whole.on_line) in
        let with : row_with form.separator line (l.line ++ [])
        ≡ row ++ (form.separator ∷ (l.line ++ (replicate n 13 ++ 10 ∷ [])))
        = ap (λ t. row_with form.separator line t) (append-nil l.line) ∙ rw (body, ends) refl in
        rw silent (ap (rows_with form.separator form.quoted_answers [] line) l.split
        ∙ one_with form.separator form.quoted_answers [] line l.line whole
        ∙ with)

  pub puts_plain : (bytes row field held held' text : List ℕ) (n index : ℕ)
      → IsPlainRow form.separator form.quotes k bytes row n field → IsPlainField form.quotes field index
      → length row ≤ 1048575 → 0 < length row → answer (Some index) ≡ written text → (l : IsOneLine text)
      → inside_after form.quoted_answers false text ≡ false
      → held' ≡ (held ++ (row ++ form.separator ∷ [])) ++ (l.line ++ (replicate n 13 ++ 10 ∷ []))
      → PutsPlain form answer s bytes held held' (length row + n) n
  puts_plain bytes row field held held' text n index p plain few some is l closed put =
      let line = row ++ replicate n 13 in
      let answered = l.line ++ (replicate n 13 ++ 10 ∷ []) in
      record {
        row = line;
        after = p.after;
        split = p.split;
        size_is = row_length row n;
        ending = returns_of_row row n (row_bare row p.whole.on_line);
        whole = row_uncut form.separator form.quotes row n p.whole;
        feedless = row_feeds row n p.whole.on_line;
        text = answered_with form line text;
        is = steps bytes row field held n p some few index text plain is;
        put = put ∙ append_assoc held (row ++ form.separator ∷ []) answered
            ∙ ap (λ l. held ++ l) (append_assoc row (form.separator ∷ []) answered
            ∙ sym (one_row bytes row field held n p some few text l closed));
      }

-- the bytes before a line feed at their end
pub before_feed : (old bytes : List ℕ) (last : ℕ) → last ≤ length old → take last old ≡ bytes ++ 10 ∷ []
    → take (last - 1) old ≡ bytes
before_feed old bytes last within is =
    let whole : length (take last old) ≡ last = length-take-le last old within in
    let size : length bytes + 1 ≡ last = omega (arith, ap length is, length-append bytes (10 ∷ []), whole) in
    let less : last - 1 ≡ length bytes = omega (arith, size) in
    sym (take-take (last - 1) last old (omega arith)) ∙ ap (take (last - 1)) is
    ∙ ap (λ n. take n (bytes ++ 10 ∷ [])) less ∙ take-append_seam bytes (10 ∷ [])

-- what was held before the row is kept
pub front_kept : (new old more : List ℕ) (end n : ℕ) → end ≤ length old → take n new ≡ take end old ++ more
    → take end new ≡ take end old
front_kept new old more end n within is =
    let size : length (take end old) ≡ end = length-take-le end old within in
    let whole : length (take n new) ≡ end + length more =
    ap length is ∙ omega (arith, length-append (take end old) more, size) in
    let fits : end ≤ n = omega (arith, whole, length-take {A = ℕ}) in
    sym (take-take end n new fits) ∙ ap (take end) is ∙ take-append-le end (take end old) more (omega (arith, size))
    ∙ take-take end end old (omega arith)

-- what was put after so many bytes
pub put_after : (old text all : List ℕ) (at : ℕ) → at ≤ length old → all ≡ take at old ++ text → drop at all ≡ text
put_after old text all at within is =
    let size : length (take at old) ≡ at = length-take-le at old within in
    ap (drop at) is ∙ ap (λ n. drop n (take at old ++ text)) (sym size) ∙ drop-append_seam (take at old) text

-- ---- the rows that are taken

module _ {S : Type 0} (taken : S → Option (List ℕ)) (failed : S → Bool) where
  pub plain_answered : (form : Form) (answer : Option ℕ → Answer) (s a : RowState) (k : Columns)
      (bytes held held' : List ℕ) (size returns : ℕ) (sink : S)
      → s.columns ≡ Some k → a.number ≡ s.number + 1 → a.columns ≡ s.columns → a.kept ≡ s.kept
      → (p : PutsPlain form answer s bytes held held' size returns)
      → Answered taken failed (λ last. rows_then last form answer) (state_of s held) (state_of a held')
      (held_of s.columns held) (held_of a.columns held') sink sink ((p.row, false) ∷ [])
  plain_answered form answer s a k bytes held held' size returns sink known n b kept p =
      let count : a.number ≡ next_number s.number p.row = n ∙ omega (arith, p.feedless) in
      let step : row_step form answer (state_of s held) (
        p.row,
        false,
      ) ≡ record { answer = written p.text; after = state_of a held' } =
      p.is
      ∙ ap (λ w. record { answer = written p.text; after = w })
      (passed_is s a k known p.row held held' count b kept) in
      record {
        text = p.text;
        says =
            λ last more. ap
            (λ (x : Step). then_answer x.answer.output x.answer.ending (rows_then last form answer x.after more)) step;
        moves = record { part = []; split = rw (b, known) (sym p.put); grown = Appends-nil (taken sink); sound = refl };
      }

-- a plain row ends at its line feed, whether quotes count or not
pub plain_cuts : (form : Form) (answer : Option ℕ → Answer) (s : RowState) (bytes held held' : List ℕ)
    (size returns : ℕ) (quotes : Bool)
    → not (beq quotes form.quotes) ≡ false → (p : PutsPlain form answer s bytes held held' size returns)
    → CutsAt 10 quotes false bytes p.row p.after
plain_cuts form answer s bytes held held' size returns quotes is p
    = record { begins = rw (same_quotes quotes form.quotes is) p.whole; split = p.split }

-- the row that bytes begin with, and the others
pub first_cut : (qs : Bool) (bytes row after : List ℕ) (size : ℕ) → CutsAt 10 qs false bytes row after
    → length row ≡ size → (rest : List ℕ)
    → pieces_of qs (bytes ++ rest) ≡ (row, false) ∷ pieces_of qs (drop (size + 1) bytes ++ rest)
first_cut qs bytes row after size cuts is rest =
    let u = cuts.begins in
    let left : drop (size + 1) bytes ≡ after = rw (cuts.split, ← is) (drop-append-add row (10 ∷ after) 1) in
    let later : bytes ++ rest ≡ row ++ 10 ∷ (drop (size + 1) bytes ++ rest) =
    ap (λ l. l ++ rest) (cuts.split ∙ ap (λ l. row ++ 10 ∷ l) (sym left))
    ∙ append_assoc row (10 ∷ drop (size + 1) bytes) rest in
    ap (pieces_of qs) later ∙ cut_at_mark 10 qs false row (drop (size + 1) bytes ++ rest) u.uncut u.inside_is refl
