-- Names are fields: what is read of a row is not cut, and closes its quotes.
use Rattle.std.proofs.Common.{◌≡◌, ℕ, zero, suc, ◌≤◌, ◌==◌, nat_le, Bool, true, false, not, ◌&&◌, ◌||◌, if◌then◌else◌, List, [], ◌∷◌, ◌++◌, length, reverse, Option, None, Some, option_map, unwrap_or, Result, Ok, Err, ℤ, All, sym, ap, ◌∙◌, refl, subst, arith, eqb-true, length-append}
use Rattle.std.specs.Prelude.{⊤}
use Rattle.std.specs.List.{list_all}
use Rattle.std.proofs.lemmas.Bool.Decides.{nat_tests}
use Rattle.std.proofs.lemmas.List.{reverse-append, reverse-reverse}
use Rattle.std.proofs.lemmas.List.Elements.{All-append, All-cons, All-head, All-nil, All-push, All-tail}
use Rattle.std.proofs.lemmas.List.Folds.{list_all-append}
use Rattle.h3_index.specs.Cell.{Address}
use Rattle.h3_index.specs.Text.{is_blank, trimmed, without_leading_blanks, without_trailing_blanks}
use Rattle.h3_lines.specs.Pieces.{Piece, cut, inside_after, is_uncut, pieces_of, rows_of, turned, with_first, without_last_nothing}
use Rattle.h3_lines.specs.PiecesLaws.{and_false, both, inside_after-append}
use Rattle.h3_lines.specs.declared.run_error.AnswerError.{AnswerError}
use Rattle.h3_lines.specs.declared.run_error.ColumnError.{ColumnError}
use Rattle.h3_lines.specs.declared.run_error.RowError.{RowError}
use Rattle.h3_lines.specs.declared.run_error.RowFault.{RowFault}
use Rattle.h3_rows.specs.Areas as areas
use Rattle.h3_rows.specs.Areas.{EntriesAreFields, IsOneField, NamedCell, NamesAreFields, cells_among, name_text, named_before, names_after, place_of, with_place}
use Rattle.h3_rows.specs.Cells.{cell_read}
use Rattle.h3_rows.specs.Named.{Entry, Found, Table, entries_at, filled_found, found_before, found_unless, header_found, if_number, name_at, named_end, named_found, named_then, number_in, table_columns, table_first, title_list, unless_named, with_field, with_number, with_text}
use Rattle.h3_rows.specs.declared.table.FieldContent.{FieldContent}
use Rattle.h3_rows.specs.declared.table.FieldContent.TheVariants.{Text, Number}
use Rattle.h3_rows.specs.Row.{is_padded, is_read_alike, next_number, opens_well, piece_at, quotes_are_sound, read_of, row_body, without_order_mark}
use Rattle.h3_rows.specs.RowsAnswer.{After, Choice, Named, malformed, row_cell}
use Rattle.h3_rows.specs.declared.table.TableColumns.{TableColumns}
use Rattle.h3_rows.proofs.Alike.{alike_last}
use Rattle.h3_rows.proofs.Feeds.{two_hold}
use Rattle.h3_rows.proofs.ReadBack.{body_uncut, uncut_front}

-- ---- pieces

-- of each piece: no mark cuts it, and it says where it ends; and if that is asked for, another byte cuts it neither,
-- and it ends outside quotes
abbrev IsPiece : ℕ → Bool → ℕ → Bool → Bool → Piece → Type 0
IsPiece mark quotes other asked inside p =
    (is_uncut mark quotes inside p.0 ≡ true) × (inside_after quotes inside p.0 ≡ p.1)
    × (asked ≡ true → (is_uncut other quotes inside p.0 ≡ true) × (p.1 ≡ false))

abbrev ArePieces : ℕ → Bool → ℕ → Bool → Bool → List Piece → Type 0
ArePieces mark quotes other asked inside [] = ⊤
ArePieces mark quotes other asked inside (p ∷ ps) =
    IsPiece mark quotes other asked inside p × ArePieces mark quotes other asked false ps

abbrev IsAsked : Bool → ℕ → Bool → Bool → List ℕ → Type 0
IsAsked quotes other asked inside bytes =
    asked ≡ true → (is_uncut other quotes inside bytes ≡ true) × (inside_after quotes inside bytes ≡ false)

both_hold : (x y : Bool) → (x && y) ≡ true → (x ≡ true) × (y ≡ true)
both_hold true y h = (refl, h)
both_hold false y h = absurd (cc)

not_inside : (x inside : Bool) → (x && not inside) ≡ true → (x ≡ true) × (inside ≡ false)
not_inside true true h = absurd (cc)
not_inside false true h = absurd (cc)
not_inside true false h = (refl, refl)
not_inside false false h = absurd (cc)

not_quote : (mark b : ℕ) → (34 == mark) ≡ false → (b == mark) ≡ true → (b == 34) ≡ false
not_quote mark b quote is = grind (arith, nat_tests)

module _ (mark : ℕ) (quotes : Bool) (other : ℕ) (asked : Bool) (quote : (34 == mark) ≡ false) where
  asked_more : (inside : Bool) (b : ℕ) (bs : List ℕ) → IsAsked quotes other asked inside (b ∷ bs)
      → IsAsked quotes other asked (turned quotes inside b) bs
  asked_more inside b bs h is =
      let (uncut, closed) = h is in
      ((both ((b == other) && not inside) (is_uncut other quotes (turned quotes inside b) bs) uncut).1, closed)

  asked_first : (inside : Bool) (b : ℕ) (bs : List ℕ) → IsAsked quotes other asked inside (b ∷ bs) → asked ≡ true
      → ((b == other) && not inside) ≡ false
  asked_first inside b bs h is =
      let (uncut, closed) = h is in
      (both ((b == other) && not inside) (is_uncut other quotes (turned quotes inside b) bs) uncut).0

  -- a byte in front of the first piece
  first_grows : (inside : Bool) (b : ℕ) (ps : List Piece) → ((b == mark) && not inside) ≡ false
      → (asked ≡ true → ((b == other) && not inside) ≡ false)
      → ArePieces mark quotes other asked (turned quotes inside b) ps
      → ArePieces mark quotes other asked inside (with_first b ps)
  first_grows inside b [] m o h = tt
  first_grows inside b (p ∷ ps) m o h =
      let ((uncut, after, more), rest) = h in
      ((rw m uncut, after, λ is. (rw (o is) (more is).0, (more is).1)), rest)

  cut_pieces : (inside : Bool) (bytes : List ℕ) → IsAsked quotes other asked inside bytes
      → ArePieces mark quotes other asked inside (cut mark quotes inside bytes)
  cut_pieces inside [] h = ((refl, refl, λ is. (refl, (h is).1)), tt)
  cut_pieces inside (b ∷ bs) h =
      let next = turned quotes inside b in
      let go : (t : Bool) → ((b == mark) && not inside) ≡ t
      → ArePieces mark quotes other asked inside
      (if t then ([], false) ∷ cut mark quotes false bs else with_first b (cut mark quotes next bs)) =
      λ t.
      elim t as
      (λ t.
      ((b == mark) && not inside) ≡ t
      → ArePieces mark quotes other asked inside (if t then ([], false) ∷ cut mark quotes false bs
      else with_first b (cut mark quotes next bs))) [
        | true ↦ λ is. (
            let (same, outside) = not_inside (b == mark) inside is in
            let calm : (quotes && (b == 34)) ≡ false =
            ap (λ x. quotes && x) (not_quote mark b quote same) ∙ and_false quotes in
            let stays : next ≡ false = rw calm outside in (
              (refl, outside, λ is. (refl, refl)),
              cut_pieces false bs (subst (λ o. IsAsked quotes other asked o bs) stays (asked_more inside b bs h)),
            ))
        | false ↦
            λ is. first_grows inside b (cut mark quotes next bs) is (asked_first inside b bs h)
            (cut_pieces next bs (asked_more inside b bs h))
      ] in
      go ((b == mark) && not inside) refl

  -- a piece among them
  piece_found : (k : ℕ) (ps : List Piece) (bytes : List ℕ) → ArePieces mark quotes other asked false ps
      → piece_at k ps ≡ Some bytes
      → (is_uncut mark quotes false bytes ≡ true)
      × (asked ≡ true → (is_uncut other quotes false bytes ≡ true) × (inside_after quotes false bytes ≡ false))
  piece_found k [] bytes h is = absurd (cc)
  piece_found zero (p ∷ ps) bytes h is =
      let same : p.0 ≡ bytes = ap (λ o. unwrap_or o p.0) is in
      let ((uncut, after, more), rest) = h in (
        subst (λ l. is_uncut mark quotes false l ≡ true) same uncut,
        λ a. (
          subst (λ l. is_uncut other quotes false l ≡ true) same (more a).0,
          ap (inside_after quotes false) (sym same) ∙ after ∙ (more a).1,
        ),
      )
  piece_found (suc k) (p ∷ ps) bytes h is = piece_found k ps bytes h.1 is

  without_last : (inside : Bool) (ps : List Piece) → ArePieces mark quotes other asked inside ps
      → ArePieces mark quotes other asked inside (without_last_nothing ps)
  without_last inside [] h = tt
  without_last inside (p ∷ []) h =
      elim (length p.0 == 0) as (λ t. ArePieces mark quotes other asked inside (if t then [] else p ∷ [])) [
        | true ↦ tt
        | false ↦ h
      ]
  without_last inside (p ∷ q ∷ ps) h = (h.0, without_last false (q ∷ ps) h.1)

-- ---- blanks

no_quote_at : (b : ℕ) (t : Bool) → (b == 34) ≡ t → is_blank b ≡ true → t ≡ false
no_quote_at b true is blank =
    let never : is_blank 34 ≡ true = ap is_blank (sym (eqb-true b 34 is)) ∙ blank in absurd (cc never)
no_quote_at b false is blank = refl

blank_stays : (quotes inside : Bool) (b : ℕ) → is_blank b ≡ true → turned quotes inside b ≡ inside
blank_stays quotes inside b blank =
    let calm : (quotes && (b == 34)) ≡ false =
    ap (λ x. quotes && x) (no_quote_at b (b == 34) refl blank) ∙ and_false quotes in
    rw calm refl

blanks_keep : (quotes inside : Bool) (blanks : List ℕ) → list_all is_blank blanks ≡ true
    → inside_after quotes inside blanks ≡ inside
blanks_keep quotes inside [] h = refl
blanks_keep quotes inside (b ∷ bs) h =
    let (first, more) = both_hold (is_blank b) (list_all is_blank bs) h in
    ap (λ o. inside_after quotes o bs) (blank_stays quotes inside b first) ∙ blanks_keep quotes inside bs more

lead_uncut : (mark : ℕ) (quotes : Bool) (bytes : List ℕ) → is_uncut mark quotes false bytes ≡ true
    → is_uncut mark quotes false (without_leading_blanks bytes) ≡ true
lead_uncut mark quotes [] h = refl
lead_uncut mark quotes (b ∷ bs) h =
    let go : (t : Bool) → is_blank b ≡ t
    → is_uncut mark quotes false (if t then without_leading_blanks bs else b ∷ bs) ≡ true =
    λ t.
    elim t as
    (λ t. is_blank b ≡ t → is_uncut mark quotes false (if t then without_leading_blanks bs else b ∷ bs) ≡ true) [
      | true ↦
          λ is. lead_uncut mark quotes bs (subst (λ o. is_uncut mark quotes o bs ≡ true) (blank_stays quotes false b is)
          (both ((b == mark) && not false) (is_uncut mark quotes (turned quotes false b) bs) h).1)
      | false ↦ λ is. h
    ] in
    go (is_blank b) refl

lead_closed : (quotes : Bool) (bytes : List ℕ) → inside_after quotes false bytes ≡ false
    → inside_after quotes false (without_leading_blanks bytes) ≡ false
lead_closed quotes [] h = refl
lead_closed quotes (b ∷ bs) h =
    let go : (t : Bool) → is_blank b ≡ t
    → inside_after quotes false (if t then without_leading_blanks bs else b ∷ bs) ≡ false =
    λ t.
    elim t as
    (λ t. is_blank b ≡ t → inside_after quotes false (if t then without_leading_blanks bs else b ∷ bs) ≡ false) [
      | true ↦
          λ is. lead_closed quotes bs (ap (λ o. inside_after quotes o bs) (sym (blank_stays quotes false b is)) ∙ h)
      | false ↦ λ is. h
    ] in
    go (is_blank b) refl

-- bytes are blanks and what is left without them
lead_split : (bytes : List ℕ)
    → (front : List ℕ) × (list_all is_blank front ≡ true) × (bytes ≡ front ++ without_leading_blanks bytes)
lead_split [] = ([], refl, refl)
lead_split (b ∷ bs) =
    let go : (t : Bool) → is_blank b ≡ t
    → (front : List ℕ) × (list_all is_blank front ≡ true)
    × (b ∷ bs ≡ front ++ (if t then without_leading_blanks bs else b ∷ bs)) =
    λ t.
    elim t as
    (λ t.
    is_blank b ≡ t
    → (front : List ℕ) × (list_all is_blank front ≡ true)
    × (b ∷ bs ≡ front ++ (if t then without_leading_blanks bs else b ∷ bs))) [
      | true ↦ λ is. (let (front, all, split) = lead_split bs in (b ∷ front, rw (is, all) refl, ap (λ l. b ∷ l) split))
      | false ↦ λ is. ([], refl, refl)
    ] in
    go (is_blank b) refl

all_reversed : (bytes : List ℕ) → list_all is_blank bytes ≡ true → list_all is_blank (reverse bytes) ≡ true
all_reversed [] h = refl
all_reversed (b ∷ bs) h =
    let (first, more) = both_hold (is_blank b) (list_all is_blank bs) h in
    ap (list_all is_blank) (reverse-append (b ∷ []) bs) ∙ list_all-append is_blank (reverse bs) (b ∷ [])
    ∙ rw (all_reversed bs more, first) refl

trail_split : (bytes : List ℕ)
    → (blanks : List ℕ) × (list_all is_blank blanks ≡ true) × (bytes ≡ without_trailing_blanks bytes ++ blanks)
trail_split bytes =
    let (front, all, split) = lead_split (reverse bytes) in (
      reverse front,
      all_reversed front all,
      sym (reverse-reverse bytes) ∙ ap reverse split ∙ reverse-append front (without_leading_blanks (reverse bytes)),
    )

trail_uncut : (mark : ℕ) (quotes : Bool) (bytes : List ℕ) → is_uncut mark quotes false bytes ≡ true
    → is_uncut mark quotes false (without_trailing_blanks bytes) ≡ true
trail_uncut mark quotes bytes h =
    let (blanks, all, split) = trail_split bytes in
    uncut_front mark quotes false (without_trailing_blanks bytes) blanks
    (ap (is_uncut mark quotes false) (sym split) ∙ h)

trail_closed : (quotes : Bool) (bytes : List ℕ) → inside_after quotes false bytes ≡ false
    → inside_after quotes false (without_trailing_blanks bytes) ≡ false
trail_closed quotes bytes h =
    let (blanks, all, split) = trail_split bytes in
    let left = without_trailing_blanks bytes in
    sym (blanks_keep quotes (inside_after quotes false left) blanks all)
    ∙ sym (inside_after-append 0 quotes false left blanks) ∙ ap (inside_after quotes false) (sym split) ∙ h

trim_uncut : (mark : ℕ) (quotes : Bool) (bytes : List ℕ) → is_uncut mark quotes false bytes ≡ true
    → is_uncut mark quotes false (trimmed bytes) ≡ true
trim_uncut mark quotes bytes h = trail_uncut mark quotes (without_leading_blanks bytes) (lead_uncut mark quotes bytes h)

trim_closed : (quotes : Bool) (bytes : List ℕ) → inside_after quotes false bytes ≡ false
    → inside_after quotes false (trimmed bytes) ≡ false
trim_closed quotes bytes h = trail_closed quotes (without_leading_blanks bytes) (lead_closed quotes bytes h)

-- ---- what is trimmed has no blanks at its ends

lead_again : (bytes : List ℕ) → without_leading_blanks (without_leading_blanks bytes) ≡ without_leading_blanks bytes
lead_again [] = refl
lead_again (b ∷ bs) =
    let go : (t : Bool) → is_blank b ≡ t
    → without_leading_blanks (if t then without_leading_blanks bs else b ∷ bs)
    ≡ (if t then without_leading_blanks bs else b ∷ bs) =
    λ t.
    elim t as
    (λ t.
    is_blank b ≡ t
    → without_leading_blanks (if t then without_leading_blanks bs else b ∷ bs)
    ≡ (if t then without_leading_blanks bs else b ∷ bs)) [
      | true ↦ λ is. lead_again bs
      | false ↦ λ is. rw is refl
    ] in
    go (is_blank b) refl

trail_again : (bytes : List ℕ) → without_trailing_blanks (without_trailing_blanks bytes) ≡ without_trailing_blanks bytes
trail_again bytes =
    ap (λ l. reverse (without_leading_blanks l)) (reverse-reverse (without_leading_blanks (reverse bytes)))
    ∙ ap reverse (lead_again (reverse bytes))

lead_shorter : (bytes : List ℕ) → length (without_leading_blanks bytes) ≤ length bytes
lead_shorter bytes =
    let (front, all, split) = lead_split bytes in
    omega (arith, ap length split, length-append front (without_leading_blanks bytes))

first_solid : (x : ℕ) (xs : List ℕ) (t : Bool) → is_blank x ≡ t → without_leading_blanks (x ∷ xs) ≡ x ∷ xs → t ≡ false
first_solid x xs true is h =
    let less : without_leading_blanks (x ∷ xs) ≡ without_leading_blanks xs = rw is refl in
    absurd (omega (arith, ap length (sym less ∙ h), lead_shorter xs))
first_solid x xs false is h = refl

beginning_solid : (whole left blanks : List ℕ) → without_leading_blanks whole ≡ whole → whole ≡ left ++ blanks
    → without_leading_blanks left ≡ left
beginning_solid whole [] blanks h split = refl
beginning_solid whole (x ∷ xs) blanks h split =
    let solid : is_blank x ≡ false =
    first_solid x (xs ++ blanks) (is_blank x) refl (ap without_leading_blanks (sym split) ∙ h ∙ split) in
    rw solid refl

pub trim_again : (bytes : List ℕ) → trimmed (trimmed bytes) ≡ trimmed bytes
trim_again bytes =
    let front = without_leading_blanks bytes in
    let (blanks, all, split) = trail_split front in
    ap without_trailing_blanks (beginning_solid front (without_trailing_blanks front) blanks (lead_again bytes) split)
    ∙ trail_again front

-- ---- quotes that open in their places

abbrev OpenWell : ℕ → Bool → Bool → Bool → List Piece → Type 0
OpenWell separator start after inside [] = ⊤
OpenWell separator start after inside (p ∷ ps) =
    (opens_well separator start after inside p.0 ≡ true) × OpenWell separator true false false ps

opens_if : (x y : Bool) → (if x then y else false) ≡ true → (x ≡ true) × (y ≡ true)
opens_if true y h = (refl, h)
opens_if false y h = absurd (cc)

or_true : (x : Bool) → (x || true) ≡ true
or_true true = refl
or_true false = refl

module _ (separator : ℕ) (quote : (34 == separator) ≡ false) where
  -- a byte in front of the first piece
  well_grows : (start after inside : Bool) (b : ℕ) (ps : List Piece) → (b == 34) ≡ true
      → (inside || start || after) ≡ true → OpenWell separator false true (not inside) ps
      → OpenWell separator start after inside (with_first b ps)
  well_grows start after inside b [] is may h = tt
  well_grows start after inside b (p ∷ ps) is may h = (rw (is, may) h.0, h.1)

  well_goes_on : (start after inside : Bool) (b : ℕ) (ps : List Piece) → (b == 34) ≡ false
      → OpenWell separator (not inside && (b == separator || (start && is_blank b))) false inside ps
      → OpenWell separator start after inside (with_first b ps)
  well_goes_on start after inside b [] is h = tt
  well_goes_on start after inside b (p ∷ ps) is h = (rw is h.0, h.1)

  -- each field of them opens its quotes well
  well_cut : (start after inside : Bool) (bytes : List ℕ) → opens_well separator start after inside bytes ≡ true
      → OpenWell separator start after inside (cut separator true inside bytes)
  well_cut start after inside [] h = (refl, tt)
  well_cut start after inside (b ∷ bs) h =
      let next = not inside && (b == separator || (start && is_blank b)) in
      let plain : (t : Bool) → (b == 34) ≡ t
      → (if t then (if inside || start || after then opens_well separator false true (not inside) bs else false)
      else opens_well separator next false inside bs)
      ≡ true
      → OpenWell separator start after inside
      (with_first b (cut separator true (if t then not inside else inside) bs)) =
      λ t.
      elim t as (λ t.
      (b == 34) ≡ t
      → (if t
      then (if inside || start || after then opens_well separator false true (not inside) bs else false)
      else opens_well separator next false inside bs)
      ≡ true
      → OpenWell separator start after inside
      (with_first b (cut separator true (if t then not inside else inside) bs))) [
        | true ↦ λ is h. (
            let (may, more) = opens_if (inside || start || after) (opens_well separator false true (not inside) bs) h in
            well_grows start after inside b (cut separator true (not inside) bs) is may
            (well_cut false true (not inside) bs more))
        | false ↦
            λ is h. well_goes_on start after inside b (cut separator true inside bs) is
            (well_cut next false inside bs h)
      ] in
      let marked : (t : Bool) → ((b == separator) && not inside) ≡ t
      → OpenWell separator start after inside (if t then ([], false) ∷ cut separator true false bs
      else with_first b (cut separator true (turned true inside b) bs)) =
      λ t.
      elim t as
      (λ t.
      ((b == separator) && not inside) ≡ t
      → OpenWell separator start after inside (if t then ([], false) ∷ cut separator true false bs
      else with_first b (cut separator true (turned true inside b) bs))) [
        | true ↦ λ is. (
            let (same, outside) = not_inside (b == separator) inside is in
            let calm : (b == 34) ≡ false = not_quote separator b quote same in
            let first : opens_well separator true false false bs ≡ true = rw (calm, same, outside) at h in
            (refl, well_cut true false false bs first))
        | false ↦ λ is. plain (b == 34) refl h
      ] in
      marked ((b == separator) && not inside) refl

  well_found : (k : ℕ) (ps : List Piece) (bytes : List ℕ) → OpenWell separator true false false ps
      → piece_at k ps ≡ Some bytes → opens_well separator true false false bytes ≡ true
  well_found k [] bytes h is = absurd (cc)
  well_found zero (p ∷ ps) bytes h is =
      subst (λ l. opens_well separator true false false l ≡ true) (ap (λ o. unwrap_or o p.0) is) h.0
  well_found (suc k) (p ∷ ps) bytes h is = well_found k ps bytes h.1 is

  -- without blanks at the ends
  well_led : (bytes : List ℕ) → opens_well separator true false false bytes ≡ true
      → opens_well separator true false false (without_leading_blanks bytes) ≡ true
  well_led [] h = refl
  well_led (b ∷ bs) h =
      let go : (t : Bool) → is_blank b ≡ t
      → opens_well separator true false false (if t then without_leading_blanks bs else b ∷ bs) ≡ true =
      λ t.
      elim t as
      (λ t.
      is_blank b ≡ t
      → opens_well separator true false false (if t then without_leading_blanks bs else b ∷ bs) ≡ true) [
        | true ↦ λ is. (
            let calm : (b == 34) ≡ false = no_quote_at b (b == 34) refl is in
            let next : opens_well separator (b == separator || true) false false bs ≡ true = rw (calm, is) at h in
            well_led bs (subst (λ o. opens_well separator o false false bs ≡ true) (or_true (b == separator)) next))
        | false ↦ λ is. h
      ] in
      go (is_blank b) refl

  well_front : (start after inside : Bool) (xs ys : List ℕ) → opens_well separator start after inside (xs ++ ys) ≡ true
      → opens_well separator start after inside xs ≡ true
  well_front start after inside [] ys h = refl
  well_front start after inside (x ∷ xs) ys h =
      let next = not inside && (x == separator || (start && is_blank x)) in
      let go : (t : Bool)
      → (if t then (if inside || start || after then opens_well separator false true (not inside) (xs ++ ys) else false)
      else opens_well separator next false inside (xs ++ ys))
      ≡ true
      → (if t then (if inside || start || after then opens_well separator false true (not inside) xs else false)
      else opens_well separator next false inside xs)
      ≡ true =
      λ t.
      elim t as (λ t.
      (if t
      then (if inside || start
      || after then opens_well separator false true (not inside) (xs ++ ys) else false)
      else opens_well separator next false inside (xs ++ ys))
      ≡ true
      → (if t then (if inside || start || after then opens_well separator false true (not inside) xs else false)
      else opens_well separator next false inside xs)
      ≡ true) [
        | true ↦ λ h. (
            let (may, more) =
            opens_if (inside || start || after) (opens_well separator false true (not inside) (xs ++ ys)) h in
            rw may (well_front false true (not inside) xs ys more))
        | false ↦ λ h. well_front next false inside xs ys h
      ] in
      go (x == 34) h

  well_trimmed : (bytes : List ℕ) → opens_well separator true false false bytes ≡ true
      → opens_well separator true false false (trimmed bytes) ≡ true
  well_trimmed bytes h =
      let front = without_leading_blanks bytes in
      let (blanks, all, split) = trail_split front in
      well_front true false false (trimmed bytes) blanks
      (ap (opens_well separator true false false) (sym split) ∙ well_led bytes h)

  -- bytes without blanks at their beginning are not padded
  not_padded : (bytes : List ℕ) → without_leading_blanks bytes ≡ bytes → is_padded bytes ≡ false
  not_padded [] h = refl
  not_padded (x ∷ xs) h = rw (first_solid x xs (is_blank x) refl h) refl

  -- a field of sound quotes
  trimmed_sound : (row field : List ℕ) (k : ℕ) → quotes_are_sound separator row ≡ true
      → piece_at k (cut separator true false row) ≡ Some field → is_uncut separator true false (trimmed field) ≡ true
      → inside_after true false (trimmed field) ≡ false → quotes_are_sound separator (trimmed field) ≡ true
  trimmed_sound row field k sound is uncut closed =
      let (opens, alike) = two_hold (opens_well separator true false false row) _ sound in
      let well =
      well_trimmed field
      (well_found k (cut separator true false row) field (well_cut true false false row opens) is) in
      let front = without_leading_blanks field in
      let (blanks, all, split) = trail_split front in
      let solid : without_leading_blanks (trimmed field) ≡ trimmed field =
      beginning_solid front (without_trailing_blanks front) blanks (lead_again field) split in
      let same : is_read_alike separator (trimmed field) ≡ true = rw (not_padded (trimmed field) solid) refl in
      rw (well, alike_last separator (trimmed field) false (record { uncut = uncut; inside_is = closed })) same

-- ---- a byte order mark

-- a property that bytes keep without a first byte that is no quote
module _ (quotes : Bool) (P : List ℕ → Type 0)
    (less : (b : ℕ) (bs : List ℕ) → turned quotes false b ≡ false → P (b ∷ bs) → P bs) where
  calm_is : (b n : ℕ) → (b == n) ≡ true → (n == 34) ≡ false → turned quotes false b ≡ false
  calm_is b n is other =
      let calm : (quotes && (b == 34)) ≡ false =
      ap (λ x. quotes && x) (ap (λ m. m == 34) (eqb-true b n is) ∙ other) ∙ and_false quotes in
      rw calm refl

  marked : (a b c : ℕ) (bs : List ℕ) (t : Bool)
      → (nat_le 3 (length (a ∷ b ∷ c ∷ bs)) && (a == 239) && (b == 187) && (c == 191)) ≡ t → P (a ∷ b ∷ c ∷ bs)
      → P (if t then bs else a ∷ b ∷ c ∷ bs)
  marked a b c bs true is h =
      let long = nat_le 3 (length (a ∷ b ∷ c ∷ bs)) in
      let (two, third) = both_hold (long && (a == 239) && (b == 187)) (c == 191) is in
      let (one, second) = both_hold (long && (a == 239)) (b == 187) two in
      let (enough, first) = both_hold long (a == 239) one in
      less c bs (calm_is c 191 third refl)
      (less b (c ∷ bs) (calm_is b 187 second refl) (less a (b ∷ c ∷ bs) (calm_is a 239 first refl) h))
  marked a b c bs false is h = h

  unmarked : (bytes : List ℕ) → P bytes → P (without_order_mark bytes)
  unmarked [] h = h
  unmarked (a ∷ []) h = h
  unmarked (a ∷ b ∷ []) h = h
  unmarked (a ∷ b ∷ c ∷ bs) h = marked a b c bs _ refl h

  read_keeps : (n : ℕ) (row : List ℕ) → P row → P (read_of n row)
  read_keeps n row h =
      elim (n == 1) as (λ t. P (if t then without_order_mark row else row)) [ true ↦ unmarked row h | false ↦ h ]

uncut_less : (mark : ℕ) (quotes : Bool) (b : ℕ) (bs : List ℕ) → turned quotes false b ≡ false
    → is_uncut mark quotes false (b ∷ bs) ≡ true → is_uncut mark quotes false bs ≡ true
uncut_less mark quotes b bs calm h =
    subst (λ o. is_uncut mark quotes o bs ≡ true) calm
    (both ((b == mark) && not false) (is_uncut mark quotes (turned quotes false b) bs) h).1

closed_less : (quotes : Bool) (b : ℕ) (bs : List ℕ) → turned quotes false b ≡ false
    → inside_after quotes false (b ∷ bs) ≡ false → inside_after quotes false bs ≡ false
closed_less quotes b bs calm h = ap (λ o. inside_after quotes o bs) (sym calm) ∙ h

-- ---- the name in a row

-- a row that is no malformed one
faultless : (a b c d : Bool) (w x y z : RowFault)
    → (if a then Some w else if b then Some x else if c then Some y else if d then Some z else None) ≡ None
    → (b ≡ false) × (c ≡ false) × (d ≡ false)
faultless true b c d w x y z h = absurd (cc)
faultless false true c d w x y z h = absurd (cc)
faultless false false true d w x y z h = absurd (cc)
faultless false false false true w x y z h = absurd (cc)
faultless false false false false w x y z h = (refl, refl, refl)

no_return : (quotes : Bool) (bytes : List ℕ) → (quotes && not (is_uncut 13 true false bytes)) ≡ false → quotes ≡ true
    → is_uncut 13 quotes false bytes ≡ true
no_return true bytes h is =
    let go : (t : Bool) → (not t) ≡ false → t ≡ true =
    λ t. elim t as (λ t. (not t) ≡ false → t ≡ true) [ true ↦ λ h. refl | false ↦ λ h. absurd (cc) ] in
    go (is_uncut 13 true false bytes) h
no_return false bytes h is = absurd (cc)

all_sound : (quotes sound : Bool) → (quotes && not sound) ≡ false → quotes ≡ true → sound ≡ true
all_sound true true h is = refl
all_sound true false h is = absurd (cc)
all_sound false sound h is = absurd (cc)

module _ (table : Table) (quote : (34 == table.form.separator) ≡ false) where
  abbrev separator : ℕ
  separator = table.form.separator

  abbrev quotes : Bool
  quotes = table.form.quotes

  abbrev AreFields : List Entry → Type 0
  AreFields entries = All (λ e. IsOneField separator quotes e.field) entries

  no_fields : AreFields []
  no_fields = All-nil (λ (e : Entry). IsOneField separator quotes e.field)

  one_field : (cell : Option Address) (name : List ℕ) → IsOneField separator quotes name → (n : ℕ)
      → AreFields (record { cell = cell; field = name; row = n } ∷ [])
  one_field cell name field n =
      All-cons (λ (e : Entry). IsOneField separator quotes e.field) (record { cell = cell; field = name; row = n })
      [] field no_fields

  -- a row as it is read
  record IsRow (row : List ℕ) : Type 0 where
    on_line : is_uncut 10 quotes false row ≡ true
    returnless : quotes ≡ true → is_uncut 13 quotes false row ≡ true
    closed : inside_after quotes false row ≡ false
    sound : quotes ≡ true → quotes_are_sound separator row ≡ true

  row_is : (n : ℕ) (p : Piece) → IsPiece 10 quotes 0 false false p → malformed table.form n p ≡ None
      → IsRow (read_of n (row_body p.0))
  row_is n p piece good =
      let (uncut, after, more) = piece in
      let (returns, ended, stray) = faultless _ _ _ _ _ _ _ _ good in
      let body = row_body p.0 in
      let u = body_uncut quotes p.0 (record { uncut = uncut; inside_is = after ∙ ended }) in
      record {
        on_line = read_keeps quotes (λ l. is_uncut 10 quotes false l ≡ true) (uncut_less 10 quotes) n body u.uncut;
        returnless =
            λ is. read_keeps quotes (λ l. is_uncut 13 quotes false l ≡ true) (uncut_less 13 quotes) n body
            (no_return quotes body returns is);
        closed = read_keeps quotes (λ l. inside_after quotes false l ≡ false) (closed_less quotes) n body u.inside_is;
        sound = all_sound quotes (quotes_are_sound separator (read_of n body)) stray;
      }

  field_is : (row field : List ℕ) (k : ℕ) → IsRow row → piece_at k (cut separator quotes false row) ≡ Some field
      → IsOneField separator quotes (trimmed field)
  field_is row field k r is =
      let lines = cut_pieces separator quotes 10 true quote false row (λ a. (r.on_line, r.closed)) in
      let returns = cut_pieces separator quotes 13 quotes quote false row (λ a. (r.returnless a, r.closed)) in
      let (uncut, more) =
      piece_found separator quotes 10 true quote k (cut separator quotes false row) field lines is in
      let (same, others) =
      piece_found separator quotes 13 quotes quote k (cut separator quotes false row) field returns is in
      let whole = trim_uncut separator quotes field uncut in
      let outside = trim_closed quotes field (more refl).1 in
      record {
        uncut = whole;
        on_line = trim_uncut 10 quotes field (more refl).0;
        returnless = λ a. trim_uncut 13 quotes field (others a).0;
        closed = outside;
        trims = trim_again field;
        sound =
            λ a. trimmed_sound separator quote row field k (r.sound a)
            (subst (λ q. piece_at k (cut separator q false row) ≡ Some field) a is)
            (subst (λ q. is_uncut separator q false (trimmed field) ≡ true) a whole)
            (subst (λ q. inside_after q false (trimmed field) ≡ false) a outside);
      }

  name_is : (row name : List ℕ) (k : ℕ) → IsRow row → name_at table.form k row ≡ Some name
      → IsOneField separator quotes name
  name_is row name k r is =
      let go : (o : Option (List ℕ)) → piece_at k (cut separator quotes false row) ≡ o
      → option_map trimmed o ≡ Some name → IsOneField separator quotes name =
      λ o.
      elim o as
      (λ o.
      piece_at k (cut separator quotes false row) ≡ o → option_map trimmed o ≡ Some name
      → IsOneField separator quotes name) [
        | None ↦ λ found named. absurd (cc)
        | Some field ↦
            λ found named. subst (IsOneField separator quotes) (ap (λ o. unwrap_or o name) named)
            (field_is row field k r found)
      ] in
      go (piece_at k (cut separator quotes false row)) refl is

  -- ---- the entries of a row

  abbrev from_ok : {E : Type 0} → Result (List Entry) E → List Entry
  from_ok (Ok entries) = entries
  from_ok (Err e) = []

  same_fields : (xs ys : List Entry) → AreFields xs → xs ≡ ys → AreFields ys
  same_fields xs ys all is = subst AreFields is all

  title_fields : (n : ℕ) (row : List ℕ) (k : ℕ) → IsRow row → (o : Option (List ℕ)) → name_at table.form k row ≡ o
      → AreFields (title_list n o)
  title_fields n row k r None is = no_fields
  title_fields n row k r (Some name) is = one_field None name (name_is row name k r is) n

  header_fields : (n : ℕ) (row : List ℕ) → IsRow row
      → (columns : Result TableColumns ColumnError) (entries : List Entry)
      → (header_found table n row columns).cells ≡ Ok entries → AreFields entries
  header_fields n row r (Ok columns) entries is =
      same_fields _ entries (title_fields n row columns.name r (name_at table.form columns.name row) refl)
      (ap from_ok is)
  header_fields n row r (Err e) entries is = absurd (cc)

  text_fields : (n : ℕ) (row : List ℕ) (k : ℕ) → IsRow row
      → (cell : Result (Option Address) RowError) (o : Option (List ℕ)) → name_at table.form k row ≡ o
      → (entries : List Entry)
      → entries_at n (with_text cell o) ≡ Ok entries → AreFields entries
  text_fields n row k r (Ok None) o named entries is = same_fields [] entries no_fields (ap from_ok is)
  text_fields n row k r (Ok (Some cell)) None named entries is = absurd (cc)
  text_fields n row k r (Ok (Some cell)) (Some name) named entries is =
      same_fields _ entries (one_field (Some cell) name (name_is row name k r named) n) (ap from_ok is)
  text_fields n row k r (Err e) None named entries is = absurd (cc)
  text_fields n row k r (Err e) (Some name) named entries is = absurd (cc)

  if_number_fields : (n : ℕ) (number : Option ℤ) (cell : Address) (name : List ℕ) → IsOneField separator quotes name
      → (entries : List Entry) → entries_at n (if_number number (Some cell, name)) ≡ Ok entries → AreFields entries
  if_number_fields n None cell name field entries is = absurd (cc)
  if_number_fields n (Some number) cell name field entries is =
      same_fields _ entries (one_field (Some cell) name field n) (ap from_ok is)

  number_fields : (n : ℕ) (row : List ℕ) (k : ℕ) → IsRow row
      → (cell : Result (Option Address) RowError) (o : Option (List ℕ)) → name_at table.form k row ≡ o
      → (entries : List Entry)
      → entries_at n (with_number quotes cell o) ≡ Ok entries → AreFields entries
  number_fields n row k r (Ok None) o named entries is = same_fields [] entries no_fields (ap from_ok is)
  number_fields n row k r (Ok (Some cell)) None named entries is = absurd (cc)
  number_fields n row k r (Ok (Some cell)) (Some name) named entries is =
      if_number_fields n (number_in quotes name) cell name (name_is row name k r named) entries is
  number_fields n row k r (Err e) o named entries is = absurd (cc)

  cell_fields : (content : FieldContent) (n : ℕ) (row : List ℕ) (k : ℕ) → IsRow row
      → (cell : Result (Option Address) RowError) (o : Option (List ℕ)) → name_at table.form k row ≡ o
      → (entries : List Entry)
      → entries_at n (with_field content quotes cell o) ≡ Ok entries → AreFields entries
  cell_fields Text n row k r cell o named entries is = text_fields n row k r cell o named entries is
  cell_fields Number n row k r cell o named entries is = number_fields n row k r cell o named entries is

  filled_fields : (n : ℕ) (line : List ℕ) (columns : Option TableColumns) → IsRow (read_of n (row_body line))
      → (entries : List Entry) → (filled_found table n line columns).cells ≡ Ok entries → AreFields entries
  filled_fields n line None r entries is =
      header_fields n (read_of n (row_body line)) r (table_columns table (read_of n (row_body line))) entries is
  filled_fields n line (Some columns) r entries is =
      let row = read_of n (row_body line) in
      cell_fields table.content n row columns.name r
      (cell_read table.form.says (row_cell table.form n columns.cell (row_body line)))
      (name_at table.form columns.name row) refl entries is

  found_fields : (n : ℕ) (columns : Option TableColumns) (p : Piece) → IsPiece 10 quotes 0 false false p
      → (entries : List Entry) → (named_found table n columns p).cells ≡ Ok entries → AreFields entries
  found_fields n columns p piece entries is =
      let empty : (t : Bool) → IsRow (read_of n (row_body p.0))
      → (let found : Found =
      if t then record { cells = Ok []; columns = columns } else filled_found table n p.0 columns in found).cells
      ≡ Ok entries
      → AreFields entries =
      λ t.
      elim t as
      (λ t.
      IsRow (read_of n (row_body p.0))
      → (let found : Found =
      if t then record { cells = Ok []; columns = columns }
      else filled_found table n p.0 columns in found).cells
      ≡ Ok entries
      → AreFields entries) [
        | true ↦ λ r is. same_fields [] entries no_fields (ap from_ok is)
        | false ↦ λ r is. filled_fields n p.0 columns r entries is
      ] in
      let go : (m : Option RowFault) → malformed table.form n p ≡ m
      → (found_unless m table n columns p.0).cells ≡ Ok entries → AreFields entries =
      λ m.
      elim m as
      (λ m.
      malformed table.form n p ≡ m → (found_unless m table n columns p.0).cells ≡ Ok entries
      → AreFields entries) [
        | Some fault ↦ λ bad is. absurd (cc)
        | None ↦ λ good is. empty _ (row_is n p piece good) is
      ] in
      go (malformed table.form n p) refl is

  -- ---- the entries of rows

  before_fields : (first later : Result (List Entry) AnswerError) (entries : List Entry)
      → ((xs : List Entry) → first ≡ Ok xs → AreFields xs) → ((ys : List Entry) → later ≡ Ok ys → AreFields ys)
      → found_before first later ≡ Ok entries → AreFields entries
  before_fields (Ok xs) (Ok ys) entries p q is =
      same_fields (xs ++ ys) entries
      (All-append (λ (e : Entry). IsOneField separator quotes e.field) xs ys (p xs refl) (q ys refl)) (ap from_ok is)
  before_fields (Ok xs) (Err e) entries p q is = absurd (cc)
  before_fields (Err e) later entries p q is = absurd (cc)

  unless_fields : (choice : Choice) (result : Result (List Entry) AnswerError) (entries : List Entry)
      → ((xs : List Entry) → result ≡ Ok xs → AreFields xs) → unless_named choice result ≡ Ok entries
      → AreFields entries
  unless_fields (After k) result entries h is = h entries is
  unless_fields (Named name) result entries h is = absurd (cc)

  end_fields : (columns : Option TableColumns) (entries : List Entry) → named_end table columns ≡ Ok entries
      → AreFields entries
  end_fields (Some columns) entries is = same_fields [] entries no_fields (ap from_ok is)
  end_fields None entries is =
      unless_fields table.form.choice (unless_named table.name (Ok [])) entries
      (λ ys one. unless_fields table.name (Ok []) ys (λ xs same. same_fields [] xs no_fields (ap from_ok same)) one) is

  named_fields : (n : ℕ) (columns : Option TableColumns) (rows : List Piece) → ArePieces 10 quotes 0 false false rows
      → (entries : List Entry) → named_then (named_end table) table n columns rows ≡ Ok entries → AreFields entries
  named_fields n columns [] h entries is = end_fields columns entries is
  named_fields n columns (p ∷ ps) h entries is =
      let found = named_found table n columns p in
      before_fields found.cells (named_then (named_end table) table (next_number n p.0) found.columns ps) entries
      (found_fields n columns p h.0) (named_fields (next_number n p.0) found.columns ps h.1) is

pub entries_are_fields : EntriesAreFields
entries_are_fields table list entries quote is =
    let quotes = table.form.quotes in
    let rows =
    without_last 10 quotes 0 false refl false (pieces_of quotes list)
    (cut_pieces 10 quotes 0 false refl false list (λ a. absurd (cc))) in
    named_fields table quote 1 (table_first table) (rows_of quotes list) rows entries is

-- ---- names

module _ (P : List ℕ → Type 0) (quotes : Bool) where
  cells_hold : (entries : List Entry) → All (λ e. P e.field) entries → All (λ c. P c.1) (cells_among entries)
  cells_hold [] h = All-nil (λ (c : NamedCell). P c.1)
  cells_hold (e ∷ es) h =
      let first : P e.field = All-head (λ (e : Entry). P e.field) e es h in
      let later = cells_hold es (All-tail (λ (e : Entry). P e.field) e es h) in
      let go : (cell : Option Address) → All (λ c. P c.1) (named_before cell e.field (cells_among es)) =
      λ cell. elim cell as (λ cell. All (λ c. P c.1) (named_before cell e.field (cells_among es))) [
        | None ↦ later
        | Some cell ↦ All-cons (λ (c : NamedCell). P c.1) (cell, e.field) (cells_among es) first later
      ] in
      go e.cell

  names_hold : (names : List (List ℕ)) (cells : List NamedCell) → All P names → All (λ c. P c.1) cells
      → All P (names_after quotes names cells)
  names_hold names [] h k = h
  names_hold names (c ∷ cs) h k =
      let go : (place : Option ℕ) → All P (with_place place names c.1) =
      λ place.
      elim place as (λ place. All P (with_place place names c.1))
      [ None ↦ All-push P names c.1 h (All-head (λ (c : NamedCell). P c.1) c cs k) | Some j ↦ h ] in
      names_hold (areas.with_name quotes names c.1) cs (go (place_of quotes (name_text quotes c.1) names))
      (All-tail (λ (c : NamedCell). P c.1) c cs k)

pub names_are_fields : NamesAreFields
names_are_fields table list entries quote is =
    let IsName = IsOneField table.form.separator table.form.quotes in
    names_hold IsName table.form.quotes [] (cells_among entries) (All-nil IsName)
    (cells_hold IsName table.form.quotes entries (entries_are_fields table list entries quote is))
