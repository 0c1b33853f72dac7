-- Rows with texts beside them.
use Rattle.std.proofs.Common.{◌≡◌, ℕ, ◌==◌, Bool, true, false, not, ◌&&◌, ◌||◌, List, [], ◌∷◌, ◌++◌, if◌then◌else◌, sym, ap, ◌∙◌, refl, arith}
use Rattle.std.proofs.lemmas.Bool.Decides.{nat_tests}
use Rattle.std.proofs.lemmas.List.Folds.{list_all-append}
use Rattle.std.specs.List.{list_all}
use Rattle.h3_index.specs.Text.{is_blank}
use Rattle.h3_lines.specs.Pieces.{Piece, Uncut, cut, inside_after}
use Rattle.h3_rows.specs.Laws.{TextsAreKept, TextsStandOnce, TextsStaySound}
use Rattle.h3_rows.specs.Row.{is_read_alike, opens_well}
use Rattle.h3_rows.proofs.Alike.{alike_last}
use Rattle.h3_rows.proofs.Beside.{one_with}
use Rattle.h3_rows.proofs.CutAgain.{both_true, fields_are_kept}
use Rattle.h3_rows.proofs.Finding.{same_mark}

pub texts_stand_once : TextsStandOnce
texts_stand_once separator quotes after row text uncut closed =
    one_with separator quotes after row text (record { uncut = uncut; inside_is = closed })

pub texts_are_kept : TextsAreKept
texts_are_kept separator quotes row text quote closed field =
    fields_are_kept separator quotes row text quote closed field.uncut field.closed

opens_if : (x y : Bool) → (if x then y else false) ≡ true → (x ≡ true) × (y ≡ true)
opens_if true y h = (refl, h)
opens_if false y h = absurd (cc)

flipped : (separator : ℕ) → (34 == separator) ≡ false → (separator == 34) ≡ false
flipped separator quote = grind (arith, nat_tests)

-- quotes that open in their places, in a row and in a field after it
well_then : (separator : ℕ) (start after inside : Bool) (row field : List ℕ) → (34 == separator) ≡ false
    → inside_after true inside row ≡ false → opens_well separator start after inside row ≡ true
    → opens_well separator true false false field ≡ true
    → opens_well separator start after inside (row ++ separator ∷ field) ≡ true
well_then separator start after inside [] field quote closed well more =
    rw (flipped separator quote, closed, same_mark separator) more
well_then separator start after inside (b ∷ bs) field quote closed well more =
    let next = not inside && (b == separator || (start && is_blank b)) in
    let go : (q : Bool) → inside_after true (if q then not inside else inside) bs ≡ false
    → (if q then (if inside || start || after then opens_well separator false true (not inside) bs else false)
    else opens_well separator next false inside bs)
    ≡ true
    → (if q
    then (if inside || start
    || after then opens_well separator false true (not inside) (bs ++ separator ∷ field) else false)
    else opens_well separator next false inside (bs ++ separator ∷ field))
    ≡ true =
    λ q. elim q as (λ q. inside_after true (if q then not inside else inside) bs ≡ false
    → (if q then (if inside || start || after then opens_well separator false true (not inside) bs else false)
    else opens_well separator next false inside bs)
    ≡ true
    → (if q
    then (if inside || start
    || after then opens_well separator false true (not inside) (bs ++ separator ∷ field) else false)
    else opens_well separator next false inside (bs ++ separator ∷ field))
    ≡ true) [
      | true ↦ λ shut sound. (
          let (may, rest) =
          opens_if (inside || start || after) (opens_well separator false true (not inside) bs) sound in
          rw may (well_then separator false true (not inside) bs field quote shut rest more))
      | false ↦ λ shut sound. well_then separator next false inside bs field quote shut sound more
    ] in
    go (b == 34) closed well

pub texts_stay_sound : TextsStaySound
texts_stay_sound separator row text quote closed sound uncut shut own_sound =
    let alike : Piece → Bool = λ p. is_read_alike separator p.0 in
    let (opens, all) =
    both_true (opens_well separator true false false row)
    (list_all (λ p. is_read_alike separator p.0) (cut separator true false row)) sound in
    let (well, own) =
    both_true (opens_well separator true false false text)
    (list_all (λ p. is_read_alike separator p.0) (cut separator true false text)) own_sound in
    let whole : Uncut separator true false text false = record { uncut = uncut; inside_is = shut } in
    let last : is_read_alike separator text ≡ true = sym (alike_last separator text false whole) ∙ own in
    let both : list_all (λ p. is_read_alike separator p.0) (cut separator true false (row ++ separator ∷ text)) ≡ true =
    ap (list_all alike) (fields_are_kept separator true row text quote closed uncut shut)
    ∙ list_all-append alike (cut separator true false row) ((text, false) ∷ []) ∙ rw (all, last) refl in
    rw (well_then separator true false false row text quote closed opens well, both) refl
