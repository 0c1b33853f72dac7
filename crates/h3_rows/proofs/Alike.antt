-- Fields that are cut as other programs cut them, and carriage returns outside quotes.
use Rattle.std.proofs.Common.{◌≡◌, ℕ, ◌==◌, Bool, true, false, not, ◌&&◌, ◌||◌, List, [], ◌∷◌, ◌++◌, ◌<◌, ◌≤◌, length, get_or, take_all, subst, sym, ap, ◌∙◌, refl, arith}
use Rattle.std.proofs.lemmas.List.Elements.{All-get_or}
use Rattle.std.proofs.lemmas.List.Sums.{AllPass-from_list_all}
use Rattle.std.specs.List.{list_all}
use Rattle.memchr.specs.Find.{is_byte2}
use Rattle.h3_lines.specs.Pieces.{CutsAt, Uncut, cut, inside_after, is_uncut, turned}
use Rattle.h3_lines.specs.PiecesLaws.{and_false, cut_at_end}
use Rattle.h3_lines.specs.ScanLaws.{none_below}
use Rattle.h3_rows.specs.Row.{is_padded, is_read_alike, is_simple}
use Rattle.h3_rows.proofs.Finding.{cuts_first, same_mark}

and_true : (x : Bool) → (x && true) ≡ x
and_true true = refl
and_true false = refl

-- a mark outside quotes cuts
mark_cuts : (mark : ℕ) (quotes inside : Bool) (before after : List ℕ) → inside_after quotes inside before ≡ false
    → is_uncut mark quotes inside (before ++ mark ∷ after) ≡ false
mark_cuts mark quotes inside [] after outside = rw (outside, same_mark mark) refl
mark_cuts mark quotes inside (b ∷ bs) after outside =
    rw (mark_cuts mark quotes (turned quotes inside b) bs after outside) (and_false (not ((b == mark) && not inside)))

pub cut_is_not_uncut : (mark : ℕ) (quotes : Bool) (bytes before after : List ℕ)
    → CutsAt mark quotes false bytes before after → is_uncut mark quotes false bytes ≡ false
cut_is_not_uncut mark quotes bytes before after c =
    ap (is_uncut mark quotes false) c.split ∙ mark_cuts mark quotes false before after c.begins.inside_is

-- the fields after the first one
pub alike_first : (separator : ℕ) (bytes before after : List ℕ) → CutsAt separator true false bytes before after
    → list_all (λ p. is_read_alike separator p.0) (cut separator true false bytes)
    ≡ (is_read_alike separator before
    && list_all (λ p. is_read_alike separator p.0) (cut separator true false after))
alike_first separator bytes before after c =
    ap (list_all (λ p. is_read_alike separator p.0)) (cuts_first separator true bytes before after c)

pub alike_last : (separator : ℕ) (bytes : List ℕ) (end : Bool) → Uncut separator true false bytes end
    → list_all (λ p. is_read_alike separator p.0) (cut separator true false bytes) ≡ is_read_alike separator bytes
alike_last separator bytes end u =
    ap (list_all (λ p. is_read_alike separator p.0)) (cut_at_end separator true false bytes u.uncut)
    ∙ and_true (is_read_alike separator bytes)

or_true : (x : Bool) → (x || true) ≡ true
or_true true = refl
or_true false = refl

-- a field without a separator and a line feed
pub unmarked_field : (separator : ℕ) (field : List ℕ)
    → ((j : ℕ) → 0 ≤ j → j < length field → is_byte2 separator 10 (get_or field j 0) ≡ true → ⊥)
    → true ≡ is_read_alike separator field
unmarked_field separator field none =
    let simple : is_simple separator field ≡ true =
    subst (λ l. list_all (λ b. not (is_byte2 separator 10 b)) l ≡ true)
    (take_all (length field) field (omega arith))
    (none_below (is_byte2 separator 10) field (length field) (omega arith) none) in
    sym (rw simple (or_true (not (is_padded field))))

-- a padded field with one
pub marked_field : (separator : ℕ) (field : List ℕ) (at : ℕ) → at < length field
    → is_byte2 separator 10 (get_or field at 0) ≡ true → is_padded field ≡ true → false ≡ is_read_alike separator field
marked_field separator field at within marked padded =
    let go : (t : Bool) → is_simple separator field ≡ t → t ≡ false =
    λ t. elim t as (λ t. is_simple separator field ≡ t → t ≡ false) [
      | true ↦ λ is. (
          let other =
          All-get_or (λ b. not (is_byte2 separator 10 b) ≡ true) field at 0 within
          (AllPass-from_list_all (λ b. not (is_byte2 separator 10 b)) field is) in
          absurd (cc (marked, other)))
      | false ↦ λ is. refl
    ] in
    sym (rw (padded, go (is_simple separator field) refl) refl)
