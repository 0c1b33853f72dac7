-- The names of new columns, put one after another.
use Rattle.std.proofs.Common.{◌≡◌, ℕ, nat_eq, ◌≤◌, ◌&&◌, Bool, true, false, length, take, drop, arith, subst, Ok, Err, List, [], ◌∷◌, ◌++◌, Option, Some, Result, sym, ap, ◌∙◌, refl, append-nil, append_assoc}
use Rattle.std.proofs.lemmas.Grind.{flat_map-append}
use Rattle.std.specs.List.{flat_map}
use Rattle.std.specs.Str.{bytes_eq}
use Rattle.h3_lines.specs.Answer.{Answer}
use Rattle.h3_lines.specs.Answering.{Moves}
use Rattle.h3_rows.specs.Answering.{PutsBeside, PutsCell, listed}
use Rattle.h3_rows.specs.Line.{line_of}
use Rattle.h3_rows.specs.Row.{row_ending}
use Rattle.h3_rows.specs.RowForm.{columns_form, form_with}
use Rattle.h3_rows.specs.RowsAnswer.{Choice, After, Named, Form, answer_to_cell, answered_with, choice_of, chosen_in, columns_in, error_field, free_columns, rows_with, unanswered, width_in, with_width}
use Rattle.h3_rows.specs.declared.state.Columns.{Columns}
use Rattle.h3_rows.specs.declared.row_cell.RowCell.{RowCell}
use Rattle.h3_rows.specs.declared.row_cell.RowCell.TheVariants.{Index}
use Rattle.h3_lines.specs.declared.run_error.ColumnError.{ColumnError}
use Rattle.h3_lines.specs.declared.run_error.RowFault.{RowFault}
use Rattle.h3_requests.specs.declared.rows.RowOptions.{RowOptions}
use Rattle.h3_rows.specs.declared.row.Row.{Row}
use Rattle.h3_rows.proofs.Returns.{body_of_row}

-- the names by their parts are those of a form
pub names_by_parts : (sep : ℕ) (first : List ℕ) (second error : Option (List ℕ)) (answers errors : List (List ℕ))
    → answers ≡ first ∷ listed second → errors ≡ listed error
    → flat_map (λ n. sep ∷ n) (listed (Some first))
    ++ (flat_map (λ n. sep ∷ n) (listed second) ++ flat_map (λ n. sep ∷ n) (listed error))
    ≡ flat_map (λ n. sep ∷ n) (answers ++ errors)
names_by_parts sep first second error answers errors a e =
    let f = λ (n : List ℕ). sep ∷ n in
    ap (λ l. l ++ (flat_map f (listed second) ++ flat_map f (listed error))) (append-nil (sep ∷ first))
    ∙ ap (λ l. (sep ∷ first) ++ l) (sym (flat_map-append f (listed second) (listed error)))
    ∙ ap (λ l. flat_map f (l ++ listed error)) (sym a) ∙ ap (λ l. flat_map f (answers ++ l)) (sym e)

-- ---- the columns by a header, whether quotes count in answers or not

module _ (quoted : Bool) (options : RowOptions) (name : List ℕ) (is_pair : Bool) (row : List ℕ) where
  chosen_same : (choice : Choice)
      → chosen_in (columns_form options name is_pair) choice row
      ≡ chosen_in (form_with quoted options name is_pair) choice row
  chosen_same (After k) = refl
  chosen_same (Named wanted) = refl

  free_same : (columns : Result Columns ColumnError)
      → free_columns (columns_form options name is_pair) row columns
      ≡ free_columns (form_with quoted options name is_pair) row columns
  free_same (Err e) = refl
  free_same (Ok columns) = refl

  pub free_columns_same : free_columns (columns_form options name is_pair) row
      (columns_in (columns_form options name is_pair) row)
      ≡ free_columns (form_with quoted options name is_pair) row
      (columns_in (form_with quoted options name is_pair) row)
  free_columns_same =
      let form = form_with quoted options name is_pair in
      free_same (columns_in (columns_form options name is_pair) row)
      ∙ ap (λ found. free_columns form row (with_width (width_in form row) found))
      (chosen_same (choice_of options.field))

-- ---- a name in two parts

both : (x y : Bool) → (x && y) ≡ true → (x ≡ true) × (y ≡ true)
both true y h = (refl, h)
both false y h = absurd (cc)

pub eq_after : (text first more : List ℕ) → bytes_eq (take (length first) text) first ≡ true
    → bytes_eq (drop (length first) text) more ≡ bytes_eq text (first ++ more)
eq_after text [] more h = refl
eq_after [] (f ∷ fs) more h = absurd (cc h)
eq_after (t ∷ ts) (f ∷ fs) more h =
    let (one, rest) = both (nat_eq t f) (bytes_eq (take (length fs) ts) fs) h in
    rw one (eq_after ts fs more rest)

pub other_after : (text first more : List ℕ) → length first ≤ length text
    → bytes_eq (take (length first) text) first ≡ false → false ≡ bytes_eq text (first ++ more)
other_after text [] more fits h = absurd (cc h)
other_after [] (f ∷ fs) more fits h = refl
other_after (t ∷ ts) (f ∷ fs) more fits h =
    let go : (x : Bool) → nat_eq t f ≡ x → false ≡ (x && bytes_eq ts (fs ++ more)) =
    λ x. elim x as (λ x. nat_eq t f ≡ x → false ≡ (x && bytes_eq ts (fs ++ more))) [
      | true ↦ λ is. other_after ts fs more (omega (arith, fits)) (rw is at h)
      | false ↦ λ is. refl
    ] in
    go (nat_eq t f) refl

-- two names, of which each is in two parts
same_names : (first more whole end : List ℕ) → length first ≤ length whole
    → (bytes_eq first (take (length first) whole) && bytes_eq more (drop (length first) whole ++ end))
    ≡ bytes_eq (first ++ more) (whole ++ end)
same_names [] more whole end fits = refl
same_names (f ∷ fs) more [] end fits = absurd (omega (arith, fits))
same_names (f ∷ fs) more (w ∷ ws) end fits =
    let go : (x : Bool)
    → ((x && bytes_eq fs (take (length fs) ws)) && bytes_eq more (drop (length fs) ws ++ end))
    ≡ (x && bytes_eq (fs ++ more) (ws ++ end)) =
    λ x.
    elim x as
    (λ x.
    ((x && bytes_eq fs (take (length fs) ws)) && bytes_eq more (drop (length fs) ws ++ end))
    ≡ (x && bytes_eq (fs ++ more) (ws ++ end)))
    [ true ↦ same_names fs more ws end (omega (arith, fits)) | false ↦ refl ] in
    go (nat_eq f w)

pub same_if_begun : (first more whole end : List ℕ) → length first ≤ length whole
    → bytes_eq first (take (length first) whole) ≡ true
    → bytes_eq more (drop (length first) whole ++ end) ≡ bytes_eq (first ++ more) (whole ++ end)
same_if_begun first more whole end fits begun =
    sym (ap (λ t. t && bytes_eq more (drop (length first) whole ++ end)) begun) ∙ same_names first more whole end fits

pub other_unless_begun : (first more whole end : List ℕ) → length first ≤ length whole
    → bytes_eq first (take (length first) whole) ≡ false → false ≡ bytes_eq (first ++ more) (whole ++ end)
other_unless_begun first more whole end fits begun =
    sym (ap (λ t. t && bytes_eq more (drop (length first) whole ++ end)) begun) ∙ same_names first more whole end fits

-- ---- a row without an answer, by its parts

pub unanswered_parts : (form : Form) (r : Row) (name : List ℕ)
    → (r.body.now ++ (form.separator ∷ form.empty)) ++ (error_field form name ++ row_ending (line_of r))
    ≡ unanswered form (line_of r) name
unanswered_parts form r name =
    append_assoc r.body.now (form.separator ∷ form.empty) (error_field form name ++ row_ending (line_of r))
    ∙ ap (λ l. r.body.now ++ (form.separator ∷ l))
    (sym (append_assoc form.empty (error_field form name) (row_ending (line_of r))))
    ∙ ap (λ l. l ++ (form.separator ∷ ((form.empty ++ error_field form name) ++ row_ending (line_of r))))
    (sym (body_of_row r.body.now r.returns r.bare))

-- a row with the answers to its cell, which are put beside it
pub puts_cell : {S : Type 0} (form : Form) (answer : Option ℕ → Answer) (said : Result RowCell RowFault)
    (line held held' after : List ℕ) (index : ℕ) (taken : S → Option (List ℕ)) (failed : S → Bool) (x y : S)
    → said ≡ Ok (Index index) → after ≡ error_field form []
    → PutsBeside taken failed (answer (Some index)) form.separator form.quoted_answers after line held held' x y
    → PutsCell taken failed (λ s. answer_to_cell form answer s line said) line held held' x y
puts_cell form answer said line held held' after index taken failed x y says is puts = record {
  text = answered_with form line puts.text;
  is = λ s. rw (says, puts.is) refl;
  moves =
      subst (λ l. Moves taken failed
      (held ++ rows_with form.separator form.quoted_answers l line puts.text) held' x y) is puts.moves;
}
