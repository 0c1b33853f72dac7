-- The rows of new names are the first rows of areas.
use Rattle.std.proofs.Common.{◌≡◌, ℕ, ◌+◌, ◌<◌, Bool, true, false, ◌&&◌, if◌then◌else◌, List, [], ◌∷◌, ◌++◌, length, map, Option, None, Some, is_some, unwrap_or, arith, sym, ap, ◌∙◌, refl, append-nil, append_assoc, bytes_eq, All, ⊎_elim}
use Rattle.std.proofs.lemmas.Bool.{cases_Bool}
use Rattle.std.proofs.lemmas.List.Elements.{All-cons, All-head, All-nil, All-tail}
use Rattle.std.specs.Cmp.Lexicographic.{bytes_decides}
use Rattle.h3_index.specs.Cell.{Address}
use Rattle.h3_rows.specs.AreaLaws.{name_put, names_put, place_with, position_stays, row_put, rows_after, same_bytes, with_row}
use Rattle.h3_rows.specs.Areas.{cells_among, first_row, first_rows, name_text, names_after, number_for, place_of, with_name, with_place}
use Rattle.h3_rows.specs.Named.{Entry}
use Rattle.h3_rows.proofs.AreaNames.{position_below}

all_both : (P Q R : Entry → Type 0) → ((d : Entry) → P d → Q d → R d) → (l : List Entry) → All P l → All Q l → All R l
all_both P Q R more [] p q = All-nil R
all_both P Q R more (d ∷ ds) p q =
    All-cons R d ds (more d (All-head P d ds p) (All-head Q d ds q))
    (all_both P Q R more ds (All-tail P d ds p) (All-tail Q d ds q))

-- a name with the number after all others has no place yet
pub row_of_new : (quotes : Bool) (names : List (List ℕ)) (name : List ℕ) (rows : List ℕ) (row : ℕ)
    → number_for quotes names name ≡ length names
    → rows ++ row ∷ [] ≡ with_row (place_of quotes (name_text quotes name) names) rows row
row_of_new quotes names name rows row is =
    let text = name_text quotes name in
    let go : (place : Option ℕ) → place_of quotes text names ≡ place → unwrap_or place (length names) ≡ length names
    → rows ++ row ∷ [] ≡ with_row place rows row =
    λ place.
    elim place as
    (λ place.
    place_of quotes text names ≡ place → unwrap_or place (length names) ≡ length names
    → rows ++ row ∷ [] ≡ with_row place rows row) [
      | None ↦ λ found same. refl
      | Some k ↦ λ found same.
          (let below : k < 0 + length names =
          position_below (λ n. bytes_eq text (name_text quotes n)) 0 k names found in
          absurd (omega (arith, below, same)))
    ] in
    go (place_of quotes text names) refl is

-- the entries with cells whose names are new
abbrev put_new : Option Address → Option ℕ → Entry → List Entry → List Entry
put_new None place e rest = rest
put_new (Some cell) (Some k) e rest = rest
put_new (Some cell) None e rest = e ∷ rest

fields_placed : (place : Option ℕ) (names : List (List ℕ)) (c : Address) (e : Entry) (l : List Entry)
    → with_place place names e.field ++ map (λ e. e.field) l ≡ names ++ map (λ e. e.field) (put_new (Some c) place e l)
fields_placed (Some k) names c e l = refl
fields_placed None names c e l = append_assoc names (e.field ∷ []) (map (λ e. e.field) l)

rows_placed : (cell : Option Address) (place : Option ℕ) (rows : List ℕ) (e : Entry) (l : List Entry)
    → row_put cell place rows e.row ++ map (λ e. e.row) l ≡ rows ++ map (λ e. e.row) (put_new cell place e l)
rows_placed None place rows e l = refl
rows_placed (Some c) (Some k) rows e l = refl
rows_placed (Some c) None rows e l = append_assoc rows (e.row ∷ []) (map (λ e. e.row) l)

module _ (quotes : Bool) where
  abbrev text : Entry → List ℕ
  text e = name_text quotes e.field

  abbrev new_entries : List (List ℕ) → List Entry → List Entry
  new_entries names [] = []
  new_entries names (e ∷ es) =
      put_new e.cell (place_of quotes (name_text quotes e.field) names) e
      (new_entries (name_put e.cell quotes names e.field) es)

  fields_put : (cell : Option Address) (names : List (List ℕ)) (e : Entry) (l : List Entry)
      → name_put cell quotes names e.field ++ map (λ e. e.field) l
      ≡ names ++ map (λ e. e.field) (put_new cell (place_of quotes (name_text quotes e.field) names) e l)
  fields_put None names e l = refl
  fields_put (Some c) names e l = fields_placed (place_of quotes (name_text quotes e.field) names) names c e l

  names_are : (names : List (List ℕ)) (es : List Entry)
      → names_after quotes names (cells_among es) ≡ names ++ map (λ e. e.field) (new_entries names es)
  names_are names [] = sym (append-nil names)
  names_are names (e ∷ es) =
      let put = name_put e.cell quotes names e.field in
      names_put quotes names e es ∙ names_are put es ∙ fields_put e.cell names e (new_entries put es)

  rows_are : (names : List (List ℕ)) (rows : List ℕ) (es : List Entry)
      → rows_after quotes names rows es ≡ rows ++ map (λ e. e.row) (new_entries names es)
  rows_are names rows [] = sym (append-nil rows)
  rows_are names rows (e ∷ es) =
      let place = place_of quotes (name_text quotes e.field) names in
      let put = name_put e.cell quotes names e.field in
      rows_are put (row_put e.cell place rows e.row) es ∙ rows_placed e.cell place rows e (new_entries put es)

  -- ---- a new name has no place among those before it

  placed_back : (place o : Option ℕ) (names : List (List ℕ)) (field t : List ℕ) → place_of quotes t names ≡ o
      → place_of quotes t (with_place place names field) ≡ None → place_of quotes t names ≡ None
  placed_back (Some j) o names field t is none = none
  placed_back None None names field t is none = is
  placed_back None (Some k) names field t is none =
      let stays : place_of quotes t (names ++ field ∷ []) ≡ Some k =
      position_stays (λ name. bytes_eq t (name_text quotes name)) 0 k names (field ∷ []) is in
      let never : ◌≡◌ {A = Option ℕ} None (Some k) = sym none ∙ stays in
      absurd (cc)

  place_back : (cell : Option Address) (names : List (List ℕ)) (field t : List ℕ)
      → place_of quotes t (name_put cell quotes names field) ≡ None → place_of quotes t names ≡ None
  place_back None names field t none = none
  place_back (Some c) names field t none =
      placed_back (place_of quotes (name_text quotes field) names) (place_of quotes t names) names field t refl none

  other_text : (names : List (List ℕ)) (field t : List ℕ) → place_of quotes t (with_name quotes names field) ≡ None
      → bytes_eq t (name_text quotes field) ≡ false
  other_text names field t none =
      let own = name_text quotes field in
      ⊎_elim
      (λ (y : bytes_eq t own ≡ true). (
      let same : t ≡ own = (bytes_decides t own).0 y in
      let never : ◌≡◌ {A = Option ℕ} None (Some (number_for quotes names field)) =
      sym none ∙ ap (λ l. place_of quotes l (with_name quotes names field)) same ∙ place_with quotes names field in
      absurd (cc)))
      (λ (n : bytes_eq t own ≡ false). n)
      (cases_Bool (bytes_eq t own))

  abbrev IsNew : List (List ℕ) → Entry → Type 0
  IsNew names d = place_of quotes (name_text quotes d.field) names ≡ None

  are_new : (names : List (List ℕ)) (es : List Entry) → All (IsNew names) (new_entries names es)
  are_new names [] = All-nil (IsNew names)
  are_new names (e ∷ es) =
      let put = name_put e.cell quotes names e.field in
      let rest = new_entries put es in
      let later = are_new put es in
      let before : All (IsNew names) rest =
      all_both (IsNew put) (IsNew put) (IsNew names)
      (λ d p q. place_back e.cell names e.field (name_text quotes d.field) p) rest later later in
      let go : (cell : Option Address) (place : Option ℕ) → place_of quotes (name_text quotes e.field) names ≡ place
      → All (IsNew names) (put_new cell place e rest) =
      λ cell place.
      elim cell as
      (λ cell.
      place_of quotes (name_text quotes e.field) names ≡ place
      → All (IsNew names) (put_new cell place e rest)) [
        | None ↦ λ is. before
        | Some c ↦
            elim place as (λ place. place_of quotes (name_text quotes e.field) names ≡ place → All (IsNew names)
            (put_new (Some c) place e rest)) [
              | Some k ↦ λ is. before
              | None ↦ λ is. All-cons
                  (IsNew names) e rest is before
            ]
      ] in
      go e.cell (place_of quotes (name_text quotes e.field) names) refl

  -- ---- and its row is the first with its text

  abbrev IsFirst : List Entry → Entry → Type 0
  IsFirst es d = first_row quotes (name_text quotes d.field) es ≡ d.row

  not_had : (cell : Option Address) (names : List (List ℕ)) (field t : List ℕ)
      → place_of quotes t (name_put cell quotes names field) ≡ None
      → (is_some cell && bytes_eq t (name_text quotes field)) ≡ false
  not_had None names field t none = refl
  not_had (Some c) names field t none = other_text names field t none

  are_first : (names : List (List ℕ)) (es : List Entry) → All (IsFirst es) (new_entries names es)
  are_first names [] = All-nil (IsFirst [])
  are_first names (e ∷ es) =
      let put = name_put e.cell quotes names e.field in
      let rest = new_entries put es in
      let own = name_text quotes e.field in
      let later : All (IsFirst (e ∷ es)) rest =
      all_both (IsNew put) (IsFirst es) (IsFirst (e ∷ es))
      (λ d none first.
      ap (λ b. if b then e.row else first_row quotes (name_text quotes d.field) es)
      (not_had e.cell names e.field (name_text quotes d.field) none)
      ∙ first)
      rest (are_new put es) (are_first put es) in
      let here : (c : Address) → e.cell ≡ Some c → IsFirst (e ∷ es) e =
      λ c is.
      ap (λ o. if is_some o && bytes_eq own own then e.row else first_row quotes own es) is
      ∙ ap (λ b. if b then e.row else first_row quotes own es) (same_bytes own) in
      let go : (cell : Option Address) (place : Option ℕ) → e.cell ≡ cell
      → All (IsFirst (e ∷ es)) (put_new cell place e rest) =
      λ cell place. elim cell as (λ cell. e.cell ≡ cell → All (IsFirst (e ∷ es)) (put_new cell place e rest)) [
        | None ↦ λ is. later
        | Some c ↦
            elim place as (λ place. e.cell ≡ Some c → All (IsFirst (e ∷ es)) (put_new (Some c) place e rest)) [
              | Some k ↦ λ is. later
              | None ↦ λ is. All-cons (IsFirst (e ∷ es)) e rest (here c is) later
            ]
      ] in
      go e.cell (place_of quotes own names) refl

  rows_of_first : (es l : List Entry) → All (IsFirst es) l
      → map (λ name. first_row quotes (name_text quotes name) es) (map (λ e. e.field) l) ≡ map (λ e. e.row) l
  rows_of_first es [] all = refl
  rows_of_first es (d ∷ ds) all =
      ap (λ n. n ∷ map (λ name. first_row quotes (name_text quotes name) es) (map (λ e. e.field) ds))
      (All-head (IsFirst es) d ds all)
      ∙ ap (λ l. d.row ∷ l) (rows_of_first es ds (All-tail (IsFirst es) d ds all))

  pub rows_are_first : (es : List Entry) → rows_after quotes [] [] es ≡ first_rows quotes es
  rows_are_first es =
      let news = new_entries [] es in
      rows_are [] [] es ∙ sym (rows_of_first es news (are_first [] es))
      ∙ ap (map (λ name. first_row quotes (name_text quotes name) es)) (sym (names_are [] es))
