-- Laws of names and the numbers of cells. Implementations that state them and proofs alone cite this file.
use Rattle.std.proofs.Common.{◌≡◌, ℕ, ◌+◌, Bool, true, false, cond, List, [], ◌∷◌, ◌++◌, length, map, Option, None, Some, unwrap_or, bytes_eq, sym, ap, ◌∙◌, refl, append_assoc, append-nil, arith}
use Rattle.std.specs.Cmp.Lexicographic.{bytes_decides}
use Rattle.std.specs.List.{position_from}
use Rattle.h3_index.specs.Cell.{Address}
use Rattle.h3_rows.specs.Areas.{NamedCell, cells_among, in_area, name_text, named_before, names_after, number_for, numbered, place_of, title_after, title_with, with_name, with_place}
use Rattle.h3_rows.specs.Named.{Entry}

names_then : (quotes : Bool) (names : List (List ℕ)) (xs ys : List NamedCell)
    → names_after quotes names (xs ++ ys) ≡ names_after quotes (names_after quotes names xs) ys
names_then quotes names [] ys = refl
names_then quotes names (x ∷ xs) ys = names_then quotes (with_name quotes names x.1) xs ys

numbers_then : (quotes : Bool) (names : List (List ℕ)) (xs ys : List NamedCell)
    → numbered quotes names (xs ++ ys) ≡ numbered quotes names xs ++ numbered quotes (names_after quotes names xs) ys
numbers_then quotes names [] ys = refl
numbers_then quotes names (x ∷ xs) ys =
    ap (λ l. (x.0, number_for quotes names x.1) ∷ l) (numbers_then quotes (with_name quotes names x.1) xs ys)

-- the cells among both
among_both : (xs ys : List Entry) → cells_among (xs ++ ys) ≡ cells_among xs ++ cells_among ys
among_both [] ys = refl
among_both (x ∷ xs) ys =
    let go : (cell : Option Address)
    → named_before cell x.field (cells_among (xs ++ ys))
    ≡ named_before cell x.field (cells_among xs) ++ cells_among ys =
    λ cell.
    elim cell as
    (λ cell.
    named_before cell x.field (cells_among (xs ++ ys))
    ≡ named_before cell x.field (cells_among xs) ++ cells_among ys)
    [ None ↦ among_both xs ys | Some c ↦ ap (λ l. (c, x.field) ∷ l) (among_both xs ys) ] in
    go x.cell

title_then : (title : Option (List ℕ)) (xs ys : List Entry)
    → title_after title (xs ++ ys) ≡ title_after (title_after title xs) ys
title_then title [] ys = refl
title_then title (x ∷ xs) ys = title_then (title_with title x.cell x.field) xs ys

-- ---- the rows of names that are new

-- with_row place rows row: the rows, and this one behind them unless its name has a place
abbrev pub with_row : Option ℕ → List ℕ → ℕ → List ℕ
with_row (Some k) rows row = rows
with_row None rows row = rows ++ row ∷ []

-- row_put cell place rows row: the same of a row that has a cell
abbrev pub row_put : Option Address → Option ℕ → List ℕ → ℕ → List ℕ
row_put None place rows row = rows
row_put (Some cell) place rows row = with_row place rows row

-- name_put cell quotes names name: the names, with that of a row that has a cell
abbrev pub name_put : Option Address → Bool → List (List ℕ) → List ℕ → List (List ℕ)
name_put None quotes names name = names
name_put (Some cell) quotes names name = with_name quotes names name

-- rows_after quotes names rows entries: the rows, and behind them those of entries with cells whose names are new
abbrev pub rows_after : Bool → List (List ℕ) → List ℕ → List Entry → List ℕ
rows_after quotes names rows [] = rows
rows_after quotes names rows (e ∷ es) =
    rows_after quotes (name_put e.cell quotes names e.field)
    (row_put e.cell (place_of quotes (name_text quotes e.field) names) rows e.row) es

pub names_put : (quotes : Bool) (names : List (List ℕ)) (e : Entry) (es : List Entry)
    → names_after quotes names (cells_among (e ∷ es))
    ≡ names_after quotes (name_put e.cell quotes names e.field) (cells_among es)
names_put quotes names e es =
    let go : (cell : Option Address)
    → names_after quotes names (named_before cell e.field (cells_among es))
    ≡ names_after quotes (name_put cell quotes names e.field) (cells_among es) =
    λ cell.
    elim cell as
    (λ cell.
    names_after quotes names (named_before cell e.field (cells_among es))
    ≡ names_after quotes (name_put cell quotes names e.field) (cells_among es))
    [ None ↦ refl | Some c ↦ refl ] in
    go e.cell

rows_then : (quotes : Bool) (names : List (List ℕ)) (rows : List ℕ) (xs ys : List Entry)
    → rows_after quotes names rows (xs ++ ys)
    ≡ rows_after quotes (names_after quotes names (cells_among xs)) (rows_after quotes names rows xs) ys
rows_then quotes names rows [] ys = refl
rows_then quotes names rows (x ∷ xs) ys =
    let put = name_put x.cell quotes names x.field in
    let next = row_put x.cell (place_of quotes (name_text quotes x.field) names) rows x.row in
    rows_then quotes put next xs ys
    ∙ ap (λ l. rows_after quotes l (rows_after quotes put next xs) ys) (sym (names_put quotes names x xs))

-- from names, cells, rows and a title to others, these entries were taken
abbrev pub TakesEntries : Bool → Bool → List (List ℕ) → List (List ℕ) → List (Address × ℕ) → List (Address × ℕ) → List ℕ
    → List ℕ → Option (List ℕ) → Option (List ℕ) → List Entry → Type 0
TakesEntries quotes quotes' names names' cells cells' rows rows' title title' xs =
    (quotes' ≡ quotes) × (names' ≡ names_after quotes names (cells_among xs))
    × (cells' ≡ cells ++ numbered quotes names (cells_among xs)) × (rows' ≡ rows_after quotes names rows xs)
    × (title' ≡ title_after title xs)

pub numbered_none : (quotes : Bool) (names : List (List ℕ)) (cells : List (Address × ℕ)) (rows : List ℕ)
    (title : Option (List ℕ))
    → TakesEntries quotes quotes names names cells cells rows rows title title []
numbered_none quotes names cells rows title = (refl, refl, sym (append-nil cells), refl, refl)

pub numbered_then : (quotes quotes' quotes'' : Bool) (names names' names'' : List (List ℕ))
    (cells cells' cells'' : List (Address × ℕ)) (rows rows' rows'' : List ℕ) (title title' title'' : Option (List ℕ))
    (xs ys : List Entry)
    → TakesEntries quotes quotes' names names' cells cells' rows rows' title title' xs
    → TakesEntries quotes' quotes'' names' names'' cells' cells'' rows' rows'' title' title'' ys
    → TakesEntries quotes quotes'' names names'' cells cells'' rows rows'' title title'' (xs ++ ys)
numbered_then quotes quotes' quotes'' names names' names'' cells cells' cells'' rows rows' rows'' title title' title''
    xs ys p q =
    let cs = cells_among xs in
    let ds = cells_among ys in
    let both = among_both xs ys in
    let later : names'' ≡ names_after quotes (names_after quotes names cs) ds =
    q.1 ∙ ap (λ o. names_after o names' ds) p.0 ∙ ap (λ l. names_after quotes l ds) p.1 in
    let numbers : numbered quotes' names' ds ≡ numbered quotes (names_after quotes names cs) ds =
    ap (λ o. numbered o names' ds) p.0 ∙ ap (λ l. numbered quotes l ds) p.1 in (
      q.0 ∙ p.0,
      later ∙ sym (names_then quotes names cs ds) ∙ ap (names_after quotes names) (sym both),
      q.2 ∙ ap (λ l. l ++ numbered quotes' names' ds) p.2
          ∙ append_assoc cells (numbered quotes names cs) (numbered quotes' names' ds)
          ∙ ap (λ l. cells ++ (numbered quotes names cs ++ l)) numbers
          ∙ ap (λ l. cells ++ l) (sym (numbers_then quotes names cs ds))
          ∙ ap (λ l. cells ++ numbered quotes names l) (sym both),
      q.3 ∙ ap (λ o. rows_after o names' rows' ys) p.0 ∙ ap (λ l. rows_after quotes l rows' ys) p.1
          ∙ ap (λ l. rows_after quotes (names_after quotes names cs) l ys) p.3
          ∙ sym (rows_then quotes names rows xs ys),
      q.4 ∙ ap (λ o. title_after o ys) p.4 ∙ sym (title_then title xs ys),
    )

-- ---- a name's place

pub position_stays : (p : List ℕ → Bool) (i k : ℕ) (xs ys : List (List ℕ)) → position_from p i xs ≡ Some k
    → position_from p i (xs ++ ys) ≡ Some k
position_stays p i k [] ys h = absurd (cc)
position_stays p i k (x ∷ xs) ys h =
    let go : (t : Bool) → p x ≡ t → cond t (Some i) (position_from p (i + 1) xs) ≡ Some k
    → cond t (Some i) (position_from p (i + 1) (xs ++ ys)) ≡ Some k =
    λ t.
    elim t as
    (λ t.
    p x ≡ t → cond t (Some i) (position_from p (i + 1) xs) ≡ Some k
    → cond t (Some i) (position_from p (i + 1) (xs ++ ys)) ≡ Some k)
    [ true ↦ λ is found. found | false ↦ λ is found. position_stays p (i + 1) k xs ys found ] in
    go (p x) refl h

pub position_new : (p : List ℕ → Bool) (i : ℕ) (xs : List (List ℕ)) (y : List ℕ) → position_from p i xs ≡ None
    → position_from p i (xs ++ y ∷ []) ≡ cond (p y) (Some (i + length xs)) None
position_new p i [] y h = ap (λ n. cond (p y) (Some n) None) (omega arith)
position_new p i (x ∷ xs) y h =
    let go : (t : Bool) → p x ≡ t → cond t (Some i) (position_from p (i + 1) xs) ≡ None
    → cond t (Some i) (position_from p (i + 1) (xs ++ y ∷ [])) ≡ cond (p y) (Some (i + length (x ∷ xs))) None =
    λ t.
    elim t as
    (λ t.
    p x ≡ t → cond t (Some i) (position_from p (i + 1) xs) ≡ None
    → cond t (Some i) (position_from p (i + 1) (xs ++ y ∷ []))
    ≡ cond (p y) (Some (i + length (x ∷ xs))) None) [
      | true ↦ λ is found. absurd (cc)
      | false ↦ λ is found. position_new p (i + 1) xs y found ∙ ap (λ n. cond (p y) (Some n) None) (omega arith)
    ] in
    go (p x) refl h

pub same_bytes : (bs : List ℕ) → bytes_eq bs bs ≡ true
same_bytes bs = (bytes_decides bs bs).1 refl

-- the place of a field's text among the names with it
pub place_with : (quotes : Bool) (names : List (List ℕ)) (field : List ℕ)
    → place_of quotes (name_text quotes field) (with_name quotes names field) ≡ Some (number_for quotes names field)
place_with quotes names field =
    let text = name_text quotes field in
    let go : (place : Option ℕ) → place_of quotes text names ≡ place
    → place_of quotes text (with_place place names field) ≡ Some (unwrap_or place (length names)) =
    λ place.
    elim place as
    (λ place.
    place_of quotes text names ≡ place
    → place_of quotes text (with_place place names field) ≡ Some (unwrap_or place (length names))) [
      | Some k ↦ λ is. is
      | None ↦
          λ is. position_new (λ name. bytes_eq text (name_text quotes name)) 0 names field is
          ∙ ap (λ b. cond b (Some (0 + length names)) None) (same_bytes text) ∙ ap Some (omega arith)
    ] in
    go (place_of quotes text names) refl

pub place_stays : (quotes : Bool) (text : List ℕ) (k : ℕ) (names : List (List ℕ)) (cells : List NamedCell)
    → place_of quotes text names ≡ Some k → place_of quotes text (names_after quotes names cells) ≡ Some k
place_stays quotes text k names [] h = h
place_stays quotes text k names (c ∷ cs) h =
    let go : (place : Option ℕ) → place_of quotes text (with_place place names c.1) ≡ Some k =
    λ place.
    elim place as (λ place. place_of quotes text (with_place place names c.1) ≡ Some k) [
      | Some j ↦ h
      | None ↦ position_stays (λ name. bytes_eq text (name_text quotes name)) 0 k names (c.1 ∷ []) h
    ] in
    place_stays quotes text k (with_name quotes names c.1) cs (go (place_of quotes (name_text quotes c.1) names))

-- each cell has the number of its area from the first
pub numbers_are_areas : (quotes : Bool) (names : List (List ℕ)) (cells : List NamedCell)
    → numbered quotes names cells ≡ map (in_area quotes (names_after quotes names cells)) cells
numbers_are_areas quotes names [] = refl
numbers_are_areas quotes names (c ∷ cs) =
    let found =
    place_stays quotes (name_text quotes c.1) (number_for quotes names c.1) (with_name quotes names c.1) cs
    (place_with quotes names c.1) in
    ap (λ o. (c.0, unwrap_or o 0) ∷ numbered quotes (with_name quotes names c.1) cs) (sym found)
    ∙ ap (λ l. in_area quotes (names_after quotes (with_name quotes names c.1) cs) c ∷ l)
    (numbers_are_areas quotes (with_name quotes names c.1) cs)
