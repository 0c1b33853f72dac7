-- The areas of a table stand once each, and have all of its cells; each has one at least.
use Rattle.std.proofs.Common.{◌≡◌, ℕ, ◌+◌, ◌≤◌, ◌<◌, Bool, true, false, cond, List, [], ◌∷◌, ◌++◌, length, map, get_or, Option, None, Some, unwrap_or, sym, ap, ◌∙◌, refl, subst, arith, All, Contains, bytes_eq, ⊎_elim, length-append}
use Rattle.std.proofs.lemmas.Bool.{cases_lt}
use Rattle.std.proofs.lemmas.List.{get_or-append-add, get_or_append_left}
use Rattle.std.proofs.lemmas.List.Elements.{All-cons, All-nil, Contains-append_left, Contains-append_right, Contains-push}
use Rattle.h3_rows.specs.AreaLaws.{place_stays, place_with, position_new, position_stays, same_bytes}
use Rattle.std.specs.List.{position_from}
use Rattle.h3_index.specs.Cell.{Address}
use Rattle.h3_rows.specs.Areas.{AreasHaveCells, CellsHaveAreas, HasArea, NamedCell, NamesStandOnce, NumbersAreOfNames, StandOnce, cells_among, in_area, name_text, names_after, number_for, place_of, with_name, with_place}

each_has_area : (quotes : Bool) (names : List (List ℕ)) (cells : List NamedCell)
    → All (HasArea quotes (names_after quotes names cells)) cells
each_has_area quotes names [] = All-nil (HasArea quotes names)
each_has_area quotes names (c ∷ cs) =
    let found : HasArea quotes (names_after quotes names (c ∷ cs)) c = (
      number_for quotes names c.1,
      place_stays quotes (name_text quotes c.1) (number_for quotes names c.1)
          (with_name quotes names c.1) cs (place_with quotes names c.1),
    ) in
    All-cons (HasArea quotes (names_after quotes names (c ∷ cs))) c cs found
    (each_has_area quotes (with_name quotes names c.1) cs)

pub cells_have_areas : CellsHaveAreas
cells_have_areas quotes entries = each_has_area quotes [] (cells_among entries)

-- a name with a new text
once_more : (quotes : Bool) (names : List (List ℕ)) (name : List ℕ) → StandOnce quotes names
    → place_of quotes (name_text quotes name) names ≡ None → StandOnce quotes (names ++ name ∷ [])
once_more quotes names name once none k d h =
    let count = length-append names (name ∷ []) in
    let placed : List ℕ → Option ℕ = λ n. place_of quotes (name_text quotes n) (names ++ name ∷ []) in
    ⊎_elim
    (λ (below : k < length names). ap placed (get_or_append_left names (name ∷ []) d k below) ∙ position_stays
    (λ n. bytes_eq (name_text quotes (get_or names k d)) (name_text quotes n)) 0 k names (name ∷ [])
    (once k d below))
    (λ (above : length names ≤ k). (
    let same : k ≡ length names + 0 = omega (arith, count, h, above) in
    let is : get_or (names ++ name ∷ []) k d ≡ name =
    ap (λ j. get_or (names ++ name ∷ []) j d) same ∙ get_or-append-add names (name ∷ []) 0 d in
    let at : 0 + length names ≡ k = omega (arith, same) in
    ap placed is ∙ position_new (λ n. bytes_eq (name_text quotes name) (name_text quotes n)) 0 names name none
    ∙ ap (λ b. cond b (Some (0 + length names)) None) (same_bytes (name_text quotes name)) ∙ ap Some at))
    (cases_lt k (length names))

once_after : (quotes : Bool) (names : List (List ℕ)) (cells : List NamedCell) → StandOnce quotes names
    → StandOnce quotes (names_after quotes names cells)
once_after quotes names [] once = once
once_after quotes names (c ∷ cs) once =
    let go : (place : Option ℕ) → place_of quotes (name_text quotes c.1) names ≡ place
    → StandOnce quotes (with_place place names c.1) =
    λ place.
    elim place as
    (λ place.
    place_of quotes (name_text quotes c.1) names ≡ place → StandOnce quotes (with_place place names c.1))
    [ Some k ↦ λ is. once | None ↦ λ is. once_more quotes names c.1 once is ] in
    once_after quotes (with_name quotes names c.1) cs (go (place_of quotes (name_text quotes c.1) names) refl)

pub names_stand_once : NamesStandOnce
names_stand_once quotes entries = once_after quotes [] (cells_among entries) (λ k d h. absurd (omega (arith, h)))

-- ---- numbers

pub position_below : (p : List ℕ → Bool) (i k : ℕ) (xs : List (List ℕ)) → position_from p i xs ≡ Some k
    → k < i + length xs
position_below p i k [] h = absurd (cc)
position_below p i k (x ∷ xs) h =
    let go : (t : Bool) → cond t (Some i) (position_from p (i + 1) xs) ≡ Some k → k < i + length (x ∷ xs) =
    λ t. elim t as (λ t. cond t (Some i) (position_from p (i + 1) xs) ≡ Some k → k < i + length (x ∷ xs)) [
      | true ↦ λ found. (let is : i ≡ k = ap (λ o. unwrap_or o i) found in omega (arith, is))
      | false ↦ λ found. (let less = position_below p (i + 1) k xs found in omega (arith, less))
    ] in
    go (p x) h

-- a cell has the number of its name, whatever names come after it
number_after : (quotes : Bool) (names : List (List ℕ)) (c : NamedCell) (cs : List NamedCell)
    → place_of quotes (name_text quotes c.1) (names_after quotes names (c ∷ cs)) ≡ Some (number_for quotes names c.1)
number_after quotes names c cs =
    place_stays quotes (name_text quotes c.1) (number_for quotes names c.1) (with_name quotes names c.1) cs
    (place_with quotes names c.1)

area_after : (quotes : Bool) (names : List (List ℕ)) (c : NamedCell) (cs : List NamedCell)
    → in_area quotes (names_after quotes names (c ∷ cs)) c ≡ (c.0, number_for quotes names c.1)
area_after quotes names c cs = ap (λ o. (c.0, unwrap_or o 0)) (number_after quotes names c cs)

each_below : (quotes : Bool) (names : List (List ℕ)) (cells : List NamedCell)
    → All (λ c. c.1 < length (names_after quotes names cells))
    (map (in_area quotes (names_after quotes names cells)) cells)
each_below quotes names [] = All-nil (λ (c : Address × ℕ). c.1 < length names)
each_below quotes names (c ∷ cs) =
    let all = names_after quotes names (c ∷ cs) in
    let below : number_for quotes names c.1 < 0 + length all =
    position_below (λ name. bytes_eq (name_text quotes c.1) (name_text quotes name)) 0
    (number_for quotes names c.1) all (number_after quotes names c cs) in
    let here : (in_area quotes all c).1 < length all =
    subst (λ (p : Address × ℕ). p.1 < length all) (sym (area_after quotes names c cs)) (omega (arith, below)) in
    All-cons (λ (c : Address × ℕ). c.1 < length all) (in_area quotes all c) (map (in_area quotes all) cs) here
    (each_below quotes (with_name quotes names c.1) cs)

pub numbers_are_of_names : NumbersAreOfNames
numbers_are_of_names quotes entries = each_below quotes [] (cells_among entries)

-- ---- each area has a cell

new_number : (quotes : Bool) (names : List (List ℕ)) (name : List ℕ) (k : ℕ) → length names ≤ k
    → k < length (with_name quotes names name) → number_for quotes names name ≡ k
new_number quotes names name k above below =
    let go : (place : Option ℕ) → k < length (with_place place names name) → unwrap_or place (length names) ≡ k =
    λ place. elim place as (λ place. k < length (with_place place names name) → unwrap_or place (length names) ≡ k) [
      | Some j ↦ λ less. absurd (omega (arith, above, less))
      | None ↦ λ less. omega (arith, above, less, length-append names (name ∷ []))
    ] in
    go (place_of quotes (name_text quotes name) names) below

contains_here : {X : Type 0} (x y : X) (xs : List X) → x ≡ y → Contains (x ∷ xs) y
contains_here x y xs is = Contains-append_left (x ∷ []) xs y (subst (λ z. Contains (x ∷ []) z) is (Contains-push [] x))

contains_later : {X : Type 0} (x y : X) (xs : List X) → Contains xs y → Contains (x ∷ xs) y
contains_later x y xs c = Contains-append_right (x ∷ []) xs y c

cell_of_new : (quotes : Bool) (names : List (List ℕ)) (cells : List NamedCell) (k : ℕ) → length names ≤ k
    → k < length (names_after quotes names cells)
    → (cell : Address) × Contains (map (in_area quotes (names_after quotes names cells)) cells) (cell, k)
cell_of_new quotes names [] k above below = absurd (omega (arith, above, below))
cell_of_new quotes names (c ∷ cs) k above below =
    let all = names_after quotes names (c ∷ cs) in
    let after = with_name quotes names c.1 in
    let first = in_area quotes all c in
    ⊎_elim
    (λ (less : k < length after). (
    let number : number_for quotes names c.1 ≡ k = new_number quotes names c.1 k above less in (
      c.0,
      contains_here first (c.0, k) (map (in_area quotes all) cs)
          (area_after quotes names c cs ∙ ap (λ n. (c.0, n)) number),
    )))
    (λ (more : length after ≤ k). (
    let (cell, has) = cell_of_new quotes after cs k more below in
    (cell, contains_later first (cell, k) (map (in_area quotes all) cs) has)))
    (cases_lt k (length after))

pub areas_have_cells : AreasHaveCells
areas_have_cells quotes entries k below = cell_of_new quotes [] (cells_among entries) k (omega arith) below
