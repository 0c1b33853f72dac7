-- The join of cells with a table of zones with names.
use Rattle.std.proofs.Common.{◌≡◌, ◌≢◌, ℕ, zero, suc, ◌+◌, ◌<◌, inl, inr, AllPairs, Bool, true, false, cond, if◌then◌else◌, List, [], ◌∷◌, Contains, length, get_or, map, None, Some, unwrap_or, bytes_eq, sym, ap, ◌∙◌, refl, subst, arith}
use Rattle.std.proofs.lemmas.List.{get_or-map, length-map}
use Rattle.std.proofs.lemmas.List.Elements.{All-contains, Contains-get_or}
use Rattle.std.proofs.lemmas.Option.{same_Some}
use Rattle.std.specs.Cmp.Lexicographic.{bytes_decides}
use Rattle.std.specs.List.{position_from}
use Rattle.h3_index.specs.Cell.{Address, resolution}
use Rattle.h3_index.specs.Descendants.{IsAncestor}
use Rattle.h3_index.specs.declared.error.H3Error.TheVariants.{DuplicateInput}
use Rattle.h3_regions.specs.AreaLaws.{AreasAreListed, ClashesAreFound, OneAreaAtMost}
use Rattle.h3_regions.specs.Areas.{AreApart, IsBefore, LiesIn, areas_of, coarsest}
use Rattle.h3_regions.specs.Refusals.{areas_refusal, has_clash}
use Rattle.h3_rows.specs.Areas.{CellsHaveAreas, HasArea, NamedCell, NamesStandOnce, NumbersAreOfNames, area_cells, area_names, cells_among, in_area, name_text, place_of}
use Rattle.h3_rows.specs.Named.{Entry}
use Rattle.h3_command.specs.Areas.{names_or, overlap_error}
use Rattle.h3_command.specs.Join.{CellsGetTheirNames, Covers, IsNameOf, NamesAreOfRows, NamesDiffer, OneNameEach, OthersGetNone}

-- ---- elements of a list that is mapped

at_mapped : {X Y : Type 0} (f : X → Y) (xs : List X) (k : ℕ) (x : X) → k < length xs → get_or xs k x ≡ x
    → Contains (map f xs) (f x)
at_mapped f [] k x short is = absurd (omega (arith, short))
at_mapped f (y ∷ ys) zero x short is = (zero, omega arith, ap f is)
at_mapped f (y ∷ ys) (suc k) x short is =
    let (j, within, at) = at_mapped f ys k x (omega (arith, short)) is in
    (suc j, omega (arith, within), at)

mapped : {X Y : Type 0} (f : X → Y) (xs : List X) (x : X) → Contains xs x → Contains (map f xs) (f x)
mapped f xs x (k, short, is) = at_mapped f xs k x short is

at_unmapped : {X Y : Type 0} (f : X → Y) (xs : List X) (k : ℕ) (y : Y) → k < length (map f xs)
    → get_or (map f xs) k y ≡ y → (x : X) × Contains xs x × (f x ≡ y)
at_unmapped f [] k y short is = absurd (omega (arith, short))
at_unmapped f (x ∷ xs) zero y short is = (x, (zero, omega arith, refl), is)
at_unmapped f (x ∷ xs) (suc k) y short is =
    let (z, (j, within, at), same) = at_unmapped f xs k y (omega (arith, short)) is in
    (z, (suc j, omega (arith, within), at), same)

unmapped : {X Y : Type 0} (f : X → Y) (xs : List X) (y : Y) → Contains (map f xs) y
    → (x : X) × Contains xs x × (f x ≡ y)
unmapped f xs y (k, short, is) = at_unmapped f xs k y short is

-- ---- the name with a text

-- Found p names from place: the test holds of the name at the place, where the first one has the number `from`
record Found (p : List ℕ → Bool) (names : List (List ℕ)) (from place : ℕ) : Type 0 where
  at : ℕ
  is : place ≡ from + at
  within : at < length names
  holds : p (get_or names at []) ≡ true

found : (p : List ℕ → Bool) (names : List (List ℕ)) (from place : ℕ) → position_from p from names ≡ Some place
    → Found p names from place
found p [] from place is = absurd (cc)
found p (name ∷ names) from place is =
    let either : (t : Bool) → p name ≡ t → cond t (Some from) (position_from p (from + 1) names) ≡ Some place
    → Found p (name ∷ names) from place =
    λ t. elim t as (λ t. p name ≡ t → cond t (Some from) (position_from p (from + 1) names) ≡ Some place
    → Found p (name ∷ names) from place) [
      | true ↦ λ yes here. (let same = same_Some from place here in record {
        at = zero;
        is =
            omega (arith, same);
        within = omega arith;
        holds = yes;
      })
      | false ↦ λ no later. (
          let more = found p names (from + 1) place later in
          record {
            at = suc more.at;
            is = omega (arith, more.is);
            within = omega (arith, more.within);
            holds =
                more.holds;
          })
    ] in
    either (p name) refl is

-- the name at the place of a text has that text
placed : (quotes : Bool) (text : List ℕ) (names : List (List ℕ)) (k : ℕ) → place_of quotes text names ≡ Some k
    → Contains names (get_or names k []) × (name_text quotes (get_or names k []) ≡ text)
placed quotes text names k is =
    let own = found (λ name. bytes_eq text (name_text quotes name)) names 0 k is in
    let at : k ≡ own.at = omega (arith, own.is) in
    subst (λ n. Contains names (get_or names n []) ×
    (name_text quotes (get_or names n []) ≡ text)) (sym at) (
      Contains-get_or names own.at [] own.within,
      sym
          ((bytes_decides text (name_text quotes (get_or names own.at []))).0 own.holds),
    )

-- ---- the areas of a cell

-- areas that are not refused are apart
pub not_refused : ClashesAreFound → (areas : List (Address × ℕ)) → areas_refusal areas ≡ None → AreApart areas
not_refused clashes areas none =
    let either : (t : Bool) → has_clash areas ≡ t → (if t then Some DuplicateInput else None) ≡ None → has_clash areas
    ≡ false =
    λ t. elim t as (λ t. has_clash areas ≡ t → (if t then Some DuplicateInput else None) ≡ None → has_clash areas
    ≡ false) [ true ↦ λ is never. absurd (cc) | false ↦ λ is free. is ] in
    (clashes areas).0 (either (has_clash areas) refl none)

-- whether they may overlap or not, areas of which no two do are not refused
pub apart_judged : (overlapping : Bool) (areas : List (Address × ℕ)) → areas_refusal areas ≡ None
    → overlap_error overlapping areas ≡ None
apart_judged true areas none = refl
apart_judged false areas none = none

-- ---- the names of its areas

-- an area does not come before itself
not_before : (areas : List (Address × ℕ)) (x : Address) (m n : ℕ) → IsBefore areas x m n → m ≡ n → ⊥
not_before areas x m n (inl less) same =
    let one : coarsest areas x m ≡ coarsest areas x n = ap (coarsest areas x) same in
    absurd (omega (arith, less, one))
not_before areas x m n (inr (equal, less)) same = absurd (omega (arith, less, same))

-- the name of a number that is given
given : (none : List ℕ) (names : List (List ℕ)) (list : List ℕ) (n : ℕ) → Contains list n
    → Contains (names_or none names list) (get_or names n [])
given none names [] n (k, short, is) = absurd (omega (arith, short))
given none names (m ∷ ms) n has = mapped (λ k. get_or names k []) (m ∷ ms) n has

-- where there is a number, each name is that of one
of_number : (none : List ℕ) (names : List (List ℕ)) (list : List ℕ) (m : ℕ) (name : List ℕ) → Contains list m
    → Contains (names_or none names list) name → (n : ℕ) × Contains list n × (get_or names n [] ≡ name)
of_number none names [] m name (k, short, is) has = absurd (omega (arith, short))
of_number none names (n ∷ ns) m name some has = unmapped (λ k. get_or names k []) (n ∷ ns) name has

-- there is no number
no_name : (none : List ℕ) (names : List (List ℕ)) (list : List ℕ) → ((m : ℕ) → ¬ Contains list m)
    → names_or none names list ≡ none ∷ []
no_name none names [] empty = refl
no_name none names (m ∷ ms) empty = absurd (empty m (zero, omega arith, refl))

-- numbers that are all the same, in order
one_name : (none : List ℕ) (names : List (List ℕ)) (areas : List (Address × ℕ)) (x : Address) (list : List ℕ)
    → AllPairs (IsBefore areas x) list → ((m n : ℕ) → Contains list m → Contains list n → m ≡ n)
    → length (names_or none names list) ≡ 1
one_name none names areas x [] in_order one = refl
one_name none names areas x (n ∷ []) in_order one = refl
one_name none names areas x (n ∷ m ∷ ms) in_order one =
    absurd (not_before areas x n m (in_order zero (suc zero) 0 (omega arith) (omega arith))
    (one n m (zero, omega arith, refl) (suc zero, omega arith, refl)))

-- names that differ, or one alone
differ_or : (none : List ℕ) (names : List (List ℕ)) (R : List ℕ → List ℕ → Type 0) (list : List ℕ)
    → AllPairs R (map (λ k. get_or names k []) list) → AllPairs R (names_or none names list)
differ_or none names R [] all = λ i j d less short. absurd (omega (arith, less, short))
differ_or none names R (n ∷ ns) all = all

-- ---- the laws

-- the number of the area of a row that covers a cell
own_number : CellsHaveAreas → AreasAreListed → (quotes : Bool) (entries : List Entry) (x : Address) (c : NamedCell)
    → resolution x < 16 → Covers entries x c
    → (k : ℕ) × Contains (areas_of (area_cells quotes entries) x) k
    × (place_of quotes (name_text quotes c.1) (area_names quotes entries) ≡ Some k)
own_number have listed quotes entries x c fine covers =
    let names = area_names quotes entries in
    let areas = area_cells quotes entries in
    let (k, place) = All-contains (HasArea quotes names) (cells_among entries) c (have quotes entries) covers.row in
    let number : in_area quotes names c ≡ (c.0, k) = ap (λ o. (c.0, unwrap_or o 0)) place in
    let pair : Contains areas (c.0, k) =
    subst (λ p. Contains areas p) number (mapped (in_area quotes names) (cells_among entries) c covers.row) in
    let lies : LiesIn areas x k = record { by = c.0; member = pair; above = covers.above } in
    (k, ((listed.are areas x fine).each k).1 lies, place)

pub cells_get_their_names : CellsHaveAreas → AreasAreListed → CellsGetTheirNames
cells_get_their_names have listed quotes none entries x c fine covers =
    let names = area_names quotes entries in
    let (k, inside, place) = own_number have listed quotes entries x c fine covers in
    let (named, same) = placed quotes (name_text quotes c.1) names k place in (
      get_or names k [],
      given none names (areas_of (area_cells quotes entries) x) k inside,
      record { named = named; same = same },
    )

pub names_are_of_rows : CellsHaveAreas → AreasAreListed → NamesAreOfRows
names_are_of_rows have listed quotes none entries x b name fine covers has =
    let names = area_names quotes entries in
    let areas = area_cells quotes entries in
    let (m, some, unread) = own_number have listed quotes entries x b fine covers in
    let (n, inside, is) = of_number none names (areas_of areas x) m name some has in
    let lies = ((listed.are areas x fine).each n).0 inside in
    let (c, row, same) = unmapped (in_area quotes names) (cells_among entries) (lies.by, n) lies.member in
    let above : IsAncestor c.0 x = subst (λ by. IsAncestor by x) (sym (ap (λ p. p.0) same)) lies.above in
    let (k, place) = All-contains (HasArea quotes names) (cells_among entries) c (have quotes entries) row in
    let number : in_area quotes names c ≡ (c.0, k) = ap (λ o. (c.0, unwrap_or o 0)) place in
    let equal : k ≡ n = ap (λ p. p.1) (sym number ∙ same) in
    let (named, text) = placed quotes (name_text quotes c.1) names k place in
    let name_is : get_or names k [] ≡ name = ap (λ j. get_or names j []) equal ∙ is in (
      c,
      record { row = row; above = above },
      subst (λ l. IsNameOf quotes entries c l) name_is (record { named = named; same = text }),
    )

pub names_differ : AreasAreListed → NumbersAreOfNames → NamesStandOnce → NamesDiffer
names_differ listed numbers once quotes none entries x fine =
    let names = area_names quotes entries in
    let areas = area_cells quotes entries in
    let list = areas_of areas x in
    let are = listed.are areas x fine in
    let name : ℕ → List ℕ = λ k. get_or names k [] in
    let own : (k : ℕ) → Contains list k → place_of quotes (name_text quotes (name k)) names ≡ Some k = λ k inside.
    (let lies = (are.each k).0 inside in
    once quotes entries k [] (All-contains (λ p. p.1 < length names) areas (lies.by, k) (numbers quotes entries)
    lies.member)) in
    differ_or none names (λ a b. name_text quotes a ≢ name_text quotes b) list (λ i j d less short same.
    let low : j < length list = omega (arith, short, length-map list name) in
    let first : i < length list = omega (arith, less, low) in
    let m = get_or list i 0 in
    let n = get_or list j 0 in
    let text : name_text quotes (name m) ≡ name_text quotes (name n) =
    ap (name_text quotes) (sym (get_or-map name list i 0 d first)) ∙ same
    ∙ ap (name_text quotes) (get_or-map name list j 0 d low) in
    let equal : Some m ≡ Some n =
    sym (own m (Contains-get_or list i 0 first)) ∙ ap (λ t. place_of quotes t names) text
    ∙ own n (Contains-get_or list j 0 low) in
    not_before areas x m n (are.in_order i j 0 less low) (same_Some m n equal))

pub one_name_each : AreasAreListed → ClashesAreFound → OneAreaAtMost → OneNameEach
one_name_each listed clashes one quotes none entries x free fine =
    let areas = area_cells quotes entries in
    let are = listed.are areas x fine in
    let apart = not_refused clashes areas free in
    one_name none (area_names quotes entries) areas x (areas_of areas x) are.in_order
    (λ m n first second. one areas x m n apart ((are.each m).0 first) ((are.each n).0 second))

pub others_get_none : AreasAreListed → OthersGetNone
others_get_none listed quotes none entries x fine free =
    let names = area_names quotes entries in
    let areas = area_cells quotes entries in
    let are = listed.are areas x fine in
    no_name none names (areas_of areas x) (λ m inside.
    let lies = (are.each m).0 inside in
    let (c, member, same) = unmapped (in_area quotes names) (cells_among entries) (lies.by, m) lies.member in
    free c (record { row = member; above = subst (λ by. IsAncestor by x) (sym (ap (λ p. p.0) same)) lies.above }))
