-- Adding numbers up by areas.
use Rattle.std.specs.List.{count_by, filter}
use Rattle.std.proofs.Common.{ℕ, zero, suc, ◌≡◌, ◌≢◌, ◌+◌, ◌<◌, ◌≤◌, List, [], ◌∷◌, ◌++◌, length, set, map, not, cond, ◌==◌, eq-eqb, All, AllPairs, Contains, Bool, true, false, refl, arith, ◌∙◌, sym, ap, subst, inl, inr, get_or}
use Rattle.std.specs.Prelude.{pos, ◌+ℤ◌, ◌||◌}
use Rattle.std.proofs.Math.IntN.{+ℤ_idr}
use Rattle.std.proofs.Math.ListN.{length-set}
use Rattle.std.proofs.lemmas.Bool.{both_ways, cases_Bool, cases_lt}
use Rattle.std.proofs.lemmas.List.{get_or-set_same, get_or-set_other, map-append}
use Rattle.std.proofs.lemmas.List.Elements.{All-contains, Contains-get_or, filter-append}
use Rattle.std.proofs.lemmas.List.Sums.{sum_by-append}
use Rattle.h3_index.specs.Cell.{Address}
use Rattle.h3_numbers.specs.Laws.{TotalsInParts}
use Rattle.h3_numbers.specs.Number.{number_units}
use Rattle.h3_numbers.specs.Sum.{sum_count, total}
use Rattle.h3_numbers.specs.declared.number.Number.{Number}
use Rattle.h3_numbers.specs.declared.sum.Sum.{Sum}
use Rattle.h3_regions.specs.AreaLaws.{AreasAreTested}
use Rattle.h3_regions.specs.Areas.{AreAreasOf, IsBefore, lies_in, LiesIn}
use Rattle.h3_set.specs.Coverage.{is_ancestor, is_covered}
use Rattle.h3_command.specs.AreaSums.{Amount, cells_in, is_outside, sum_where}
use Rattle.h3_command.specs.SumTally.{AreAreaSums, IsOneMore, IsSumWhere}

-- an element at any default
pub default_at : {X : Type 0} (xs : List X) (k : ℕ) (d e : X) → k < length xs → get_or xs k d ≡ get_or xs k e
default_at [] k d e lt = absurd (omega (arith, lt))
default_at (y ∷ xs) zero d e lt = refl
default_at (y ∷ xs) (suc k) d e lt = default_at xs k d e (omega (arith, lt))

-- ---- elements at some places change

-- those at the first i of some places, of which no two are equal, have changed as R says, and the others have not
pub record IsChanging (X : Type 0) (R : X → X → Type 0) (places : List ℕ) (old now : List X) (i : ℕ) : Type 0 where
  pub size : length now ≡ length old
  pub more : (k d : ℕ) (e : X) → k < i → k < length places
      → R (get_or old (get_or places k d) e) (get_or now (get_or places k d) e)
  pub same : (n : ℕ) (e : X) → ((k d : ℕ) → k < i → k < length places → get_or places k d ≢ n)
      → get_or now n e ≡ get_or old n e

pub changing_begins : (X : Type 0) (R : X → X → Type 0) (places : List ℕ) (old : List X)
    → IsChanging X R places old old 0
changing_begins X R places old = record {
  size = refl;
  more = λ k d e lt. absurd (omega (arith, lt));
  same = λ n e h. refl;
}

module _ (X : Type 0) (R : X → X → Type 0) (places : List ℕ) (old now : List X) (i : ℕ)
    (once : AllPairs (λ m n. m ≢ n) places) (inv : IsChanging X R places old now i) where
  pub changed_all : (n : ℕ) (d : X) → length places ≤ i → Contains places n → R (get_or old n d) (get_or now n d)
  changed_all n d end m = rw m.2 at (inv.more m.0 n d (omega (arith, m.1, end)) m.1)

  pub changed_none : (n : ℕ) (d : X) → (¬ Contains places n) → get_or now n d ≡ get_or old n d
  changed_none n d miss = inv.same n d (λ k e lt lk eq. miss (k, lk, default_at places k n e lk ∙ eq))

  module _ (e : ℕ) (lt : i < length places) (small : get_or places i e < length now) where
    -- the next of them has not yet
    pub untouched : (d : X) → get_or now (get_or places i e) d ≡ get_or old (get_or places i e) d
    untouched d = inv.same (get_or places i e) d (λ k f lk ll h. once k i f lk lt (h ∙ default_at places i e f lt))

    pub changed : (d s : X) → R (get_or now (get_or places i e) d) s
        → IsChanging X R places old (set now (get_or places i e) s) (i + 1)
    changed d s is =
        let n = get_or places i e in
        record {
          size = length-set now n s ∙ inv.size;
          more = λ k f g lk ll. elim (cases_lt k i) [
            | inl less ↦
                let ne : get_or places k f ≢ n = λ h. once k i f less lt (h ∙ default_at places i e f lt) in
                let kept = get_or-set_other now n (get_or places k f) s g ne in
                subst (R (get_or old (get_or places k f) g)) (sym kept) (inv.more k f g less ll)
            | inr not ↦
                let at : k ≡ i = omega (arith, lk, not) in
                let here : get_or places k f ≡ n = ap (λ j. get_or places j f) at ∙ default_at places i f e lt in
                let own : R (get_or old n g) s =
                subst (λ o. R o s) (default_at now n d g small ∙ untouched g) is in
                rw (here, get_or-set_same now n s g small) own
          ];
          same = λ m f h. (
              let ne : m ≢ n = λ eq. h i e (omega arith) lt (sym eq) in
              get_or-set_other now n m s f ne ∙ inv.same m f (λ k d lk ll. h k d (omega (arith, lk)) ll));
        }

-- ---- one cell more

cells_append : (amounts more : List Amount) → cells_in (amounts ++ more) ≡ cells_in amounts ++ cells_in more
cells_append amounts more = map-append (λ a. a.0) amounts more

pub count_append : (test : Address → Bool) (xs ys : List Address)
    → count_by test (xs ++ ys) ≡ count_by test xs + count_by test ys
count_append test xs ys = sum_by-append (λ x. cond (test x) 1 0) xs ys

pub sum_append : TotalsInParts → (test : Address → Bool) (xs ys : List Amount)
    → sum_where test (xs ++ ys) ≡ sum_where test xs +ℤ sum_where test ys
sum_append law test xs ys =
    ap (λ l. total (map (λ a. a.1) l)) (filter-append (λ a. test a.0) xs ys)
    ∙ ap total (map-append (λ a. a.1) (filter (λ a. test a.0) xs) (filter (λ a. test a.0) ys))
    ∙ law (map (λ a. a.1) (filter (λ a. test a.0) xs)) (map (λ a. a.1) (filter (λ a. test a.0) ys))

module _ (law : TotalsInParts) (test : Address → Bool) (amounts : List Amount) (x : Address) (number : Number) where
  count_one : count_by test (cells_in (amounts ++ (x, number_units number) ∷ []))
      ≡ count_by test (cells_in amounts) + count_by test (x ∷ [])
  count_one =
      ap (count_by test) (cells_append amounts ((x, number_units number) ∷ []))
      ∙ count_append test (cells_in amounts) (x ∷ [])

  sum_yes : test x ≡ true → sum_where test ((x, number_units number) ∷ []) ≡ number_units number
  sum_yes passes =
      ap (λ t. total (map (λ (a : Amount). a.1) (cond t ((x, number_units number) ∷ []) []))) passes
      ∙ +ℤ_idr (number_units number)

  sum_no : test x ≡ false → sum_where test ((x, number_units number) ∷ []) ≡ pos 0
  sum_no misses = ap (λ t. total (map (λ (a : Amount). a.1) (cond t ((x, number_units number) ∷ []) []))) misses

  pub one_passes : (s t : Sum) → test x ≡ true → IsSumWhere test amounts s → IsOneMore number s t
      → IsSumWhere test (amounts ++ (x, number_units number) ∷ []) t
  one_passes s t passes old more = record {
    count =
        more.count ∙ ap (λ n. n + 1) old.count
        ∙ ap (λ b. count_by test (cells_in amounts) + (0 + cond b 1 0)) (sym passes) ∙ sym count_one;
    units =
        more.units ∙ ap (λ u. u +ℤ number_units number) old.units
        ∙ ap (λ u. sum_where test amounts +ℤ u) (sym (sum_yes passes))
        ∙ sym (sum_append law test amounts ((x, number_units number) ∷ []));
  }

  pub one_misses : (s : Sum) → test x ≡ false → IsSumWhere test amounts s
      → IsSumWhere test (amounts ++ (x, number_units number) ∷ []) s
  one_misses s misses old = record {
    count =
        old.count ∙ nothing_more (count_by test (cells_in amounts))
        ∙ ap (λ b. count_by test (cells_in amounts) + (0 + cond b 1 0)) (sym misses) ∙ sym count_one;
    units =
        old.units ∙ sym (+ℤ_idr (sum_where test amounts))
        ∙ ap (λ u. sum_where test amounts +ℤ u) (sym (sum_no misses))
        ∙ sym (sum_append law test amounts ((x, number_units number) ∷ []));
  } where
    nothing_more : (n : ℕ) → n ≡ n + 0
    nothing_more n = omega arith

-- ---- in no area

or_right : (a b : Bool) → b ≡ true → (a || b) ≡ true
or_right true b h = refl
or_right false b h = h

or_map : (a b c : Bool) → (a || b) ≡ true → (b ≡ true → c ≡ true) → (a || c) ≡ true
or_map true b c h f = refl
or_map false b c h f = f h

-- the cells of all areas cover a cell that lies in one
pub covers_in : (areas : List (Address × ℕ)) (x : Address) (n : ℕ) → lies_in areas x n ≡ true
    → is_covered (map (λ p. p.0) areas) x ≡ true
covers_in [] x n h = absurd (cc)
covers_in (p ∷ areas) x n h =
    let rest = filter (λ p. p.1 == n) areas in
    let all = is_covered (map (λ p. p.0) areas) x in
    let go : (t : Bool) → is_covered (map (λ p. p.0) (cond t (p ∷ rest) rest)) x ≡ true → (is_ancestor p.0 x || all)
    ≡ true =
    λ t. elim t as (λ t. is_covered (map (λ p. p.0) (cond t (p ∷ rest) rest)) x ≡ true → (is_ancestor p.0 x || all)
    ≡ true) [
      | true ↦ λ k. or_map (is_ancestor p.0 x) (is_covered (map (λ p. p.0) rest) x) all k (covers_in areas x n)
      | false ↦ λ k. or_right (is_ancestor p.0 x) all (covers_in areas x n k)
    ] in
    go (p.1 == n) h

in_rest : (p : Address × ℕ) (areas : List (Address × ℕ)) (x : Address) (n : ℕ) → lies_in areas x n ≡ true
    → lies_in (p ∷ areas) x n ≡ true
in_rest p areas x n h =
    let rest = filter (λ p. p.1 == n) areas in
    let go : (t : Bool) → is_covered (map (λ p. p.0) (cond t (p ∷ rest) rest)) x ≡ true =
    λ t. elim t as (λ t. is_covered (map (λ p. p.0) (cond t (p ∷ rest) rest)) x ≡ true) [
      | true ↦ or_right (is_ancestor p.0 x) (is_covered (map (λ p. p.0) rest) x) h
      | false ↦ h
    ] in
    go (p.1 == n)

in_first : (p : Address × ℕ) (areas : List (Address × ℕ)) (x : Address) → is_ancestor p.0 x ≡ true
    → lies_in (p ∷ areas) x p.1 ≡ true
in_first p areas x passes =
    let rest = filter (λ q. q.1 == p.1) areas in
    let same : (p.1 == p.1) ≡ true = eq-eqb p.1 p.1 refl in
    ap (λ t. is_covered (map (λ q. q.0) (cond t (p ∷ rest) rest)) x) same
    ∙ ap (λ a. a || is_covered (map (λ q. q.0) rest) x) passes

-- a cell that the cells of areas cover lies in one of them
pub lies_in_some : (areas : List (Address × ℕ)) (x : Address) → is_covered (map (λ p. p.0) areas) x ≡ true
    → (n : ℕ) × (lies_in areas x n ≡ true)
lies_in_some [] x h = absurd (cc)
lies_in_some (p ∷ areas) x h = elim (cases_Bool (is_ancestor p.0 x)) [
  | inl passes ↦ (p.1, in_first p areas x passes)
  | inr misses ↦
      let rest : is_covered (map (λ p. p.0) areas) x ≡ true =
      sym (ap (λ b. b || is_covered (map (λ p. p.0) areas) x) misses) ∙ h in
      let some = lies_in_some areas x rest in
      (some.0, in_rest p areas x some.0 some.1)
]

-- ---- sums with one number more

-- the numbers of the areas of a cell are below a size
pub small_places : (areas : List (Address × ℕ)) (x : Address) (list : List ℕ) (size : ℕ) → AreAreasOf areas x list
    → All (λ p. p.1 < size) areas
    → All (λ n. n < size) list
small_places areas x list size are small = λ k d lt.
    let lies : LiesIn areas x (get_or list k d) = (are.each (get_or list k d)).0 (Contains-get_or list k d lt) in
    All-contains (λ p. p.1 < size) areas (lies.by, get_or list k d) small lies.member

-- no two of them are equal
pub places_once : (areas : List (Address × ℕ)) (x : Address) (list : List ℕ) → AreAreasOf areas x list
    → AllPairs (λ m n. m ≢ n) list
places_once areas x list are i j d lt lj e =
    let before = are.in_order i j d lt lj in
    let own : IsBefore areas x (get_or list j d) (get_or list j d) =
    subst (λ n. IsBefore areas x n (get_or list j d)) e before in
    elim own [ inl less ↦ omega (arith, less) | inr same ↦ omega (arith, same.1) ]

module _ (law : TotalsInParts) (tested : AreasAreTested) (areas : List (Address × ℕ)) (x : Address) (list : List ℕ)
    (are : AreAreasOf areas x list)
    (number : Number) (old new : List Sum) (size : length new ≡ length old)
    (more : (n : ℕ) (d : Sum) → Contains list n → IsOneMore number (get_or old n d) (get_or new n d))
    (same : (n : ℕ) (d : Sum) → (¬ Contains list n) → get_or new n d ≡ get_or old n d) where
  listed : (n : ℕ) → lies_in areas x n ≡ true → Contains list n
  listed n t = (are.each n).1 ((tested areas x n).0 t)

  unlisted : (n : ℕ) → lies_in areas x n ≡ false → ¬ Contains list n
  unlisted n f m = both_ways (lies_in areas x n) f ((tested areas x n).1 ((are.each n).0 m))

  pub few_next : (taken : ℕ) → All (λ s. sum_count s ≤ taken) old → All (λ s. sum_count s ≤ taken + 1) new
  few_next taken few = λ n d lt.
      let was : sum_count (get_or old n d) ≤ taken = few n d (omega (arith, lt, size)) in
      elim (cases_Bool (lies_in areas x n)) [
        | inl t ↦ omega (arith, (more n d (listed n t)).count, was)
        | inr f ↦ let kept = ap sum_count (same n d (unlisted n f)) in omega (arith, kept, was)
      ]

  each_next : (none : Sum) (amounts : List Amount) → AreAreaSums areas amounts old none → (n : ℕ) (d : Sum)
      → n < length new
      → IsSumWhere (λ y. lies_in areas y n) (amounts ++ (x, number_units number) ∷ []) (get_or new n d)
  each_next none amounts was n d lt =
      let before = was.each n d (omega (arith, lt, size)) in
      elim (cases_Bool (lies_in areas x n)) [
        | inl t ↦
            one_passes law (λ y. lies_in areas y n) amounts x number (get_or old n d) (get_or new n d) t before
            (more n d (listed n t))
        | inr f ↦
            subst (IsSumWhere (λ y. lies_in areas y n) (amounts ++ (x, number_units number) ∷ []))
            (sym (same n d (unlisted n f)))
            (one_misses law (λ y. lies_in areas y n) amounts x number (get_or old n d) f before)
      ]

  -- it lies in an area
  pub some_next : (none : Sum) (amounts : List Amount) → 0 < length list → AreAreaSums areas amounts old none
      → AreAreaSums areas (amounts ++ (x, number_units number) ∷ []) new none
  some_next none amounts some was =
      let lies = (are.each (get_or list 0 0)).0 (Contains-get_or list 0 0 some) in
      let covered = covers_in areas x (get_or list 0 0) ((tested areas x (get_or list 0 0)).1 lies) in
      record {
        each = each_next none amounts was;
        others = one_misses law (is_outside areas) amounts x number none (ap not covered) was.others;
      }

  -- it lies in none
  pub none_next : (none others : Sum) (amounts : List Amount) → length list ≡ 0 → IsOneMore number none others
      → AreAreaSums areas amounts old none
      → AreAreaSums areas (amounts ++ (x, number_units number) ∷ []) new others
  none_next none others amounts empty one was =
      let uncovered : is_covered (map (λ p. p.0) areas) x ≡ false =
      elim (cases_Bool (is_covered (map (λ p. p.0) areas) x)) [
        | inl t ↦ let some = lies_in_some areas x t in let m =
            listed some.0 some.1 in absurd (omega (arith, m.1, empty))
        | inr f ↦ f
      ] in
      record {
        each = each_next none amounts was;
        others = one_passes law (is_outside areas) amounts x number none others (ap not uncovered) was.others one;
      }

-- ---- one area at most

-- the one area of a cell, as a list
pub one_area : (areas : List (Address × ℕ)) (x : Address) (n : ℕ) → LiesIn areas x n
    → ((m : ℕ) → LiesIn areas x m → n ≡ m) → AreAreasOf areas x (n ∷ [])
one_area areas x n lies one = record {
  each = λ m. (
    (λ c. subst (LiesIn areas x) (only m c.0 c.1 ∙ c.2) lies),
    (λ h. (0, omega arith, one m h)),
  );
  in_order = λ i j d lt lj. absurd (omega (arith, lt, lj));
} where
  only : (m k : ℕ) → k < 1 → n ≡ get_or (n ∷ []) k m
  only m zero lt = refl
  only m (suc k) lt = absurd (omega (arith, lt))

pub no_area : (areas : List (Address × ℕ)) (x : Address) → ((m : ℕ) → ¬ LiesIn areas x m) → AreAreasOf areas x []
no_area areas x none = record {
  each = λ m. ((λ c. absurd (omega (arith, c.1))), (λ h. absurd (none m h)));
  in_order = λ i j d lt lj. absurd (omega (arith, lj));
}
