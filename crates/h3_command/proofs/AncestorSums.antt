-- The numbers beside equal cells that stand together in a list that ascends.
use Rattle.std.proofs.Common.{ℕ, zero, suc, ◌≡◌, ◌+◌, ◌-◌, ◌<◌, ◌≤◌, List, [], ◌∷◌, length, drop, take, map, All, Bool, true, false, refl, arith, ◌∙◌, sym, ap, subst, get_or, eq-eqb}
use Rattle.std.specs.Prelude.{ℤ, ◌+ℤ◌}
use Rattle.std.proofs.Math.IntN.{+ℤ_idr}
use Rattle.std.proofs.Math.ListN.{get_or-map}
use Rattle.std.proofs.Math.Path.{fun_ext}
use Rattle.std.specs.List.{filter}
use Rattle.std.specs.List.Sorted.{IsNonDecreasingBy, IsPermutation}
use Rattle.std.proofs.lemmas.List.{get_or-drop, length-drop, length-map, map-append, take_more}
use Rattle.std.proofs.lemmas.List.Elements.{All-map}
use Rattle.std.proofs.lemmas.List.Sorted.{IsPermutation-map}
use Rattle.h3_index.specs.Cell.{Address, IsCell, number_of}
use Rattle.h3_index.specs.Laws.{NumbersAreUnique}
use Rattle.h3_index.specs.Text.{text_of}
use Rattle.h3_numbers.specs.Laws.{TotalsInAnyOrder, TotalsInParts}
use Rattle.h3_numbers.specs.Sum.{sum_count, sum_units, total}
use Rattle.h3_numbers.specs.declared.number.Number.{Number}
use Rattle.h3_numbers.specs.declared.sum.Sum.{Sum}
use Rattle.h3_regions.specs.Laws.{ZonesByNumber}
use Rattle.h3_command.specs.AreaSums.{Amount, cells_in, sum_where}
use Rattle.h3_command.specs.ParentEntries.{amount_of, amounts_of}
use Rattle.h3_command.specs.ParentRuns.{ArePut, IsRun}
use Rattle.h3_command.specs.ParentSums.{parent_sum, parent_sums}
use Rattle.h3_command.specs.Parents.{distinct, is_same, times}
use Rattle.h3_command.specs.SumRows.{row_of}
use Rattle.h3_command.specs.SumTables.{SumRow}
use Rattle.h3_command.proofs.AddedUp.{if_so, sum_cons}
use Rattle.h3_command.proofs.AncestorRuns.{cell_there, cells_ascend, differ, later, run_times, times_permuted}
use Rattle.h3_command.proofs.Ancestors.{distinct_permuted}
use Rattle.h3_command.proofs.Summing.{default_at}

-- ---- the cells of pairs

pub own_amounts : (pairs : List (Address × Number)) → map (λ p. p.0) pairs ≡ cells_in (amounts_of pairs)
own_amounts [] = refl
own_amounts (p ∷ ps) = ap (λ l. p.0 ∷ l) (own_amounts ps)

pub amounts_ascend : (pairs : List (Address × Number)) → IsNonDecreasingBy (λ p. number_of p.0) pairs
    → IsNonDecreasingBy number_of (cells_in (amounts_of pairs))
amounts_ascend pairs order =
    subst (λ l. IsNonDecreasingBy number_of l) (own_amounts pairs) (cells_ascend (λ p. p.0) pairs order)

-- the cell of a pair at a place
pub first_amount : (pairs : List (Address × Number)) (k : ℕ) (p : Address × Number) → k < length pairs
    → get_or pairs k p ≡ p → p.0 ≡ get_or (cells_in (amounts_of pairs)) k p.0
first_amount pairs k p lt is =
    sym (ap (λ l. get_or l k p.0) (sym (own_amounts pairs)) ∙ cell_there (λ q. q.0) pairs k p p.0 lt is)

-- ---- what passes a test that a part of a list alone passes

pub filter_part : {X : Type 0} (p : X → Bool) (xs : List X) (i n : ℕ) → i + n ≤ length xs
    → ((k : ℕ) (d : X) → k < i → p (get_or xs k d) ≡ false)
    → ((k : ℕ) (d : X) → i ≤ k → k < i + n → p (get_or xs k d) ≡ true)
    → ((k : ℕ) (d : X) → i + n ≤ k → k < length xs → p (get_or xs k d) ≡ false)
    → filter p xs ≡ take n (drop i xs)
filter_part p [] zero zero within before inside after = refl
filter_part p [] zero (suc n) within before inside after = absurd (omega (arith, within))
filter_part p [] (suc i) n within before inside after = absurd (omega (arith, within))
filter_part p (x ∷ xs) zero zero within before inside after =
    let miss : p x ≡ false = after 0 x (omega arith) (omega arith) in
    let rest = filter_part p xs zero zero (omega arith) (λ k d lt. absurd (omega (arith, lt)))
    (λ k d from lt. absurd (omega (arith, lt))) (λ k d from lt. after (suc k) d (omega arith) (omega (arith, lt))) in
    rw miss rest
filter_part p (x ∷ xs) zero (suc n) within before inside after =
    let hit : p x ≡ true = inside 0 x (omega arith) (omega arith) in
    let rest = filter_part p xs zero n (omega (arith, within)) (λ k d lt. absurd (omega (arith, lt)))
    (λ k d from lt. inside (suc k) d (omega arith) (omega (arith, lt)))
    (λ k d from lt. after (suc k) d (omega (arith, from)) (omega (arith, lt))) in
    rw hit (ap (λ l. x ∷ l) rest)
filter_part p (x ∷ xs) (suc i) n within before inside after =
    let miss : p x ≡ false = before 0 x (omega arith) in
    let rest = filter_part p xs i n (omega (arith, within))
    (λ k d lt. before (suc k) d (omega (arith, lt)))
    (λ k d from lt. inside (suc k) d (omega (arith, from)) (omega (arith, lt)))
    (λ k d from lt. after (suc k) d (omega (arith, from)) (omega (arith, lt))) in
    rw miss rest

-- ---- the numbers of a part

pub part_more : TotalsInParts → (amounts : List Amount) (i n : ℕ) (d : Amount) → i + n < length amounts
    → total (map (λ a. a.1) (take (n + 1) (drop i amounts)))
    ≡ total (map (λ a. a.1) (take n (drop i amounts))) +ℤ (get_or amounts (i + n) d).1
part_more law amounts i n d lt =
    let size = length-drop i amounts in
    let part = drop i amounts in
    let units : List Amount → List ℤ = λ l. map (λ a. a.1) l in
    let last : get_or part n d ≡ get_or amounts (i + n) d = get_or-drop i amounts n d in
    ap (λ l. total (units l)) (take_more part n d (omega (arith, lt, size)))
    ∙ ap total (map-append (λ (a : Amount). a.1) (take n part) (get_or part n d ∷ []))
    ∙ law (units (take n part)) ((get_or part n d).1 ∷ [])
    ∙ ap (λ u. total (units (take n part)) +ℤ u) (+ℤ_idr (get_or part n d).1)
    ∙ ap (λ (a : Amount). total (units (take n part)) +ℤ a.1) last

-- ---- a run

module _ (amounts : List Amount) (order : IsNonDecreasingBy number_of (cells_in amounts)) (i j : ℕ)
    (rows : List SumRow) (put : ArePut (parent_sum amounts) (cells_in amounts) i rows)
    (run : IsRun (cells_in amounts) i j) (c : Address) (is : c ≡ get_or (cells_in amounts) i c) where
  -- the cell at a place
  cell_at : (k : ℕ) (d : Amount) → (get_or amounts k d).0 ≡ get_or (cells_in amounts) k d.0
  cell_at k d = sym (get_or-map (λ (a : Amount). a.0) amounts k d)

  own : (d : Address) → number_of (get_or (cells_in amounts) i d) ≡ number_of c
  own d =
      let some = run.some in
      let w = run.within in
      ap number_of (default_at (cells_in amounts) i d c (omega (arith, some, w)) ∙ sym is)

  pub run_units : sum_where (is_same c) amounts ≡ total (map (λ a. a.1) (take (j - i) (drop i amounts)))
  run_units =
      let cells = cells_in amounts in
      let some = run.some in
      let w = run.within in
      let size = length-map amounts (λ (a : Amount). a.0) in
      let inside : i < length cells = omega (arith, some, w) in
      ap (λ l. total (map (λ (a : Amount). a.1) l)) (filter_part (λ (a : Amount). is_same c a.0) amounts i (j - i)
      (omega (arith, some, w, size))
      (λ k d lt. rw (cell_at k d) (differ (number_of (get_or cells k d.0)) (number_of c)
      (λ h. (let low = put.begun k d.0 lt inside in let o = own d.0 in omega (arith, h, low, o)))))
      (λ k d from lt. rw (cell_at k d) (eq-eqb (number_of (get_or cells k d.0)) (number_of c)
      (run.same k d.0 from (omega (arith, lt, some)) ∙ own d.0)))
      (λ k d from lt. rw (cell_at k d) (differ (number_of (get_or cells k d.0)) (number_of c)
      (λ h. (let up = later cells order i j run k d.0 (omega (arith, from, some)) (omega (arith, lt, size)) in
      let o = own d.0 in omega (arith, h, up, o))))))

  -- the row of a run: the text of its cell, how many pairs have it, and what their numbers add up to
  pub summed_run : (text : List ℕ) (s : Sum) → text ≡ text_of (number_of c) → sum_count s ≡ j - i
      → sum_units s ≡ total (map (λ a. a.1) (take (j - i) (drop i amounts))) → row_of text s ≡ parent_sum amounts c
  summed_run text s same count units =
      let many : times (cells_in amounts) c ≡ j - i =
      ap (times (cells_in amounts)) is ∙ run_times (parent_sum amounts) (cells_in amounts) order i j rows put run c in
      let n : sum_count s ≡ times (cells_in amounts) c = count ∙ sym many in
      let u : sum_units s ≡ sum_where (is_same c) amounts = units ∙ sym run_units in
      ap (λ t. record { name = t; count = sum_count s; units = sum_units s }) same
      ∙ ap (λ m. record { name = text_of (number_of c); count = m; units = sum_units s }) n
      ∙ ap (λ v. record { name = text_of (number_of c); count = times (cells_in amounts) c; units = v }) u

-- ---- the sums do not depend on the order of the list

sum_by_test : (test : Address → Bool) (amounts : List Amount)
    → sum_where test amounts ≡ total (map (λ a. if_so a.1 (test a.0)) amounts)
sum_by_test test [] = refl
sum_by_test test (a ∷ more) =
    sum_cons test a more ∙ ap (λ r. if_so a.1 (test a.0) +ℤ r) (sum_by_test test more)

sums_alike : TotalsInAnyOrder → (old new : List Amount) → IsPermutation old new → (a : Address)
    → sum_where (is_same a) new ≡ sum_where (is_same a) old
sums_alike law old new same a =
    let number : Amount → ℤ = λ b. if_so b.1 (is_same a b.0) in
    sum_by_test (is_same a) new
    ∙ law (map number old) (map number new) (IsPermutation-map number old new same)
    ∙ sym (sum_by_test (is_same a) old)

amounts_permuted : TotalsInAnyOrder → NumbersAreUnique → ZonesByNumber → (old new : List Amount)
    → All IsCell (cells_in old) → IsPermutation old new → parent_sums new ≡ parent_sums old
amounts_permuted law unique by_number old new valid same =
    let cells : IsPermutation (cells_in old) (cells_in new) = IsPermutation-map (λ (a : Amount). a.0) old new same in
    let alike : parent_sum new ≡ parent_sum old =
    fun_ext (λ a. ap (λ m. record { name = text_of (number_of a); count = m; units = sum_where (is_same a) new })
    (times_permuted (cells_in old) (cells_in new) cells a)
    ∙ ap (λ v. record { name = text_of (number_of a); count = times (cells_in old) a; units = v })
    (sums_alike law old new same a)) in
    ap (λ l. map (parent_sum new) l) (distinct_permuted unique by_number (cells_in old) (cells_in new) valid cells)
    ∙ ap (λ f. map f (distinct (cells_in old))) alike

pub sums_permuted : TotalsInAnyOrder → NumbersAreUnique → ZonesByNumber → (old new : List (Address × Number))
    → All (λ p. IsCell p.0) old → IsPermutation old new → parent_sums (amounts_of new) ≡ parent_sums (amounts_of old)
sums_permuted law unique by_number old new valid same =
    let cells : All IsCell (cells_in (amounts_of old)) =
    subst (All IsCell) (own_amounts old) (All-map IsCell (λ (p : Address × Number). p.0) old valid) in
    amounts_permuted law unique by_number (amounts_of old) (amounts_of new) cells
    (IsPermutation-map amount_of old new same)
