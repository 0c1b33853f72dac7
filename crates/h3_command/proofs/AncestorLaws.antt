-- What is counted and added up by ancestors adds up to the whole.
use Rattle.std.proofs.Common.{ℕ, zero, suc, ◌≡◌, ◌+◌, ◌<◌, ◌==◌, nat_lt, List, [], ◌∷◌, length, map, sum, cond, All, AllPairs, Contains, false, eq-eqb, refl, arith, ◌⊎◌, ◌∙◌, sym, ap, subst, inl, inr}
use Rattle.std.specs.Prelude.{pos, ◌+ℤ◌}
use Rattle.std.specs.List.{sum_by}
use Rattle.std.proofs.Math.IntN.{+ℤ_idl, +ℤ_idr}
use Rattle.std.proofs.lemmas.Bool.{both_ways, cases_Bool, eqb-true}
use Rattle.std.proofs.lemmas.List.{length-map}
use Rattle.std.proofs.lemmas.List.Elements.{All-tail}
use Rattle.std.proofs.lemmas.List.Sums.{sum-map, sum_by-cons}
use Rattle.h3_index.specs.Cell.{Address, number_of}
use Rattle.h3_index.specs.Laws.{NumbersAreUnique}
use Rattle.h3_numbers.specs.Laws.{TotalsInParts}
use Rattle.h3_numbers.specs.Sum.{total}
use Rattle.h3_command.specs.AreaSums.{Amount, cells_in, sum_where}
use Rattle.h3_command.specs.ParentSums.{ParentSumsPrintedAddUp, parent_sum, parent_sums}
use Rattle.h3_command.specs.Parents.{ParentsPrintedOnce, distinct, is_same, parent_count, times, with_cell}
use Rattle.h3_command.specs.SumTables.{SumRow}
use Rattle.h3_command.proofs.AddedUp.{if_so, sum_cons, swapped}
use Rattle.h3_command.proofs.AncestorRuns.{count_first, differ}
use Rattle.h3_command.proofs.Ancestors.{distinct_each, distinct_rises, rises_head, rises_tail}
use Rattle.h3_command.proofs.Summing.{count_append, sum_append}

-- ---- each cell of a list has its number among the distinct ones

-- one of the cells has the number
abbrev HasNumber : List Address → ℕ → Type 0
HasNumber [] n = ⊥
HasNumber (c ∷ cs) n = (n ≡ number_of c) ⊎ HasNumber cs n

put_own : (x : Address) (cs : List Address) → HasNumber (with_cell x cs) (number_of x)
put_own x [] = inl refl
put_own x (c ∷ cs) =
    elim (cases_Bool (nat_lt (number_of x) (number_of c))) [
      | inl t ↦ rw t (inl refl)
      | inr f ↦ elim (cases_Bool (number_of x == number_of c)) [
        | inl e ↦ rw (f, e) (inl refl)
        | inr n ↦ rw (f, n) (inr (put_own x cs))
      ]
    ]

put_others : (x : Address) (cs : List Address) (n : ℕ) → HasNumber cs n → HasNumber (with_cell x cs) n
put_others x [] n never = absurd never
put_others x (c ∷ cs) n h =
    elim (cases_Bool (nat_lt (number_of x) (number_of c))) [
      | inl t ↦ rw t (inr h)
      | inr f ↦ elim (cases_Bool (number_of x == number_of c)) [
        | inl e ↦ rw (f, e) (elim h [
          | inl own ↦ inl (own ∙ sym (eqb-true (number_of x) (number_of c) e))
          | inr rest ↦ inr rest
        ])
        | inr ne ↦ rw (f, ne) (elim h [
          | inl own ↦ inl own
          | inr rest ↦ inr (put_others x cs n rest)
        ])
      ]
    ]

-- ---- weights of cells, added up

module _ {M : Type 0} (add : M → M → M) (none : M) (idl : (x : M) → add none x ≡ x) (idr : (x : M) → add x none ≡ x)
    (swap : (a b c d : M) → add (add a b) (add c d) ≡ add (add a c) (add b d)) where
  -- the sum of what f gives for cells
  abbrev over : (Address → M) → List Address → M
  over f [] = none
  over f (d ∷ ds) = add (f d) (over f ds)

  -- a weight, if a cell is the one it belongs to
  abbrev weight : Address × M → Address → M
  weight w a = cond (is_same a w.0) w.1 none

  nothing : (w : Address × M) (ds : List Address) → All (λ d. number_of w.0 < number_of d) ds
      → over (weight w) ds ≡ none
  nothing w [] above = refl
  nothing w (d ∷ ds) above =
      let low : number_of w.0 < number_of d = above 0 d (omega arith) in
      let miss : is_same d w.0 ≡ false = differ (number_of w.0) (number_of d) (λ h. omega (arith, h, low)) in
      ap (λ b. add (cond b w.1 none) (over (weight w) ds)) miss ∙ idl (over (weight w) ds)
      ∙ nothing w ds (All-tail (λ e. number_of w.0 < number_of e) d ds above)

  once : (w : Address × M) (ds : List Address) → AllPairs (λ a b. number_of a < number_of b) ds
      → HasNumber ds (number_of w.0) → over (weight w) ds ≡ w.1
  once w [] rises never = absurd never
  once w (d ∷ ds) rises has =
      elim (cases_Bool (number_of w.0 == number_of d)) [
        | inl e ↦
            let same = eqb-true (number_of w.0) (number_of d) e in
            let later = rises_head d ds rises in
            let above : All (λ e. number_of w.0 < number_of e) ds =
            λ i f lt. (let m = later i f lt in omega (arith, same, m)) in
            ap (λ b. add (cond b w.1 none) (over (weight w) ds)) e ∙ ap (add w.1) (nothing w ds above) ∙ idr w.1
        | inr n ↦
            let rest : HasNumber ds (number_of w.0) =
            elim has [
              | inl own ↦ absurd (both_ways (number_of w.0 == number_of d) n (eq-eqb (number_of w.0) (number_of d) own))
              | inr more ↦ more
            ] in
            ap (λ b. add (cond b w.1 none) (over (weight w) ds)) n ∙ idl (over (weight w) ds)
            ∙ once w ds (rises_tail d ds rises) rest
      ]

  both : (f g : Address → M) (ds : List Address) → over (λ a. add (f a) (g a)) ds ≡ add (over f ds) (over g ds)
  both f g [] = sym (idl none)
  both f g (d ∷ ds) = ap (add (add (f d) (g d))) (both f g ds) ∙ swap (f d) (g d) (over f ds) (over g ds)

  -- the sum of the weights that belong to a cell, and of all
  abbrev of_cell : List (Address × M) → Address → M
  of_cell [] a = none
  of_cell (w ∷ ws) a = add (weight w a) (of_cell ws a)

  abbrev of_all : List (Address × M) → M
  of_all [] = none
  of_all (w ∷ ws) = add w.1 (of_all ws)

  no_weights : (ds : List Address) → over (λ a. none) ds ≡ none
  no_weights [] = refl
  no_weights (d ∷ ds) = idl (over (λ a. none) ds) ∙ no_weights ds

  -- where each cell of the weights has its number among others that ascend, the sums of these add up to the whole
  spread : (ws : List (Address × M)) (ds : List Address) → AllPairs (λ a b. number_of a < number_of b) ds
      → ((w : Address × M) → Contains ws w → HasNumber ds (number_of w.0)) → over (of_cell ws) ds ≡ of_all ws
  spread [] ds rises has = no_weights ds
  spread (w ∷ ws) ds rises has =
      both (weight w) (of_cell ws) ds
      ∙ ap (λ m. add m (over (of_cell ws) ds)) (once w ds rises (has w (0, omega arith, refl)))
      ∙ ap (add w.1) (spread ws ds rises (λ v m. has v (suc m.0, omega (arith, m.1), m.2)))

-- each cell of weights has its number among the distinct ones of these cells
all_among : {M : Type 0} (ws : List (Address × M)) (w : Address × M) → Contains ws w
    → HasNumber (distinct (map (λ v. v.0) ws)) (number_of w.0)
all_among [] w m = absurd (omega (arith, m.1))
all_among (v ∷ vs) w (zero, lt, e) =
    subst (λ u. HasNumber (distinct (map (λ x. x.0) (v ∷ vs))) (number_of u.0)) e
    (put_own v.0 (distinct (map (λ x. x.0) vs)))
all_among (v ∷ vs) w (suc k, lt, e) =
    put_others v.0 (distinct (map (λ x. x.0) vs)) (number_of w.0) (all_among vs w (k, omega (arith, lt), e))

-- ---- sums

sums_of : (amounts : List Amount) (a : Address) → sum_where (is_same a) amounts
    ≡ of_cell ◌+ℤ◌ (pos 0) +ℤ_idl +ℤ_idr swapped amounts a
sums_of [] a = refl
sums_of (v ∷ vs) a = sum_cons (is_same a) v vs ∙ ap (λ r. if_so v.1 (is_same a v.0) +ℤ r) (sums_of vs a)

row_units : (amounts : List Amount) (ds : List Address) → total (map (λ row. row.units) (map (parent_sum amounts) ds))
    ≡ over ◌+ℤ◌ (pos 0) +ℤ_idl +ℤ_idr swapped (of_cell ◌+ℤ◌ (pos 0) +ℤ_idl +ℤ_idr swapped amounts) ds
row_units amounts [] = refl
row_units amounts (d ∷ ds) =
    ap (λ u. u +ℤ total (map (λ row. row.units) (map (parent_sum amounts) ds))) (sums_of amounts d)
    ∙ ap (λ r. of_cell ◌+ℤ◌ (pos 0) +ℤ_idl +ℤ_idr swapped amounts d +ℤ r) (row_units amounts ds)

all_units : (amounts : List Amount) → of_all ◌+ℤ◌ (pos 0) +ℤ_idl +ℤ_idr swapped amounts ≡ total (map (λ a. a.1) amounts)
all_units [] = refl
all_units (a ∷ more) = ap (λ r. a.1 +ℤ r) (all_units more)

sums_whole : (amounts : List Amount)
    → total (map (λ row. row.units) (parent_sums amounts)) ≡ total (map (λ a. a.1) amounts)
sums_whole amounts =
    row_units amounts (distinct (cells_in amounts))
    ∙ spread ◌+ℤ◌ (pos 0) +ℤ_idl +ℤ_idr swapped amounts (distinct (cells_in amounts))
    (distinct_rises (cells_in amounts))
    (all_among amounts)
    ∙ all_units amounts

-- ---- counts

plus_none : (n : ℕ) → 0 + n ≡ n
plus_none n = omega arith

none_plus : (n : ℕ) → n + 0 ≡ n
none_plus n = omega arith

plus_swapped : (a b c d : ℕ) → (a + b) + (c + d) ≡ (a + c) + (b + d)
plus_swapped a b c d = omega arith

-- each cell with the weight 1
abbrev ones : List Address → List (Address × ℕ)
ones cells = map (λ c. (c, 1)) cells

ones_cells : (cells : List Address) → map (λ w. w.0) (ones cells) ≡ cells
ones_cells [] = refl
ones_cells (c ∷ cs) = ap (λ l. c ∷ l) (ones_cells cs)

times_of : (cells : List Address) (a : Address)
    → times cells a ≡ of_cell ◌+◌ 0 plus_none none_plus plus_swapped (ones cells) a
times_of [] a = refl
times_of (c ∷ cs) a = count_first (is_same a) c cs ∙ ap (λ r. cond (is_same a c) 1 0 + r) (times_of cs a)

all_ones : (cells : List Address) → of_all ◌+◌ 0 plus_none none_plus plus_swapped (ones cells) ≡ length cells
all_ones [] = refl
all_ones (c ∷ cs) = let rest = all_ones cs in omega (arith, rest)

module _ {X : Type 0} (count : X → ℕ) (row : Address → X) (cells : List Address)
    (is : (a : Address) → count (row a) ≡ times cells a) where
  row_counts : (ds : List Address) → sum_by count (map row ds) ≡ over ◌+◌ 0 plus_none none_plus plus_swapped
      (of_cell ◌+◌ 0 plus_none none_plus plus_swapped (ones cells)) ds
  row_counts [] = refl
  row_counts (d ∷ ds) =
      sum_by-cons count (row d) (map row ds)
      ∙ ap (λ n. n + sum_by count (map row ds)) (is d ∙ times_of cells d)
      ∙ ap (λ r. of_cell ◌+◌ 0 plus_none none_plus plus_swapped (ones cells) d + r) (row_counts ds)

counts_whole : {X : Type 0} (count : X → ℕ) (row : Address → X) (cells : List Address)
    → ((a : Address) → count (row a) ≡ times cells a) → sum (map count (map row (distinct cells))) ≡ length cells
counts_whole count row cells is =
    let among : (w : Address × ℕ) → Contains (ones cells) w → HasNumber (distinct cells) (number_of w.0) =
    λ w m. subst (λ l. HasNumber (distinct l) (number_of w.0)) (ones_cells cells) (all_among (ones cells) w m) in
    sum-map count (map row (distinct cells)) ∙ row_counts count row cells is (distinct cells)
    ∙ spread ◌+◌ 0 plus_none none_plus plus_swapped (ones cells) (distinct cells) (distinct_rises cells) among
    ∙ all_ones cells

-- ---- the laws

pub parents_once : NumbersAreUnique → ParentsPrintedOnce
parents_once unique = record {
  each = λ cells x valid. distinct_each unique cells x valid;
  ascending = distinct_rises;
  all = λ cells. counts_whole (λ (row : List ℕ × ℕ). row.1) (parent_count cells) cells (λ a. refl);
  in_parts = λ cell xs ys. count_append (is_same cell) xs ys;
}

pub sums_add_up : TotalsInParts → ParentSumsPrintedAddUp
sums_add_up law = record {
  counts = λ amounts. (
      counts_whole (λ (row : SumRow). row.count) (parent_sum amounts) (cells_in amounts) (λ a. refl)
      ∙ length-map amounts (λ (a : Amount). a.0));
  sums = sums_whole;
  in_parts = λ cell xs ys. sum_append law (is_same cell) xs ys;
}
