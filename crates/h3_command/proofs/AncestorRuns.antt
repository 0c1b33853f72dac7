-- Equal cells that stand together in a list that ascends.
use Rattle.std.proofs.Common.{ℕ, zero, suc, ◌≡◌, ◌≢◌, ◌+◌, ◌-◌, ◌<◌, ◌≤◌, ◌==◌, nat_lt, List, [], ◌∷◌, ◌++◌, length, drop, map, cond, All, Bool, true, false, refl, arith, ◌∙◌, sym, ap, inl, inr, get_or, append-nil, append_assoc, eq-eqb}
use Rattle.std.proofs.Math.Path.{fun_ext}
use Rattle.std.specs.List.{count_by}
use Rattle.std.specs.List.Sorted.{IsNonDecreasingBy, IsPermutation}
use Rattle.std.proofs.lemmas.List.Sorted.{sum_by-IsPermutation}
use Rattle.std.proofs.lemmas.Bool.{cases_Bool, cases_lt, cases_order, eqb-true, lt-ltb, ltb-true}
use Rattle.std.proofs.lemmas.List.{drop_more, get_or-drop, get_or-map, length-drop, length-map}
use Rattle.std.proofs.lemmas.List.Sums.{sum_by-cons}
use Rattle.h3_index.specs.Cell.{Address, IsCell, number_of}
use Rattle.h3_index.specs.Laws.{NumbersAreUnique}
use Rattle.h3_index.specs.Text.{text_of}
use Rattle.h3_regions.specs.Laws.{ZonesByNumber}
use Rattle.h3_command.specs.ParentRuns.{ArePut, IsRun}
use Rattle.h3_command.specs.Parents.{distinct, is_same, parent_count, parent_counts, times, with_cell}
use Rattle.h3_command.proofs.Ancestors.{distinct_all, distinct_permuted}
use Rattle.h3_command.proofs.Summing.{default_at}

no_more : {X : Type 0} (xs : List X) → length xs ≤ 0 → xs ≡ []
no_more [] le = refl
no_more (x ∷ xs) le = absurd (omega (arith, le))

-- ---- a cell before others of a list that ascends

put_front : (x : Address) (cs : List Address) → All (λ d. number_of x < number_of d) cs → with_cell x cs ≡ x ∷ cs
put_front x [] all = refl
put_front x (c ∷ cs) all =
    let less : nat_lt (number_of x) (number_of c) ≡ true = lt-ltb (number_of x) (number_of c) (all 0 c (omega arith)) in
    rw less refl

put_same : (x c : Address) (cs : List Address) → number_of x ≡ number_of c → with_cell x (c ∷ cs) ≡ x ∷ cs
put_same x c cs e =
    elim (cases_Bool (nat_lt (number_of x) (number_of c))) [
      | inl t ↦ let less = ltb-true (number_of x) (number_of c) t in absurd (omega (arith, less, e))
      | inr f ↦
          let same : (number_of x == number_of c) ≡ true = eq-eqb (number_of x) (number_of c) e in
          rw (f, same) refl
    ]

-- two numbers that are not equal
pub differ : (a b : ℕ) → a ≢ b → (a == b) ≡ false
differ a b ne =
    elim (cases_Bool (a == b)) [
      | inl t ↦ absurd (ne (eqb-true a b t))
      | inr f ↦ f
    ]

-- ---- a run

module _ (cells : List Address) (order : IsNonDecreasingBy number_of cells) (i j : ℕ) (run : IsRun cells i j) where
  -- what comes after it is above it
  pub later : (k : ℕ) (d : Address) → j ≤ k → k < length cells
      → number_of (get_or cells i d) < number_of (get_or cells k d)
  later k d le lt =
      let some = run.some in
      let up : number_of (get_or cells i d) ≤ number_of (get_or cells j d) =
      order i j d (omega (arith, some)) (omega (arith, le, lt)) in
      let more : number_of (get_or cells j d) ≤ number_of (get_or cells k d) = order j k d le lt in
      let ne = run.next d (omega (arith, le, lt)) in
      elim (cases_order (number_of (get_or cells i d)) (number_of (get_or cells j d))) [
        | inl e ↦ absurd (ne (sym e))
        | inr (inl less) ↦ omega (arith, less, more)
        | inr (inr gt) ↦ absurd (omega (arith, gt, up))
      ]

  all_later : (k : ℕ) (d : Address) → i ≤ k → k < j
      → All (λ c. number_of (get_or cells k d) < number_of c) (drop j cells)
  all_later k d le lt m e lm =
      let size = length-drop j cells in
      let same = run.same k d le lt in
      let inside : j + m < length cells = omega (arith, lm, size) in
      let above = later (j + m) d (omega arith) inside in
      let at : get_or (drop j cells) m e ≡ get_or cells (j + m) e = get_or-drop j cells m e in
      let same_e = run.same k e le lt in
      let above_e = later (j + m) e (omega arith) inside in
      let there : number_of (get_or cells k d) ≡ number_of (get_or cells k e) =
      ap number_of (default_at cells k d e (let w = run.within in omega (arith, lt, w))) in
      rw at (omega (arith, there, same_e, above_e))

  from_run : (n k : ℕ) (d : Address) → i ≤ k → k + suc n ≡ j
      → distinct (drop k cells) ≡ get_or cells k d ∷ distinct (drop j cells)
  from_run zero k d le is =
      let w = run.within in
      let here : distinct (drop k cells) ≡ with_cell (get_or cells k d) (distinct (drop (k + 1) cells)) =
      ap distinct (drop_more cells k d (omega (arith, w, is))) in
      let at : k + 1 ≡ j = omega (arith, is) in
      let c = get_or cells k d in
      let front : with_cell c (distinct (drop j cells)) ≡ c ∷ distinct (drop j cells) =
      put_front c (distinct (drop j cells))
      (distinct_all (λ x. number_of c < number_of x) (drop j cells) (all_later k d le (omega (arith, is)))) in
      here ∙ ap (λ l. with_cell c (distinct (drop l cells))) at ∙ front
  from_run (suc n) k d le is =
      let w = run.within in
      let here : distinct (drop k cells) ≡ with_cell (get_or cells k d) (distinct (drop (k + 1) cells)) =
      ap distinct (drop_more cells k d (omega (arith, w, is))) in
      let rest = from_run n (k + 1) d (omega (arith, le)) (omega (arith, is)) in
      let one = run.same k d le (omega (arith, is)) in
      let two = run.same (k + 1) d (omega (arith, le)) (omega (arith, is)) in
      here ∙ ap (with_cell (get_or cells k d)) rest
      ∙ put_same (get_or cells k d) (get_or cells (k + 1) d) (distinct (drop j cells)) (one ∙ sym two)

  run_first : (d : Address) → distinct (drop i cells) ≡ get_or cells i d ∷ distinct (drop j cells)
  run_first d = let some = run.some in from_run (j - i - 1) i d (omega arith) (omega (arith, some))

-- ---- how many of a list pass a test that those of a part alone pass

-- one cell more, in front
pub count_first : (p : Address → Bool) (c : Address) (cs : List Address)
    → count_by p (c ∷ cs) ≡ cond (p c) 1 0 + count_by p cs
count_first p c cs = sum_by-cons (λ x. cond (p x) 1 0) c cs

pub count_part : (p : Address → Bool) (cells : List Address) (i j : ℕ) → i ≤ j → j ≤ length cells
    → ((k : ℕ) (d : Address) → k < i → p (get_or cells k d) ≡ false)
    → ((k : ℕ) (d : Address) → i ≤ k → k < j → p (get_or cells k d) ≡ true)
    → ((k : ℕ) (d : Address) → j ≤ k → k < length cells → p (get_or cells k d) ≡ false)
    → count_by p cells ≡ j - i
count_part p [] i j le within before inside after = omega (arith, le, within)
count_part p (c ∷ cs) zero zero le within before inside after =
    let miss : p c ≡ false = after 0 c (omega arith) (omega arith) in
    let rest = count_part p cs zero zero (omega arith) (omega arith) (λ k d lt. absurd (omega (arith, lt)))
    (λ k d from lt. absurd (omega (arith, lt))) (λ k d from lt. after (suc k) d (omega arith) (omega (arith, lt))) in
    let more : count_by p (c ∷ cs) ≡ 0 + count_by p cs =
    count_first p c cs ∙ ap (λ b. cond b 1 0 + count_by p cs) miss in
    omega (arith, more, rest)
count_part p (c ∷ cs) zero (suc j) le within before inside after =
    let hit : p c ≡ true = inside 0 c (omega arith) (omega arith) in
    let rest = count_part p cs zero j (omega arith) (omega (arith, within)) (λ k d lt. absurd (omega (arith, lt)))
    (λ k d from lt. inside (suc k) d (omega arith) (omega (arith, lt)))
    (λ k d from lt. after (suc k) d (omega (arith, from)) (omega (arith, lt))) in
    let first = count_first p c cs in
    let more : count_by p (c ∷ cs) ≡ 1 + count_by p cs = first ∙ ap (λ b. cond b 1 0 + count_by p cs) hit in
    omega (arith, more, rest)
count_part p (c ∷ cs) (suc i) zero le within before inside after = absurd (omega (arith, le))
count_part p (c ∷ cs) (suc i) (suc j) le within before inside after =
    let miss : p c ≡ false = before 0 c (omega arith) in
    let rest = count_part p cs i j (omega (arith, le)) (omega (arith, within))
    (λ k d lt. before (suc k) d (omega (arith, lt)))
    (λ k d from lt. inside (suc k) d (omega (arith, from)) (omega (arith, lt)))
    (λ k d from lt. after (suc k) d (omega (arith, from)) (omega (arith, lt))) in
    let more : count_by p (c ∷ cs) ≡ 0 + count_by p cs =
    count_first p c cs ∙ ap (λ b. cond b 1 0 + count_by p cs) miss in
    omega (arith, more, rest)

-- ---- one run after another

module _ {X : Type 0} (row : Address → X) (cells : List Address) where
  pub none_put : ArePut row cells 0 []
  none_put = record {
    within = omega arith;
    split = refl;
    begun = λ k d lt. absurd (omega (arith, lt));
  }

  pub all_put : (i : ℕ) (rows : List X) → ArePut row cells i rows → length cells ≤ i → map row (distinct cells) ≡ rows
  all_put i rows put end =
      let size = length-drop i cells in
      let none : drop i cells ≡ [] = no_more (drop i cells) (omega (arith, size, end)) in
      put.split ∙ ap (λ l. rows ++ map row (distinct l)) none ∙ append-nil rows

  module _ (order : IsNonDecreasingBy number_of cells) (i j : ℕ) (rows : List X) (put : ArePut row cells i rows)
      (run : IsRun cells i j) where
    pub more_put : (d : Address) → ArePut row cells j (rows ++ row (get_or cells i d) ∷ [])
    more_put d = record {
      within = run.within;
      split =
          put.split ∙ ap (λ l. rows ++ map row l) (run_first cells order i j run d)
          ∙ sym (append_assoc rows (row (get_or cells i d) ∷ []) (map row (distinct (drop j cells))));
      begun = λ k e lt lj. (
          let some = run.some in
          let up : number_of (get_or cells i e) < number_of (get_or cells j e) =
          later cells order i j run j e (omega arith) lj in
          elim (cases_lt k i) [
            | inl less ↦
                let low = put.begun k e less (omega (arith, some, lj)) in
                omega (arith, low, up)
            | inr from ↦
                let same = run.same k e from lt in
                omega (arith, same, up)
          ]);
    }

    -- how many places have the cell of the run
    pub run_times : (d : Address) → times cells (get_or cells i d) ≡ j - i
    run_times d =
        let c = get_or cells i d in
        let some = run.some in
        let w = run.within in
        let own : (e : Address) → number_of (get_or cells i e) ≡ number_of c =
        λ e. ap number_of (default_at cells i e d (omega (arith, some, w))) in
        count_part (is_same c) cells i j (omega (arith, some)) run.within
        (λ k e lt. differ (number_of (get_or cells k e)) (number_of c)
        (λ h. (let low = put.begun k e lt (omega (arith, some, w)) in let o = own e in omega (arith, h, low, o))))
        (λ k e from lt. eq-eqb (number_of (get_or cells k e)) (number_of c) (run.same k e from lt ∙ own e))
        (λ k e from lt. differ (number_of (get_or cells k e)) (number_of c)
        (λ h. (let up = later cells order i j run k e from lt in let o = own e in omega (arith, h, up, o))))

-- ---- the cells of items

pub cell_there : {T : Type 0} (cell_of : T → Address) (items : List T) (k : ℕ) (t : T) (d : Address) → k < length items
    → get_or items k t ≡ t → get_or (map cell_of items) k d ≡ cell_of t
cell_there cell_of items k t d lt is = get_or-map cell_of items k t d lt ∙ ap cell_of is

pub cells_ascend : {T : Type 0} (cell_of : T → Address) (items : List T)
    → IsNonDecreasingBy (λ t. number_of (cell_of t)) items → IsNonDecreasingBy number_of (map cell_of items)
cells_ascend cell_of [] order i j d le lt = absurd (omega (arith, lt))
cells_ascend cell_of (t ∷ ts) order i j d le lt =
    let size = length-map (t ∷ ts) cell_of in
    let inside : j < length (t ∷ ts) = omega (arith, lt, size) in
    let low : get_or (map cell_of (t ∷ ts)) i d ≡ cell_of (get_or (t ∷ ts) i t) =
    get_or-map cell_of (t ∷ ts) i t d (omega (arith, le, inside)) in
    let high : get_or (map cell_of (t ∷ ts)) j d ≡ cell_of (get_or (t ∷ ts) j t) =
    get_or-map cell_of (t ∷ ts) j t d inside in
    rw (low, high) (order i j t le inside)

pub own_cells : (cells : List Address) → map (λ c. c) cells ≡ cells
own_cells [] = refl
own_cells (c ∷ cs) = ap (λ l. c ∷ l) (own_cells cs)

-- the row of a run: the text of its cell, and how many places it has
pub counted_run : (cells : List Address) → IsNonDecreasingBy number_of cells → (i j : ℕ) (rows : List (List ℕ × ℕ))
    → ArePut (parent_count cells) cells i rows → IsRun cells i j → (c : Address) → c ≡ get_or cells i c
    → (text : List ℕ) → text ≡ text_of (number_of c) → (text, j - i) ≡ parent_count cells c
counted_run cells order i j rows put run c is text same =
    let many : times cells c ≡ j - i =
    ap (times cells) is ∙ run_times (parent_count cells) cells order i j rows put run c in
    ap (λ t. (t, j - i)) same ∙ ap (λ n. (text_of (number_of c), n)) (sym many)

pub times_permuted : (old new : List Address) → IsPermutation old new → (cell : Address)
    → times new cell ≡ times old cell
times_permuted old new same cell = sum_by-IsPermutation (λ x. cond (is_same cell x) 1 0) old new same

-- the counts do not depend on the order of the list
pub counts_permuted : NumbersAreUnique → ZonesByNumber → (old new : List Address) → All IsCell old
    → IsPermutation old new → parent_counts new ≡ parent_counts old
counts_permuted unique law old new valid same =
    let alike : parent_count new ≡ parent_count old =
    fun_ext (λ a. ap (λ n. (text_of (number_of a), n)) (times_permuted old new same a)) in
    ap (λ l. map (parent_count new) l) (distinct_permuted unique law old new valid same)
    ∙ ap (λ f. map f (distinct old)) alike
