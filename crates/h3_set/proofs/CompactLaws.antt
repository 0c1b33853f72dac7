-- From the first part of a list to its compacted list.
use Rattle.std.proofs.Common.{ℕ, zero, suc, ◌≡◌, ◌≢◌, ◌<◌, ◌≤◌, ◌↔◌, ◌==◌, List, [], ◌∷◌, length, All, AllPairs, Contains, Bool, false, IsPermutation, arith, sym, subst, inl, inr, get_or}
use Rattle.std.proofs.lemmas.Bool.Decides.{nat_tests}
use Rattle.std.proofs.lemmas.List.Elements.{All-contains, Contains-get_or}
use Rattle.std.proofs.lemmas.List.Sorted.{All-permutation}
use Rattle.std.proofs.lemmas.Map.Keys.{IsDistinct-IsPermutation}
use Rattle.std.specs.List.{AllByRecursion, IsDistinct}
use Rattle.h3_index.specs.Cell.{Address, IsCell, number_of, resolution}
use Rattle.h3_index.specs.Count.{CellsUpToAreListed}
use Rattle.h3_tree.specs.Laws.{CellsFormTrees}
use Rattle.h3_set.specs.Compacted.{compacted, IsCompacted}
use Rattle.h3_set.specs.Coverage.{finest, IsCovered}
use Rattle.h3_set.proofs.PartitionLaws.{compacted_made, coverages_decide, finest_is_fine}
use Rattle.h3_set.proofs.PermutedLaws.{apart_permuted, members_permuted}
use Rattle.h3_set.proofs.TreeLaws.{contains_cases, contains_head, contains_tail, other_number, same_number}

-- ---- the order of the slots at the end

flips : (a b : ℕ) → (a == b) ≡ (b == a)
flips a b = grind (arith, nat_tests)

abbrev same_cell : Address → Address → Bool
same_cell a b = number_of a == number_of b

each : (P : Address → Type 0) (xs : List Address) → ((x : Address) → Contains xs x → P x) → AllByRecursion P xs
each P [] h = tt
each P (x ∷ xs) h = (h x (contains_head x xs), each P xs (λ y m. h y (contains_tail x y xs m)))

of_each : (P : Address → Type 0) (xs : List Address) (x : Address) → AllByRecursion P xs → Contains xs x → P x
of_each P [] x h m = absurd (omega (arith, m.1))
of_each P (y ∷ xs) x h m = elim (contains_cases y x xs m) [ inl e ↦ subst P e h.0 | inr n ↦ of_each P xs x h.1 n ]

distinct : (xs : List Address) → AllPairs (λ a b. number_of a ≢ number_of b) xs → IsDistinct same_cell xs
unfolding IsDistinct
distinct [] h = tt
distinct (x ∷ xs) h = (
  each (λ y. same_cell x y ≡ false) xs
      (λ y m. other_number _ _ (rw m.2 at (h 0 (suc m.0) y (omega arith) (omega (arith, m.1))))),
  distinct xs (λ i j d lt lj. h (suc i) (suc j) d (omega (arith, lt)) (omega (arith, lj))),
)

rises : (xs : List Address) → IsDistinct same_cell xs → AllPairs (λ a b. number_of a ≤ number_of b) xs
    → AllPairs (λ a b. number_of a < number_of b) xs
unfolding IsDistinct
rises [] p h i j d lt lj = absurd (omega (arith, lj))
rises (x ∷ xs) p h i zero d lt lj = absurd (omega (arith, lt))
rises (x ∷ xs) p h zero (suc j) d lt lj =
    let b = get_or xs j d in
    let other = of_each (λ y. same_cell x y ≡ false) xs b p.0 (Contains-get_or xs j d (omega (arith, lj))) in
    let le = h 0 (suc j) d lt lj in
    let differ : number_of x ≢ number_of b = λ e. (let same = same_number _ _ e in cc) in
    omega (arith, le, differ)
rises (x ∷ xs) p h (suc i) (suc j) d lt lj =
    rises xs p.1 (λ k l e lt' ll. h (suc k) (suc l) e (omega (arith, lt')) (omega (arith, ll))) i j d
    (omega (arith, lt)) (omega (arith, lj))

-- ---- cells of one resolution

module _ (tree : CellsFormTrees) where
  -- cells of one resolution cover themselves
  pub cover_themselves : (cells : List Address) (r : ℕ) → All IsCell cells → All (λ c. resolution c ≡ r) cells
      → (x : Address) → IsCovered cells r x ↔ Contains cells x
  cover_themselves cells r valid level x = (
    (λ c.
        let at : length c.by.digits ≡ r = All-contains (λ a. resolution a ≡ r) cells c.by level c.member in
        subst (Contains cells) (sym (tree.same c.by x c.below.under (omega (arith, at, c.below.resolution_is))))
        c.member),
    (λ m. record {
      by = x;
      member = m;
      below = record {
        valid = All-contains IsCell cells x valid m;
        resolution_is = All-contains (λ a. resolution a ≡ r) cells x level m;
        under = tree.own x;
      };
    }),
  )

module _ (tree : CellsFormTrees) (listed : CellsUpToAreListed) where
  -- the compacted list does not depend on the order of the cells
  pub compacted_permuted : (cells others : List Address) → All IsCell cells → IsPermutation cells others
      → compacted cells ≡ compacted others
  compacted_permuted cells others valid p =
      let v = All-permutation IsCell cells others p valid in
      let same = members_permuted cells others p in
      coverages_decide tree listed cells others 15 valid v (finest_is_fine cells valid) (finest_is_fine others v)
      (omega arith) (λ x. (
        (λ c. record { by = c.by; member = (same c.by).0 c.member; below = c.below }),
        (λ c. record { by = c.by; member = (same c.by).1 c.member; below = c.below }),
      ))

  -- in ascending order the cells of a compacted list are that list
  pub sorted_is : (cells sorted : List Address) → All IsCell cells → IsPermutation (compacted cells) sorted
      → AllPairs (λ a b. number_of a ≤ number_of b) sorted
      → IsCompacted (IsCovered cells (finest cells)) (finest cells) sorted
  sorted_is cells sorted valid p ascends =
      let k = compacted_made tree listed cells valid in
      let same = members_permuted (compacted cells) sorted p in
      record {
        ascending =
            rises sorted
            (IsDistinct-IsPermutation same_cell (λ a b. flips (number_of a) (number_of b)) (compacted cells) sorted
            p (distinct (compacted cells)
            (λ i j d lt lj. (let up = k.ascending i j d lt lj in λ e. omega (arith, up, e)))))
            ascends;
        cells_valid = All-permutation IsCell (compacted cells) sorted p k.cells_valid;
        coarse = All-permutation (λ c. resolution c ≤ finest cells) (compacted cells) sorted p k.coarse;
        apart = apart_permuted (compacted cells) sorted p k.apart;
        covers = λ x. (
          (λ s. (let c = (k.covers x).0 s in record { by = c.by; member = (same c.by).0 c.member; below = c.below })),
          (λ c. (k.covers x).1 (record { by = c.by; member = (same c.by).1 c.member; below = c.below })),
        );
        no_siblings =
            λ q h. k.no_siblings q (record { valid = h.valid; coarse = h.coarse; all = λ y b. (same y).1 (h.all y b) });
      }
