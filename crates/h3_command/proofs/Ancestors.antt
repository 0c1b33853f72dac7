-- The cells of a list, each once and in ascending order.
use Rattle.std.proofs.Common.{ℕ, zero, suc, ◌≡◌, ◌<◌, ◌⊎◌, ◌↔◌, ◌==◌, nat_lt, List, [], ◌∷◌, All, AllPairs, Contains, false, refl, arith, ◌∙◌, sym, subst, inl, inr, eq-eqb}
use Rattle.std.specs.List.Sorted.{IsPermutation}
use Rattle.std.proofs.lemmas.Bool.{both_ways, cases_Bool, cases_order, eqb-true, lt-ltb, ltb-true}
use Rattle.std.proofs.lemmas.List.Elements.{All-cons, All-tail}
use Rattle.std.proofs.lemmas.List.Kept.{AllPairs-cons}
use Rattle.std.proofs.lemmas.List.Sorted.{All-permutation, Contains-permutation, IsPermutation-sym}
use Rattle.h3_index.specs.Cell.{Address, IsCell, number_of}
use Rattle.h3_index.specs.Laws.{NumbersAreUnique}
use Rattle.h3_regions.specs.Laws.{ZonesByNumber}
use Rattle.h3_regions.specs.Zones.{by_number}
use Rattle.h3_command.specs.Parents.{distinct, with_cell}

contains_head : (x : Address) (xs : List Address) → Contains (x ∷ xs) x
contains_head x xs = (0, omega arith, refl)

contains_tail : (x y : Address) (xs : List Address) → Contains xs y → Contains (x ∷ xs) y
contains_tail x y xs h = (suc h.0, omega (arith, h.1), h.2)

contains_cases : (x y : Address) (xs : List Address) → Contains (x ∷ xs) y → (x ≡ y) ⊎ Contains xs y
contains_cases x y xs (zero, lt, e) = inl e
contains_cases x y xs (suc k, lt, e) = inr (k, omega (arith, lt), e)

-- what is neither below another number nor that number is above it
pub above : (a b : ℕ) → nat_lt a b ≡ false → (a == b) ≡ false → b < a
above a b less same =
    elim (cases_order a b) [
      | inl e ↦ absurd (both_ways (a == b) same (eq-eqb a b e))
      | inr (inl lt) ↦ absurd (both_ways (nat_lt a b) less (lt-ltb a b lt))
      | inr (inr gt) ↦ gt
    ]

-- ---- a cell is put among others

pub put_all : (P : Address → Type 0) (x : Address) (cs : List Address) → P x → All P cs → All P (with_cell x cs)
put_all P x [] px all = All-cons P x [] px all
put_all P x (c ∷ cs) px all =
    elim (cases_Bool (nat_lt (number_of x) (number_of c))) [
      | inl t ↦ rw t (All-cons P x (c ∷ cs) px all)
      | inr f ↦ elim (cases_Bool (number_of x == number_of c)) [
        | inl e ↦ rw (f, e) (All-cons P x cs px (All-tail P c cs all))
        | inr n ↦
            rw (f, n) (All-cons P c (with_cell x cs) (all 0 c (omega arith)) (put_all P x cs px (All-tail P c cs all)))
      ]
    ]

abbrev Rises : List Address → Type 0
Rises cells = AllPairs (λ a b. number_of a < number_of b) cells

pub rises_tail : (c : Address) (cs : List Address) → Rises (c ∷ cs) → Rises cs
rises_tail c cs rises i j d lt lj = rises (suc i) (suc j) d (omega (arith, lt)) (omega (arith, lj))

pub rises_head : (c : Address) (cs : List Address) → Rises (c ∷ cs) → All (λ d. number_of c < number_of d) cs
rises_head c cs rises i d lt = rises 0 (suc i) d (omega arith) (omega (arith, lt))

put_rises : (x : Address) (cs : List Address) → Rises cs → Rises (with_cell x cs)
put_rises x [] rises =
    AllPairs-cons (λ a b. number_of a < number_of b) x [] (λ i d lt. absurd (omega (arith, lt))) rises
put_rises x (c ∷ cs) rises =
    let R : Address → Address → Type 0 = λ a b. number_of a < number_of b in
    let later = rises_head c cs rises in
    elim (cases_Bool (nat_lt (number_of x) (number_of c))) [
      | inl t ↦
          let less = ltb-true (number_of x) (number_of c) t in
          let all : All (R x) cs = λ i d lt. (let m = later i d lt in omega (arith, less, m)) in
          rw t (AllPairs-cons R x (c ∷ cs) (All-cons (R x) c cs less all) rises)
      | inr f ↦ elim (cases_Bool (number_of x == number_of c)) [
        | inl e ↦
            let same = eqb-true (number_of x) (number_of c) e in
            let all : All (R x) cs = λ i d lt. (let m = later i d lt in omega (arith, same, m)) in
            rw (f, e) (AllPairs-cons R x cs all (rises_tail c cs rises))
        | inr n ↦
            let more = above (number_of x) (number_of c) f n in
            rw (f, n) (AllPairs-cons R c (with_cell x cs) (put_all (R c) x cs more later)
            (put_rises x cs (rises_tail c cs rises)))
      ]
    ]

put_has : (x : Address) (cs : List Address) (z : Address) → Contains (with_cell x cs) z → (x ≡ z) ⊎ Contains cs z
put_has x [] z m = contains_cases x z [] m
put_has x (c ∷ cs) z m =
    elim (cases_Bool (nat_lt (number_of x) (number_of c))) [
      | inl t ↦ contains_cases x z (c ∷ cs) (rw t at m)
      | inr f ↦ elim (cases_Bool (number_of x == number_of c)) [
        | inl e ↦ elim (contains_cases x z cs (rw (f, e) at m)) [
          | inl s ↦ inl s
          | inr k ↦ inr (contains_tail c z cs k)
        ]
        | inr n ↦ elim (contains_cases c z (with_cell x cs) (rw (f, n) at m)) [
          | inl s ↦ inr (subst (Contains (c ∷ cs)) s (contains_head c cs))
          | inr k ↦ elim (put_has x cs z k) [
            | inl s ↦ inl s
            | inr j ↦ inr (contains_tail c z cs j)
          ]
        ]
      ]
    ]

module _ (unique : NumbersAreUnique) where
  put_keeps : (x : Address) (cs : List Address) (z : Address) → IsCell x → All IsCell cs
      → (x ≡ z) ⊎ Contains cs z → Contains (with_cell x cs) z
  put_keeps x [] z vx valid (inl s) = subst (Contains (x ∷ [])) s (contains_head x [])
  put_keeps x [] z vx valid (inr m) = absurd (omega (arith, m.1))
  put_keeps x (c ∷ cs) z vx valid m =
      let vc : IsCell c = valid 0 c (omega arith) in
      elim (cases_Bool (nat_lt (number_of x) (number_of c))) [
        | inl t ↦ rw t (elim m [
          | inl s ↦ subst (Contains (x ∷ c ∷ cs)) s (contains_head x (c ∷ cs))
          | inr k ↦ contains_tail x z (c ∷ cs) k
        ])
        | inr f ↦ elim (cases_Bool (number_of x == number_of c)) [
          | inl e ↦
              let same : x ≡ c = unique x c vx vc (eqb-true (number_of x) (number_of c) e) in
              rw (f, e) (elim m [
                | inl s ↦ subst (Contains (x ∷ cs)) s (contains_head x cs)
                | inr k ↦ subst (λ y. Contains (y ∷ cs) z) (sym same) k
              ])
          | inr n ↦ rw (f, n) (elim m [
            | inl s ↦ contains_tail c z (with_cell x cs) (put_keeps x cs z vx (All-tail IsCell c cs valid) (inl s))
            | inr k ↦ elim (contains_cases c z cs k) [
              | inl s ↦ subst (Contains (c ∷ with_cell x cs)) s (contains_head c (with_cell x cs))
              | inr j ↦ contains_tail c z (with_cell x cs) (put_keeps x cs z vx (All-tail IsCell c cs valid) (inr j))
            ]
          ])
        ]
      ]

-- ---- all cells of a list

pub distinct_all : (P : Address → Type 0) (cells : List Address) → All P cells → All P (distinct cells)
distinct_all P [] all = all
distinct_all P (c ∷ cs) all =
    put_all P c (distinct cs) (all 0 c (omega arith)) (distinct_all P cs (All-tail P c cs all))

pub distinct_rises : (cells : List Address) → AllPairs (λ a b. number_of a < number_of b) (distinct cells)
distinct_rises [] = λ i j d lt lj. absurd (omega (arith, lj))
distinct_rises (c ∷ cs) = put_rises c (distinct cs) (distinct_rises cs)

distinct_has : (cells : List Address) (z : Address) → Contains (distinct cells) z → Contains cells z
distinct_has [] z m = m
distinct_has (c ∷ cs) z m =
    elim (put_has c (distinct cs) z m) [
      | inl s ↦ subst (Contains (c ∷ cs)) s (contains_head c cs)
      | inr k ↦ contains_tail c z cs (distinct_has cs z k)
    ]

module _ (unique : NumbersAreUnique) where
  distinct_keeps : (cells : List Address) (z : Address) → All IsCell cells → Contains cells z
      → Contains (distinct cells) z
  distinct_keeps [] z valid m = m
  distinct_keeps (c ∷ cs) z valid m =
      let rest = All-tail IsCell c cs valid in
      let inside : (c ≡ z) ⊎ Contains (distinct cs) z =
      elim (contains_cases c z cs m) [
        | inl s ↦ inl s
        | inr k ↦ inr (distinct_keeps cs z rest k)
      ] in
      put_keeps unique c (distinct cs) z (valid 0 c (omega arith)) (distinct_all IsCell cs rest) inside

  pub distinct_each : (cells : List Address) (x : Address) → All IsCell cells
      → Contains (distinct cells) x ↔ Contains cells x
  distinct_each cells x valid = (distinct_has cells x, distinct_keeps cells x valid)

  -- they are the cells by number
  pub distinct_by_number : ZonesByNumber → (cells : List Address) → All IsCell cells → distinct cells ≡ by_number cells
  distinct_by_number law cells valid =
      law cells (distinct cells) valid (distinct_rises cells) (λ z. (
        distinct_keeps cells z valid,
        distinct_has cells z,
      ))

  -- in any order of the list
  pub distinct_permuted : ZonesByNumber → (old new : List Address) → All IsCell old → IsPermutation old new
      → distinct new ≡ distinct old
  distinct_permuted law old new valid same =
      let valid_new = All-permutation IsCell old new same valid in
      let alike : (z : Address) → Contains old z ↔ Contains (distinct new) z =
      λ z. (
        λ m. distinct_keeps new z valid_new (Contains-permutation old new z same m),
        λ m. Contains-permutation new old z (IsPermutation-sym old new same) (distinct_has new z m),
      ) in
      law old (distinct new) valid (distinct_rises new) alike ∙ sym (distinct_by_number law old valid)
