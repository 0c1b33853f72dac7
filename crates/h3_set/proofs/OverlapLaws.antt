-- Which lists have cells that overlap; in a list in order two neighbors do where any two cells do.
use Rattle.std.specs.Bool.{Decides}
use Rattle.std.specs.List.{list_any, AllWithin}
use Rattle.std.specs.List.Sorted.{IsPermutation}
use Rattle.std.proofs.Common.{ℕ, zero, suc, ◌≡◌, ◌≢◌, ◌+◌, ◌-◌, ◌^◌, ◌<◌, ◌≤◌, List, [], ◌∷◌, length, All, AllPairs, Bool, true, false, ◌||◌, ◌&&◌, nat_le, refl, arith, ◌∙◌, sym, subst, inl, inr, get_or}
use Rattle.std.proofs.Math.Nat.{one-le-pow}
use Rattle.std.proofs.lemmas.Bool.{both_ways, cases_lt}
use Rattle.std.proofs.lemmas.Bool.Decides.{Decides-like, Decides-or, nat_tests}
use Rattle.std.proofs.lemmas.List.Folds.{list_any_at, list_any_none}
use Rattle.std.proofs.lemmas.List.Sorted.{IsPermutation-sym}
use Rattle.h3_index.specs.Cell.{Address, IsCell}
use Rattle.h3_index.specs.Descendants.{IsAncestor}
use Rattle.h3_tree.specs.Laws.{CellsFormTrees}
use Rattle.h3_tree.specs.PostOrder.{post_order_key as key, CellsFormIntervals}
use Rattle.h3_set.specs.Coverage.{is_ancestor, IsApart, Overlap}
use Rattle.h3_set.specs.Laws.{OneResolutionIsApart, OverlapsAreFound}
use Rattle.h3_set.specs.Order.{IsBeforeBlock, IsInOrder}
use Rattle.h3_set.specs.Refusals.{has_overlap, overlaps}
use Rattle.h3_set.proofs.KeyLaws.{inside, within}
use Rattle.h3_set.proofs.PermutedLaws.{apart_permuted}
use Rattle.h3_set.proofs.TestLaws.{ancestor_decides}
use Rattle.h3_set.proofs.TreeLaws.{any_default}

overlaps_decides : (a b : Address) → Decides (overlaps a b) (Overlap a b)
overlaps_decides a b =
    Decides-like (overlaps a b) (λ h. h) (λ h. h)
    (Decides-or (is_ancestor a b) (is_ancestor b a) (ancestor_decides a b) (ancestor_decides b a))

neither : (a b : Bool) → (a || b) ≡ false → (a ≡ false) × (b ≡ false)
neither false b h = (refl, h)
neither true b h = cc

not_true : (b : Bool) → (b ≢ true) → b ≡ false
not_true true h = absurd (h refl)
not_true false h = refl

pub apart_where : (cells : List Address) → has_overlap cells ≡ false → IsApart cells
apart_where [] h i j d lt lj o = omega (arith, lj)
apart_where (c ∷ cells) h zero zero d lt lj o = omega (arith, lt)
apart_where (c ∷ cells) h zero (suc j) d lt lj o =
    let found : list_any (overlaps c) cells ≡ true =
    list_any_at (overlaps c) cells j d (omega (arith, lj)) ((overlaps_decides c (get_or cells j d)).1 o) in
    both_ways (list_any (overlaps c) cells) (neither (list_any (overlaps c) cells) (has_overlap cells) h).0 found
apart_where (c ∷ cells) h (suc i) zero d lt lj o = omega (arith, lt)
apart_where (c ∷ cells) h (suc i) (suc j) d lt lj o =
    apart_where cells (neither (list_any (overlaps c) cells) (has_overlap cells) h).1 i j d (omega (arith, lt))
    (omega (arith, lj)) o

pub none_where : (cells : List Address) → IsApart cells → has_overlap cells ≡ false
none_where [] h = refl
none_where (c ∷ cells) h =
    let here : list_any (overlaps c) cells ≡ false =
    list_any_none (overlaps c) cells (λ k d lt.
    not_true (overlaps c (get_or cells k d))
    (λ t. h 0 (suc k) d (omega arith) (omega (arith, lt)) ((overlaps_decides c (get_or cells k d)).0 t))) in
    let others : has_overlap cells ≡ false =
    none_where cells (λ i j d lt lj. h (suc i) (suc j) d (omega (arith, lt)) (omega (arith, lj))) in
    rw (here, others) refl

-- the test finds exactly the lists with cells that overlap
pub overlaps_found : OverlapsAreFound
overlaps_found cells = (apart_where cells, none_where cells)

-- cells of one resolution overlap only where they are one
pub one_resolution : (tree : CellsFormTrees) → OneResolutionIsApart
one_resolution tree cells r level = (
  (λ apart i j d lt lj e.
      apart i j d lt lj (inl (subst (IsAncestor (get_or cells i d)) e (tree.own (get_or cells i d))))),
  (λ once i j d lt lj o.
      let a = get_or cells i d in
      let b = get_or cells j d in
      let at_a : length a.digits ≡ r = level i d (omega (arith, lt, lj)) in
      let at_b : length b.digits ≡ r = level j d lj in
      once i j d lt lj (elim o [
        | inl above ↦ sym (tree.same a b above (omega (arith, at_a, at_b)))
        | inr above ↦ tree.same b a above (omega (arith, at_a, at_b))
      ])),
)

found_by : (cells : List Address) (i j : ℕ) (d : Address) → i < j → j < length cells
    → Overlap (get_or cells i d) (get_or cells j d) → (b : Bool) → has_overlap cells ≡ b → b ≡ true
found_by cells i j d lt lj o true h = refl
found_by cells i j d lt lj o false h = absurd (apart_where cells h i j d lt lj o)

pub overlap_at : (cells : List Address) (i j : ℕ) (d : Address) → i < j → j < length cells
    → Overlap (get_or cells i d) (get_or cells j d) → has_overlap cells ≡ true
overlap_at cells i j d lt lj o = found_by cells i j d lt lj o _ refl

one_answer : (xs ys : List Address) → IsPermutation xs ys → (a b : Bool) → has_overlap xs ≡ a → has_overlap ys ≡ b
    → a ≡ b
one_answer xs ys p true true e f = refl
one_answer xs ys p false false e f = refl
one_answer xs ys p false true e f =
    let g = none_where ys (apart_permuted xs ys p (apart_where xs e)) in cc
one_answer xs ys p true false e f =
    let g = none_where xs (apart_permuted ys xs (IsPermutation-sym xs ys p) (apart_where ys f)) in cc

pub overlap_permuted : (xs ys : List Address) → IsPermutation xs ys → has_overlap xs ≡ has_overlap ys
overlap_permuted xs ys p = one_answer xs ys p _ _ refl refl

pub not_before : (intervals : CellsFormIntervals) (a b : Address) → IsCell a → IsCell b → key a ≤ key b
    → key b < key a + 8 ^ (15 - length b.digits) → Overlap a b
not_before intervals a b ha hb le near = inr (inside intervals b a hb ha le near)

module _ (intervals : CellsFormIntervals) (cells : List Address) (valid : All IsCell cells)
    (order : IsInOrder cells) where
  up_to : (i j : ℕ) (d : Address) → i ≤ j → j < length cells → key (get_or cells i d) ≤ key (get_or cells j d)
  up_to i j d le lj =
      elim (cases_lt i j) [
        | inl less ↦ order i j d less lj
        | inr not ↦ let e : i ≡ j = omega (arith, le, not) in rw e (omega arith)
      ]

  -- where no neighbors overlap, no two cells do
  pub by_neighbors :
      ((k : ℕ) (d : Address) → 0 < k → k < length cells → IsBeforeBlock (get_or cells (k - 1) d) (get_or cells k d))
      → IsApart cells
  by_neighbors h i j d lt lj o =
      let a = get_or cells i d in
      let b = get_or cells j d in
      let ha = valid i d (omega (arith, lt, lj)) in
      let hb = valid j d lj in
      let low = up_to i (j - 1) d (omega (arith, lt)) (omega (arith, lj)) in
      let high = up_to (j - 1) j d (omega arith) lj in
      let before = h j d (omega (arith, lt)) lj in
      let some : 1 ≤ 8 ^ (15 - length b.digits) = one-le-pow (15 - length b.digits) 8 (omega arith) in
      elim o [
        | inr under ↦ let w = within intervals b a hb ha under in omega (arith, w.1, low, before)
        | inl over ↦ let w = within intervals a b ha hb over in omega (arith, w.0, low, high, some, before)
      ]

-- ---- one more cell of a list that is read

pub within_more : (P : Address → Type 0) (cells : List Address) (i : ℕ) (x : Address) → i < length cells
    → x ≡ get_or cells i x → AllWithin P cells 0 i → P x → AllWithin P cells 0 (i + 1)
within_more P cells i x lt is h p k d low l =
    elim (cases_lt k i) [
      | inl less ↦ h k d low less
      | inr not ↦ let e : k ≡ i = omega (arith, l, not) in rw e (subst P (is ∙ any_default cells i x d lt) p)
    ]

-- of the first i cells each comes before those after it, and their keys are below an end
abbrev pub Rises : List Address → ℕ → ℕ → Type 0
Rises cells i end =
    ((a b : ℕ) (d : Address) → a < b → b < i → IsBeforeBlock (get_or cells a d) (get_or cells b d))
    × ((a : ℕ) (d : Address) → a < i → key (get_or cells a d) < end)

both : (a b : Bool) → (a && b) ≡ true → (a ≡ true) × (b ≡ true)
both true b h = (refl, h)
both false b h = cc

at_most : (m n : ℕ) → nat_le m n ≡ true → m ≤ n
at_most m n h = grind (arith, nat_tests)

pub rise_more : (cells : List Address) (i end next p : ℕ) (x : Address) (rises : Bool) → p ≡ 8 ^ (15 - length x.digits)
    → i < length cells → x ≡ get_or cells i x → next ≡ key x + 1 → (rises ≡ true → Rises cells i end)
    → (rises && nat_le (end + p) next) ≡ true → Rises cells (i + 1) next
rise_more cells i end next p x rises size lt is at h t =
    let two = both rises (nat_le (end + p) next) t in
    let r = h two.0 in
    let up : end + 8 ^ (15 - length x.digits) ≤ next = rw size at (at_most (end + p) next two.1) in
    let some : 1 ≤ 8 ^ (15 - length x.digits) = one-le-pow (15 - length x.digits) 8 (omega arith) in
    let here : (d : Address) → get_or cells i d ≡ x = λ d. any_default cells i d x lt ∙ sym is in (
      λ a b d la lb. elim (cases_lt b i) [
        | inl below ↦ r.0 a b d la below
        | inr not ↦
            let e : b ≡ i = omega (arith, lb, not) in
            let low = r.1 a d (omega (arith, la, e)) in
            rw (e, here d) (omega (arith, low, up, at))
      ],
      λ a d la. elim (cases_lt a i) [
        | inl below ↦ let low = r.1 a d below in omega (arith, low, up, at, some)
        | inr not ↦ let e : a ≡ i = omega (arith, la, not) in rw (e, here d) (omega (arith, at))
      ],
    )

module _ (intervals : CellsFormIntervals) (cells : List Address) (valid : All IsCell cells)
    (rises : AllPairs IsBeforeBlock cells) where
  pub rising_order : IsInOrder cells
  rising_order i j d lt lj = let h = rises i j d lt lj in omega (arith, h)

  pub rising_apart : IsApart cells
  rising_apart =
      by_neighbors intervals cells valid rising_order (λ k d pos lt. rises (k - 1) k d (omega (arith, pos)) lt)

-- cells in order of which no two overlap rise
pub apart_rises : (intervals : CellsFormIntervals) (cells : List Address) → All IsCell cells → IsInOrder cells
    → IsApart cells → AllPairs IsBeforeBlock cells
apart_rises intervals cells valid order apart i j d lt lj =
    let a = get_or cells i d in
    let b = get_or cells j d in
    elim (cases_lt (key b) (key a + 8 ^ (15 - length b.digits))) [
      | inr not ↦ not
      | inl less ↦
          absurd (apart i j d lt lj
          (not_before intervals a b (valid i d (omega (arith, lt, lj))) (valid j d lj) (order i j d lt lj) less))
    ]
