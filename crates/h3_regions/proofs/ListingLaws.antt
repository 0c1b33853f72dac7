-- The areas of a cell, as a list.
use Rattle.std.specs.List.{filter, flat_map, range_with_len}
use Rattle.std.proofs.Common.{ℕ, suc, ◌≡◌, ◌+◌, ◌-◌, ◌<◌, ◌==◌, List, [], ◌∷◌, ◌++◌, length, Bool, AllPairs, Contains, true, refl, arith, ◌∙◌, sym, ap, subst, inl, inr, get_or}
use Rattle.std.proofs.lemmas.Bool.{cases_Bool, cases_lt}
use Rattle.std.proofs.lemmas.List.{get_or_append_left, get_or-append_right, length-append}
use Rattle.std.proofs.lemmas.List.Elements.{Contains-append_cases, Contains-append_left, Contains-append_right, Contains-get_or}
use Rattle.std.proofs.lemmas.List.FromFn.{get_or-range_with_len, length-range_with_len}
use Rattle.std.proofs.lemmas.List.Kept.{AllPairs-filter}
use Rattle.h3_index.specs.Cell.{Address, resolution}
use Rattle.h3_tree.specs.Laws.{CellsFormTrees}
use Rattle.h3_set.specs.Laws.{AncestorsAreFound}
use Rattle.h3_regions.specs.Areas.{AreAreasOf, areas_from, areas_of, coarsest, highest, IsBefore, LiesIn}
use Rattle.h3_regions.proofs.CoarsestLaws.{below_highest, coarsest_from, coarsest_le}
use Rattle.h3_regions.proofs.ListLaws.{contains_at, from_flat, in_flat, kept, kept_from, member_at, one_list}
use Rattle.h3_regions.proofs.ClashLaws.{is_same, same_is}

-- ---- ranges

in_range : (len n : ℕ) → n < len → Contains (range_with_len 0 len) n
in_range len n lt =
    contains_at (range_with_len 0 len) n n n (omega (arith, lt, length-range_with_len 0 len))
    (get_or-range_with_len 0 len n n lt ∙ omega arith)

from_range : (len n : ℕ) → Contains (range_with_len 0 len) n → n < len
from_range len n m =
    let l : m.0 < len = omega (arith, m.1, length-range_with_len 0 len) in
    let e : 0 + m.0 ≡ n = sym (get_or-range_with_len 0 len m.0 n l) ∙ m.2 in
    omega (arith, l, e)

range_rises : (len : ℕ) → AllPairs (λ m n. m < n) (range_with_len 0 len)
range_rises len i j d lt lj =
    let l : j < len = omega (arith, lj, length-range_with_len 0 len) in
    let li : i < len = omega (arith, lt, l) in
    rw (get_or-range_with_len 0 len i d li, get_or-range_with_len 0 len j d l) (omega (arith, lt))

-- ---- pairs of a list of lists

pub pairs_append : (R : ℕ → ℕ → Type 0) (xs ys : List ℕ) → AllPairs R xs → AllPairs R ys
    → ((m n : ℕ) → Contains xs m → Contains ys n → R m n) → AllPairs R (xs ++ ys)
pairs_append R xs ys p q cross i j d lt lj =
    elim (cases_lt j (length xs)) [
      | inl left ↦
          let li : i < length xs = omega (arith, lt, left) in
          rw (get_or_append_left xs ys d i li, get_or_append_left xs ys d j left) (p i j d lt left)
      | inr right ↦
          let k : j - length xs < length ys = omega (arith, lj, right, length-append xs ys) in
          elim (cases_lt i (length xs)) [
            | inl left ↦
                rw (get_or_append_left xs ys d i left, get_or-append_right xs ys (length xs) j d refl right)
                (cross (get_or xs i d) (get_or ys (j - length xs) d) (Contains-get_or xs i d left)
                (Contains-get_or ys (j - length xs) d k))
            | inr also ↦
                rw (
                  get_or-append_right xs ys (length xs) i d refl also,
                  get_or-append_right xs ys (length xs) j d refl right,
                )
                (q (i - length xs) (j - length xs) d (omega (arith, lt, also)) k)
          ]
    ]

pairs_flat : (R : ℕ → ℕ → Type 0) (f : ℕ → List ℕ) (rs : List ℕ) → ((r : ℕ) → AllPairs R (f r))
    → ((q r m n : ℕ) → q < r → Contains (f q) m → Contains (f r) n → R m n) → AllPairs (λ q r. q < r) rs
    → AllPairs R (flat_map f rs)
pairs_flat R f [] own cross up = λ i j d lt lj. absurd (omega (arith, lj))
pairs_flat R f (r ∷ rs) own cross up =
    pairs_append R (f r) (flat_map f rs) (own r)
    (pairs_flat R f rs own cross (λ i j d lt lj. up (suc i) (suc j) d (omega (arith, lt)) (omega (arith, lj))))
    (λ m n a b.
    let w = from_flat f rs n b in
    let less : r < w.0 = rw (member_at rs w.0 0 w.1) at (up 0 (suc w.1.0) 0 (omega arith) (omega (arith, w.1.1))) in
    cross r w.0 m n less a w.2)

-- ---- the areas of a cell

pub before_one_way : (areas : List (Address × ℕ)) (x : Address) (m n : ℕ) → IsBefore areas x m n
    → ¬ IsBefore areas x n m
before_one_way areas x m n h k = elim h [
  | inl less ↦ elim k [ inl more ↦ omega (arith, less, more) | inr e ↦ omega (arith, less, e.0) ]
  | inr same ↦ elim k [ inl more ↦ omega (arith, same.0, more) | inr e ↦ omega (arith, same.1, e.1) ]
]

module _ (tree : CellsFormTrees) (found : AncestorsAreFound) (areas : List (Address × ℕ)) (x : Address)
    (coarse : resolution x < 16) where
  from_list : (n : ℕ) → Contains (areas_of areas x) n → LiesIn areas x n
  unfolding areas_of
  from_list n m =
      let w = from_flat (areas_from areas x) (range_with_len 0 (resolution x + 1)) n m in
      let r = from_range (resolution x + 1) w.0 w.1 in
      let k = kept_from (λ a. coarsest areas x a == w.0) (range_with_len 0 (highest areas + 1)) n w.2 in
      let e : coarsest areas x n ≡ w.0 = is_same (coarsest areas x n) w.0 k.1 in
      let c = coarsest_from found areas x n (omega (arith, e, r, coarse)) in
      record { by = c.0; member = c.1; above = c.2 }

  in_list : (n : ℕ) → LiesIn areas x n → Contains (areas_of areas x) n
  unfolding areas_of
  in_list n h =
      let le = coarsest_le found areas x h.by n h.member h.above in
      let up = tree.no_finer h.by x h.above in
      let top = below_highest areas h.by n h.member in
      in_flat (areas_from areas x) (range_with_len 0 (resolution x + 1)) (coarsest areas x n) n
      (in_range (resolution x + 1) (coarsest areas x n) (omega (arith, le, up)))
      (kept (λ a. coarsest areas x a == coarsest areas x n) (range_with_len 0 (highest areas + 1)) n
      (in_range (highest areas + 1) n (omega (arith, top)))
      (same_is (coarsest areas x n) (coarsest areas x n) refl))

  at_level : (r n : ℕ) → Contains (areas_from areas x r) n → coarsest areas x n ≡ r
  at_level r n m =
      is_same (coarsest areas x n) r
      (kept_from (λ a. coarsest areas x a == r) (range_with_len 0 (highest areas + 1)) n m).1

  level_order : (r : ℕ) → AllPairs (IsBefore areas x) (areas_from areas x r)
  level_order r i j d lt lj =
      let l = areas_from areas x r in
      let up =
      AllPairs-filter (λ m n. m < n) (λ n. coarsest areas x n == r) (range_with_len 0 (highest areas + 1))
      (range_rises (highest areas + 1)) i j d lt lj in
      let a = at_level r (get_or l i d) (Contains-get_or l i d (omega (arith, lt, lj))) in
      let b = at_level r (get_or l j d) (Contains-get_or l j d lj) in
      inr (a ∙ sym b, up)

  list_order : AllPairs (IsBefore areas x) (areas_of areas x)
  unfolding areas_of
  list_order =
      pairs_flat (IsBefore areas x) (areas_from areas x) (range_with_len 0 (resolution x + 1)) level_order
      (λ q r m n less a b. inl (let e = at_level q m a in let f = at_level r n b in omega (arith, less, e, f)))
      (range_rises (resolution x + 1))

  pub listed : AreAreasOf areas x (areas_of areas x)
  listed = record { each = λ n. (from_list n, in_list n); in_order = list_order }

  pub only_list : (list : List ℕ) → AreAreasOf areas x list → list ≡ areas_of areas x
  only_list list h =
      one_list (IsBefore areas x) (before_one_way areas x) list (areas_of areas x) h.in_order list_order
      (λ n m. in_list n ((h.each n).0 m))
      (λ n m. (h.each n).1 (from_list n m))
