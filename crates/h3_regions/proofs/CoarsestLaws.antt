-- The coarsest cell of an area above a cell.
use Rattle.std.proofs.Common.{ℕ, ◌≡◌, ◌<◌, ◌≤◌, ◌==◌, min, List, [], ◌∷◌, Contains, true, refl, arith, ◌∙◌, sym, ap, subst, inl, inr}
use Rattle.std.proofs.lemmas.Bool.{cases_Bool, cases_lt}
use Rattle.h3_index.specs.Cell.{Address, resolution}
use Rattle.h3_index.specs.Descendants.{IsAncestor}
use Rattle.h3_set.specs.Coverage.{is_ancestor}
use Rattle.h3_set.specs.Laws.{AncestorsAreFound}
use Rattle.h3_regions.specs.Areas.{cells_of, coarsest, coarsest_above, highest}
use Rattle.h3_regions.proofs.ListLaws.{contains_cases, contains_head, contains_tail}
use Rattle.h3_regions.proofs.ClashLaws.{is_other, is_same}

-- ---- the cells of an area

pub in_cells : (areas : List (Address × ℕ)) (n : ℕ) (c : Address) → Contains areas (c, n)
    → Contains (cells_of areas n) c
in_cells [] n c m = absurd (omega (arith, m.1))
in_cells (p ∷ areas) n c m = elim (cases_Bool (p.1 == n)) [
  | inl t ↦ elim (contains_cases p (c, n) areas m) [
    | inl e ↦
        let same : p.0 ≡ c = ap (λ q. q.0) e in
        rw t (subst (λ y. Contains (p.0 ∷ cells_of areas n) y) same (contains_head p.0 (cells_of areas n)))
    | inr later ↦ rw t (contains_tail p.0 c (cells_of areas n) (in_cells areas n c later))
  ]
  | inr f ↦ elim (contains_cases p (c, n) areas m) [
    | inl e ↦ absurd (is_other p.1 n f (ap (λ q. q.1) e))
    | inr later ↦ rw f (in_cells areas n c later)
  ]
]

pub from_cells : (areas : List (Address × ℕ)) (n : ℕ) (c : Address) → Contains (cells_of areas n) c
    → Contains areas (c, n)
from_cells [] n c m = absurd (omega (arith, m.1))
from_cells (p ∷ areas) n c m = elim (cases_Bool (p.1 == n)) [
  | inl t ↦ elim (contains_cases p.0 c (cells_of areas n) (rw t at m)) [
    | inl e ↦
        let same : p.1 ≡ n = is_same p.1 n t in
        let whole : p ≡ (c, n) = ap (λ y. (y, p.1)) e ∙ ap (λ k. (c, k)) same in
        subst (Contains (p ∷ areas)) whole (contains_head p areas)
    | inr later ↦ contains_tail p (c, n) areas (from_cells areas n c later)
  ]
  | inr f ↦ contains_tail p (c, n) areas (from_cells areas n c (rw f at m))
]

-- no number is above the highest
pub below_highest : (areas : List (Address × ℕ)) (c : Address) (n : ℕ) → Contains areas (c, n) → n ≤ highest areas
below_highest [] c n m = absurd (omega (arith, m.1))
below_highest (p ∷ areas) c n m = elim (contains_cases p (c, n) areas m) [
  | inl e ↦ let same : p.1 ≡ n = ap (λ q. q.1) e in omega (arith, same)
  | inr later ↦ let h = below_highest areas c n later in omega (arith, h)
]

module _ (found : AncestorsAreFound) where
  above_le : (cells : List Address) (x c : Address) → Contains cells c → IsAncestor c x
      → coarsest_above cells x ≤ resolution c
  above_le [] x c m over = absurd (omega (arith, m.1))
  above_le (y ∷ cells) x c m over = elim (contains_cases y c cells m) [
    | inl e ↦
        let t : is_ancestor y x ≡ true = (found y x).1 (subst (λ a. IsAncestor a x) (sym e) over) in
        let size : resolution y ≡ resolution c = ap resolution e in
        rw t (omega (arith, size))
    | inr later ↦
        let h = above_le cells x c later over in
        elim (cases_Bool (is_ancestor y x)) [
          | inl t ↦ rw t (omega (arith, h))
          | inr f ↦ rw f h
        ]
  ]

  above_from : (cells : List Address) (x : Address) → coarsest_above cells x < 16
      → (c : Address) × Contains cells c × IsAncestor c x × (resolution c ≡ coarsest_above cells x)
  above_from [] x lt = absurd (omega (arith, lt))
  above_from (y ∷ cells) x lt = elim (cases_Bool (is_ancestor y x)) [
    | inl t ↦ elim (cases_lt (coarsest_above cells x) (resolution y)) [
      | inl less ↦
          let least : min (resolution y) (coarsest_above cells x) ≡ coarsest_above cells x = omega (arith, less) in
          let whole : coarsest_above (y ∷ cells) x ≡ coarsest_above cells x = rw t least in
          let r = above_from cells x (subst (λ k. k < 16) whole lt) in
          (r.0, contains_tail y r.0 cells r.1, r.2, r.3 ∙ sym whole)
      | inr not ↦
          let least : resolution y ≡ min (resolution y) (coarsest_above cells x) = omega (arith, not) in
          let whole : resolution y ≡ coarsest_above (y ∷ cells) x = rw t least in
          (y, contains_head y cells, (found y x).0 t, whole)
    ]
    | inr f ↦
        let whole : coarsest_above (y ∷ cells) x ≡ coarsest_above cells x = rw f refl in
        let r = above_from cells x (subst (λ k. k < 16) whole lt) in
        (r.0, contains_tail y r.0 cells r.1, r.2, r.3 ∙ sym whole)
  ]

  pub coarsest_le : (areas : List (Address × ℕ)) (x c : Address) (n : ℕ) → Contains areas (c, n) → IsAncestor c x
      → coarsest areas x n ≤ resolution c
  coarsest_le areas x c n m over = above_le (cells_of areas n) x c (in_cells areas n c m) over

  pub coarsest_from : (areas : List (Address × ℕ)) (x : Address) (n : ℕ) → coarsest areas x n < 16
      → (c : Address) × Contains areas (c, n) × IsAncestor c x × (resolution c ≡ coarsest areas x n)
  coarsest_from areas x n lt =
      let r = above_from (cells_of areas n) x lt in
      (r.0, from_cells areas n r.0 r.1, r.2, r.3)
