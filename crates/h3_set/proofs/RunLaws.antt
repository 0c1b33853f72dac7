-- A complete set of siblings stands in order as a run.
use Rattle.std.proofs.Common.{ℕ, zero, suc, ◌≡◌, ◌+◌, ◌<◌, ◌≤◌, List, [], ◌∷◌, length, take, refl, All, AllPairs, Contains, arith, ◌∙◌, sym, ap, subst, inl, inr, get_or}
use Rattle.std.proofs.lemmas.Bool.{cases_lt}
use Rattle.std.proofs.lemmas.List.Elements.{Contains-get_or}
use Rattle.h3_index.specs.Cell.{Address, number_of, IsCell}
use Rattle.h3_index.specs.Descendants.{descendants, IsAncestor}
use Rattle.h3_tree.specs.Laws.{CellsFormTrees}
use Rattle.h3_set.specs.Compacted.{HasChildren}
use Rattle.h3_set.specs.Coverage.{Overlap}
use Rattle.h3_set.specs.Order.{IsInOrder}
use Rattle.h3_tree.specs.PostOrder.{post_order_key as key, CellsFormIntervals}
use Rattle.h3_set.proofs.KeyLaws.{adjacent}
use Rattle.h3_set.proofs.TreeLaws.{any_default, IsChild}

pub take_same : (d : Address) (xs ys : List Address)
    → ((k : ℕ) → k < length xs → (k < length ys) × (get_or ys k d ≡ get_or xs k d)) → take (length xs) ys ≡ xs
take_same d [] ys h = refl
take_same d (x ∷ xs) [] h = absurd (omega (arith, (h 0 (omega arith)).0))
take_same d (x ∷ xs) (y ∷ ys) h =
    let head = (h 0 (omega arith)).1 in
    let rest = take_same d xs ys (λ k lt. let t = h (suc k) (omega (arith, lt)) in (omega (arith, t.0), t.1)) in
    ap (λ z. z ∷ take (length xs) ys) head ∙ ap (λ zs. x ∷ zs) rest

module _ (tree : CellsFormTrees) (intervals : CellsFormIntervals) where
  -- M begins at a child of p, and has all of them
  module _ (M : List Address) (p : Address) (cells : All IsCell M) (order : IsInOrder M)
      (apart : AllPairs (λ a b. ¬ Overlap a b) M) (complete : HasChildren (Contains M) p) (d : Address)
      (some : 0 < length M) (first : IsChild p (get_or M 0 d)) where
    abbrev At : ℕ → Type 0
    At t = (t < length M) × (get_or M t d ≡ get_or (descendants p (length p.digits + 1)) t d)

    once : (i j : ℕ) → i < j → j < length M → get_or M i d ≡ get_or M j d → ⊥
    once i j lt lj e = apart i j d lt lj (inl (subst (IsAncestor (get_or M i d)) e (tree.own (get_or M i d))))

    child_at : (t : ℕ) → t < length (descendants p (length p.digits + 1))
        → IsChild p (get_or (descendants p (length p.digits + 1)) t d)
    child_at t lt =
        (tree.listed p (length p.digits + 1) complete.valid (omega arith) (omega (arith, complete.coarse))
        (get_or (descendants p (length p.digits + 1)) t d)).0
        (Contains-get_or (descendants p (length p.digits + 1)) t d lt)

    here : (t j : ℕ) → t < j → j < length M → IsChild p (get_or M j d) → IsChild p (get_or M t d)
    here t j lt lj h =
        elim (cases_lt 0 t) [
          | inl pos ↦ adjacent tree intervals M p cells order apart complete 0 t j d pos lt lj first h
          | inr none ↦ let e : t ≡ 0 = omega arith in rw e first
        ]

    numbers : (a b : Address) → IsChild p a → IsChild p b → key a ≤ key b → number_of b < number_of a → ⊥
    numbers a b ha hb le lt =
        omega (
          arith,
          intervals.number a ha.valid,
          intervals.number b hb.valid,
          ha.resolution_is,
          hb.resolution_is,
          le,
          lt,
        )

    later : (t j : ℕ) → ((k : ℕ) → k < t → At k) → t < length (descendants p (length p.digits + 1)) → t < j
        → j < length M → get_or M j d ≡ get_or (descendants p (length p.digits + 1)) t d → At t
    later t j before lt less lj e =
        let ct = child_at t lt in
        let cz = here t j less lj (subst (IsChild p) (sym e) ct) in
        let m =
        (tree.listed p (length p.digits + 1) complete.valid (omega arith) (omega (arith, complete.coarse))
        (get_or M t d)).1
        cz in
        let em : get_or (descendants p (length p.digits + 1)) m.0 d ≡ get_or M t d =
        any_default (descendants p (length p.digits + 1)) m.0 d (get_or M t d) m.1 ∙ m.2 in
        elim (cases_lt m.0 t) [
          | inl early ↦ absurd (once m.0 t early (omega (arith, less, lj)) ((before m.0 early).1 ∙ em))
          | inr not ↦ elim (cases_lt t m.0) [
            | inl late ↦
                let up = tree.ascending p (length p.digits + 1) t m.0 d late m.1 in
                absurd (numbers (get_or M t d) (get_or (descendants p (length p.digits + 1)) t d) cz ct
                (subst (λ v. key (get_or M t d) ≤ key v) e (order t j d less lj))
                (subst (λ v. number_of (get_or (descendants p (length p.digits + 1)) t d) < number_of v) em up))
            | inr also ↦
                let same : m.0 ≡ t = omega arith in (
                  omega (arith, less, lj),
                  sym (ap (λ k. get_or (descendants p (length p.digits + 1)) k d) (sym same) ∙ em),
                )
          ]
        ]

    step : (t : ℕ) → ((k : ℕ) → k < t → At k) → t < length (descendants p (length p.digits + 1)) → At t
    step t before lt =
        let m = complete.all (get_or (descendants p (length p.digits + 1)) t d) (child_at t lt) in
        let em : get_or M m.0 d ≡ get_or (descendants p (length p.digits + 1)) t d =
        any_default M m.0 d (get_or (descendants p (length p.digits + 1)) t d) m.1 ∙ m.2 in
        elim (cases_lt m.0 t) [
          | inl early ↦
              let up = tree.ascending p (length p.digits + 1) m.0 t d early lt in
              let same : get_or (descendants p (length p.digits + 1)) m.0 d
              ≡ get_or (descendants p (length p.digits + 1)) t d =
              sym (before m.0 early).1 ∙ em in
              absurd (omega (arith, up, ap number_of same))
          | inr not ↦ elim (cases_lt t m.0) [
            | inl less ↦ later t m.0 before lt less m.1 em
            | inr also ↦
                let same : m.0 ≡ t = omega arith in
                (subst (λ k. k < length M) same m.1, ap (λ k. get_or M k d) (sym same) ∙ em)
          ]
        ]

    below : (n : ℕ) → n ≤ length (descendants p (length p.digits + 1)) → (k : ℕ) → k < n → At k
    below zero le k lt = absurd (omega (arith, lt))
    below (suc n) le k lt =
        elim (cases_lt k n) [
          | inl less ↦ below n (omega (arith, le)) k less
          | inr same ↦
              let e : k ≡ n = omega (arith, lt, same) in
              subst At (sym e) (step n (λ j l. below n (omega (arith, le)) j l) (omega (arith, le)))
        ]

    -- the list begins with all children of p, in ascending order
    pub run : take (length (descendants p (length p.digits + 1))) M ≡ descendants p (length p.digits + 1)
    run =
        take_same d (descendants p (length p.digits + 1)) M
        (below (length (descendants p (length p.digits + 1))) (omega arith))
