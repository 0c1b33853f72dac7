-- What the tests of cells above and below a cell decide.
use Rattle.std.specs.List.{list_any}
use Rattle.std.proofs.Common.{ℕ, ◌≡◌, ◌≢◌, ◌+◌, ◌-◌, ◌^◌, ◌<◌, ◌≤◌, ◌↔◌, List, length, Contains, Bool, true, false, nat_le, refl, arith, ◌∙◌, sym, ap, subst, inl, inr, get_or}
use Rattle.std.proofs.Math.Nat.{one-le-pow}
use Rattle.std.proofs.lemmas.Bool.{both_ways, cases_lt, leb-true, le-leb}
use Rattle.std.proofs.lemmas.List.Elements.{Contains-get_or}
use Rattle.std.proofs.lemmas.List.Folds.{Any-from_list_any, list_any_at, list_any_none}
use Rattle.h3_index.specs.Cell.{Address, IsCell, resolution}
use Rattle.h3_index.specs.Descendants.{IsAncestor}
use Rattle.h3_tree.specs.Laws.{CellsFormTrees}
use Rattle.h3_tree.specs.PostOrder.{post_order_key as key, CellsFormIntervals}
use Rattle.h3_set.specs.Coverage.{is_ancestor, is_covered, Overlap}
use Rattle.h3_set.specs.Laws.{AncestorsAreFound}
use Rattle.h3_regions.specs.Unions.{HasAncestor}
use Rattle.h3_regions.specs.Region.{IsRegion}
use Rattle.h3_regions.specs.Difference.{has_below, lowest_key}
use Rattle.h3_regions.specs.Zones.{IsFirstPlace}
use Rattle.h3_regions.proofs.IntervalLaws.{before, inside, within}
use Rattle.h3_regions.proofs.ListLaws.{member_at}

pub not_true : (b : Bool) → (b ≢ true) → b ≡ false
not_true true h = absurd (h refl)
not_true false h = refl

module _ {X : Type 0} (p : X → Bool) (P : X → Type 0) (decides : (a : X) → (p a ≡ true) ↔ P a) where
  any_true : (xs : List X) (a : X) → Contains xs a → P a → list_any p xs ≡ true
  any_true xs a m h = list_any_at p xs m.0 a m.1 (rw m.2 ((decides a).1 h))

  any_false : (xs : List X) → ((a : X) → Contains xs a → ¬ P a) → list_any p xs ≡ false
  any_false xs h =
      list_any_none p xs (λ k d lt.
      not_true (p (get_or xs k d))
      (λ t. h (get_or xs k d) (Contains-get_or xs k d lt) ((decides (get_or xs k d)).0 t)))

  any_from : (xs : List X) → list_any p xs ≡ true → (a : X) × Contains xs a × P a
  any_from xs t = let w = Any-from_list_any p xs t in (w.1, (w.0, w.2, w.3), (decides w.1).0 w.4)

  none_from : (xs : List X) → list_any p xs ≡ false → (a : X) → Contains xs a → ¬ P a
  none_from xs f a m h = both_ways (list_any p xs) f (any_true xs a m h)

module _ (found : AncestorsAreFound) (cells : List Address) (x : Address) where
  pub covered_true : (a : Address) → Contains cells a → IsAncestor a x → is_covered cells x ≡ true
  covered_true a m h = any_true (λ c. is_ancestor c x) (λ c. IsAncestor c x) (λ c. found c x) cells a m h

  pub covered_false : ((a : Address) → Contains cells a → ¬ IsAncestor a x) → is_covered cells x ≡ false
  covered_false h = any_false (λ c. is_ancestor c x) (λ c. IsAncestor c x) (λ c. found c x) cells h

  pub from_covered : is_covered cells x ≡ true → HasAncestor cells x
  from_covered t =
      let w = any_from (λ c. is_ancestor c x) (λ c. IsAncestor c x) (λ c. found c x) cells t in
      record { by = w.0; member = w.1; above = w.2 }

  pub none_covered : is_covered cells x ≡ false → (a : Address) → Contains cells a → ¬ IsAncestor a x
  none_covered f = none_from (λ c. is_ancestor c x) (λ c. IsAncestor c x) (λ c. found c x) cells f

  pub below_true : (a : Address) → Contains cells a → IsAncestor x a → has_below cells x ≡ true
  below_true a m h = any_true (λ c. is_ancestor x c) (λ c. IsAncestor x c) (λ c. found x c) cells a m h

  pub below_false : ((a : Address) → Contains cells a → ¬ IsAncestor x a) → has_below cells x ≡ false
  below_false h = any_false (λ c. is_ancestor x c) (λ c. IsAncestor x c) (λ c. found x c) cells h

  pub from_below : has_below cells x ≡ true → (a : Address) × Contains cells a × IsAncestor x a
  from_below t = any_from (λ c. is_ancestor x c) (λ c. IsAncestor x c) (λ c. found x c) cells t

  pub none_below : has_below cells x ≡ false → (a : Address) → Contains cells a → ¬ IsAncestor x a
  none_below f = none_from (λ c. is_ancestor x c) (λ c. IsAncestor x c) (λ c. found x c) cells f

-- ---- the search for a cell above or below

pub at_most_decides : (m n : ℕ) → (nat_le m n ≡ true) ↔ (m ≤ n)
at_most_decides m n = (leb-true m n, le-leb m n)

module _ (found : AncestorsAreFound) (tree : CellsFormTrees) (intervals : CellsFormIntervals) (cells : List Address)
    (region : IsRegion cells) (x : Address) (valid : IsCell x) (i : ℕ)
    (split : IsFirstPlace cells (lowest_key x) i) where
  member_valid : (a : Address) → Contains cells a → IsCell a
  member_valid a m = subst IsCell m.2 (region.valid m.0 a m.1)

  -- what ends after the lowest key stands at the place or after it
  not_before : (a : Address) (m : Contains cells a) → key x < key a + 8 ^ (15 - resolution x) → i ≤ m.0
  not_before a m near =
      elim (cases_lt m.0 i) [
        | inl lt ↦
            let low : key a < lowest_key x = rw m.2 at (split.before m.0 a (omega arith) lt) in
            absurd (omega (arith, low, near))
        | inr not ↦ not
      ]

  above_there : (a : Address) (m : Contains cells a) → IsAncestor a x → i ≤ m.0
  above_there a m above =
      let w = within intervals a x (member_valid a m) valid above in
      let some : 1 ≤ 8 ^ (15 - resolution x) = one-le-pow (15 - resolution x) 8 (omega arith) in
      not_before a m (omega (arith, w.0, some))

  below_there : (a : Address) (m : Contains cells a) → IsAncestor x a → i ≤ m.0
  below_there a m above =
      let w = within intervals x a valid (member_valid a m) above in
      not_before a m (omega (arith, w.1))

  pub end_covers_none : i ≡ length cells → is_covered cells x ≡ false
  end_covers_none e =
      covered_false found cells x (λ a m above. (let le = above_there a m above in omega (arith, le, e, m.1)))

  pub end_has_none : i ≡ length cells → has_below cells x ≡ false
  end_has_none e =
      below_false found cells x (λ a m above. (let le = below_there a m above in omega (arith, le, e, m.1)))

  module _ (lt : i < length cells) (b : Address) (is : b ≡ get_or cells i b) where
    here : Contains cells b
    here = (i, lt, sym is)

    b_valid : IsCell b
    b_valid = member_valid b here

    -- it ends after the lowest key
    near : key x < key b + 8 ^ (15 - resolution x)
    near =
        let h : lowest_key x ≤ key b = rw (← is) at (split.after i b (omega arith) lt) in
        omega (arith, h)

    -- a member after it
    later : (a : Address) (m : Contains cells a) → i < m.0 → (key b < key a) × (¬ Overlap b a)
    later a m less =
        let up : key b < key a = rw (member_at cells a b m, ← is) at (region.in_order i m.0 b less m.1) in
        let clear : ¬ Overlap b a = rw (member_at cells a b m, ← is) at (region.apart i m.0 b less m.1) in
        (up, clear)

    -- what stands above x stands there
    above_is : (a : Address) → Contains cells a → IsAncestor a x → IsAncestor b x
    above_is a m above =
        let le = above_there a m above in
        let va = member_valid a m in
        elim (cases_lt i m.0) [
          | inl less ↦
              let l = later a m less in
              let w = within intervals a x va valid above in
              let far = before intervals a b va b_valid (omega (arith, l.0)) (λ over. l.1 (inr over)) in
              let under = inside intervals x b valid b_valid (omega (arith, far, w.1)) near in
              absurd (l.1 (inr (tree.through a x b above under)))
          | inr not ↦
              let e : m.0 ≡ i = omega (arith, le, not) in
              let same : a ≡ b = sym (member_at cells a b m) ∙ ap (λ n. get_or cells n b) e ∙ sym is in
              subst (λ z. IsAncestor z x) same above
        ]

    pub told_covered : (answer : Bool) → (answer ≡ true) ↔ IsAncestor b x → answer ≡ is_covered cells x
    told_covered true h = sym (covered_true found cells x b here (h.0 refl))
    told_covered false h =
        sym (covered_false found cells x (λ a m above. (let e : false ≡ true = h.1 (above_is a m above) in cc)))

    pub low_covers_none : key b < key x → is_covered cells x ≡ false
    low_covers_none low =
        covered_false found cells x
        (λ a m above. (let w = within intervals b x b_valid valid (above_is a m above) in omega (arith, low, w.0)))

    -- where any stands below x, what stands there does
    pub told_below : (answer : Bool) → (answer ≡ true) ↔ (key b ≤ key x) → answer ≡ has_below cells x
    told_below true h =
        sym (below_true found cells x b here (inside intervals x b valid b_valid (h.0 refl) near))
    told_below false h =
        sym (below_false found cells x (λ a m above.
        let w = within intervals x a valid (member_valid a m) above in
        let le = below_there a m above in
        let low : key b ≤ key x = elim (cases_lt i m.0) [
          | inl less ↦ omega (arith, (later a m less).0, w.0)
          | inr not ↦
              let e : m.0 ≡ i = omega (arith, le, not) in
              let same : a ≡ b = sym (member_at cells a b m) ∙ ap (λ n. get_or cells n b) e ∙ sym is in
              omega (arith, ap key same, w.0)
        ] in
        let e : false ≡ true = h.1 low in
        cc))
