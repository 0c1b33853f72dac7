-- A complete set of siblings that one more cell completes stands at the end of the list.
use Rattle.std.proofs.Common.{ℕ, ◌≡◌, ◌≢◌, ◌+◌, ◌-◌, ◌<◌, ◌≤◌, List, [], ◌∷◌, ◌++◌, length, take, drop, Contains, arith, ◌∙◌, sym, ap, subst, inl, inr, get_or}
use Rattle.std.proofs.Math.Seq.{get_or-append_seam}
use Rattle.std.proofs.lemmas.Bool.{cases_lt}
use Rattle.std.proofs.lemmas.List.{get_or-drop, get_or-take, length-append, length-drop, length-take, take_all}
use Rattle.std.proofs.lemmas.List.Elements.{Contains-get_or, Contains-push_cases}
use Rattle.h3_index.specs.Cell.{Address, IsCell, number_of, resolution}
use Rattle.h3_index.specs.Descendants.{children, descendants, IsAncestor}
use Rattle.h3_tree.specs.Laws.{CellsFormTrees}
use Rattle.h3_tree.specs.PostOrder.{post_order_key as key, CellsFormIntervals}
use Rattle.h3_set.specs.Closing.{HasNoSet, IsRising}
use Rattle.h3_set.specs.Compacted.{parent_of, HasChildren}
use Rattle.h3_set.specs.Coverage.{IsApart, Overlap}
use Rattle.h3_set.specs.Order.{IsInOrder}
use Rattle.h3_set.proofs.MergeLaws.{all_drop, pairs_drop}
use Rattle.h3_set.proofs.OverlapLaws.{rising_apart, rising_order}
use Rattle.h3_set.proofs.RunLaws.{run}
use Rattle.h3_set.proofs.TreeLaws.{any_default, children_or, dec_address, parent_is, Decided, IsChild}

other_cell : (x y : Address) → Decided (y ≢ x)
other_cell x y = elim (dec_address y x) [ inl e ↦ inr (λ n. n e) | inr n ↦ inl n ]

module _ (tree : CellsFormTrees) (intervals : CellsFormIntervals) (A : List Address) (x : Address)
    (h : IsRising (A ++ x ∷ [])) (closed : HasNoSet A) where
  order : IsInOrder (A ++ x ∷ [])
  order = rising_order intervals (A ++ x ∷ []) h.valid h.rises

  apart : IsApart (A ++ x ∷ [])
  apart = rising_apart intervals (A ++ x ∷ []) h.valid h.rises

  size : length (A ++ x ∷ []) ≡ length A + 1
  size = length-append A (x ∷ [])

  last : get_or (A ++ x ∷ []) (length A) x ≡ x
  last = get_or-append_seam A x [] x

  module _ (p : Address) (c : HasChildren (Contains (A ++ x ∷ [])) p) where
    -- the set has the last cell
    its_child : IsChild p x
    its_child =
        elim (children_or tree (λ y. y ≢ x) p (λ y b. other_cell x y) c.valid c.coarse) [
          | inl others ↦ absurd (closed p (record {
            valid = c.valid;
            coarse = c.coarse;
            all =
                λ y b. elim (Contains-push_cases A x y (c.all y b)) [ inl m ↦ m | inr e ↦ absurd (others y b (sym e)) ];
          }))
          | inr w ↦ elim (dec_address w.0 x) [ inl e ↦ subst (IsChild p) e w.1 | inr n ↦ absurd (w.2 n) ]
        ]

    abbrev N : List Address
    N = descendants p (length p.digits + 1)

    listed : (y : Address) → IsChild p y → Contains N y
    listed y b = (tree.listed p (length p.digits + 1) c.valid (omega arith) (omega (arith, c.coarse)) y).1 b

    some : 0 < length N
    some =
        let m = listed x its_child in
        omega (arith, m.1)

    abbrev first : Address
    first = get_or N 0 x

    first_child : IsChild p first
    first_child =
        (tree.listed p (length p.digits + 1) c.valid (omega arith) (omega (arith, c.coarse)) first).0
        (Contains-get_or N 0 x some)

    abbrev from : ℕ
    from = (c.all first first_child).0

    from_within : from < length (A ++ x ∷ [])
    from_within = (c.all first first_child).1

    from_is : (d : Address) → get_or (A ++ x ∷ []) from d ≡ first
    from_is d = any_default (A ++ x ∷ []) from d first from_within ∙ (c.all first first_child).2

    abbrev M : List Address
    M = drop from (A ++ x ∷ [])

    -- all children stand from the first on
    ahead : (y : Address) → IsChild p y → Contains M y
    ahead y b =
        let m = c.all y b in
        let n = listed y b in
        elim (cases_lt m.0 from) [
          | inr not ↦
              let e : from + (m.0 - from) ≡ m.0 = omega (arith, not) in (
                m.0 - from,
                omega (arith, not, m.1, length-drop from (A ++ x ∷ [])),
                get_or-drop from (A ++ x ∷ []) (m.0 - from) y ∙ ap (λ k. get_or (A ++ x ∷ []) k y) e ∙ m.2,
              )
          | inl less ↦
              let low : key y ≤ key first =
              subst (λ v. key v ≤ key first) m.2 (subst (λ v. key (get_or (A ++ x ∷ []) m.0 y) ≤ key v) (from_is y)
              (order m.0 from y less from_within)) in
              elim (cases_lt 0 n.0) [
                | inl more ↦
                    let up = tree.ascending p (length p.digits + 1) 0 n.0 x more n.1 in
                    let at : get_or N n.0 x ≡ y = any_default N n.0 x y n.1 ∙ n.2 in
                    let high : number_of first < number_of y = subst (λ v. number_of first < number_of v) at up in
                    absurd (omega (
                      arith,
                      intervals.number y b.valid,
                      intervals.number first first_child.valid,
                      b.resolution_is,
                      first_child.resolution_is,
                      low,
                      high,
                    ))
                | inr none ↦
                    let zero_is : n.0 ≡ 0 = omega (arith, none) in
                    let same : first ≡ y = any_default N 0 x y some ∙ ap (λ k. get_or N k y) (sym zero_is) ∙ n.2 in
                    absurd (apart m.0 from y less from_within (inl (subst (IsAncestor (get_or (A ++ x ∷ []) m.0 y))
                    (m.2 ∙ sym same ∙ sym (from_is y)) (tree.own (get_or (A ++ x ∷ []) m.0 y)))))
              ]
        ]

    head : (d : Address) → get_or M 0 d ≡ first
    head d =
        let none : from + 0 ≡ from = omega arith in
        (rw none at (get_or-drop from (A ++ x ∷ []) 0 d)) ∙ from_is d

    found : take (length N) M ≡ N
    found =
        run tree intervals M p (all_drop IsCell (A ++ x ∷ []) from h.valid)
        (pairs_drop (λ a b. key a ≤ key b) (A ++ x ∷ []) from order)
        (pairs_drop (λ a b. ¬ Overlap a b) (A ++ x ∷ []) from apart)
        (record { valid = c.valid; coarse = c.coarse; all = ahead }) x
        (omega (arith, from_within, length-drop from (A ++ x ∷ []))) (subst (IsChild p) (sym (head x)) first_child)

    -- and the last cell ends it
    at_end : M ≡ N
    at_end =
        let m = listed x its_child in
        let fits : length N ≤ length M = omega (arith, ap length found, length-take (length N) M) in
        let there : get_or (A ++ x ∷ []) (from + m.0) x ≡ x =
        sym (get_or-drop from (A ++ x ∷ []) m.0 x) ∙ sym (get_or-take (length N) M m.0 x m.1)
        ∙ ap (λ l. get_or l m.0 x) found ∙ m.2 in
        elim (cases_lt (from + m.0) (length A)) [
          | inl less ↦
              absurd (apart (from + m.0) (length A) x less (omega (arith, size))
              (inl (subst (IsAncestor (get_or (A ++ x ∷ []) (from + m.0) x)) (there ∙ sym last)
              (tree.own (get_or (A ++ x ∷ []) (from + m.0) x)))))
          | inr not ↦
              sym (take_all (length N) M (omega (arith, not, m.1, size, from_within, length-drop from (A ++ x ∷ []))))
              ∙ found
        ]

    level : 0 < length x.digits
    level = omega (arith, its_child.resolution_is)

    ends : M ≡ children (parent_of x)
    ends = subst (λ q. M ≡ children q) (sym (parent_is p x its_child.under its_child.resolution_is)) at_end

  -- where the list does not end with its siblings, one more cell completes no set
  pub none_closed : (0 < resolution x → (i : ℕ) → drop i (A ++ x ∷ []) ≢ children (parent_of x))
      → HasNoSet (A ++ x ∷ [])
  none_closed none p c = none (level p c) (from p c) (ends p c)

-- the first cells of a list with no complete set have none
pub front_closed : (xs ys : List Address) → ((y : Address) → Contains xs y → Contains ys y) → HasNoSet ys → HasNoSet xs
front_closed xs ys sub closed p c =
    closed p (record { valid = c.valid; coarse = c.coarse; all = λ y b. sub y (c.all y b) })
