-- Keys: the cells below a cell are an interval that ends at its own, so in order the siblings of a complete set stand
-- together.
use Rattle.std.proofs.Common.{ℕ, ◌≡◌, ◌+◌, ◌-◌, ◌^◌, ◌<◌, ◌≤◌, ◌⊎◌, List, length, refl, All, AllPairs, Contains, arith, sym, subst, get_or, inl, inr}
use Rattle.std.proofs.Math.Nat.{pow-le-pow_right}
use Rattle.std.proofs.lemmas.Nat.{mod_below}
use Rattle.std.proofs.lemmas.List.Elements.{Contains-get_or}
use Rattle.std.proofs.lemmas.Bool.{cases_lt}
use Rattle.h3_index.specs.Cell.{Address, number_of, IsCell}
use Rattle.h3_index.specs.Descendants.{ancestor_at, IsAncestor, IsDescendant}
use Rattle.h3_tree.specs.Laws.{CellsFormTrees}
use Rattle.h3_tree.specs.PostOrder.{post_order_key as key, CellsFormIntervals}
use Rattle.h3_set.specs.Compacted.{HasChildren}
use Rattle.h3_set.specs.Coverage.{Overlap}
use Rattle.h3_set.specs.Order.{IsInOrder}
use Rattle.h3_set.proofs.RoundLaws.{one_of}
use Rattle.h3_set.proofs.TreeLaws.{step_down, IsChild}

-- a cell has at most 2^45 keys, with those of the cells below it
pub block_small : (r : ℕ) → 8 ^ (15 - r) ≤ 2 ^ 45
block_small r =
    let le : 15 - r ≤ 15 = omega arith in
    let p : 8 ^ (15 - r) ≤ 8 ^ 15 = pow-le-pow_right (omega arith) le in p

-- keys are below 2^52
pub key_small : (c : Address) → key c < 2 ^ 52
unfolding key
key_small c = mod_below (number_of c) (2 ^ 52) (omega arith)

module _ (intervals : CellsFormIntervals) where
  -- a key within a cell's interval is that of a cell below it
  pub inside : (a x : Address) → IsCell a → IsCell x → key x ≤ key a → key a < key x + 8 ^ (15 - length a.digits)
      → IsAncestor a x
  inside a x ha hx high low = (intervals.interval a x ha hx).1 (high, low)

  pub within : (a x : Address) → IsCell a → IsCell x → IsAncestor a x
      → (key x ≤ key a) × (key a < key x + 8 ^ (15 - length a.digits))
  within a x ha hx above = (intervals.interval a x ha hx).0 above

module _ (tree : CellsFormTrees) (intervals : CellsFormIntervals) where
  -- ---- the siblings of a complete set stand together

  module _ (L : List Address) (p : Address) (cells : All IsCell L) (order : IsInOrder L)
      (apart : AllPairs (λ a b. ¬ Overlap a b) L) (complete : HasChildren (Contains L) p) where
    between : (x z y : Address) → Contains L z → IsCell z → IsChild p x → IsChild p y → key x ≤ key z → key z ≤ key y
        → (z ≡ x) ⊎ (length p.digits < length z.digits) → IsChild p z
    between x z y m hz hx hy low high or =
        let wx = within intervals p x complete.valid hx.valid hx.under in
        let wy = within intervals p y complete.valid hy.valid hy.under in
        let above : IsAncestor p z =
        inside intervals p z complete.valid hz (omega (arith, high, wy.0)) (omega (arith, low, wx.1)) in
        let below : IsDescendant p (length z.digits) z = record { valid = hz; resolution_is = refl; under = above } in
        elim or [
          | inl e ↦ subst (IsChild p) (sym e) hx
          | inr finer ↦
              let c = step_down tree p z (length z.digits) below finer in
              let is =
              one_of L apart (ancestor_at z (length p.digits + 1)) z
              (complete.all (ancestor_at z (length p.digits + 1)) c) m
              (tree.cut_ancestor z (length p.digits + 1) (omega (arith, finer))) in
              subst (IsChild p) is c
        ]

    -- from one child of p to another there is nothing else
    pub adjacent : (i m j : ℕ) (d : Address) → i < m → m < j → j < length L → IsChild p (get_or L i d)
        → IsChild p (get_or L j d) → IsChild p (get_or L m d)
    adjacent i m j d lt lt-2 within_it hx hy =
        let lm : m < length L = omega (arith, lt-2, within_it) in
        let z = get_or L m d in
        let hz = cells m d lm in
        let low = order i m d lt lm in
        let high = order m j d lt-2 within_it in
        let wx = within intervals p (get_or L i d) complete.valid hx.valid hx.under in
        let wy = within intervals p (get_or L j d) complete.valid hy.valid hy.under in
        let above : IsAncestor p (get_or L m d) =
        inside intervals p (get_or L m d) complete.valid hz (omega (arith, high, wy.0))
        (omega (arith, low, wx.1)) in
        let le = tree.no_finer p (get_or L m d) above in
        elim (cases_lt (length p.digits) (length (get_or L m d).digits)) [
          | inl finer ↦
              between (get_or L i d) (get_or L m d) (get_or L j d) (Contains-get_or L m d lm) hz hx hy low high
              (inr finer)
          | inr same ↦
              let is : get_or L m d ≡ p = tree.same p (get_or L m d) above (omega (arith, same)) in
              let over : IsAncestor (get_or L m d) (get_or L i d) =
              subst (λ v. IsAncestor v (get_or L i d)) (sym is) hx.under in
              absurd (apart i m d lt lm (inr over))
        ]
