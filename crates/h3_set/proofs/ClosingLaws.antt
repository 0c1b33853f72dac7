-- The parent in the place of a complete set of siblings, in a list that rises.
use Rattle.std.proofs.Common.{◌≡◌, ◌+◌, ◌-◌, ◌^◌, ◌<◌, ◌≤◌, List, ◌∷◌, ◌++◌, length, refl, AllPairs, Contains, arith, sym, ap, subst, inl, inr, get_or}
use Rattle.std.proofs.Math.Nat.{one-le-pow}
use Rattle.std.proofs.lemmas.Bool.{cases_lt}
use Rattle.std.proofs.lemmas.List.Elements.{All-contains, Contains-append_cases, Contains-append_left, Contains-append_right, Contains-get_or}
use Rattle.h3_index.specs.Cell.{Address, IsCell}
use Rattle.h3_index.specs.Descendants.{center_descendant, children, ancestor_at, IsAncestor}
use Rattle.h3_tree.specs.Laws.{CellsFormTrees}
use Rattle.h3_tree.specs.PostOrder.{post_order_key as key, CellsFormIntervals}
use Rattle.h3_set.specs.Closing.{IsReduction, IsRising, StandsFor}
use Rattle.h3_set.specs.Coverage.{IsCovered}
use Rattle.h3_set.specs.Order.{IsBeforeBlock}
use Rattle.h3_set.proofs.KeyLaws.{inside, within}
use Rattle.h3_set.proofs.PairLaws.{pairs_across, pairs_append, pairs_cons, pairs_first, pairs_second}
use Rattle.h3_set.proofs.TreeLaws.{contains_cases, contains_head, contains_tail, step_down, IsChild}

some_keys : (x : Address) → 1 ≤ 8 ^ (15 - length x.digits)
some_keys x = one-le-pow (15 - length x.digits) 8 (omega arith)

pub same_list : (cells : List Address) → IsRising cells → IsReduction cells cells
same_list cells h = record { rising = h; alike = λ x. ((λ c. c), (λ c. c)) }

pub then_on : (a b c : List Address) → IsReduction a b → IsReduction b c → IsReduction a c
then_on a b c h k =
    record {
      rising = k.rising;
      alike = λ x. ((λ m. (k.alike x).0 ((h.alike x).0 m)), (λ m. (h.alike x).1 ((k.alike x).1 m)));
    }

module _ (tree : CellsFormTrees) (intervals : CellsFormIntervals) (A K B : List Address) (p : Address)
    (h : IsRising (A ++ (K ++ B))) where
  module _ (valid_p : IsCell p) (coarse : length p.digits < 15) (is : K ≡ children p) where
    kid : (c : Address) → IsChild p c → Contains K c
    kid c b =
        subst (λ l. Contains l c) (sym is)
        ((tree.listed p (length p.digits + 1) valid_p (omega arith) (omega (arith, coarse)) c).1 b)

    of_kid : (c : Address) → Contains K c → IsChild p c
    of_kid c m =
        (tree.listed p (length p.digits + 1) valid_p (omega arith) (omega (arith, coarse)) c).0
        (subst (λ l. Contains l c) is m)

    abbrev center : Address
    center = center_descendant p (length p.digits + 1)

    center_child : IsChild p center
    center_child = tree.center_descendant p (length p.digits + 1) valid_p (omega arith) (omega (arith, coarse))

    center_keys : (key center ≤ key p) × (key p < key center + 8 ^ (15 - length p.digits))
    center_keys = within intervals p center valid_p center_child.valid center_child.under

    valid_of : (x : Address) → Contains (A ++ (K ++ B)) x → IsCell x
    valid_of x m = All-contains IsCell (A ++ (K ++ B)) x h.valid m

    in_first : (x : Address) → Contains A x → Contains (A ++ (K ++ B)) x
    in_first x m = Contains-append_left A (K ++ B) x m

    in_last : (x : Address) → Contains B x → Contains (A ++ (K ++ B)) x
    in_last x m = Contains-append_right A (K ++ B) x (Contains-append_right K B x m)

    -- the child of p on the way down to a cell below it
    way : (x : Address) → IsCell x → IsAncestor p x → length p.digits < length x.digits
        → IsChild p (ancestor_at x (length p.digits + 1)) × IsAncestor (ancestor_at x (length p.digits + 1)) x
    way x v over finer = (
      step_down tree p x (length x.digits) (record { valid = v; resolution_is = refl; under = over }) finer,
      tree.cut_ancestor x (length p.digits + 1) (omega (arith, finer)),
    )

    before_set : (a k : Address) → Contains A a → Contains K k → IsBeforeBlock a k
    before_set a k m n =
        pairs_across IsBeforeBlock A (K ++ B) h.rises a k m (Contains-append_left K B k n)

    after_set : (k b : Address) → Contains K k → Contains B b → IsBeforeBlock k b
    after_set k b m n = pairs_across IsBeforeBlock K B (pairs_second IsBeforeBlock A (K ++ B) h.rises) k b m n

    before_parent : (a : Address) → Contains A a → IsBeforeBlock a p
    before_parent a m =
        elim (cases_lt (key p) (key a + 8 ^ (15 - length p.digits))) [
          | inr not ↦ not
          | inl less ↦
              let v = valid_of a (in_first a m) in
              let low : key a + 8 ^ (15 - length center.digits) ≤ key center =
              before_set a center m (kid center center_child) in
              let some = some_keys center in
              let over = inside intervals p a valid_p v (omega (arith, low, center_keys.0)) less in
              elim (cases_lt (length p.digits) (length a.digits)) [
                | inr same ↦ absurd (omega (arith, low, some, center_keys.0, ap key (tree.same p a over same)))
                | inl finer ↦
                    let w = way a v over finer in
                    let n =
                    before_set a (ancestor_at a (length p.digits + 1)) m
                    (kid (ancestor_at a (length p.digits + 1)) w.0) in
                    let r = within intervals (ancestor_at a (length p.digits + 1)) a w.0.valid v w.1 in
                    absurd (omega (arith, n, r.1))
              ]
        ]

    after_parent : (b : Address) → Contains B b → IsBeforeBlock p b
    after_parent b m =
        elim (cases_lt (key b) (key p + 8 ^ (15 - length b.digits))) [
          | inr not ↦ not
          | inl less ↦
              let v = valid_of b (in_last b m) in
              let high : key center + 8 ^ (15 - length b.digits) ≤ key b =
              after_set center b (kid center center_child) m in
              let some = some_keys b in
              elim (cases_lt (key b) (key p)) [
                | inr not ↦
                    let over = inside intervals b p v valid_p not less in
                    let r =
                    within intervals b center v center_child.valid
                    (tree.through b p center over center_child.under) in
                    absurd (omega (arith, high, r.1))
                | inl below ↦
                    let over =
                    inside intervals p b valid_p v (omega (arith, below)) (omega (arith, high, center_keys.1)) in
                    elim (cases_lt (length p.digits) (length b.digits)) [
                      | inr same ↦ absurd (omega (arith, below, ap key (tree.same p b over same)))
                      | inl finer ↦
                          let w = way b v over finer in
                          let n =
                          after_set (ancestor_at b (length p.digits + 1)) b
                          (kid (ancestor_at b (length p.digits + 1)) w.0) m in
                          let r = within intervals (ancestor_at b (length p.digits + 1)) b w.0.valid v w.1 in
                          absurd (omega (arith, n, some, r.0))
                    ]
              ]
        ]

    parent_rises : AllPairs IsBeforeBlock (A ++ (p ∷ B))
    parent_rises =
        pairs_append IsBeforeBlock A (p ∷ B) (pairs_first IsBeforeBlock A (K ++ B) h.rises)
        (pairs_cons IsBeforeBlock p B after_parent
        (pairs_second IsBeforeBlock K B (pairs_second IsBeforeBlock A (K ++ B) h.rises)))
        (λ a b m n. elim (contains_cases p b B n) [
          | inl e ↦ subst (IsBeforeBlock a) e (before_parent a m)
          | inr o ↦ pairs_across IsBeforeBlock A (K ++ B) h.rises a b m (Contains-append_right K B b o)
        ])

    valid_in : (x : Address) → Contains (A ++ (p ∷ B)) x → IsCell x
    valid_in x m =
        elim (Contains-append_cases A (p ∷ B) x m) [
          | inl o ↦ valid_of x (in_first x o)
          | inr o ↦ elim (contains_cases p x B o) [ inl e ↦ subst IsCell e valid_p | inr n ↦ valid_of x (in_last x n) ]
        ]

    covered_to : (x : Address) → IsCovered (A ++ (K ++ B)) 15 x → IsCovered (A ++ (p ∷ B)) 15 x
    covered_to x c =
        elim (Contains-append_cases A (K ++ B) c.by c.member) [
          | inl m ↦ record { by = c.by; member = Contains-append_left A (p ∷ B) c.by m; below = c.below }
          | inr m ↦ elim (Contains-append_cases K B c.by m) [
            | inr n ↦ record {
              by = c.by;
              member = Contains-append_right A (p ∷ B) c.by (contains_tail p c.by B n);
              below = c.below;
            }
            | inl n ↦
                let b = of_kid c.by n in
                record {
                  by = p;
                  member = Contains-append_right A (p ∷ B) p (contains_head p B);
                  below = record {
                    valid = c.below.valid;
                    resolution_is = c.below.resolution_is;
                    under = tree.through p c.by x b.under c.below.under;
                  };
                }
          ]
        ]

    covered_from : (x : Address) → IsCovered (A ++ (p ∷ B)) 15 x → IsCovered (A ++ (K ++ B)) 15 x
    covered_from x c =
        elim (Contains-append_cases A (p ∷ B) c.by c.member) [
          | inl m ↦ record { by = c.by; member = in_first c.by m; below = c.below }
          | inr m ↦ elim (contains_cases p c.by B m) [
            | inr n ↦ record { by = c.by; member = in_last c.by n; below = c.below }
            | inl e ↦
                let over : IsAncestor p x = subst (λ z. IsAncestor z x) (sym e) c.below.under in
                let w = way x c.below.valid over (omega (arith, coarse, c.below.resolution_is)) in
                record {
                  by = ancestor_at x (length p.digits + 1);
                  member =
                      Contains-append_right A (K ++ B) (ancestor_at x (length p.digits + 1))
                      (Contains-append_left K B (ancestor_at x (length p.digits + 1))
                      (kid (ancestor_at x (length p.digits + 1)) w.0));
                  below = record { valid = c.below.valid; resolution_is = c.below.resolution_is; under = w.1 };
                }
          ]
        ]

    set_closed : IsReduction (A ++ (K ++ B)) (A ++ (p ∷ B))
    set_closed =
        record {
          rising = record {
            valid = λ k d lt. valid_in (get_or (A ++ (p ∷ B)) k d) (Contains-get_or (A ++ (p ∷ B)) k d lt);
            rises = parent_rises;
          };
          alike = λ x. (covered_to x, covered_from x);
        }

  -- a cell in the place of what it stands for
  pub exchanged : StandsFor p K → IsReduction (A ++ (K ++ B)) (A ++ (p ∷ B))
  exchanged stands =
      elim stands [
        | inl e ↦
            let same : A ++ (K ++ B) ≡ A ++ (p ∷ B) = ap (λ l. A ++ (l ++ B)) e in
            subst (IsReduction (A ++ (K ++ B))) same (same_list (A ++ (K ++ B)) h)
        | inr s ↦ set_closed s.1 s.0 s.2
      ]
