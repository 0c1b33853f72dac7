-- How many cells a difference may have.
use Rattle.std.specs.List.{flat_map}
use Rattle.std.proofs.Common.{ℕ, zero, suc, ◌≡◌, ◌+◌, ◌-◌, ◌*◌, ◌<◌, ◌≤◌, List, [], ◌∷◌, length, not, Bool, true, false, AllPairs, Contains, refl, arith, ◌∙◌, sym, ap, subst, inl, inr, get_or, length-append}
use Rattle.std.proofs.Math.Nat.{mul-le-mul_left}
use Rattle.std.proofs.lemmas.Bool.{both_ways, cases_Bool, cases_lt}
use Rattle.std.proofs.lemmas.List.Elements.{All-contains}
use Rattle.h3_index.specs.Cell.{Address, IsCell, is_pentagon, resolution}
use Rattle.h3_index.specs.Descendants.{children, ancestor_at, IsAncestor}
use Rattle.h3_index.specs.Laws.{HexagonsHaveSevens, PentagonsHaveFewer}
use Rattle.h3_tree.specs.Laws.{CellsFormTrees}
use Rattle.h3_tree.specs.PostOrder.{CellsFormIntervals}
use Rattle.h3_set.specs.Coverage.{is_ancestor, is_covered, IsApart}
use Rattle.h3_set.specs.Laws.{AncestorsAreFound}
use Rattle.h3_regions.specs.Region.{IsRegion}
use Rattle.h3_regions.specs.Difference.{has_below, left_of, left_of_all}
use Rattle.h3_regions.proofs.ListLaws.{contains_cases, contains_head, contains_tail}
use Rattle.h3_regions.proofs.LeftLaws.{child_of, children_ordered, of_child, pairs_head, pairs_tail, which}
use Rattle.h3_regions.proofs.LeftLaws.IsCase.{gone, whole, split}
use Rattle.h3_regions.proofs.SharedLaws.{ordered_or, IsChild}
use Rattle.h3_regions.proofs.TestLaws.{below_true, covered_true, from_below, not_true}

-- ---- sums

total : (Address → ℕ) → List Address → ℕ
total f [] = 0
total f (x ∷ xs) = f x + total f xs

abbrev bit : Bool → ℕ
bit true = 1
bit false = 0

total-le : (f g : Address → ℕ) (xs : List Address) → ((x : Address) → Contains xs x → f x ≤ g x)
    → total f xs ≤ total g xs
unfolding total
total-le f g [] h = omega arith
total-le f g (x ∷ xs) h =
    let here = h x (contains_head x xs) in
    let rest = total-le f g xs (λ y m. h y (contains_tail x y xs m)) in
    omega (arith, here, rest)

total-zero : (xs : List Address) → total (λ x. 0) xs ≡ 0
unfolding total
total-zero [] = refl
total-zero (x ∷ xs) = omega (arith, total-zero xs)

total-one : (xs : List Address) → total (λ x. 1) xs ≡ length xs
unfolding total
total-one [] = refl
total-one (x ∷ xs) = omega (arith, total-one xs)

total-add : (f g : Address → ℕ) (xs : List Address) → total (λ x. f x + g x) xs ≡ total f xs + total g xs
unfolding total
total-add f g [] = refl
total-add f g (x ∷ xs) = omega (arith, total-add f g xs)

total-times : (n : ℕ) (f : Address → ℕ) (xs : List Address) → total (λ x. n * f x) xs ≡ n * total f xs
unfolding total
total-times n f [] = omega arith
total-times n f (x ∷ xs) = let rest = total-times n f xs in omega (arith, rest)

length-flat : (f : Address → List Address) (xs : List Address) → length (flat_map f xs) ≡ total (λ x. length (f x)) xs
unfolding total
length-flat f [] = refl
length-flat f (x ∷ xs) = length-append (f x) (flat_map f xs) ∙ ap (λ n. length (f x) + n) (length-flat f xs)

-- sums in the other order
total-total : (R : Address → Address → ℕ) (ks os : List Address)
    → total (λ k. total (R k) os) ks ≡ total (λ o. total (λ k. R k o) ks) os
unfolding total
total-total R [] os = sym (total-zero os)
total-total R (k ∷ ks) os =
    ap (λ n. total (R k) os + n) (total-total R ks os) ∙ sym (total-add (R k) (λ o. total (λ k'. R k' o) ks) os)

total_none : (p : Address → Bool) (ks : List Address) → ((k : Address) → Contains ks k → p k ≡ false)
    → total (λ k. bit (p k)) ks ≡ 0
unfolding total
total_none p [] h = refl
total_none p (k ∷ ks) h =
    let here : bit (p k) ≡ 0 = ap bit (h k (contains_head k ks)) in
    let rest = total_none p ks (λ y m. h y (contains_tail k y ks m)) in
    omega (arith, here, rest)

bit_small : (b : Bool) → bit b ≤ 1
bit_small true = omega arith
bit_small false = omega arith

-- where no two pass, at most one does
total_one : (p : Address → Bool) (ks : List Address) → AllPairs (λ x y. p x ≡ true → p y ≡ true → ⊥) ks
    → total (λ k. bit (p k)) ks ≤ 1
unfolding total
total_one p [] h = omega arith
total_one p (k ∷ ks) h =
    elim (cases_Bool (p k)) [
      | inl t ↦
          let here : bit (p k) ≡ 1 = ap bit t in
          let rest =
          total_none p ks (λ y m. not_true (p y) (pairs_head (λ x y. p x ≡ true → p y ≡ true → ⊥) k ks h y m t)) in
          omega (arith, here, rest)
      | inr f ↦
          let here : bit (p k) ≡ 0 = ap bit f in
          let rest = total_one p ks (pairs_tail (λ x y. p x ≡ true → p y ≡ true → ⊥) k ks h) in
          omega (arith, here, rest)
    ]

-- where one fails, fewer pass than there are
total_fewer : (p : Address → Bool) (ks : List Address) (x : Address) → Contains ks x → p x ≡ false
    → total (λ k. bit (p k)) ks + 1 ≤ length ks
unfolding total
total_fewer p [] x m f = absurd (omega (arith, m.1))
total_fewer p (k ∷ ks) x m f =
    elim (contains_cases k x ks m) [
      | inl e ↦
          let here : bit (p k) ≡ 0 = ap bit (ap p e ∙ f) in
          let rest = total-le (λ y. bit (p y)) (λ y. 1) ks (λ y n. bit_small (p y)) in
          omega (arith, here, rest, total-one ks)
      | inr n ↦
          let rest = total_fewer p ks x n f in
          omega (arith, rest, bit_small (p k))
    ]

total_some : (p : Address → Bool) (ks : List Address) (x : Address) → Contains ks x → p x ≡ true
    → 1 ≤ total (λ k. bit (p k)) ks
unfolding total
total_some p [] x m t = absurd (omega (arith, m.1))
total_some p (k ∷ ks) x m t =
    elim (contains_cases k x ks m) [
      | inl e ↦ let here : bit (p k) ≡ 1 = ap bit (ap p e ∙ t) in omega (arith, here)
      | inr n ↦ let rest = total_some p ks x n t in omega (arith, rest)
    ]

module _ (tree : CellsFormTrees) (intervals : CellsFormIntervals) (found : AncestorsAreFound)
    (hexagons : HexagonsHaveSevens) (pentagons : PentagonsHaveFewer) (others : List Address)
    (ro : IsRegion others) where
  -- no two of cells that do not overlap stand above one
  none_twice : (ks : List Address) → IsApart ks → (o : Address)
      → AllPairs (λ x y. is_ancestor x o ≡ true → is_ancestor y o ≡ true → ⊥) ks
  none_twice ks apart o i j d lt lj s t =
      apart i j d lt lj (ordered_or tree (get_or ks i d) (get_or ks j d) o ((found (get_or ks i d) o).0 s)
      ((found (get_or ks j d) o).0 t))

  weights_all : (ks : List Address) → IsApart ks
      → total (λ k. total (λ o. bit (is_ancestor k o)) others) ks ≤ length others
  weights_all ks apart =
      let turned = total-total (λ k o. bit (is_ancestor k o)) ks others in
      let each =
      total-le (λ o. total (λ k. bit (is_ancestor k o)) ks) (λ o. 1) others
      (λ o m. total_one (λ k. is_ancestor k o) ks (none_twice ks apart o)) in
      omega (arith, turned, each, total-one others)

  at_most_seven : (c : Address) → length (children c) ≤ 7
  at_most_seven c =
      let one : resolution c + 1 - resolution c ≡ 1 = omega arith in
      elim (cases_Bool (is_pentagon c)) [
        | inl t ↦ let e = rw one at (pentagons c (resolution c + 1) t) in omega (arith, e)
        | inr f ↦ let e = rw one at (hexagons c (resolution c + 1) f) in omega (arith, e)
      ]

  module _ (c : Address) (valid : IsCell c) (coarse : resolution c < 15) where
    apart_children : IsApart (children c)
    apart_children i j d lt lj = (children_ordered tree intervals c valid coarse i j d lt lj).1

    weights_below : total (λ k. total (λ o. bit (is_ancestor k o)) others) (children c)
        ≤ total (λ o. bit (is_ancestor c o)) others
    weights_below =
        let turned = total-total (λ k o. bit (is_ancestor k o)) (children c) others in
        let each =
        total-le (λ o. total (λ k. bit (is_ancestor k o)) (children c)) (λ o. bit (is_ancestor c o)) others
        (λ o m. at_one o) in
        omega (arith, turned, each)
      where
        at_one : (o : Address) → total (λ k. bit (is_ancestor k o)) (children c) ≤ bit (is_ancestor c o)
        at_one o =
            elim (cases_Bool (is_ancestor c o)) [
              | inl t ↦
                  let here : bit (is_ancestor c o) ≡ 1 = ap bit t in
                  omega (
                    arith,
                    here,
                    total_one (λ k. is_ancestor k o) (children c) (none_twice (children c) apart_children o),
                  )
              | inr f ↦
                  let zero_all = total_none (λ k. is_ancestor k o) (children c) (λ k m. not_true (is_ancestor k o) (λ t.
                  both_ways (is_ancestor c o) f ((found c o).1
                  (tree.through c k o (child_of tree intervals c valid coarse k m).under ((found k o).0 t))))) in
                  omega (arith, zero_all)
            ]

    -- one child has others below it
    child_with : is_covered others c ≡ false → has_below others c ≡ true
        → (k : Address) × Contains (children c) k × (has_below others k ≡ true)
    child_with f g =
        let w = from_below found others c g in
        let v = All-contains IsCell others w.0 ro.valid w.1 in
        elim (cases_lt (resolution c) (resolution w.0)) [
          | inl lt ↦
              let size : resolution c + 1 ≤ resolution w.0 = omega (arith, lt) in
              let level = tree.resolution-ancestor_at w.0 (resolution c + 1) size in
              let over = tree.cut_ancestor w.0 (resolution c + 1) size in
              let kid : IsChild c (ancestor_at w.0 (resolution c + 1)) = record {
                valid = tree.cut_cell w.0 (resolution c + 1) v size;
                resolution_is = level;
                under = tree.ordered c (ancestor_at w.0 (resolution c + 1)) w.0 w.2 over (omega (arith, level));
              } in (
                ancestor_at w.0 (resolution c + 1),
                of_child tree intervals c valid coarse (ancestor_at w.0 (resolution c + 1)) kid,
                below_true found others (ancestor_at w.0 (resolution c + 1)) w.0 w.1 over,
              )
          | inr not_finer ↦
              let same : w.0 ≡ c = tree.same c w.0 w.2 not_finer in
              absurd (both_ways (is_covered others c) f
              (covered_true found others c w.0 w.1 (subst (λ a. IsAncestor a c) (sym same) (tree.own c))))
        ]

  -- a whole cell counts one, and one that is divided six a level for each of the others below it
  abbrev allowed : ℕ → Address → ℕ
  allowed n c = bit (not (has_below others c)) + (6 * n) * total (λ o. bit (is_ancestor c o)) others

  divided : (m : ℕ) (c : Address) → IsCell c → resolution c < 15 → is_covered others c ≡ false
      → has_below others c ≡ true → ((k : Address) → IsChild c k → length (left_of others m k) ≤ allowed m k)
      → length (flat_map (left_of others m) (children c)) ≤ (6 * suc m) * total (λ o. bit (is_ancestor c o)) others
  divided m c valid coarse f g each =
      let flat = length-flat (left_of others m) (children c) in
      let bound =
      total-le (λ k. length (left_of others m k)) (allowed m) (children c)
      (λ k n. each k (child_of tree intervals c valid coarse k n)) in
      let parts =
      total-add (λ k. bit (not (has_below others k))) (λ k. (6 * m) * total (λ o. bit (is_ancestor k o)) others)
      (children c) in
      let times = total-times (6 * m) (λ k. total (λ o. bit (is_ancestor k o)) others) (children c) in
      let less = mul-le-mul_left (6 * m) (weights_below c valid coarse) in
      let one = child_with c valid coarse f g in
      let fewer = total_fewer (λ k. not (has_below others k)) (children c) one.0 one.1 (ap not one.2) in
      let w = from_below found others c g in
      let some = total_some (λ o. is_ancestor c o) others w.0 w.1 ((found c w.0).1 w.2) in
      summed (length (flat_map (left_of others m) (children c))) m (total (λ o. bit (is_ancestor c o)) others)
      (omega (arith, flat, bound, parts, times, less, fewer, at_most_seven c)) some
    where
      summed : (l m w : ℕ) → l ≤ 6 + (6 * m) * w → 1 ≤ w → l ≤ (6 * suc m) * w
      summed l m w le some =
          let e : (6 * suc m) * w ≡ (6 * m) * w + 6 * w = grind arith in
          omega (arith, e, le, some)

  few : (n : ℕ) (c : Address) → n + resolution c ≡ 15 → IsCell c → length (left_of others n c) ≤ allowed n c
  few zero c level valid =
      elim (which tree intervals found others ro zero c level valid) [
        | gone t e ↦ rw e (omega arith)
        | whole f g e ↦
            let one : bit (not (has_below others c)) ≡ 1 = ap (λ b. bit (not b)) g in rw e (omega (arith, one))
        | split m f g down coarse e ↦ absurd (omega (arith, down))
      ]
  few (suc n) c level valid =
      elim (which tree intervals found others ro (suc n) c level valid) [
        | gone t e ↦ rw e (omega arith)
        | whole f g e ↦
            let one : bit (not (has_below others c)) ≡ 1 = ap (λ b. bit (not b)) g in rw e (omega (arith, one))
        | split m f g down coarse e ↦
            let same : m ≡ n = omega (arith, down) in
            let is : left_of others (suc n) c ≡ flat_map (left_of others n) (children c) = rw same at e in
            let most = divided n c valid coarse f g (λ k b. few n k (omega (arith, level, b.resolution_is)) b.valid) in
            rw is (omega (arith, most))
      ]

  few_whole : (c : Address) → IsCell c
      → length (left_of others (15 - resolution c) c) ≤ 1 + 90 * total (λ o. bit (is_ancestor c o)) others
  few_whole c valid =
      let h = few (15 - resolution c) c (omega (arith, valid.coarse)) valid in
      let small = bit_small (not (has_below others c)) in
      let scale : (6 * (15 - resolution c)) * total (λ o. bit (is_ancestor c o)) others
      ≤ 90 * total (λ o. bit (is_ancestor c o)) others =
      times_le (6 * (15 - resolution c)) 90 (total (λ o. bit (is_ancestor c o)) others) (omega arith) in
      omega (arith, h, small, scale)
    where
      times_le : (a b w : ℕ) → a ≤ b → a * w ≤ b * w
      times_le a b w le = grind arith

  pub small : (cells : List Address) → IsRegion cells
      → length (left_of_all cells others) ≤ length cells + 90 * length others
  unfolding left_of_all
  small cells rc =
      let flat = length-flat (λ c. left_of others (15 - resolution c) c) cells in
      let bound =
      total-le (λ c. length (left_of others (15 - resolution c) c))
      (λ c. 1 + 90 * total (λ o. bit (is_ancestor c o)) others) cells
      (λ c m. few_whole c (All-contains IsCell cells c rc.valid m)) in
      let parts = total-add (λ c. 1) (λ c. 90 * total (λ o. bit (is_ancestor c o)) others) cells in
      let times = total-times 90 (λ c. total (λ o. bit (is_ancestor c o)) others) cells in
      let all = weights_all cells rc.apart in
      omega (arith, flat, bound, parts, times, all, total-one cells)
