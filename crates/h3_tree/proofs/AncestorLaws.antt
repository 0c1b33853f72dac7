-- How cells stand above one another.
use Rattle.std.proofs.Common.{ℕ, ℤ, zero, suc, pos, ◌≡◌, ◌-◌, ◌≤◌, nat_lt, List, [], ◌∷◌, length, take, Contains, Some, None, true, refl, arith, ◌∙◌, sym, ap}
use Rattle.std.proofs.Math.Seq.{take-length}
use Rattle.std.proofs.lemmas.Bool.Decides.{nat_tests}
use Rattle.std.proofs.lemmas.List.{length-take, length-take-le}
use Rattle.h3_index.specs.Cell.{Address, is_pentagon, IsCell}
use Rattle.h3_index.specs.Count.{number_below, resolution_of}
use Rattle.h3_index.specs.Descendants.{center_descendant, ancestor_at, descendants, IsAncestor}
use Rattle.h3_index.specs.Laws.{CutsAreCells, DescendantsAreListed, DescendantsAscend, IsChain, PathsAreChains}
use Rattle.h3_tree.specs.Laws.{CellsFormTrees}

take-take : (p q : ℕ) (xs : List ℕ) → p ≤ q → take p (take q xs) ≡ take p xs
take-take zero q xs h = refl
take-take (suc p) zero xs h = absurd (omega (arith, h))
take-take (suc p) (suc q) [] h = refl
take-take (suc p) (suc q) (x ∷ xs) h = ap (λ ys. x ∷ ys) (take-take p q xs (omega (arith, h)))

take_whole : (q : ℕ) (xs : List ℕ) → length xs ≤ q → take q xs ≡ xs
take_whole zero [] h = refl
take_whole zero (x ∷ xs) h = absurd (omega (arith, h))
take_whole (suc q) [] h = refl
take_whole (suc q) (x ∷ xs) h = ap (λ ys. x ∷ ys) (take_whole q xs (omega (arith, h)))

same : (b : ℕ) (xs ys : List ℕ) → xs ≡ ys
    → ◌≡◌ {A = Address} (record { base = b; digits = xs }) (record { base = b; digits = ys })
same b xs ys e = ap {B = Address} (λ zs. record { base = b; digits = zs }) e

ancestor_at-ancestor_at : (c : Address) (p q : ℕ) → p ≤ q → ancestor_at (ancestor_at c q) p ≡ ancestor_at c p
ancestor_at-ancestor_at c p q h = same c.base _ _ (take-take p q c.digits h)

length-ancestor_at : (c : Address) (r : ℕ) → r ≤ length c.digits → length (ancestor_at c r).digits ≡ r
length-ancestor_at c r h = length-take-le r c.digits h

no_finer : (a c : Address) → IsAncestor a c → length a.digits ≤ length c.digits
no_finer a c h =
    let shown : length (take (length a.digits) c.digits) ≡ length a.digits = ap (λ x. length x.digits) h in
    omega (arith, shown, length-take (length a.digits) c.digits)

-- a cell has no ancestor at a number that is no resolution
pub none_beyond : (a c : Address) (res : ℤ) → IsCell c → IsAncestor a c → pos (length a.digits) ≡ res
    → resolution_of res ≡ None → ⊥
unfolding number_below
none_beyond a c res valid above at_res none =
    let small : length a.digits ≤ 15 = omega (arith, no_finer a c above, valid.coarse) in
    let test : nat_lt (length a.digits) 16 ≡ true = grind (arith, nat_tests) in
    let some : number_below 16 (pos (length a.digits)) ≡ Some (length a.digits) = rw test refl in
    absurd (cc (sym some ∙ ap resolution_of at_res ∙ none))

center_listed : (c : Address) (s : ℕ) → IsChain (is_pentagon c) (s - length c.digits)
    → Contains (descendants c s) (center_descendant c s)
unfolding descendants
center_listed c s h = rw h.is (0, omega arith, refl)

pub trees : CutsAreCells → DescendantsAreListed → DescendantsAscend → PathsAreChains → CellsFormTrees
trees cells listed ascending chains =
    record {
      own = λ c. same c.base _ _ (take-length c.digits);
      through = λ a b c p q.
          sym (ancestor_at-ancestor_at c (length a.digits) (length b.digits) (no_finer a b p))
          ∙ ap (λ x. ancestor_at x (length a.digits)) q ∙ p;
      ordered = λ a b c p q le.
          ap (λ y. ancestor_at y (length a.digits)) (sym q)
          ∙ ancestor_at-ancestor_at c (length a.digits) (length b.digits) le ∙ p;
      no_finer = no_finer;
      same = λ a c p le. sym (same c.base _ _ (take_whole (length a.digits) c.digits le)) ∙ p;
      cut_ancestor = λ c r le. rw (length-ancestor_at c r le) refl;
      resolution-ancestor_at = length-ancestor_at;
      cut_cell = cells;
      center_descendant = λ c s v le fine.
          (listed c s v le fine (center_descendant c s)).0
          (center_listed c s (chains (is_pentagon c) (s - length c.digits)));
      listed = listed;
      ascending = ascending;
    }
