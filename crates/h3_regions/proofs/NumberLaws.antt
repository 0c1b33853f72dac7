-- Cells in ascending order of their numbers.
use Rattle.std.specs.List.{filter}
use Rattle.std.specs.List.Sorted.{IsPermutation}
use Rattle.std.proofs.Common.{ℕ, ◌≡◌, ◌^◌, ◌-◌, ◌%◌, ◌<◌, ◌≤◌, ◌↔◌, ◌&&◌, List, length, All, AllPairs, Contains, Bool, true, false, refl, arith, sym, ap, subst, inl, inr, get_or}
use Rattle.std.proofs.Math.Nat.{one-le-pow}
use Rattle.std.proofs.lemmas.Bool.{cases_lt}
use Rattle.std.proofs.lemmas.List.Elements.{All-contains, Contains-get_or}
use Rattle.std.proofs.lemmas.List.Kept.{AllPairs-filter}
use Rattle.std.proofs.lemmas.List.Folds.{Any-from_list_any, list_any_at}
use Rattle.std.proofs.lemmas.List.Sorted.{All-permutation, Contains-permutation, IsPermutation-sym}
use Rattle.h3_index.specs.Cell.{Address, IsCell, number_of, resolution}
use Rattle.h3_index.specs.Count.{cells_up_to, CellsUpToAreListed}
use Rattle.h3_index.specs.Descendants.{IsAncestor}
use Rattle.h3_tree.specs.Laws.{CellsFormTrees}
use Rattle.h3_tree.specs.PostOrder.{post_order_key, CellsFormIntervals}
use Rattle.h3_set.specs.Compacted.{compacted}
use Rattle.h3_set.specs.Coverage.{finest, is_ancestor, IsApart}
use Rattle.h3_set.specs.Laws.{AncestorsAreFound, ApartInAnyOrder, CompactedListsAreCompacted}
use Rattle.h3_regions.specs.Zones.{by_number, is_member}
use Rattle.h3_regions.proofs.CoverageLaws.{fine_within}
use Rattle.h3_regions.proofs.IntervalLaws.{inside}
use Rattle.h3_regions.proofs.LeftLaws.{finest_at}
use Rattle.h3_regions.proofs.ListLaws.{kept, kept_from, one_of, same_rising}

both_true : (p q : Bool) → p ≡ true → q ≡ true → (p && q) ≡ true
both_true p q e f = rw (e, f) refl

from_both : (p q : Bool) → (p && q) ≡ true → (p ≡ true) × (q ≡ true)
from_both true q h = (refl, h)
from_both false q h = absurd (cc)

key_from : (a b : Address) → number_of a ≡ number_of b → post_order_key a ≡ post_order_key b
unfolding post_order_key
key_from a b e = ap (λ n. n % 2 ^ 52) e

module _ (tree : CellsFormTrees) (intervals : CellsFormIntervals) (found : AncestorsAreFound)
    (listed : CellsUpToAreListed) where
  -- valid cells with one number overlap
  one_number : (a b : Address) → IsCell a → IsCell b → number_of a ≡ number_of b → IsAncestor a b
  one_number a b va vb e =
      let same = key_from a b e in
      let some : 1 ≤ 8 ^ (15 - resolution b) = one-le-pow (15 - resolution b) 8 (omega arith) in
      inside intervals a b va vb (omega (arith, same)) (let more : 1 ≤ 8 ^ (15 - resolution a) =
      one-le-pow (15 - resolution a) 8 (omega arith) in
      omega (arith, same, some, more))

  rises : (cells : List Address) → All IsCell cells → IsApart cells
      → ((i j : ℕ) (d : Address) → i ≤ j → j < length cells
      → number_of (get_or cells i d) ≤ number_of (get_or cells j d))
      → AllPairs (λ a b. number_of a < number_of b) cells
  rises cells valid apart order i j d lt lj =
      let a = get_or cells i d in
      let b = get_or cells j d in
      elim (cases_lt (number_of a) (number_of b)) [
        | inl less ↦ less
        | inr not ↦
            let up = order i j d (omega (arith, lt)) lj in
            let e : number_of a ≡ number_of b = omega (arith, up, not) in
            absurd (apart i j d lt lj (inl (one_number a b (valid i d (omega (arith, lt, lj))) (valid j d lj) e)))
      ]

  member : (cells : List Address) (x : Address) → Contains cells x → is_member cells x ≡ true
  member cells x m =
      let own : is_ancestor x x ≡ true = (found x x).1 (tree.own x) in
      list_any_at (λ c. is_ancestor c x && is_ancestor x c) cells m.0 x m.1
      (rw m.2 (both_true (is_ancestor x x) (is_ancestor x x) own own))

  from_member : (cells : List Address) (x : Address) → is_member cells x ≡ true → Contains cells x
  from_member cells x t =
      let w = Any-from_list_any (λ c. is_ancestor c x && is_ancestor x c) cells t in
      let two = from_both (is_ancestor w.1 x) (is_ancestor x w.1) w.4 in
      let over = (found w.1 x).0 two.0 in
      let under = (found x w.1).0 two.1 in
      let e : x ≡ w.1 = tree.same w.1 x over (tree.no_finer x w.1 under) in
      subst (Contains cells) (sym e) (w.0, w.2, w.3)

  pub in_number_order : ApartInAnyOrder → (old new : List Address) → All IsCell old → IsApart old
      → IsPermutation old new
      → ((i j : ℕ) (d : Address) → i ≤ j → j < length new → number_of (get_or new i d) ≤ number_of (get_or new j d))
      → new ≡ by_number old
  unfolding by_number
  in_number_order reordered old new valid apart same order =
      let fine : finest old ≤ 15 = fine_within old valid in
      let all = listed (finest old) (omega (arith, fine)) in
      same_rising number_of new (filter (is_member old) (cells_up_to (finest old)))
      (rises new (All-permutation IsCell old new same valid) (reordered old new same apart) order)
      (AllPairs-filter (λ a b. number_of a < number_of b) (is_member old) (cells_up_to (finest old)) all.ascending)
      (λ z m.
      let n = Contains-permutation new old z (IsPermutation-sym old new same) m in
      kept (is_member old) (cells_up_to (finest old)) z
      ((all.each z).1 (All-contains IsCell old z valid n, finest_at old z n)) (member old z n))
      (λ z m.
      let w = kept_from (is_member old) (cells_up_to (finest old)) z m in
      Contains-permutation old new z same (from_member old z w.1))

  -- in ascending order they are the same cells, of which no two overlap
  pub number_members : (cells : List Address) (x : Address) → All IsCell cells
      → Contains (by_number cells) x ↔ Contains cells x
  unfolding by_number
  number_members cells x valid =
      let fine : finest cells ≤ 15 = fine_within cells valid in
      let all = listed (finest cells) (omega (arith, fine)) in (
        (λ m. from_member cells x (kept_from (is_member cells) (cells_up_to (finest cells)) x m).1),
        (λ m.
            kept (is_member cells) (cells_up_to (finest cells)) x
            ((all.each x).1 (All-contains IsCell cells x valid m, finest_at cells x m)) (member cells x m)),
      )

  number_rises : (cells : List Address) → All IsCell cells
      → AllPairs (λ a b. number_of a < number_of b) (by_number cells)
  unfolding by_number
  number_rises cells valid =
      let fine : finest cells ≤ 15 = fine_within cells valid in
      AllPairs-filter (λ a b. number_of a < number_of b) (is_member cells) (cells_up_to (finest cells))
      (listed (finest cells) (omega (arith, fine))).ascending

  pub number_apart : (cells : List Address) → All IsCell cells → IsApart cells → IsApart (by_number cells)
  number_apart cells valid apart i j d lt lj over =
      let a = get_or (by_number cells) i d in
      let b = get_or (by_number cells) j d in
      let up : number_of a < number_of b = number_rises cells valid i j d lt lj in
      let in_a : Contains cells a =
      (number_members cells a valid).0 (Contains-get_or (by_number cells) i d (omega (arith, lt, lj))) in
      let in_b : Contains cells b = (number_members cells b valid).0 (Contains-get_or (by_number cells) j d lj) in
      let same : a ≡ b =
      elim over [ inl h ↦ one_of cells apart a b in_a in_b h | inr h ↦ sym (one_of cells apart b a in_b in_a h) ] in
      let numbers : number_of a ≡ number_of b = ap number_of same in
      omega (arith, up, numbers)

  -- a list that ascends is known by the cells that it has
  pub number_of_ascending : (zones list : List Address) → All IsCell zones
      → AllPairs (λ a b. number_of a < number_of b) list → ((z : Address) → Contains zones z ↔ Contains list z)
      → list ≡ by_number zones
  number_of_ascending zones list valid ascending alike =
      same_rising number_of list (by_number zones) ascending (number_rises zones valid)
      (λ z m. (number_members zones z valid).1 ((alike z).1 m))
      (λ z m. (alike z).0 ((number_members zones z valid).0 m))

  -- the members and their finest resolution do not depend on the order
  pub number_permuted : ApartInAnyOrder → (old new : List Address) → All IsCell old → IsApart old
      → IsPermutation old new → by_number old ≡ by_number new
  unfolding by_number
  number_permuted reordered old new valid apart same =
      let fine : finest old ≤ 15 = fine_within old valid in
      let fine_new : finest new ≤ 15 = fine_within new (All-permutation IsCell old new same valid) in
      let all = listed (finest old) (omega (arith, fine)) in
      let all_new = listed (finest new) (omega (arith, fine_new)) in
      let back = IsPermutation-sym old new same in
      let valid_new = All-permutation IsCell old new same valid in
      same_rising number_of (filter (is_member old) (cells_up_to (finest old)))
      (filter (is_member new) (cells_up_to (finest new)))
      (AllPairs-filter (λ a b. number_of a < number_of b) (is_member old) (cells_up_to (finest old)) all.ascending)
      (AllPairs-filter (λ a b. number_of a < number_of b) (is_member new) (cells_up_to (finest new)) all_new.ascending)
      (λ z m.
      let w = kept_from (is_member old) (cells_up_to (finest old)) z m in
      let n = Contains-permutation old new z same (from_member old z w.1) in
      kept (is_member new) (cells_up_to (finest new)) z
      ((all_new.each z).1 (All-contains IsCell new z valid_new n, finest_at new z n)) (member new z n))
      (λ z m.
      let w = kept_from (is_member new) (cells_up_to (finest new)) z m in
      let n = Contains-permutation new old z back (from_member new z w.1) in
      kept (is_member old) (cells_up_to (finest old)) z
      ((all.each z).1 (All-contains IsCell old z valid n, finest_at old z n)) (member old z n))

  -- a compacted list in another order is, in ascending order, that list
  pub number_is : ApartInAnyOrder → CompactedListsAreCompacted → (cells list : List Address) → All IsCell cells
      → IsPermutation (compacted cells) list → by_number list ≡ compacted cells
  number_is reordered made cells list valid same =
      let k = made cells valid in
      sym (in_number_order reordered list (compacted cells)
      (All-permutation IsCell (compacted cells) list same k.cells_valid)
      (reordered (compacted cells) list same k.apart) (IsPermutation-sym (compacted cells) list same)
      (λ i j d le lj. elim (cases_lt i j) [
        | inl less ↦ let up = k.ascending i j d less lj in omega (arith, up)
        | inr not ↦ let e : i ≡ j = omega (arith, le, not) in rw e (omega arith)
      ]))
