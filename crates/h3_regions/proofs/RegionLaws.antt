-- How a region is made, and what its list says.
use Rattle.std.specs.List.Sorted.{IsPermutation}
use Rattle.std.proofs.Common.{ℕ, ◌≡◌, ◌-◌, ◌^◌, ◌<◌, ◌≤◌, List, length, All, AllPairs, Contains, Some, None, refl, arith, ◌∙◌, sym, ap, subst, inl, inr, get_or}
use Rattle.std.proofs.Math.Nat.{one-le-pow}
use Rattle.std.proofs.lemmas.Bool.{cases_lt}
use Rattle.std.proofs.lemmas.List.Elements.{Contains-get_or}
use Rattle.std.proofs.lemmas.List.Sorted.{All-permutation, Contains-permutation, IsPermutation-sym}
use Rattle.h3_index.specs.Cell.{Address, IsCell, resolution}
use Rattle.h3_index.specs.Descendants.{IsAncestor}
use Rattle.h3_tree.specs.PostOrder.{post_order_key as key, CellsFormIntervals}
use Rattle.h3_set.specs.Compacted.{IsCompacted}
use Rattle.h3_set.specs.Coverage.{IsApart, IsCovered}
use Rattle.h3_set.specs.Order.{IsInOrder}
use Rattle.h3_regions.specs.Region.{IsRegion}
use Rattle.h3_regions.specs.Zones.{IsZones, StandsAbove}
use Rattle.h3_regions.proofs.IntervalLaws.{inside}
use Rattle.h3_regions.proofs.ListLaws.{member_at}

-- ---- the order

pub strictly : (intervals : CellsFormIntervals) (cells : List Address) → All IsCell cells → IsInOrder cells
    → IsApart cells → AllPairs (λ a b. key a < key b) cells
strictly intervals cells valid order apart i j d lt lj =
    let a = get_or cells i d in
    let b = get_or cells j d in
    let le = order i j d lt lj in
    elim (cases_lt (key (get_or cells i d)) (key (get_or cells j d))) [
      | inl less ↦ less
      | inr not ↦
          let some : 1 ≤ 8 ^ (15 - resolution (get_or cells i d)) =
          one-le-pow (15 - resolution (get_or cells i d)) 8 (omega arith) in
          absurd (apart i j d lt lj (inl (inside intervals (get_or cells i d) (get_or cells j d)
          (valid i d (omega (arith, lt, lj))) (valid j d lj) not (omega (arith, le, some)))))
    ]

pub as_region : (intervals : CellsFormIntervals) (S : Address → Type 0) (r : ℕ) (list sorted : List Address)
    → IsCompacted S r list → IsPermutation list sorted → IsInOrder sorted → IsApart sorted → IsRegion sorted
as_region intervals S r list sorted k same order apart =
    let valid = All-permutation IsCell list sorted same k.cells_valid in
    record {
      valid = valid;
      in_order = strictly intervals sorted valid order apart;
      apart = apart;
      no_siblings = λ p h.
          k.no_siblings p (record {
            valid = h.valid;
            coarse = h.coarse;
            all = λ x b. Contains-permutation sorted list x (IsPermutation-sym list sorted same) (h.all x b);
          });
    }

-- cells of which no two overlap are zones, once they are in order
pub ordered_zones : (intervals : CellsFormIntervals) (cells : List Address) → All IsCell cells → IsInOrder cells
    → IsApart cells → IsZones cells
ordered_zones intervals cells valid order apart =
    record { valid = valid; in_order = strictly intervals cells valid order apart; apart = apart }

-- ---- looking up

pub place_of : (cells : List Address) (x a : Address) (m : Contains cells a) → IsAncestor a x → StandsAbove cells m.0 x
place_of cells x a m above d = subst (λ b. IsAncestor b x) (sym (member_at cells a d m)) above

pub covered_at : (cells : List Address) (x : Address) (i : ℕ) → IsCell x → i < length cells → StandsAbove cells i x
    → IsCovered cells (resolution x) x
covered_at cells x i valid lt above =
    record {
      by = get_or cells i x;
      member = Contains-get_or cells i x lt;
      below = record { valid = valid; resolution_is = refl; under = above x };
    }

module _ (cells : List Address) (x : Address)
    (one : (i : ℕ) → i < length cells → StandsAbove cells i x → None ≡ Some i) where
  pub none_above : (a : Address) → Contains cells a → ¬ IsAncestor a x
  none_above a m above = let e = one m.0 m.1 (place_of cells x a m above) in cc

module _ (cells : List Address) (x : Address) (i : ℕ)
    (one : (j : ℕ) → j < length cells → StandsAbove cells j x → Some i ≡ Some j) where
  pub one_above : (d a : Address) → Contains cells a → IsAncestor a x → Some (get_or cells i d) ≡ Some a
  one_above d a m above =
      let e = one m.0 m.1 (place_of cells x a m above) in
      let same : i ≡ m.0 = cc in
      ap Some (ap (λ k. get_or cells k d) same ∙ member_at cells a d m)
