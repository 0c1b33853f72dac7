-- Unions, and what coverage decides.
use Rattle.std.proofs.Common.{ℕ, suc, ◌≡◌, ◌<◌, ◌≤◌, List, [], ◌∷◌, ◌++◌, All, AllPairs, Contains, refl, arith, ◌∙◌, sym, ap, subst, inl, inr}
use Rattle.std.proofs.lemmas.Bool.{cases_lt}
use Rattle.std.specs.List.Sorted.{IsPermutation}
use Rattle.std.proofs.lemmas.List.Sorted.{All-permutation, Contains-permutation, IsPermutation-sym}
use Rattle.std.proofs.lemmas.List.Elements.{All-append, Contains-append_cases, Contains-append_left, Contains-append_right}
use Rattle.h3_index.specs.Cell.{Address, IsCell, resolution}
use Rattle.h3_index.specs.Descendants.{center_descendant, ancestor_at}
use Rattle.h3_tree.specs.Laws.{CellsFormTrees}
use Rattle.h3_tree.specs.PostOrder.{post_order_key as key}
use Rattle.h3_set.specs.Compacted.{compacted}
use Rattle.h3_set.specs.Coverage.{finest, IsCovered}
use Rattle.h3_set.specs.Laws.{CompactedListsAreCompacted, CompactedListsCoverAlike, CoveragesDecideLists, ListsCompactInParts, ReducedListsAreCompacted, ReducedListsAreReordered}
use Rattle.h3_regions.specs.Laws.{CoverageAtOneResolution, RegionsAreUnique, UnionsCoverBoth, UnionsInAnyOrder, UnionsInParts, UnionsOfOne}
use Rattle.h3_regions.proofs.CoverageLaws.{fine_within}
use Rattle.h3_regions.proofs.ListLaws.{same_rising}
use Rattle.h3_regions.proofs.LeftLaws.{finest_at}

-- ---- unions

pub covers_both : UnionsCoverBoth
covers_both a b r x = (
  (λ c. elim (Contains-append_cases a b c.by c.member) [
    | inl m ↦ inl (record { by = c.by; member = m; below = c.below })
    | inr m ↦ inr (record { by = c.by; member = m; below = c.below })
  ]),
  (λ o. elim o [
    | inl c ↦ record { by = c.by; member = Contains-append_left a b c.by c.member; below = c.below }
    | inr c ↦ record { by = c.by; member = Contains-append_right a b c.by c.member; below = c.below }
  ]),
)

-- lists of cells that cover the same at resolution 15 compact to one
alike_one : CoveragesDecideLists → (a b : List Address) → All IsCell a → All IsCell b
    → ((x : Address) → IsCovered a 15 x → IsCovered b 15 x) → ((x : Address) → IsCovered b 15 x → IsCovered a 15 x)
    → compacted a ≡ compacted b
alike_one decide a b va vb f g =
    decide a b 15 va vb (fine_within a va) (fine_within b vb) (omega arith) (λ x. (f x, g x))

pub permuted_covers : (a b : List Address) (r : ℕ) → IsPermutation a b → (x : Address) → IsCovered a r x
    → IsCovered b r x
permuted_covers a b r same x c =
    record { by = c.by; member = Contains-permutation a b c.by same c.member; below = c.below }

pub in_any_order : CoveragesDecideLists → UnionsInAnyOrder
in_any_order decide a b va same =
    alike_one decide a b va (All-permutation IsCell a b same va) (permuted_covers a b 15 same)
    (permuted_covers b a 15 (IsPermutation-sym a b same))

pub in_parts : ListsCompactInParts → UnionsInParts
in_parts parts cells divided valid same = (parts cells divided valid same).same

twice : CoveragesDecideLists → (a : List Address) → All IsCell a → compacted (a ++ a) ≡ compacted a
twice decide a va =
    alike_one decide (a ++ a) a (All-append IsCell a a va va) va
    (λ x h. elim ((covers_both a a 15 x).0 h) [ inl k ↦ k | inr k ↦ k ])
    (λ x c. (covers_both a a 15 x).1 (inl c))

-- the compacted list of a compacted list is that list
pub again : CoveragesDecideLists → CompactedListsAreCompacted → CompactedListsCoverAlike → (a : List Address)
    → All IsCell a → compacted (compacted a) ≡ compacted a
again decide made alike a va =
    alike_one decide (compacted a) a (made a va).cells_valid va
    (λ x. (alike a 15 va (fine_within a va) x).1)
    (λ x. (alike a 15 va (fine_within a va) x).0)

pub of_one : CoveragesDecideLists → CompactedListsAreCompacted → CompactedListsCoverAlike → ReducedListsAreReordered
    → UnionsOfOne
of_one decide made alike reordered = record {
  list = λ a va. twice decide (compacted a) (made a va).cells_valid ∙ again decide made alike a va;
  region = λ a region.
      subst (λ l. IsPermutation l a) (sym (twice decide a region.valid))
      (reordered a region.valid region.apart region.no_siblings);
}

-- ---- coverage at one resolution

module _ (tree : CellsFormTrees) (a b : List Address) (q r : ℕ) (fine : q ≤ 15) (aq : finest a ≤ q) (br : finest b ≤ r)
    (h : (x : Address) → IsCovered a q x → IsCovered b q x) where
  carried : (x : Address) → IsCovered a r x → IsCovered b r x
  carried x c =
      elim (cases_lt r q) [
        | inl lt ↦
            let down = tree.center_descendant x q c.below.valid (omega (arith, c.below.resolution_is, lt)) fine in
            let k =
            h (center_descendant x q) (record {
              by = c.by;
              member = c.member;
              below = record {
                valid = down.valid;
                resolution_is = down.resolution_is;
                under = tree.through c.by x (center_descendant x q) c.below.under down.under;
              };
            }) in
            let le : resolution k.by ≤ resolution x =
            omega (arith, finest_at b k.by k.member, br, c.below.resolution_is) in
            record {
              by = k.by;
              member = k.member;
              below = record {
                valid = c.below.valid;
                resolution_is = c.below.resolution_is;
                under = tree.ordered k.by x (center_descendant x q) k.below.under down.under le;
              };
            }
        | inr not ↦
            let size : q ≤ resolution x = omega (arith, not, c.below.resolution_is) in
            let over = tree.cut_ancestor x q size in
            let level = tree.resolution-ancestor_at x q size in
            let coarse : resolution c.by ≤ resolution (ancestor_at x q) =
            omega (arith, finest_at a c.by c.member, aq, level) in
            let k =
            h (ancestor_at x q) (record {
              by = c.by;
              member = c.member;
              below = record {
                valid = tree.cut_cell x q c.below.valid size;
                resolution_is = level;
                under = tree.ordered c.by (ancestor_at x q) x c.below.under over coarse;
              };
            }) in
            record {
              by = k.by;
              member = k.member;
              below = record {
                valid = c.below.valid;
                resolution_is = c.below.resolution_is;
                under = tree.through k.by (ancestor_at x q) x k.below.under over;
              };
            }
      ]

pub at_one_resolution : CellsFormTrees → CoverageAtOneResolution
at_one_resolution tree a b q r aq bq ar br fine h x =
    (carried tree a b q r fine aq br (λ y. (h y).0) x, carried tree b a q r fine bq ar (λ y. (h y).1) x)

pub unique : CoveragesDecideLists → ReducedListsAreCompacted → RegionsAreUnique
unique decide reduced a b r ra rb ar br fine alike =
    let same : compacted a ≡ compacted b = decide a b r ra.valid rb.valid ar br fine alike in
    let in_a = reduced a ra.valid ra.apart ra.no_siblings in
    let in_b = reduced b rb.valid rb.apart rb.no_siblings in
    same_rising key a b ra.in_order rb.in_order
    (λ z m. (in_b z).1 (subst (λ l. Contains l z) same ((in_a z).0 m)))
    (λ z m. (in_a z).1 (subst (λ l. Contains l z) (sym same) ((in_b z).0 m)))
