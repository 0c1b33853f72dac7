-- What lists of cells cover.
use Rattle.std.specs.List.Sorted.{IsPermutation}
use Rattle.std.proofs.Common.{ℕ, ◌≡◌, ◌≤◌, ◌↔◌, List, [], ◌∷◌, All, Contains, arith}
use Rattle.std.proofs.lemmas.List.Elements.{All-contains}
use Rattle.std.proofs.lemmas.List.Sorted.{All-permutation, Contains-permutation, IsPermutation-sym}
use Rattle.h3_index.specs.Cell.{Address, IsCell, resolution}
use Rattle.h3_index.specs.Descendants.{IsDescendant}
use Rattle.h3_tree.specs.Laws.{CellsFormTrees}
use Rattle.h3_set.specs.Compacted.{compacted}
use Rattle.h3_set.specs.Coverage.{finest, IsCovered}
use Rattle.h3_set.specs.Laws.{CoveragesDecideLists}
use Rattle.h3_regions.specs.Unions.{HasAncestor, IsCoarsest}
use Rattle.h3_regions.proofs.ListLaws.{all_of, contains_head, contains_tail}

-- ---- the finest resolution

pub finest_within : (n : ℕ) (cells : List Address) → ((c : Address) → Contains cells c → resolution c ≤ n)
    → finest cells ≤ n
finest_within n [] h = omega arith
finest_within n (c ∷ cells) h =
    let here = h c (contains_head c cells) in
    let others = finest_within n cells (λ b m. h b (contains_tail c b cells m)) in
    omega (arith, here, others)

pub fine_within : (cells : List Address) → All IsCell cells → finest cells ≤ 15
fine_within cells valid =
    finest_within 15 cells (λ c m. let v = All-contains IsCell cells c valid m in omega (arith, v.coarse))

-- ---- the coarsest cells cover what all do

module _ (tree : CellsFormTrees) where
  pub below_covered : (cells : List Address) (r : ℕ) (x : Address) → HasAncestor cells x → (y : Address)
      → IsDescendant x r y → IsCovered cells r y
  below_covered cells r x a y b =
      record {
        by = a.by;
        member = a.member;
        below =
            record { valid = b.valid; resolution_is = b.resolution_is; under = tree.through a.by x y a.above b.under };
      }

  pub coarsest_alike : (cells order kept : List Address) → IsPermutation cells order → IsCoarsest kept order
      → (r : ℕ) (x : Address) → IsCovered cells r x ↔ IsCovered kept r x
  coarsest_alike cells order kept same k r x = (
    (λ c. below_covered kept r c.by (k.all c.by (Contains-permutation cells order c.by same c.member)) x c.below),
    (λ c.
        record {
          by = c.by;
          member =
              Contains-permutation order cells c.by (IsPermutation-sym cells order same) (k.chosen c.by c.member);
          below = c.below;
        }),
  )

  pub kept_valid : (cells kept : List Address) → All IsCell cells → IsCoarsest kept cells → All IsCell kept
  kept_valid cells kept valid k = all_of IsCell kept (λ x m. All-contains IsCell cells x valid (k.chosen x m))

  -- and so they compact to one list
  pub coarsest_compacts : CoveragesDecideLists → (cells order kept : List Address) → All IsCell cells
      → IsPermutation cells order → IsCoarsest kept order → compacted kept ≡ compacted cells
  coarsest_compacts decide cells order kept valid same k =
      let valid_kept = kept_valid order kept (All-permutation IsCell cells order same valid) k in
      decide kept cells 15 valid_kept valid (fine_within kept valid_kept) (fine_within cells valid) (omega arith)
      (λ x. let alike = coarsest_alike cells order kept same k 15 x in (alike.1, alike.0))
