-- What two lists share, and what one has beyond the other, by the cells of one resolution.
use Rattle.std.specs.List.{filter}
use Rattle.std.specs.List.Sorted.{IsPermutation}
use Rattle.std.proofs.Common.{ℕ, ◌≡◌, ◌≤◌, ◌↔◌, List, [], ◌∷◌, All, Contains, Bool, true, false, not, arith, ◌∙◌, sym, ap, subst, inl, inr}
use Rattle.std.proofs.lemmas.Bool.{cases_Bool}
use Rattle.std.proofs.lemmas.List.Elements.{All-contains}
use Rattle.h3_index.specs.Cell.{Address, IsCell, resolution}
use Rattle.h3_index.specs.Descendants.{ancestor_at, descendants, IsAncestor, IsDescendant}
use Rattle.h3_tree.specs.Laws.{CellsFormTrees}
use Rattle.h3_set.specs.Compacted.{compacted}
use Rattle.h3_set.specs.Coverage.{finest, is_covered, IsCovered}
use Rattle.h3_set.specs.Laws.{AncestorsAreFound, CoveragesDecideLists, ReducedListsAreReordered}
use Rattle.h3_set.specs.Uncompaction.{uncompacted}
use Rattle.h3_regions.specs.Algebra.{difference, finest_of_both, intersection}
use Rattle.h3_regions.specs.Region.{IsRegion}
use Rattle.h3_regions.proofs.CoverageLaws.{fine_within}
use Rattle.h3_regions.proofs.ListLaws.{all_of, from_flat, in_flat, kept, kept_from}
use Rattle.h3_regions.proofs.LeftLaws.{finest_at}
use Rattle.h3_regions.proofs.TestLaws.{covered_true, from_covered}

-- ---- the cells of one resolution

module _ (tree : CellsFormTrees) (cells : List Address) (r : ℕ) (le : finest cells ≤ r) where
  -- what stands above a finer cell stands above its ancestor at r
  above_cut : (a x : Address) → Contains cells a → IsAncestor a x → r ≤ resolution x → IsAncestor a (ancestor_at x r)
  above_cut a x m above size =
      tree.ordered a (ancestor_at x r) x above (tree.cut_ancestor x r size)
      (omega (arith, finest_at cells a m, le, tree.resolution-ancestor_at x r size))

  module _ (valid : All IsCell cells) (fine : r ≤ 15) where
    listed_covered : (x : Address) → Contains (uncompacted cells r) x → IsCovered cells r x
    listed_covered x m =
        let w = from_flat (λ c. descendants c r) cells x m in
        let v = All-contains IsCell cells w.0 valid w.1 in
        record {
          by = w.0;
          member = w.1;
          below = (tree.listed w.0 r v (omega (arith, finest_at cells w.0 w.1, le)) fine x).0 w.2;
        }

    covered_listed : (x : Address) → IsCovered cells r x → Contains (uncompacted cells r) x
    covered_listed x c =
        let v = All-contains IsCell cells c.by valid c.member in
        in_flat (λ b. descendants b r) cells c.by x c.member
        ((tree.listed c.by r v (omega (arith, finest_at cells c.by c.member, le)) fine x).1 c.below)

    module _ (p : Address → Bool) where
      picked_at : (x : Address) → Contains (filter p (uncompacted cells r)) x → IsCovered cells r x
      picked_at x m = listed_covered x (kept_from p (uncompacted cells r) x m).0

      picked_valid : All IsCell (filter p (uncompacted cells r))
      picked_valid = all_of IsCell (filter p (uncompacted cells r)) (λ x m. (picked_at x m).below.valid)

      -- those that pass a test cover what is covered and has an ancestor at r that passes
      picked_covers : (x : Address)
          → IsCovered (filter p (uncompacted cells r)) 15 x ↔ (IsCovered cells 15 x × (p (ancestor_at x r) ≡ true))
      picked_covers x = (
        (λ c.
            let w = kept_from p (uncompacted cells r) c.by c.member in
            let k = picked_at c.by c.member in
            let same : ancestor_at x r ≡ c.by = ap (ancestor_at x) (sym k.below.resolution_is) ∙ c.below.under in (
              record {
                by = k.by;
                member = k.member;
                below = record {
                  valid = c.below.valid;
                  resolution_is = c.below.resolution_is;
                  under = tree.through k.by c.by x k.below.under c.below.under;
                };
              },
              ap p same ∙ w.1,
            )),
        (λ (c, t).
            let size : r ≤ resolution x = omega (arith, fine, c.below.resolution_is) in
            let here : IsDescendant c.by r (ancestor_at x r) = record {
              valid = tree.cut_cell x r c.below.valid size;
              resolution_is = tree.resolution-ancestor_at x r size;
              under = above_cut c.by x c.member c.below.under size;
            } in
            record {
              by = ancestor_at x r;
              member =
                  kept p (uncompacted cells r) (ancestor_at x r)
                  (covered_listed (ancestor_at x r) (record { by = c.by; member = c.member; below = here })) t;
              below = record {
                valid = c.below.valid;
                resolution_is = c.below.resolution_is;
                under = tree.cut_ancestor x r size;
              };
            }),
      )

-- the test of coverage, of an ancestor that is not coarser than any cell
module _ (tree : CellsFormTrees) (found : AncestorsAreFound) (cells : List Address) (r : ℕ) (le : finest cells ≤ r)
    (fine : r ≤ 15) (x : Address) (valid : IsCell x) (level : resolution x ≡ 15) where
  covered_from : is_covered cells (ancestor_at x r) ≡ true → IsCovered cells 15 x
  covered_from t =
      let w = from_covered found cells (ancestor_at x r) t in
      record {
        by = w.by;
        member = w.member;
        below = record {
          valid = valid;
          resolution_is = level;
          under = tree.through w.by (ancestor_at x r) x w.above (tree.cut_ancestor x r (omega (arith, level, fine)));
        };
      }

  covered_to : IsCovered cells 15 x → is_covered cells (ancestor_at x r) ≡ true
  covered_to c =
      covered_true found cells (ancestor_at x r) c.by c.member
      (above_cut tree cells r le c.by x c.member c.below.under (omega (arith, level, fine)))

-- ---- regions of what is shared, and of what is left

module _ (tree : CellsFormTrees) (found : AncestorsAreFound) (decide : CoveragesDecideLists) (a b list : List Address)
    (va : All IsCell a) (vb : All IsCell b) (valid_list : All IsCell list) where
  fine_both : finest_of_both a b ≤ 15
  fine_both = omega (arith, fine_within a va, fine_within b vb)

  fine_first : finest a ≤ finest_of_both a b
  fine_first = omega arith

  fine_second : finest b ≤ finest_of_both a b
  fine_second = omega arith

  picked_same : (p : Address → Bool)
      → ((x : Address) → IsCovered list 15 x ↔ (IsCovered a 15 x × (p (ancestor_at x (finest_of_both a b)) ≡ true)))
      → compacted list ≡ compacted (filter p (uncompacted a (finest_of_both a b)))
  picked_same p covers =
      let valid = picked_valid tree a (finest_of_both a b) fine_first va fine_both p in
      let picks = picked_covers tree a (finest_of_both a b) fine_first va fine_both p in
      decide list (filter p (uncompacted a (finest_of_both a b))) 15 valid_list valid (fine_within list valid_list)
      (fine_within (filter p (uncompacted a (finest_of_both a b))) valid) (omega arith)
      (λ x. ((λ c. (picks x).1 ((covers x).0 c)), (λ c. (covers x).1 ((picks x).0 c))))

  pub intersection_same : ((x : Address) → IsCovered list 15 x ↔ (IsCovered a 15 x × IsCovered b 15 x))
      → compacted list ≡ intersection a b
  unfolding intersection
  intersection_same covers =
      picked_same (is_covered b) (λ x. (
        (λ c.
            let w = (covers x).0 c in (
              w.0,
              covered_to tree found b (finest_of_both a b) fine_second fine_both x c.below.valid c.below.resolution_is
                  w.1,
            )),
        (λ (c, t).
            (covers x).1 (
              c,
              covered_from tree found b (finest_of_both a b) fine_second fine_both x c.below.valid
                  c.below.resolution_is t,
            )),
      ))

  pub difference_same : ((x : Address) → IsCovered list 15 x ↔ (IsCovered a 15 x × (¬ IsCovered b 15 x)))
      → compacted list ≡ difference a b
  unfolding difference
  difference_same covers =
      picked_same (λ x. not (is_covered b x)) (λ x. (
        (λ c.
            let w = (covers x).0 c in
            let out : is_covered b (ancestor_at x (finest_of_both a b)) ≡ false =
            elim (cases_Bool (is_covered b (ancestor_at x (finest_of_both a b)))) [
              | inl pass ↦
                  absurd (w.1 (covered_from tree found b (finest_of_both a b) fine_second fine_both x c.below.valid
                  c.below.resolution_is pass))
              | inr miss ↦ miss
            ] in
            (w.0, ap not out)),
        (λ (c, t). (covers x).1 (
          c,
          λ d. (
              let pass : is_covered b (ancestor_at x (finest_of_both a b)) ≡ true =
              covered_to tree found b (finest_of_both a b) fine_second fine_both x c.below.valid
              c.below.resolution_is d in
              let never : false ≡ true = sym (ap not pass) ∙ t in
              cc),
        )),
      ))

module _ (tree : CellsFormTrees) (found : AncestorsAreFound) (reordered : ReducedListsAreReordered)
    (decide : CoveragesDecideLists) (a b list : List Address) (va : All IsCell a) (vb : All IsCell b)
    (region : IsRegion list) where
  pub intersection_list : ((x : Address) → IsCovered list 15 x ↔ (IsCovered a 15 x × IsCovered b 15 x))
      → IsPermutation (intersection a b) list
  intersection_list covers =
      subst (λ l. IsPermutation l list) (intersection_same tree found decide a b list va vb region.valid covers)
      (reordered list region.valid region.apart region.no_siblings)

  pub difference_list : ((x : Address) → IsCovered list 15 x ↔ (IsCovered a 15 x × (¬ IsCovered b 15 x)))
      → IsPermutation (difference a b) list
  difference_list covers =
      subst (λ l. IsPermutation l list) (difference_same tree found decide a b list va vb region.valid covers)
      (reordered list region.valid region.apart region.no_siblings)
