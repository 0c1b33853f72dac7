-- Pairs in another order.
use Rattle.std.specs.List.Sorted.{IsPermutation}
use Rattle.std.proofs.Common.{ℕ, ◌≡◌, ◌+◌, ◌<◌, ◌≤◌, List, length, drop, arith, ◌∙◌, sym, inl, inr, get_or}
use Rattle.std.proofs.lemmas.Bool.{cases_lt, cases_eq}
use Rattle.std.proofs.lemmas.List.Sorted.{Contains-permutation, IsPermutation-sym}
use Rattle.std.proofs.lemmas.List.Elements.{Contains-get_or}
use Rattle.h3_index.specs.Cell.{Address, resolution}
use Rattle.h3_tree.specs.Laws.{CellsFormTrees}
use Rattle.h3_set.specs.Coverage.{Overlap}
use Rattle.h3_set.specs.Laws.{AncestorsAreFound}
use Rattle.h3_regions.specs.Areas.{AreApart, areas_of, AreChosen, coarsest, LiesIn}
use Rattle.h3_regions.specs.AreaLaws.{AreasAreListed, AreasInAnyOrder, OneAreaAtMost}
use Rattle.h3_regions.proofs.CoarsestLaws.{coarsest_from, coarsest_le}
use Rattle.h3_regions.proofs.ListLaws.{back_at, contains_at}
use Rattle.h3_regions.proofs.ListingLaws.{listed, only_list}

pub lies_permuted : (areas others : List (Address × ℕ)) → IsPermutation areas others → (x : Address) (n : ℕ)
    → LiesIn areas x n → LiesIn others x n
lies_permuted areas others same x n h =
    record { by = h.by; member = Contains-permutation areas others (h.by, n) same h.member; above = h.above }

pub apart_permuted : (areas others : List (Address × ℕ)) → IsPermutation areas others → AreApart areas → AreApart others
apart_permuted areas others same apart m n o =
    let back = IsPermutation-sym areas others same in
    apart m n (record {
      different = o.different;
      one = o.one;
      other = o.other;
      of_one = Contains-permutation others areas (o.one, m) back o.of_one;
      of_other = Contains-permutation others areas (o.other, n) back o.of_other;
      overlap = o.overlap;
    })

pub chosen_permuted : (areas others : List (Address × ℕ)) (n : ℕ) → n ≤ length others → IsPermutation areas others
    → AreChosen (drop n others) areas
chosen_permuted areas others n le same c k m =
    let p = back_at others n (c, k) (c, k) le m in
    Contains-permutation others areas (c, k) (IsPermutation-sym areas others same)
    (contains_at others p.0 (c, k) (c, k) p.2 p.3)

module _ (tree : CellsFormTrees) (found : AncestorsAreFound) where
  -- the coarsest cell of an area above a cell is no finer in another order
  no_finer : (areas others : List (Address × ℕ)) → IsPermutation areas others → (x : Address) (n : ℕ)
      → coarsest areas x n < 16 → (coarsest others x n < coarsest areas x n + 1)
  no_finer areas others same x n lt =
      let c = coarsest_from found areas x n lt in
      let h = coarsest_le found others x c.0 n (Contains-permutation areas others (c.0, n) same c.1) c.2 in
      omega (arith, h, c.3)

  same_level : (areas others : List (Address × ℕ)) → IsPermutation areas others → (x : Address) (n : ℕ)
      → coarsest areas x n < 16 → coarsest areas x n ≡ coarsest others x n
  same_level areas others same x n lt =
      let h = no_finer areas others same x n lt in
      let k = no_finer others areas (IsPermutation-sym areas others same) x n (omega (arith, h, lt)) in
      omega (arith, h, k)

  level_small : (areas : List (Address × ℕ)) (x : Address) (n : ℕ) → resolution x < 16 → LiesIn areas x n
      → coarsest areas x n < 16
  level_small areas x n coarse h =
      let le = coarsest_le found areas x h.by n h.member h.above in
      let up = tree.no_finer h.by x h.above in
      omega (arith, le, up, coarse)

  pub list_permuted : (areas others : List (Address × ℕ)) → IsPermutation areas others → (x : Address)
      → resolution x < 16 → areas_of areas x ≡ areas_of others x
  list_permuted areas others same x coarse =
      let l = listed tree found areas x coarse in
      let back = IsPermutation-sym areas others same in
      only_list tree found others x coarse (areas_of areas x) (record {
        each = λ n. (
          (λ m. lies_permuted areas others same x n ((l.each n).0 m)),
          (λ h. (l.each n).1 (lies_permuted others areas back x n h)),
        );
        in_order = λ i j d lt lj. (
            let a = get_or (areas_of areas x) i d in
            let b = get_or (areas_of areas x) j d in
            let ea =
            same_level areas others same x (get_or (areas_of areas x) i d)
            (level_small areas x (get_or (areas_of areas x) i d) coarse ((l.each (get_or (areas_of areas x) i d)).0
            (Contains-get_or (areas_of areas x) i d (omega (arith, lt, lj)))))
            in
            let eb =
            same_level areas others same x (get_or (areas_of areas x) j d)
            (level_small areas x (get_or (areas_of areas x) j d) coarse
            ((l.each (get_or (areas_of areas x) j d)).0 (Contains-get_or (areas_of areas x) j d lj)))
            in
            elim (l.in_order i j d lt lj) [
              | inl less ↦ inl (omega (arith, less, ea, eb))
              | inr e ↦ inr (sym ea ∙ e.0 ∙ eb, e.1)
            ]);
      })

  pub areas_in_any_order : AreasInAnyOrder
  areas_in_any_order = record {
    lies = λ areas others same x n.
        (lies_permuted areas others same x n, lies_permuted others areas (IsPermutation-sym areas others same) x n);
    listed = list_permuted;
    apart = apart_permuted;
  }

  pub areas_are_listed : AreasAreListed
  areas_are_listed = record {
    are = listed tree found;
    only = λ areas x list coarse h. only_list tree found areas x coarse list h;
  }

  pub one_at_most : OneAreaAtMost
  one_at_most areas x m n apart h k = elim (cases_eq m n) [
    | inl e ↦ e
    | inr ne ↦
        let o : Overlap h.by k.by = elim (cases_lt (resolution k.by) (resolution h.by)) [
          | inl coarse ↦ inr (tree.ordered k.by h.by x k.above h.above (omega (arith, coarse)))
          | inr not ↦ inl (tree.ordered h.by k.by x h.above k.above not)
        ] in
        absurd
        (apart m n
        (record { different = ne; one = h.by; other = k.by; of_one = h.member; of_other = k.member; overlap = o }))
  ]
