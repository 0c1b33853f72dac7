-- Areas of which no two overlap, as a table in which one is looked up.
use Rattle.std.proofs.Common.{ℕ, All, zero, suc, ◌≡◌, ◌<◌, List, [], ◌∷◌, length, map, Contains, Some, None, refl, arith, ◌∙◌, sym, ap, subst, inl, inr, get_or}
use Rattle.std.proofs.lemmas.Bool.{cases_order}
use Rattle.std.proofs.lemmas.List.{get_or-map, length-map}
use Rattle.std.proofs.lemmas.List.Elements.{All-contains, Contains-get_or}
use Rattle.h3_index.specs.Cell.{Address, resolution}
use Rattle.h3_index.specs.Descendants.{IsAncestor}
use Rattle.h3_tree.specs.Laws.{CellsFormTrees}
use Rattle.h3_set.specs.Laws.{AncestorsAreFound}
use Rattle.h3_regions.specs.Zones.{IsZones}
use Rattle.h3_regions.specs.Areas.{AreApart, areas_of, AreChosen, LiesIn}
use Rattle.h3_regions.specs.Apart.{IsApartTable}
use Rattle.h3_regions.proofs.ListLaws.{contains_at, contains_cases, contains_head, member_at}
use Rattle.h3_regions.proofs.ListingLaws.{only_list}

pub chosen_small : (areas others : List (Address × ℕ)) (k : ℕ) → AreChosen areas others → All (λ p. p.1 < k) others
    → All (λ p. p.1 < k) areas
chosen_small areas others k chosen small i d lt =
    let p = get_or areas i d in
    All-contains (λ q. q.1 < k) others (get_or areas i d) small
    (chosen (get_or areas i d).0 (get_or areas i d).1 (Contains-get_or areas i d lt))

pub chosen_apart : (areas others : List (Address × ℕ)) → AreChosen areas others → AreApart others → AreApart areas
chosen_apart areas others chosen apart m n o =
    apart m n (record {
      different = o.different;
      one = o.one;
      other = o.other;
      of_one = chosen o.one m o.of_one;
      of_other = chosen o.other n o.of_other;
      overlap = o.overlap;
    })

module _ (areas : List (Address × ℕ)) (cells : List Address) (table : IsApartTable areas cells) where
  pub same_size : length cells ≡ length areas
  same_size = ap length table.cells_are ∙ length-map areas (λ p. p.0)

  at : (i : ℕ) (d : Address) (e : Address × ℕ) → i < length cells → get_or cells i d ≡ (get_or areas i e).0
  at i d e lt =
      ap (λ l. get_or l i d) table.cells_are ∙ get_or-map (λ p. p.0) areas i e d (omega (arith, lt, same_size))

  pub zones : IsZones cells
  zones = record {
    valid = λ i d lt. rw (at i d (d, 0) lt) (table.outer.valid i (d, 0) (omega (arith, lt, same_size)));
    in_order = λ i j d lt lj.
        rw (at i d (d, 0) (omega (arith, lt, lj)), at j d (d, 0) lj)
        (table.outer.in_order i j (d, 0) lt (omega (arith, lj, same_size)));
    apart = λ i j d lt lj.
        rw (at i d (d, 0) (omega (arith, lt, lj)), at j d (d, 0) lj)
        (table.outer.apart i j (d, 0) lt (omega (arith, lj, same_size)));
  }

  pub cell_of : (c : Address) (n : ℕ) → Contains areas (c, n) → Contains cells c
  cell_of c n m =
      let lt : m.0 < length cells = omega (arith, m.1, same_size) in
      contains_at cells m.0 c c lt (at m.0 c (c, n) lt ∙ ap (λ p. p.0) m.2)

  -- the zone of a cell is at a place
  module _ (tree : CellsFormTrees) (x z : Address) (place : ℕ) (lt : place < length cells)
      (is : get_or cells place z ≡ z) (over : IsAncestor z x) where
    pub lies_there : (d : Address × ℕ) → LiesIn areas x (get_or areas place d).1
    lies_there d =
        let la : place < length areas = omega (arith, lt, same_size) in
        let cell : (get_or areas place d).0 ≡ z = sym (at place z d lt) ∙ is in
        record {
          by = (get_or areas place d).0;
          member = Contains-get_or areas place d la;
          above = subst (λ c. IsAncestor c x) (sym cell) over;
        }

    pub one_there : (d : Address × ℕ) (n : ℕ) → ((y : Address) → Contains cells y → IsAncestor y x → Some z ≡ Some y)
        → LiesIn areas x n → (get_or areas place d).1 ≡ n
    one_there d n one h =
        let la : place < length areas = omega (arith, lt, same_size) in
        let m = h.member in
        let found : Some z ≡ Some (h.by) = one h.by (cell_of h.by n h.member) h.above in
        let eq : z ≡ h.by = cc in
        let cell : (get_or areas place d).0 ≡ z = sym (at place z d lt) ∙ is in
        let there : get_or areas m.0 d ≡ (h.by, n) = member_at areas (h.by, n) d m in
        let own : (c : Address) → IsAncestor c c = tree.own in
        let both : IsAncestor (get_or areas place d).0 (get_or areas m.0 d).0 =
        subst (λ c. IsAncestor (get_or areas place d).0 c) (cell ∙ eq ∙ sym (ap (λ p. p.0) there))
        (own (get_or areas place d).0) in
        elim (cases_order place m.0) [
          | inl e ↦ ap (λ k. (get_or areas k d).1) e ∙ ap (λ p. p.1) there
          | inr w ↦ elim w [
            | inl less ↦ absurd (table.outer.apart place m.0 d less m.1 (inl both))
            | inr more ↦ absurd (table.outer.apart m.0 place d more la (inr both))
          ]
        ]

  pub none_there : (x : Address) (n : ℕ) → ((y : Address) → Contains cells y → IsAncestor y x → None ≡ Some y)
      → ¬ LiesIn areas x n
  none_there x n one h =
      let found : None ≡ Some (h.by) = one h.by (cell_of h.by n h.member) h.above in
      cc

-- where a cell lies in one area at the most, its areas are that one or none
module _ (tree : CellsFormTrees) (found : AncestorsAreFound) (areas : List (Address × ℕ)) (x : Address)
    (coarse : resolution x < 16) where
  pub one_area : (k : ℕ) → LiesIn areas x k → ((n : ℕ) → LiesIn areas x n → k ≡ n) → areas_of areas x ≡ k ∷ []
  one_area k lies one =
      sym (only_list tree found areas x coarse (k ∷ []) (record {
        each = λ n. (
          (λ m. elim (contains_cases k n [] m) [
            | inl e ↦ subst (LiesIn areas x) e lies
            | inr never ↦ absurd (omega (arith, never.1))
          ]),
          (λ h. subst (Contains (k ∷ [])) (one n h) (contains_head k [])),
        );
        in_order = λ i j d lt lj. absurd (omega (arith, lt, lj));
      }))

  pub no_area : ((n : ℕ) → ¬ LiesIn areas x n) → areas_of areas x ≡ []
  no_area none =
      sym (only_list tree found areas x coarse [] (record {
        each = λ n. (
          (λ m. absurd (omega (arith, m.1))),
          (λ h. absurd (none n h)),
        );
        in_order = λ i j d lt lj. absurd (omega (arith, lj));
      }))
