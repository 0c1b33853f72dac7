-- The cells of either of two regions that the other covers are a region again, of what both cover.
use Rattle.std.proofs.Common.{ℕ, ◌≡◌, ◌+◌, ◌<◌, ◌⊎◌, ◌↔◌, List, length, Contains, arith, sym, ap, subst, inl, inr, get_or}
use Rattle.std.proofs.lemmas.Bool.{cases_lt}
use Rattle.std.proofs.lemmas.List.Elements.{All-contains, Contains-get_or}
use Rattle.h3_index.specs.Cell.{Address, IsCell, resolution}
use Rattle.h3_index.specs.Descendants.{center_descendant, IsAncestor, IsDescendant}
use Rattle.h3_tree.specs.Laws.{CellsFormTrees}
use Rattle.h3_tree.specs.PostOrder.{post_order_key as key}
use Rattle.h3_set.specs.Compacted.{HasChildren}
use Rattle.h3_set.specs.Coverage.{IsApart, IsCovered}
use Rattle.h3_regions.specs.Unions.{HasAncestor}
use Rattle.h3_regions.specs.Intersection.{HoldsShared, IsShared}
use Rattle.h3_regions.specs.Region.{IsRegion}
use Rattle.h3_regions.proofs.ListLaws.{all_of, one_of}

abbrev pub IsChild : Address → Address → Type 0
IsChild p = IsDescendant p (resolution p + 1)

-- what stands below a cell with an ancestor in a list is covered by the list
covered_over : CellsFormTrees → (cells : List Address) (r : ℕ) (x y : Address) → HasAncestor cells x
    → IsDescendant x r y → IsCovered cells r y
covered_over tree cells r x y h b =
    record {
      by = h.by;
      member = h.member;
      below =
          record { valid = b.valid; resolution_is = b.resolution_is; under = tree.through h.by x y h.above b.under };
    }

module _ (tree : CellsFormTrees) where
  pub both_ways_one : (a b : Address) → IsAncestor a b → IsAncestor b a → a ≡ b
  both_ways_one a b above below = sym (tree.same a b above (tree.no_finer b a below))

  -- what stands above a child of p stands above p, or is the child
  pub up_or_same : (a y p : Address) → IsAncestor a y → IsChild p y → IsAncestor a p ⊎ (a ≡ y)
  up_or_same a y p above c =
      elim (cases_lt (resolution p) (resolution a)) [
        | inl fine ↦ inr (sym (tree.same a y above (omega (arith, fine, c.resolution_is))))
        | inr coarse ↦ inl (tree.ordered a p y above c.under coarse)
      ]

  -- of two cells above one the finer stands below the other
  pub ordered_or : (a b x : Address) → IsAncestor a x → IsAncestor b x → IsAncestor a b ⊎ IsAncestor b a
  ordered_or a b x above over =
      elim (cases_lt (resolution b) (resolution a)) [
        | inl coarse ↦ inr (tree.ordered b a x over above (omega (arith, coarse)))
        | inr fine ↦ inl (tree.ordered a b x above over fine)
      ]

  module _ (a b : List Address) (ra : IsRegion a) (rb : IsRegion b) where
    one_across : (x y : Address) → Contains a x → HasAncestor b x → Contains b y → IsAncestor x y → x ≡ y
    one_across x y m h n above =
        let same = one_of b rb.apart h.by y h.member n (tree.through h.by x y h.above above) in
        both_ways_one x y above (subst (λ v. IsAncestor v x) same h.above)

    -- where one child of p is of a, all are
    children_in : (L : List Address) → ((x : Address) → Contains L x → IsShared a b x) → (p y : Address)
        → HasChildren (Contains L) p → IsChild p y → Contains a y → (x : Address) → IsChild p x → Contains a x
    children_in L shared p y h c m x k =
        elim (shared x (h.all x k)) [
          | inl in_a ↦ in_a.0
          | inr in_b ↦ elim (up_or_same in_b.1.by x p in_b.1.above k) [
            | inr same ↦ subst (Contains a) same in_b.1.member
            | inl over ↦
                let same = one_of a ra.apart in_b.1.by y in_b.1.member m (tree.through in_b.1.by p y over c.under) in
                absurd (omega (arith, tree.no_finer in_b.1.by p over, c.resolution_is, ap (λ v. resolution v) same))
          ]
        ]

  turn : (a b : List Address) (x : Address) → IsShared a b x → IsShared b a x
  turn a b x s = elim s [ inl h ↦ inr h | inr h ↦ inl h ]

  module _ (a b L : List Address) (ra : IsRegion a) (rb : IsRegion b) (holds : HoldsShared a b L) where
    one_shared : (x y : Address) → IsShared a b x → IsShared a b y → IsAncestor x y → x ≡ y
    one_shared x y s t above =
        elim s [
          | inl p ↦ elim t [
            | inl q ↦ one_of a ra.apart x y p.0 q.0 above
            | inr q ↦ one_across a b ra rb x y p.0 p.1 q.0 above
          ]
          | inr p ↦ elim t [
            | inl q ↦ one_across b a rb ra x y p.0 p.1 q.0 above
            | inr q ↦ one_of b rb.apart x y p.0 q.0 above
          ]
        ]

    shared_valid : (x : Address) → Contains L x → IsCell x
    shared_valid x m =
        elim (holds.shared x m)
        [ inl h ↦ All-contains IsCell a x ra.valid h.0 | inr h ↦ All-contains IsCell b x rb.valid h.0 ]

    shared_at : (k : ℕ) (d : Address) → k < length L → IsShared a b (get_or L k d)
    shared_at k d lt = holds.shared (get_or L k d) (Contains-get_or L k d lt)

    shared_apart : IsApart L
    shared_apart i j d lt lj o =
        let x = get_or L i d in
        let y = get_or L j d in
        let sx = shared_at i d (omega (arith, lt, lj)) in
        let sy = shared_at j d lj in
        let same : get_or L i d ≡ get_or L j d =
        elim o [ inl above ↦ one_shared x y sx sy above | inr above ↦ sym (one_shared y x sy sx above) ] in
        absurd (omega (arith, holds.in_order i j d lt lj, ap key same))

    no_set : (p : Address) → ¬ HasChildren (Contains L) p
    no_set p h =
        let c = tree.center_descendant p (resolution p + 1) h.valid (omega arith) (omega (arith, h.coarse)) in
        let y = center_descendant p (resolution p + 1) in
        elim (holds.shared y (h.all y c)) [
          | inl in_a ↦ ra.no_siblings p
              (record { valid = h.valid; coarse = h.coarse; all = children_in a b ra rb L holds.shared p y h c in_a.0 })
          | inr in_b ↦
              rb.no_siblings p (record {
                valid = h.valid;
                coarse = h.coarse;
                all = children_in b a rb ra L (λ x m. turn a b x (holds.shared x m)) p y h c in_b.0;
              })
        ]

    -- it is a region
    pub shared_region : IsRegion L
    shared_region =
        record {
          valid = all_of IsCell L shared_valid;
          in_order = holds.in_order;
          apart = shared_apart;
          no_siblings = no_set;
        }

    -- of what both cover
    pub shared_covers : (r : ℕ) (x : Address) → IsCovered L r x ↔ (IsCovered a r x × IsCovered b r x)
    shared_covers r x = (
      (λ c. elim (holds.shared c.by c.member) [
        | inl h ↦ (record { by = c.by; member = h.0; below = c.below }, covered_over tree b r c.by x h.1 c.below)
        | inr h ↦ (covered_over tree a r c.by x h.1 c.below, record { by = c.by; member = h.0; below = c.below })
      ]),
      (λ (c, d). elim (ordered_or c.by d.by x c.below.under d.below.under) [
        | inl above ↦ record {
          by = d.by;
          member = holds.all d.by (inr (d.member, record { by = c.by; member = c.member; above = above }));
          below = d.below;
        }
        | inr above ↦ record {
          by = c.by;
          member = holds.all c.by (inl (c.member, record { by = d.by; member = d.member; above = above }));
          below = c.below;
        }
      ]),
    )
