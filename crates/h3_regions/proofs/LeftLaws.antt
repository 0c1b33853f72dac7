-- What is left where the cells of a region are taken away: it is clear of them, covers all else, and is a region where
-- the cells are one.
use Rattle.std.specs.List.{flat_map}
use Rattle.std.proofs.Common.{ℕ, zero, suc, ◌≡◌, ◌+◌, ◌-◌, ◌<◌, ◌≤◌, ◌↔◌, List, [], ◌∷◌, ◌++◌, true, false, All, AllPairs, Contains, arith, ◌∙◌, sym, ap, subst, inl, inr, get_or}
use Rattle.std.proofs.lemmas.Bool.{cases_Bool, cases_lt}
use Rattle.std.proofs.lemmas.List.Elements.{All-contains, Contains-append_cases, Contains-get_or}
use Rattle.h3_index.specs.Cell.{Address, IsCell, number_of, resolution}
use Rattle.h3_index.specs.Descendants.{children, ancestor_at, IsAncestor, IsDescendant}
use Rattle.h3_tree.specs.Laws.{CellsFormTrees}
use Rattle.h3_tree.specs.PostOrder.{post_order_key as key, CellsFormIntervals}
use Rattle.h3_set.specs.Compacted.{HasChildren}
use Rattle.h3_set.specs.Coverage.{finest, is_covered, IsCovered, Overlap}
use Rattle.h3_set.specs.Laws.{AncestorsAreFound}
use Rattle.h3_regions.specs.Region.{IsRegion}
use Rattle.h3_regions.specs.Difference.{has_below, left_of, left_of_all}
use Rattle.h3_regions.proofs.IntervalLaws.{before, within}
use Rattle.h3_regions.proofs.LeavingLaws.{left_gone, left_split, left_whole, splits_coarse}
use Rattle.h3_regions.proofs.ListLaws.{all_of, contains_cases, contains_head, contains_tail, from_flat, in_flat}
use Rattle.h3_regions.proofs.SharedLaws.{ordered_or, up_or_same, IsChild}
use Rattle.h3_regions.proofs.TestLaws.{from_below, from_covered, none_below, none_covered}

-- ---- lists

pub finest_at : (cells : List Address) (c : Address) → Contains cells c → resolution c ≤ finest cells
finest_at [] c m = absurd (omega (arith, m.1))
finest_at (x ∷ cells) c m =
    elim (contains_cases x c cells m) [
      | inl e ↦ let same : resolution x ≡ resolution c = ap (λ v. resolution v) e in omega (arith, same)
      | inr n ↦ let h = finest_at cells c n in omega (arith, h)
    ]

module _ (R : Address → Address → Type 0) where
  pairs_cons : (x : Address) (xs : List Address) → ((y : Address) → Contains xs y → R x y) → AllPairs R xs
      → AllPairs R (x ∷ xs)
  pairs_cons x xs new h i zero d lt lj = absurd (omega (arith, lt))
  pairs_cons x xs new h zero (suc j) d lt lj = new (get_or xs j d) (Contains-get_or xs j d (omega (arith, lj)))
  pairs_cons x xs new h (suc i) (suc j) d lt lj = h i j d (omega (arith, lt)) (omega (arith, lj))

  pub pairs_head : (x : Address) (xs : List Address) → AllPairs R (x ∷ xs) → (y : Address) → Contains xs y → R x y
  pairs_head x xs h y m = subst (R x) m.2 (h 0 (suc m.0) y (omega arith) (omega (arith, m.1)))

  pub pairs_tail : (x : Address) (xs : List Address) → AllPairs R (x ∷ xs) → AllPairs R xs
  pairs_tail x xs h i j d lt lj = h (suc i) (suc j) d (omega (arith, lt)) (omega (arith, lj))

  pairs_append : (xs ys : List Address) → AllPairs R xs → AllPairs R ys
      → ((x y : Address) → Contains xs x → Contains ys y → R x y) → AllPairs R (xs ++ ys)
  pairs_append [] ys p q out = q
  pairs_append (x ∷ xs) ys p q out =
      pairs_cons x (xs ++ ys)
      (λ y m.
      elim (Contains-append_cases xs ys y m)
      [ inl n ↦ pairs_head x xs p y n | inr n ↦ out x y (contains_head x xs) n ])
      (pairs_append xs ys (pairs_tail x xs p) q (λ a b m n. out a b (contains_tail x a xs m) n))

-- x comes before y, and they do not overlap
abbrev pub IsBefore : Address → Address → Type 0
IsBefore x y = (key x < key y) × (¬ Overlap x y)

-- cells below c that are clear of those of a list, in order
pub record IsClear (others : List Address) (c : Address) (pieces : List Address) : Type 0 where
  pub under : (x : Address) → Contains pieces x → IsCell x × IsAncestor c x
  pub clear : (x : Address) → Contains pieces x → (o : Address) → Contains others o → ¬ Overlap x o
  pub ordered : AllPairs IsBefore pieces

-- the cases of a cell with n levels below it
pub data IsCase (others : List Address) (n : ℕ) (c : Address) : Type 0 where
  gone : is_covered others c ≡ true → left_of others n c ≡ [] → IsCase others n c
  whole : is_covered others c ≡ false → has_below others c ≡ false → left_of others n c ≡ c ∷ [] → IsCase others n c
  split : (m : ℕ) → is_covered others c ≡ false → has_below others c ≡ true → n ≡ suc m → resolution c < 15
      → left_of others n c ≡ flat_map (left_of others m) (children c) → IsCase others n c

module _ (tree : CellsFormTrees) (intervals : CellsFormIntervals) where
  -- cells below cells of which the one comes before the other
  across : (c d x y : Address) → IsCell c → IsCell d → IsCell x → IsCell y → IsBefore c d → IsAncestor c x
      → IsAncestor d y → IsBefore x y
  across c d x y hc hd hx hy b above over =
      let wx = within intervals c x hc hx above in
      let wy = within intervals d y hd hy over in
      let far = before intervals d c hd hc (omega (arith, b.0)) (λ under. b.1 (inr under)) in
      let apart : ¬ Overlap x y = λ o. b.1 (elim o [
        | inl up ↦ ordered_or tree c d y (tree.through c x y above up) over
        | inr up ↦ ordered_or tree c d x above (tree.through d y x over up)
      ]) in
      (omega (arith, wx.0, wy.1, far), apart)

  spread : (others : List Address) (f : Address → List Address) (cs : List Address) → All IsCell cs
      → AllPairs IsBefore cs → ((c : Address) → Contains cs c → IsClear others c (f c))
      → AllPairs IsBefore (flat_map f cs)
  spread others f [] valid order each = λ i j d lt lj. absurd (omega (arith, lj))
  spread others f (c ∷ cs) valid order each =
      let here = each c (contains_head c cs) in
      let hc = All-contains IsCell (c ∷ cs) c valid (contains_head c cs) in
      pairs_append IsBefore (f c) (flat_map f cs) here.ordered
      (spread others f cs (λ k d lt. valid (suc k) d (omega (arith, lt))) (pairs_tail IsBefore c cs order)
      (λ b m. each b (contains_tail c b cs m)))
      (λ x y m n.
      let w = from_flat f cs y n in
      let hw = All-contains IsCell (c ∷ cs) w.0 valid (contains_tail c w.0 cs w.1) in
      let ux = here.under x m in
      let uy = (each w.0 (contains_tail c w.0 cs w.1)).under y w.2 in
      across c w.0 x y hc hw ux.0 uy.0 (pairs_head IsBefore c cs order w.0 w.1) ux.1 uy.1)

  -- ---- the children of a cell

  module _ (c : Address) (valid : IsCell c) (coarse : resolution c < 15) where
    pub child_of : (x : Address) → Contains (children c) x → IsChild c x
    child_of x m = (tree.listed c (resolution c + 1) valid (omega arith) (omega (arith, coarse)) x).0 m

    pub of_child : (x : Address) → IsChild c x → Contains (children c) x
    of_child x b = (tree.listed c (resolution c + 1) valid (omega arith) (omega (arith, coarse)) x).1 b

    children_valid : All IsCell (children c)
    children_valid = all_of IsCell (children c) (λ x m. (child_of x m).valid)

    pub children_ordered : AllPairs IsBefore (children c)
    children_ordered i j d lt lj =
        let x = get_or (children c) i d in
        let y = get_or (children c) j d in
        let bx = child_of (get_or (children c) i d) (Contains-get_or (children c) i d (omega (arith, lt, lj))) in
        let by_y = child_of (get_or (children c) j d) (Contains-get_or (children c) j d lj) in
        let up = tree.ascending c (resolution c + 1) i j d lt lj in
        let apart : ¬ Overlap (get_or (children c) i d) (get_or (children c) j d) = λ o.
        let same : get_or (children c) i d ≡ get_or (children c) j d = elim o [
          | inl above ↦
              sym (tree.same (get_or (children c) i d) (get_or (children c) j d) above
              (omega (arith, bx.resolution_is, by_y.resolution_is)))
          | inr above ↦
              tree.same (get_or (children c) j d) (get_or (children c) i d) above
              (omega (arith, bx.resolution_is, by_y.resolution_is))
        ] in
        absurd (omega (arith, up, ap number_of same)) in (
          omega (
            arith,
            up,
            intervals.number (get_or (children c) i d) bx.valid,
            intervals.number (get_or (children c) j d) by_y.valid,
            bx.resolution_is,
            by_y.resolution_is,
          ),
          apart,
        )

  module _ (found : AncestorsAreFound) (others : List Address) (ro : IsRegion others) where
    -- ---- what is left of one cell

    no_pieces : (c : Address) → IsClear others c []
    no_pieces c =
        record {
          under = λ x m. absurd (omega (arith, m.1));
          clear = λ x m o k. absurd (omega (arith, m.1));
          ordered = λ i j d lt lj. absurd (omega (arith, lj));
        }

    one_piece : (c : Address) → IsCell c → is_covered others c ≡ false → has_below others c ≡ false
        → IsClear others c (c ∷ [])
    one_piece c valid e f =
        record {
          under = λ x m. (let s = only x m in (subst IsCell s valid, subst (IsAncestor c) s (tree.own c)));
          clear = λ x m o k over. (let s = only x m in elim over [
            | inl above ↦ none_below found others c f o k (subst (λ v. IsAncestor v o) (sym s) above)
            | inr above ↦ none_covered found others c e o k (subst (IsAncestor o) (sym s) above)
          ]);
          ordered = λ i j d lt lj. absurd (omega (arith, lt, lj));
        }
      where
        only : (x : Address) → Contains (c ∷ []) x → c ≡ x
        only x m = elim (contains_cases c x [] m) [ inl s ↦ s | inr n ↦ absurd (omega (arith, n.1)) ]

    pub which : (n : ℕ) (c : Address) → n + resolution c ≡ 15 → IsCell c → IsCase others n c
    which n c level valid =
        elim (cases_Bool (is_covered others c)) [
          | inl t ↦ gone t (left_gone others n c t)
          | inr f ↦ elim (cases_Bool (has_below others c)) [
            | inr g ↦ whole f g (left_whole others n c f g)
            | inl g ↦
                let coarse = splits_coarse tree found others c ro valid f g in
                let down : n ≡ suc (n - 1) = omega (arith, level, coarse) in
                split (n - 1) f g down coarse (ap (λ k. left_of others k c) down ∙ left_split others (n - 1) c f g)
          ]
        ]

    from_children : (n : ℕ) (c : Address) → IsCell c → resolution c < 15
        → ((k : Address) → IsChild c k → IsClear others k (left_of others n k))
        → IsClear others c (flat_map (left_of others n) (children c))
    from_children n c valid coarse each =
        record {
          under = λ x m. (
              let w = from_flat (left_of others n) (children c) x m in
              let b = child_of c valid coarse w.0 w.1 in
              let u = (each w.0 b).under x w.2 in
              (u.0, tree.through c w.0 x b.under u.1));
          clear = λ x m. (
              let w = from_flat (left_of others n) (children c) x m in
              (each w.0 (child_of c valid coarse w.0 w.1)).clear x w.2);
          ordered =
              spread others (left_of others n) (children c) (children_valid c valid coarse)
              (children_ordered c valid coarse) (λ k m. each k (child_of c valid coarse k m));
        }

    pub pieces : (n : ℕ) (c : Address) → n + resolution c ≡ 15 → IsCell c → IsClear others c (left_of others n c)
    pieces zero c level valid =
        elim (which zero c level valid) [
          | gone t e ↦ subst (IsClear others c) (sym e) (no_pieces c)
          | whole f g e ↦ subst (IsClear others c) (sym e) (one_piece c valid f g)
          | split m f g down coarse e ↦ absurd (omega (arith, down))
        ]
    pieces (suc n) c level valid =
        elim (which (suc n) c level valid) [
          | gone t e ↦ subst (IsClear others c) (sym e) (no_pieces c)
          | whole f g e ↦ subst (IsClear others c) (sym e) (one_piece c valid f g)
          | split m f g down coarse e ↦
              let same : m ≡ n = omega (arith, down) in
              let is : left_of others (suc n) c ≡ flat_map (left_of others n) (children c) = rw same at e in
              subst (IsClear others c) (sym is)
              (from_children n c valid coarse (λ k b. pieces n k (omega (arith, level, b.resolution_is)) b.valid))
        ]

    -- a piece is the cell, or has a parent with others below it
    pub parent_split : (n : ℕ) (c : Address) → n + resolution c ≡ 15 → IsCell c → (x p : Address)
        → Contains (left_of others n c) x → IsAncestor c p → IsChild p x
        → (o : Address) × Contains others o × IsAncestor p o
    parent_split zero c level valid x p m above k =
        elim (which zero c level valid) [
          | gone t e ↦ absurd (none (subst (λ l. Contains l x) e m))
          | whole f g e ↦ absurd (itself (subst (λ l. Contains l x) e m))
          | split m' f g down coarse e ↦ absurd (omega (arith, down))
        ]
      where
        none : Contains [] x → ⊥
        none n = omega (arith, n.1)

        itself : Contains (c ∷ []) x → ⊥
        itself n =
            elim (contains_cases c x [] n) [
              | inl s ↦ omega (arith, tree.no_finer c p above, k.resolution_is, ap (λ v. resolution v) s)
              | inr n' ↦ omega (arith, n'.1)
            ]
    parent_split (suc n) c level valid x p m above k =
        elim (which (suc n) c level valid) [
          | gone t e ↦ absurd (none (subst (λ l. Contains l x) e m))
          | whole f g e ↦ absurd (itself (subst (λ l. Contains l x) e m))
          | split m' f g down coarse e ↦
              let same : m' ≡ n = omega (arith, down) in
              let is : left_of others (suc n) c ≡ flat_map (left_of others n) (children c) = rw same at e in
              let w = from_flat (left_of others n) (children c) x (subst (λ l. Contains l x) is m) in
              let b = child_of c valid coarse w.0 w.1 in
              let deep : n + resolution w.0 ≡ 15 = omega (arith, level, b.resolution_is) in
              let u = (pieces n w.0 deep b.valid).under x w.2 in
              elim (up_or_same tree w.0 x p u.1 k) [
                | inl over ↦ parent_split n w.0 deep b.valid x p w.2 over k
                | inr one ↦
                    let same_level : resolution p ≡ resolution c =
                    omega (arith, k.resolution_is, b.resolution_is, ap (λ v. resolution v) one) in
                    let is_c : p ≡ c = tree.same c p above (omega (arith, same_level)) in
                    subst (λ v. (o : Address) × Contains others o × IsAncestor v o) (sym is_c)
                    (from_below found others c g)
              ]
        ]
      where
        none : Contains [] x → ⊥
        none i = omega (arith, i.1)

        itself : Contains (c ∷ []) x → ⊥
        itself i =
            elim (contains_cases c x [] i) [
              | inl s ↦ omega (arith, tree.no_finer c p above, k.resolution_is, ap (λ v. resolution v) s)
              | inr i' ↦ omega (arith, i'.1)
            ]

    -- what the others do not cover below a cell the pieces cover
    module _ (r : ℕ) (fine : finest others ≤ r) where
      deeper : (c : Address) → IsCell c → is_covered others c ≡ false → has_below others c ≡ true → resolution c < r
      deeper c valid f g =
          let w = from_below found others c g in
          let le : resolution w.0 ≤ r = omega (arith, finest_at others w.0 w.1, fine) in
          elim (cases_lt (resolution c) r) [
            | inl coarse ↦ coarse
            | inr not ↦
                let same : w.0 ≡ c = tree.same c w.0 w.2 (omega (arith, not, le)) in
                absurd (none_covered found others c f w.0 w.1 (subst (λ a. IsAncestor a c) (sym same) (tree.own c)))
          ]

      pub covers_rest : (n : ℕ) (c : Address) → n + resolution c ≡ 15 → IsCell c → (y : Address) → IsDescendant c r y
          → (¬ IsCovered others r y) → IsCovered (left_of others n c) r y
      covers_rest zero c level valid y b out =
          elim (which zero c level valid) [
            | gone t e ↦ absurd (out_of t)
            | whole f g e ↦
                subst (λ l. IsCovered l r y) (sym e) (record { by = c; member = contains_head c []; below = b })
            | split m f g down coarse e ↦ absurd (omega (arith, down))
          ]
        where
          out_of : is_covered others c ≡ true → ⊥
          out_of t =
              let h = from_covered found others c t in
              out (record {
                by = h.by;
                member = h.member;
                below = record {
                  valid = b.valid;
                  resolution_is = b.resolution_is;
                  under = tree.through h.by c y h.above b.under;
                };
              })
      covers_rest (suc n) c level valid y b out =
          elim (which (suc n) c level valid) [
            | gone t e ↦ absurd (out_of t)
            | whole f g e ↦
                subst (λ l. IsCovered l r y) (sym e) (record { by = c; member = contains_head c []; below = b })
            | split m f g down coarse e ↦
                let same : m ≡ n = omega (arith, down) in
                let is : left_of others (suc n) c ≡ flat_map (left_of others n) (children c) = rw same at e in
                let lt = deeper c valid f g in
                let k = step_down c y b lt in
                let rest =
                covers_rest n (ancestor_at y (resolution c + 1)) (omega (arith, level, k.resolution_is)) k.valid y
                (record {
                  valid = b.valid;
                  resolution_is = b.resolution_is;
                  under = tree.cut_ancestor y (resolution c + 1) (omega (arith, lt, b.resolution_is));
                })
                out in
                subst (λ l. IsCovered l r y) (sym is) (record {
                  by = rest.by;
                  member =
                      in_flat (left_of others n) (children c) (ancestor_at y (resolution c + 1)) rest.by
                      (of_child c valid coarse (ancestor_at y (resolution c + 1)) k) rest.member;
                  below = rest.below;
                })
          ]
        where
          out_of : is_covered others c ≡ true → ⊥
          out_of t =
              let h = from_covered found others c t in
              out (record {
                by = h.by;
                member = h.member;
                below = record {
                  valid = b.valid;
                  resolution_is = b.resolution_is;
                  under = tree.through h.by c y h.above b.under;
                };
              })

          step_down : (c y : Address) → IsDescendant c r y → resolution c < r
              → IsChild c (ancestor_at y (resolution c + 1))
          step_down c y h lt =
              let le : resolution c + 1 ≤ resolution y = omega (arith, lt, h.resolution_is) in
              let size = tree.resolution-ancestor_at y (resolution c + 1) le in
              record {
                valid = tree.cut_cell y (resolution c + 1) h.valid le;
                resolution_is = size;
                under =
                    tree.ordered c (ancestor_at y (resolution c + 1)) y h.under
                    (tree.cut_ancestor y (resolution c + 1) le) (omega (arith, size));
              }

    -- ---- what is left of a region

    module _ (cells : List Address) (rc : IsRegion cells) where
      abbrev rest_of : Address → List Address
      rest_of c = left_of others (15 - resolution c) c

      member_valid : (c : Address) → Contains cells c → IsCell c
      member_valid c m = All-contains IsCell cells c rc.valid m

      level_of : (c : Address) → Contains cells c → 15 - resolution c + resolution c ≡ 15
      level_of c m = let v = member_valid c m in omega (arith, v.coarse)

      clear_of : (c : Address) → Contains cells c → IsClear others c (left_of others (15 - resolution c) c)
      clear_of c m = pieces (15 - resolution c) c (level_of c m) (member_valid c m)

      from_rest : (x : Address) → Contains (left_of_all cells others) x
          → (c : Address) × Contains cells c × Contains (left_of others (15 - resolution c) c) x
      unfolding left_of_all
      from_rest x m = from_flat (λ c. left_of others (15 - resolution c) c) cells x m

      in_rest : (c x : Address) → Contains cells c → Contains (left_of others (15 - resolution c) c) x
          → Contains (left_of_all cells others) x
      unfolding left_of_all
      in_rest c x m n = in_flat (λ c. left_of others (15 - resolution c) c) cells c x m n

      cells_ordered : AllPairs IsBefore cells
      cells_ordered i j d lt lj = (rc.in_order i j d lt lj, rc.apart i j d lt lj)

      rest_ordered : AllPairs IsBefore (left_of_all cells others)
      unfolding left_of_all
      rest_ordered = spread others (λ c. left_of others (15 - resolution c) c) cells rc.valid cells_ordered clear_of

      rest_clear : (x : Address) → Contains (left_of_all cells others) x → (o : Address) → Contains others o
          → ¬ Overlap x o
      rest_clear x m = let w = from_rest x m in (clear_of w.0 w.1).clear x w.2

      -- no complete set of siblings is left
      module _ (p : Address) (h : HasChildren (Contains (left_of_all cells others)) p) where
        -- a cell that stands above p was not divided there
        not_above : (c x : Address) → Contains cells c → Contains (left_of others (15 - resolution c) c) x → IsChild p x
            → ¬ IsAncestor c p
        not_above c x m n k above =
            let w = parent_split (15 - resolution c) c (level_of c m) (member_valid c m) x p n above k in
            let o_valid = All-contains IsCell others w.0 ro.valid w.1 in
            let le = tree.no_finer p w.0 w.2 in
            let clear = rest_clear x (in_rest c x m n) w.0 w.1 in
            elim (cases_lt (resolution p) (resolution w.0)) [
              | inl lt ↦
                  let size : resolution p + 1 ≤ resolution w.0 = omega (arith, lt) in
                  let level = tree.resolution-ancestor_at w.0 (resolution p + 1) size in
                  let over = tree.cut_ancestor w.0 (resolution p + 1) size in
                  let kid : IsChild p (ancestor_at w.0 (resolution p + 1)) = record {
                    valid = tree.cut_cell w.0 (resolution p + 1) o_valid size;
                    resolution_is = level;
                    under = tree.ordered p (ancestor_at w.0 (resolution p + 1)) w.0 w.2 over (omega (arith, level));
                  } in
                  rest_clear (ancestor_at w.0 (resolution p + 1)) (h.all (ancestor_at w.0 (resolution p + 1)) kid) w.0
                  w.1 (inl over)
              | inr not ↦
                  let same : w.0 ≡ p = tree.same p w.0 w.2 not in
                  clear (inr (subst (λ v. IsAncestor v x) (sym same) k.under))
            ]

        whole_child : (x : Address) → IsChild p x → Contains cells x
        whole_child x k =
            let w = from_rest x (h.all x k) in
            let u = (clear_of w.0 w.1).under x w.2 in
            elim (up_or_same tree w.0 x p u.1 k) [
              | inl over ↦ absurd (not_above w.0 x w.1 w.2 k over)
              | inr one ↦ subst (Contains cells) one w.1
            ]

        no_set : ⊥
        no_set = rc.no_siblings p (record { valid = h.valid; coarse = h.coarse; all = whole_child })

      pub rest_region : IsRegion (left_of_all cells others)
      rest_region =
          record {
            valid =
                all_of IsCell (left_of_all cells others)
                (λ x m. (let w = from_rest x m in ((clear_of w.0 w.1).under x w.2).0));
            in_order = λ i j d lt lj. (rest_ordered i j d lt lj).0;
            apart = λ i j d lt lj. (rest_ordered i j d lt lj).1;
            no_siblings = no_set;
          }

      -- it covers what the cells cover and the others do not
      pub rest_covers : (r : ℕ) → finest others ≤ r → (y : Address)
          → IsCovered (left_of_all cells others) r y ↔ (IsCovered cells r y × (¬ IsCovered others r y))
      rest_covers r fine y = (
        (λ c.
            let w = from_rest c.by c.member in
            let u = (clear_of w.0 w.1).under c.by w.2 in (
              record {
                by = w.0;
                member = w.1;
                below = record {
                  valid = c.below.valid;
                  resolution_is = c.below.resolution_is;
                  under = tree.through w.0 c.by y u.1 c.below.under;
                };
              },
              (λ d. rest_clear c.by c.member d.by d.member (ordered_or tree c.by d.by y c.below.under d.below.under)),
            )),
        (λ (c, out).
            let k =
            covers_rest r fine (15 - resolution c.by) c.by (level_of c.by c.member) (member_valid c.by c.member) y
            c.below out in
            record { by = k.by; member = in_rest c.by k.by c.member k.member; below = k.below }),
      )
