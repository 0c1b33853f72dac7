-- The pass over two regions that writes the cells of each that the other covers.
use Rattle.std.proofs.Common.{ℕ, zero, suc, ◌≡◌, ◌+◌, ◌-◌, ◌^◌, ◌<◌, ◌≤◌, ◌⊎◌, List, length, take, set, refl, Contains, arith, ◌∙◌, sym, ap, subst, inl, inr, get_or}
use Rattle.std.proofs.Math.Nat.{one-le-pow}
use Rattle.std.proofs.Math.ListN.{length-set}
use Rattle.std.proofs.lemmas.Bool.{cases_lt}
use Rattle.std.proofs.lemmas.List.{get_or-set_same, get_or-set_other, get_or-take, length-take}
use Rattle.h3_index.specs.Cell.{Address, IsCell, resolution}
use Rattle.h3_index.specs.Descendants.{IsAncestor}
use Rattle.h3_tree.specs.Laws.{CellsFormTrees}
use Rattle.h3_tree.specs.PostOrder.{post_order_key as key, CellsFormIntervals}
use Rattle.h3_regions.specs.Unions.{HasAncestor}
use Rattle.h3_regions.specs.Difference.{lowest_key}
use Rattle.h3_regions.specs.Intersection.{HoldsShared, IsFrom, IsSeen, IsShared}
use Rattle.h3_regions.specs.Region.{IsRegion}
use Rattle.h3_regions.proofs.IntervalLaws.{before, inside, within}
use Rattle.h3_regions.proofs.ListLaws.{any_default, contains_at, contains_front, front_at, member_at}

-- the two lists change places
pub turned : (a b slots : List Address) (i j w : ℕ) → IsSeen a b slots i j w → IsSeen b a slots j i w
turned a b slots i j w s =
    record {
      in_a = s.in_b;
      in_b = s.in_a;
      behind = omega (arith, s.behind);
      room = omega (arith, s.room);
      before_b = s.before_a;
      before_a = s.before_b;
      chosen = λ k d l. elim (s.chosen k d l) [ inl f ↦ inr f | inr f ↦ inl f ];
      all_a = s.all_b;
      all_b = s.all_a;
      rises = s.rises;
    }

more_from : (a b : List Address) (n : ℕ) (x : Address) → IsFrom a b n x → IsFrom a b (n + 1) x
more_from a b n x f =
    record { place = f.place; early = omega (arith, f.early); room = f.room; is = f.is; covered = f.covered }

module _ (tree : CellsFormTrees) (intervals : CellsFormIntervals) where
  -- a cell that is not below another in order is the other where it stands above it
  pub one_cell : (a x : Address) → IsCell a → IsCell x → IsAncestor a x → key a ≤ key x → a ≡ x
  one_cell a x ha hx above le =
      let some : 1 ≤ 8 ^ (15 - resolution x) = one-le-pow (15 - resolution x) 8 (omega arith) in
      let back : IsAncestor x a = inside intervals x a hx ha le (let w =
      within intervals a x ha hx above in omega (arith, w.0, le, some)) in
      sym (tree.same a x above (tree.no_finer x a back))

  module _ (a b slots : List Address) (ra : IsRegion a) (rb : IsRegion b) (i j w : ℕ) (s : IsSeen a b slots i j w) where
    -- a cell of the one list that is still to come and stands below one of the other that was seen is that one, and is
    -- written
    pub passed : (p q : ℕ) (d : Address) → i ≤ p → p < length a → q < j → IsAncestor (get_or b q d) (get_or a p d)
        → (k : ℕ) × (k < w) × (get_or slots k d ≡ get_or a p d)
    passed p q d le lt lq above =
        let room : q < length b = omega (arith, lq, s.in_b) in
        let same = one_cell (get_or b q d) (get_or a p d) (rb.valid q d room) (ra.valid p d lt) above
        (s.before_a q p d lq le lt) in
        let own : HasAncestor a (get_or b q d) =
        record {
          by = get_or a p d;
          member = contains_at a p d (get_or a p d) lt refl;
          above =
              subst (IsAncestor (get_or a p d)) (sym same) (tree.own (get_or a p d));
        } in
        let k = s.all_b q d lq own in
        (k.0, k.1, k.2 ∙ same)

    module _ (x y : Address) (li : i < length a) (lj : j < length b) (x_is : (d : Address) → get_or a i d ≡ x)
        (y_is : (d : Address) → get_or b j d ≡ y) (le : key x ≤ key y) where
      x_valid : IsCell x
      x_valid = subst IsCell (x_is x) (ra.valid i x li)

      y_valid : IsCell y
      y_valid = subst IsCell (y_is y) (rb.valid j y lj)

      low : (q : ℕ) (d : Address) → j ≤ q → q < length b → key x ≤ key (get_or b q d)
      low q d l lt =
          elim (cases_lt j q) [
            | inl less ↦ let up = rw (y_is d) at (rb.in_order j q d less lt) in omega (arith, up, le)
            | inr not ↦ let e : q ≡ j = omega (arith, l, not) in rw (e, y_is d) le
          ]

      seen_before : (p q : ℕ) (d : Address) → p < i + 1 → j ≤ q → q < length b → key (get_or a p d) ≤ key (get_or b q d)
      seen_before p q d l more lt =
          elim (cases_lt p i) [
            | inl less ↦ s.before_b p q d less more lt
            | inr not ↦ let e : p ≡ i = omega (arith, l, not) in rw (e, x_is d) (low q d more lt)
          ]

      -- x is not below the other list's next cell: if it is covered, it is written
      module _ (not_below : ¬ IsAncestor y x) where
        written_already : (d : Address) → HasAncestor b x → (k : ℕ) × (k < w) × (get_or slots k d ≡ x)
        written_already d h =
            let q = h.member.0 in
            let lq : h.member.0 < length b = h.member.1 in
            let at : get_or b h.member.0 d ≡ h.by = member_at b h.by d h.member in
            elim (cases_lt h.member.0 j) [
              | inl early ↦
                  let k = passed i h.member.0 d (omega arith) li early
                  (subst (λ v. IsAncestor v (get_or a i d)) (sym at)
                  (subst (IsAncestor h.by) (sym (x_is d)) h.above)) in
                  (k.0, k.1, k.2 ∙ x_is d)
              | inr not ↦ elim (cases_lt j h.member.0) [
                | inl late ↦
                    let by_valid : IsCell h.by = subst IsCell at (rb.valid h.member.0 d lq) in
                    let inside_it = within intervals h.by x by_valid x_valid h.above in
                    let up : key y < key h.by = rw (y_is d, at) at (rb.in_order j h.member.0 d late lq) in
                    let over : IsAncestor h.by y = inside intervals h.by y by_valid y_valid (omega (arith, up))
                    (omega (arith, inside_it.1, le)) in
                    absurd (rb.apart j h.member.0 d late lq
                    (inr (subst (λ v. IsAncestor v (get_or b j d)) (sym at)
                    (subst (IsAncestor h.by) (sym (y_is d)) over))))
                | inr also ↦
                    let e : h.member.0 ≡ j = omega (arith, not, also) in
                    let same : h.by ≡ y = sym at ∙ ap (λ n. get_or b n d) e ∙ y_is d in
                    absurd (not_below (subst (λ v. IsAncestor v x) same h.above))
              ]
            ]

        pub subtract_cell : IsSeen a b slots (i + 1) j w
        subtract_cell =
            record {
              in_a = omega (arith, li);
              in_b = s.in_b;
              behind = omega (arith, s.behind);
              room = s.room;
              before_b = seen_before;
              before_a = λ q p d l more lt. s.before_a q p d l (omega (arith, more)) lt;
              chosen = λ k d l. elim (s.chosen k d l) [ inl f ↦ inl (more_from a b i _ f) | inr f ↦ inr f ];
              all_a = λ p d l h. elim (cases_lt p i) [
                | inl less ↦ s.all_a p d less h
                | inr not ↦
                    let e : p ≡ i = omega (arith, l, not) in
                    let is : get_or a p d ≡ x = ap (λ n. get_or a n d) e ∙ x_is d in
                    let k = written_already d (subst (HasAncestor b) is h) in
                    (k.0, k.1, k.2 ∙ sym is)
              ];
              all_b = s.all_b;
              rises = s.rises;
            }

      -- it is, and is written
      module _ (below : IsAncestor y x) where
        covered : HasAncestor b x
        covered = record { by = y; member = contains_at b j y y lj (y_is y); above = below }

        inside_slots : w < length slots
        inside_slots = omega (arith, s.behind, s.room, li, s.in_b)

        first : (k : ℕ) (d : Address) → k < w → get_or (set slots w x) k d ≡ get_or slots k d
        first k d l = get_or-set_other slots w k x d (omega (arith, l))

        last : (d : Address) → get_or (set slots w x) w d ≡ x
        last d = get_or-set_same slots w x d inside_slots

        in_y : (key x ≤ key y) × (key y < key x + 8 ^ (15 - resolution y))
        in_y = within intervals y x y_valid x_valid below

        -- what was written comes before x
        earlier : (k : ℕ) (d : Address) → k < w → key (get_or slots k d) < key x
        earlier k d l =
            elim (s.chosen k d l) [
              | inl f ↦
                  let v = get_or slots k d in
                  let at : get_or a f.place d ≡ get_or slots k d =
                  any_default a f.place d (get_or slots k d) f.room ∙ f.is in
                  rw (at, x_is d) at (ra.in_order f.place i d f.early li)
              | inr f ↦
                  let at : get_or b f.place d ≡ get_or slots k d =
                  any_default b f.place d (get_or slots k d) f.room ∙ f.is in
                  let up : key (get_or slots k d) < key y = rw (at, y_is d) at (rb.in_order f.place j d f.early lj) in
                  let v_valid : IsCell (get_or slots k d) = subst IsCell at (rb.valid f.place d f.room) in
                  let far = before intervals y (get_or slots k d) y_valid v_valid (omega (arith, up))
                  (λ under. rb.apart f.place j d f.early lj
                  (inr (subst (λ u. IsAncestor (get_or b j d) u) (sym at)
                  (subst (λ u. IsAncestor u (get_or slots k d)) (sym (y_is d)) under)))) in
                  omega (arith, far, in_y.1)
            ]

        pub write : IsSeen a b (set slots w x) (i + 1) j (w + 1)
        write =
            record {
              in_a = omega (arith, li);
              in_b = s.in_b;
              behind = omega (arith, s.behind);
              room = omega (arith, s.room, length-set slots w x);
              before_b = seen_before;
              before_a = λ q p d l more lt. s.before_a q p d l (omega (arith, more)) lt;
              chosen = λ k d l. elim (cases_lt k w) [
                | inl less ↦
                    subst (λ v. IsFrom a b (i + 1) v ⊎ IsFrom b a j v) (sym (first k d less))
                    (elim (s.chosen k d less) [ inl f ↦ inl (more_from a b i _ f) | inr f ↦ inr f ])
                | inr not ↦
                    let e : k ≡ w = omega (arith, l, not) in
                    let is : get_or (set slots w x) k d ≡ x = ap (λ n. get_or (set slots w x) n d) e ∙ last d in
                    inl (subst (IsFrom a b (i + 1)) (sym is)
                    (record { place = i; early = omega arith; room = li; is = x_is x; covered = covered }))
              ];
              all_a = λ p d l h. elim (cases_lt p i) [
                | inl less ↦ let k = s.all_a p d less h in (k.0, omega (arith, k.1), first k.0 d k.1 ∙ k.2)
                | inr not ↦ let e : i ≡ p = omega (arith, l, not) in
                    (w, omega arith, last d ∙ sym (x_is d) ∙ ap (λ n. get_or a n d) e)
              ];
              all_b = λ q d l h. (let k = s.all_b q d l h in (k.0, omega (arith, k.1), first k.0 d k.1 ∙ k.2));
              rises = λ k l d lt lw. (let lk : k < w = omega (arith, lt, lw) in elim (cases_lt l w) [
                | inl less ↦ rw (first k d lk, first l d less) (s.rises k l d lt less)
                | inr not ↦ let e : l ≡ w = omega (arith, lw, not) in rw (first k d lk, e, last d) (earlier k d lk)
              ]);
            }

    -- ---- the end, where one list is seen

    written_in : (k : ℕ) (d x : Address) → k < w → get_or slots k d ≡ x → Contains (take w slots) x
    written_in k d x l e = contains_front slots w k d x l (omega (arith, l, s.behind, s.room, s.in_a, s.in_b)) e

    -- a covered cell of the one list is written
    pub all_first : (length a ≤ i) ⊎ (length b ≤ j) → (x : Address) → Contains a x → HasAncestor b x
        → Contains (take w slots) x
    all_first or x m h =
        elim (cases_lt m.0 i) [
          | inl early ↦
              let k = s.all_a m.0 x early (subst (HasAncestor b) (sym m.2) h) in
              written_in k.0 x x k.1 (k.2 ∙ m.2)
          | inr late ↦
              let done : length b ≤ j = elim or [ inl over ↦ absurd (omega (arith, over, late, m.1)) | inr over ↦ over ]
              in
              let at : get_or b h.member.0 x ≡ h.by = member_at b h.by x h.member in
              let k = passed m.0 h.member.0 x late m.1 (omega (arith, done, h.member.1))
              (subst (λ v. IsAncestor v (get_or a m.0 x)) (sym at) (subst (IsAncestor h.by) (sym m.2) h.above)) in
              written_in k.0 x x k.1 (k.2 ∙ m.2)
        ]

  -- cells of the one list that come before all that may be below the other's next cell are passed over
  pub skipped : (a b slots : List Address) → IsRegion a → IsRegion b → (n i j w : ℕ) (y : Address) → j < length b
      → ((d : Address) → get_or b j d ≡ y) → i + n ≤ length a
      → ((k : ℕ) (d : Address) → i ≤ k → k < i + n → key (get_or a k d) < lowest_key y) → IsSeen a b slots i j w
      → IsSeen a b slots (i + n) j w
  skipped a b slots ra rb zero i j w y lj y_is le far s =
      let same : i ≡ i + zero = omega arith in
      subst (λ m. IsSeen a b slots m j w) same s
  skipped a b slots ra rb (suc n) i j w y lj y_is le far s =
      let same : (i + 1) + n ≡ i + suc n = omega arith in
      let li : i < length a = omega (arith, le) in
      let x = get_or a i y in
      let x_is : (d : Address) → get_or a i d ≡ x = λ d. any_default a i d y li in
      let hx : IsCell x = ra.valid i y li in
      let hy : IsCell y = subst IsCell (y_is y) (rb.valid j y lj) in
      let some : 1 ≤ 8 ^ (15 - resolution y) = one-le-pow (15 - resolution y) 8 (omega arith) in
      let low : key x < lowest_key y = far i y (omega arith) (omega arith) in
      let not_below : ¬ IsAncestor y x = λ above. (let own =
      within intervals y x hy hx above in omega (arith, own.1, low, some)) in
      let one = subtract_cell a b slots ra rb i j w s x y li lj x_is y_is (omega (arith, low, some)) not_below in
      subst (λ m. IsSeen a b slots m j w) same
      (skipped a b slots ra rb n (i + 1) j w y lj y_is (omega (arith, same, le))
      (λ k d lk ln. far k d (omega (arith, lk)) (omega (arith, ln, same))) one)

  pub skipped_to : (a b slots : List Address) → IsRegion a → IsRegion b → (i p j w : ℕ) (y : Address) → j < length b
      → ((d : Address) → get_or b j d ≡ y) → i ≤ p → p ≤ length a
      → ((k : ℕ) (d : Address) → i ≤ k → k < p → key (get_or a k d) < lowest_key y) → IsSeen a b slots i j w
      → IsSeen a b slots p j w
  skipped_to a b slots ra rb i p j w y lj y_is on le far s =
      let same : i + (p - i) ≡ p = omega (arith, on) in
      subst (λ m. IsSeen a b slots m j w) same
      (skipped a b slots ra rb (p - i) i j w y lj y_is (omega (arith, same, le))
      (λ k d lk ln. far k d lk (omega (arith, ln, same))) s)

  pub met : (a b slots : List Address) → IsRegion a → IsRegion b → (i j w : ℕ) → IsSeen a b slots i j w → (length a ≤ i)
      ⊎ (length b ≤ j) → HoldsShared a b (take w slots)
  met a b slots ra rb i j w s or =
      record {
        shared = λ x m. (let f = front_at slots w x x m in
            subst (IsShared a b) f.3 (elim (s.chosen f.0 x f.1) [
              | inl g ↦ inl (contains_at a g.place _ _ g.room g.is, g.covered)
              | inr g ↦ inr (contains_at b g.place _ _ g.room g.is, g.covered)
            ]));
        all = λ x h. elim h [
          | inl l ↦ all_first a b slots ra rb i j w s or x l.0 l.1
          | inr r ↦ all_first b a slots rb ra j i w (turned a b slots i j w s)
              (elim or [ inl p ↦ inr p | inr p ↦ inl p ]) x r.0 r.1
        ];
        in_order = λ k l d lt lw. (let ll : l < w =
            omega (arith, lw, length-take w slots) in rw
            (get_or-take w slots k d (omega (arith, lt, ll)), get_or-take w slots l d ll) (s.rises k l d lt ll));
      }
