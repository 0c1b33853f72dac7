-- The pass from the back that keeps the outermost cells of areas.
use Rattle.std.specs.List.{swap}
use Rattle.std.specs.List.Sorted.{IsPermutation}
use Rattle.std.proofs.Common.{ℕ, ◌≡◌, ◌≢◌, ◌+◌, ◌-◌, ◌^◌, ◌<◌, ◌≤◌, ◌⊎◌, List, length, drop, refl, All, AllPairs, Contains, arith, ◌∙◌, sym, ap, subst, inl, inr, get_or}
use Rattle.std.proofs.Math.Nat.{one-le-pow}
use Rattle.std.proofs.lemmas.Bool.{cases_lt, cases_order}
use Rattle.std.proofs.lemmas.List.{get_or-drop, length-drop}
use Rattle.std.proofs.lemmas.List.Edits.{length-swap, swapped_from_swap}
use Rattle.std.proofs.lemmas.List.Sorted.{IsPermutation-refl, IsPermutation-swap, IsPermutation-trans}
use Rattle.h3_index.specs.Cell.{Address, IsCell, resolution}
use Rattle.h3_index.specs.Descendants.{IsAncestor}
use Rattle.h3_tree.specs.Laws.{CellsFormTrees}
use Rattle.h3_tree.specs.PostOrder.{post_order_key as key, CellsFormIntervals}
use Rattle.h3_set.specs.Coverage.{Overlap}
use Rattle.h3_regions.specs.Areas.{AreAlike, AreApart}
use Rattle.h3_regions.specs.Apart.{AreOuter}
use Rattle.h3_regions.proofs.ListLaws.{any_default, back_at, contains_at, contains_back, member_at}

-- of the pairs from place i on the outermost are those from place w on now; the others before w are the rest, moved
pub record IsKeepingPairs (all now : List (Address × ℕ)) (i w : ℕ) : Type 0 where
  pub size : length now ≡ length all
  pub moved : IsPermutation all now
  pub low : i ≤ w
  pub high : w ≤ length all
  pub rest : (j : ℕ) (d : Address × ℕ) → j < i → get_or now j d ≡ get_or all j d
  pub chosen : (k : ℕ) (d : Address × ℕ) → w ≤ k → k < length all
      → (j : ℕ) × (i ≤ j) × (j < length all) × (get_or now k d ≡ get_or all j d)
  pub above : (j : ℕ) (d : Address × ℕ) → i ≤ j → j < length all
      → (k : ℕ) × (w ≤ k) × (k < length all) × IsAncestor (get_or now k d).0 (get_or all j d).0 ×
      ((get_or now k d).1 ≡ (get_or all j d).1)
  pub rises : (a b : ℕ) (d : Address × ℕ) → w ≤ a → a < b → b < length all
      → key (get_or now a d).0 < key (get_or now b d).0
  pub apart : (a b : ℕ) (d : Address × ℕ) → w ≤ a → a < b → b < length all
      → ¬ Overlap (get_or now a d).0 (get_or now b d).0

pub keeping_begins : (all : List (Address × ℕ)) → IsKeepingPairs all all (length all) (length all)
keeping_begins all = record {
  size = refl;
  moved = IsPermutation-refl all;
  low = omega arith;
  high = omega arith;
  rest = λ j d lt. refl;
  chosen = λ k d le lt. absurd (omega (arith, le, lt));
  above = λ j d le lt. absurd (omega (arith, le, lt));
  rises = λ a b d le la lb. absurd (omega (arith, le, la, lb));
  apart = λ a b d le la lb. absurd (omega (arith, le, la, lb));
}

module _ (tree : CellsFormTrees) (intervals : CellsFormIntervals) (all : List (Address × ℕ))
    (valid : All (λ p. IsCell p.0) all) (order : AllPairs (λ p q. key p.0 ≤ key q.0) all) where
  module _ (now : List (Address × ℕ)) (i w : ℕ) (inv : IsKeepingPairs all now (i + 1) w) (pair : Address × ℕ)
      (lt : i < length now) (is : pair ≡ get_or now i pair) where
    pub room : i < length all
    room = omega (arith, lt, inv.size)

    pub here : (d : Address × ℕ) → get_or all i d ≡ pair
    here d = any_default all i d pair room ∙ sym (inv.rest i pair (omega arith)) ∙ sym is

    pair_valid : IsCell pair.0
    pair_valid = subst (λ p. IsCell p.0) (here pair) (valid i pair room)

    kept_valid : (k : ℕ) (d : Address × ℕ) → w ≤ k → k < length all → IsCell (get_or now k d).0
    kept_valid k d le l = let c = inv.chosen k d le l in subst (λ p. IsCell p.0) (sym c.3) (valid c.0 d c.2)

    pub not_later : (k : ℕ) (d : Address × ℕ) → w ≤ k → k < length all → key pair.0 ≤ key (get_or now k d).0
    not_later k d le l =
        let c = inv.chosen k d le l in
        rw c.3 (subst (λ p. key p.0 ≤ key (get_or all c.0 d).0) (here d) (order i c.0 d (omega (arith, c.1)) c.2))

    module _ (top : Address × ℕ) (some : w < length now) (at : top ≡ get_or now w top) where
      pub top_order : key pair.0 ≤ key top.0
      top_order =
          subst (λ p. key pair.0 ≤ key p.0) (sym at) (not_later w top (omega arith) (omega (arith, some, inv.size)))

      -- the pair is of the area of one that is kept, and not above it
      pub dropped : IsAncestor top.0 pair.0 → pair.1 ≡ top.1 → IsKeepingPairs all now i w
      dropped over same = record {
        size = inv.size;
        moved = inv.moved;
        low = omega (arith, inv.low);
        high = inv.high;
        rest = λ j d l. inv.rest j d (omega (arith, l));
        chosen = λ k d le l. (let c = inv.chosen k d le l in (c.0, omega (arith, c.1), c.2, c.3));
        above = λ j d le l. elim (cases_lt i j) [
          | inl less ↦ inv.above j d (omega (arith, less)) l
          | inr not ↦
              let e : i ≡ j = omega (arith, le, not) in
              let there : get_or all j d ≡ pair = ap (λ k. get_or all k d) (sym e) ∙ here d in
              let kept : get_or now w d ≡ top = any_default now w d top some ∙ sym at in
              (w, omega arith, omega (arith, some, inv.size), rw (there, kept) over, rw (there, kept) (sym same))
        ];
        rises = inv.rises;
        apart = inv.apart;
      }

      -- it is of another area
      pub refused : IsAncestor top.0 pair.0 → pair.1 ≢ top.1 → ¬ AreApart all
      refused over differ apart =
          let c = inv.chosen w top (omega arith) (omega (arith, some, inv.size)) in
          apart pair.1 top.1 (record {
            different = differ;
            one = pair.0;
            other = top.0;
            of_one = contains_at all i pair pair room (here pair);
            of_other = contains_at all c.0 top top c.2 (sym c.3 ∙ sym at);
            overlap = inr over;
          })

    module _ (some : w < length now) (d : Address × ℕ) where
      pub dropped_at : (e : Address × ℕ) → IsAncestor (get_or now w d).0 pair.0 → pair.1 ≡ (get_or now w e).1
          → IsKeepingPairs all now i w
      dropped_at e over same =
          let top = get_or now w d in
          dropped (get_or now w d) some (any_default now w d (get_or now w d) some) over
          (same ∙ ap (λ p. p.1) (any_default now w e d some))

      pub refused_at : (e : Address × ℕ) → IsAncestor (get_or now w d).0 pair.0 → (¬ (pair.1 ≡ (get_or now w e).1))
          → ¬ AreApart all
      refused_at e over differ =
          refused (get_or now w d) some (any_default now w d (get_or now w d) some) over
          (λ h. differ (h ∙ ap (λ p. p.1) (any_default now w d e some)))

      pub not_above : (¬ IsAncestor (get_or now w d).0 pair.0) → (e : Address × ℕ)
          → ¬ IsAncestor (get_or now w e).0 pair.0
      not_above h e over = h (subst (λ p. IsAncestor p.0 pair.0) (any_default now w e d some) over)

    -- ---- it is kept
    module _ (outer : (w ≡ length now)
        ⊎ ((w < length now) × ((d : Address × ℕ) → ¬ IsAncestor (get_or now w d).0 pair.0))) where
      top_above : (d : Address × ℕ) → w < length all → ¬ IsAncestor (get_or now w d).0 pair.0
      top_above d l = elim outer [
        | inl e ↦ absurd (omega (arith, e, l, inv.size))
        | inr h ↦ h.1 d
      ]

      before_top : (d : Address × ℕ) → w < length all → key pair.0 < key (get_or now w d).0
      before_top d l =
          let t = get_or now w d in
          let le = not_later w d (omega arith) l in
          elim (cases_lt (key pair.0) (key (get_or now w d).0)) [
            | inl less ↦ less
            | inr not ↦
                let one : 1 ≤ 8 ^ (15 - resolution t.0) = one-le-pow (15 - resolution t.0) 8 (omega arith) in
                absurd
                (top_above d l ((intervals.interval t.0 pair.0 (kept_valid w d (omega arith) l) pair_valid).1
                (le, omega (arith, not, one))))
          ]

      before_kept : (b : ℕ) (d : Address × ℕ) → w ≤ b → b < length all → key pair.0 < key (get_or now b d).0
      before_kept b d le l =
          let first = before_top d (omega (arith, le, l)) in
          elim (cases_lt w b) [
            | inl less ↦ let up = inv.rises w b d (omega arith) less l in omega (arith, first, up)
            | inr not ↦
                let e : w ≡ b = omega (arith, le, not) in subst (λ k. key pair.0 < key (get_or now k d).0) e first
          ]

      apart_kept : (b : ℕ) (d : Address × ℕ) → w ≤ b → b < length all → ¬ Overlap pair.0 (get_or now b d).0
      apart_kept b d le l o =
          let kept = get_or now b d in
          let vk = kept_valid b d le l in
          let up = before_kept b d le l in
          elim o [
            | inl over ↦ let v = (intervals.interval pair.0 kept.0 pair_valid vk).0 over in omega (arith, v.0, up)
            | inr under ↦ elim (cases_lt w b) [
              | inl less ↦
                  let t = get_or now w d in
                  let wl : w < length all = omega (arith, less, l) in
                  let v = (intervals.interval kept.0 pair.0 vk pair_valid).0 under in
                  let first = before_top d wl in
                  let rise = inv.rises w b d (omega arith) less l in
                  inv.apart w b d (omega arith) less l
                  (inr ((intervals.interval kept.0 t.0 vk (kept_valid w d (omega arith) wl)).1
                  (omega (arith, rise), omega (arith, v.1, first))))
              | inr not ↦
                  let e : w ≡ b = omega (arith, le, not) in
                  top_above d (omega (arith, e, l)) (subst (λ k. IsAncestor (get_or now k d).0 pair.0) (sym e) under)
            ]
          ]

      some_room : 0 < w
      some_room = omega (arith, inv.low)

      v : ℕ
      v = w - 1

      new : List (Address × ℕ)
      new = swap now i (w - 1)

      v_room : w - 1 < length now
      v_room = omega (arith, inv.high, inv.size, some_room)

      at_v : (d : Address × ℕ) → get_or (swap now i (w - 1)) (w - 1) d ≡ pair
      at_v d =
          let s = swapped_from_swap now (swap now i (w - 1)) i (w - 1) d lt v_room refl in
          s.1 ∙ any_default now i d pair lt ∙ sym is

      other : (k : ℕ) (d : Address × ℕ) → k ≢ i → k ≢ w - 1 → get_or (swap now i (w - 1)) k d ≡ get_or now k d
      other k d ni nv = (swapped_from_swap now (swap now i (w - 1)) i (w - 1) d lt v_room refl).2 k ni nv

      later : (k : ℕ) (d : Address × ℕ) → w ≤ k → get_or (swap now i (w - 1)) k d ≡ get_or now k d
      later k d le = other k d (λ e. omega (arith, e, le, inv.low)) (λ e. omega (arith, e, le, some_room))

      kept_rises : (a b : ℕ) (d : Address × ℕ) → w - 1 ≤ a → a < b → b < length all
          → key (get_or (swap now i (w - 1)) a d).0 < key (get_or (swap now i (w - 1)) b d).0
      kept_rises a b d le la lb =
          let wb : w ≤ b = omega (arith, le, la) in
          elim (cases_lt a w) [
            | inl less ↦
                let e : a ≡ w - 1 = omega (arith, le, less) in rw (e, at_v d, later b d wb) (before_kept b d wb lb)
            | inr not ↦ rw (later a d not, later b d wb) (inv.rises a b d not la lb)
          ]

      kept_apart : (a b : ℕ) (d : Address × ℕ) → w - 1 ≤ a → a < b → b < length all
          → ¬ Overlap (get_or (swap now i (w - 1)) a d).0 (get_or (swap now i (w - 1)) b d).0
      kept_apart a b d le la lb =
          let wb : w ≤ b = omega (arith, le, la) in
          elim (cases_lt a w) [
            | inl less ↦
                let e : a ≡ w - 1 = omega (arith, le, less) in rw (e, at_v d, later b d wb) (apart_kept b d wb lb)
            | inr not ↦ rw (later a d not, later b d wb) (inv.apart a b d not la lb)
          ]

      pub kept : IsKeepingPairs all (swap now i (w - 1)) i (w - 1)
      kept = record {
        size = length-swap now i (w - 1) ∙ inv.size;
        moved =
            IsPermutation-trans all now (swap now i (w - 1)) inv.moved
            (IsPermutation-swap now (swap now i (w - 1)) i (w - 1) lt v_room refl);
        low = omega (arith, inv.low);
        high = omega (arith, inv.high);
        rest = λ j d l.
            other j d (λ e. omega (arith, e, l)) (λ e. omega (arith, e, l, inv.low)) ∙ inv.rest j d (omega (arith, l));
        chosen = λ k d le l. elim (cases_lt k w) [
          | inl less ↦
              let e : k ≡ w - 1 = omega (arith, le, less) in (i, omega arith, room, rw (e, at_v d) (sym (here d)))
          | inr not ↦ let c = inv.chosen k d not l in (c.0, omega (arith, c.1), c.2, later k d not ∙ c.3)
        ];
        above = λ j d le l. elim (cases_lt i j) [
          | inl less ↦
              let a = inv.above j d (omega (arith, less)) l in
              (a.0, omega (arith, a.1), a.2, rw (later a.0 d a.1) a.3, rw (later a.0 d a.1) a.4)
          | inr not ↦
              let e : i ≡ j = omega (arith, le, not) in
              let there : get_or all j d ≡ pair = ap (λ k. get_or all k d) (sym e) ∙ here d in (
                w - 1,
                omega arith,
                omega (arith, v_room, inv.size),
                rw (there, at_v d) (tree.own pair.0),
                rw (there, at_v d) refl,
              )
        ];
        rises = kept_rises;
        apart = kept_apart;
      }

  -- ---- the end
  module _ (now : List (Address × ℕ)) (w : ℕ) (inv : IsKeepingPairs all now 0 w) where
    wide : w ≤ length now
    wide = omega (arith, inv.high, inv.size)

    back : (k : ℕ) (d : Address × ℕ) → k < length (drop w now)
        → (w + k < length all) × (get_or (drop w now) k d ≡ get_or now (w + k) d)
    back k d l = (omega (arith, l, length-drop w now, inv.size, inv.high), get_or-drop w now k d)

    pub outer_kept : AreOuter (drop w now)
    outer_kept = record {
      valid = λ k d l.
          (let b = back k d l in
          let c = inv.chosen (w + k) d (omega arith) b.0 in
          subst (λ p. IsCell p.0) (sym (b.1 ∙ c.3)) (valid c.0 d c.2));
      in_order = λ a b d la lb.
          (let ba = back a d (omega (arith, la, lb)) in
          let bb = back b d lb in
          rw (ba.1, bb.1) (inv.rises (w + a) (w + b) d (omega arith) (omega (arith, la)) bb.0));
      apart = λ a b d la lb.
          (let ba = back a d (omega (arith, la, lb)) in
          let bb = back b d lb in
          rw (ba.1, bb.1) (inv.apart (w + a) (w + b) d (omega arith) (omega (arith, la)) bb.0));
    }

    pub alike_kept : AreAlike (drop w now) all
    alike_kept x n = (
      (λ h.
          let d : Address × ℕ = (h.by, n) in
          let b = back_at now w (h.by, n) d wide h.member in
          let c = inv.chosen b.0 d b.1 (omega (arith, b.2, inv.size)) in
          record { by = h.by; member = contains_at all c.0 d (h.by, n) c.2 (sym c.3 ∙ b.3); above = h.above }),
      (λ h.
          let d : Address × ℕ = (h.by, n) in
          let m = h.member in
          let a = inv.above m.0 d (omega arith) m.1 in
          let over : IsAncestor (get_or now a.0 d).0 h.by = subst (λ p. IsAncestor (get_or now a.0 d).0 p.0) m.2 a.3 in
          let same : (get_or now a.0 d).1 ≡ n = a.4 ∙ ap (λ p. p.1) m.2 in
          record {
            by = (get_or now a.0 d).0;
            member =
                subst (λ k. Contains (drop w now) ((get_or now a.0 d).0, k)) same
                (contains_back now w a.0 d (get_or now a.0 d) a.1 (omega (arith, a.2, inv.size)) refl);
            above = tree.through (get_or now a.0 d).0 h.by x over h.above;
          }),
    )

    -- two cells above one are at one place
    one_place : (a b : ℕ) (d : Address × ℕ) (x : Address) → w ≤ a → a < length all → w ≤ b → b < length all
        → IsAncestor (get_or now a d).0 x → IsAncestor (get_or now b d).0 x → a ≡ b
    one_place a b d x wa la wb lb over above =
        let o : Overlap (get_or now a d).0 (get_or now b d).0 =
        elim (cases_lt (resolution (get_or now b d).0) (resolution (get_or now a d).0)) [
          | inl coarse ↦ inr (tree.ordered (get_or now b d).0 (get_or now a d).0 x above over (omega (arith, coarse)))
          | inr not ↦ inl (tree.ordered (get_or now a d).0 (get_or now b d).0 x over above not)
        ] in
        elim (cases_order a b) [
          | inl e ↦ e
          | inr h ↦ elim h [
            | inl less ↦ absurd (inv.apart a b d wa less lb o)
            | inr more ↦ absurd (inv.apart b a d wb more la (elim o [ inl u ↦ inr u | inr u ↦ inl u ]))
          ]
        ]

    of_one_area : (m n : ℕ) (a b : Address) → Contains all (a, m) → Contains all (b, n) → IsAncestor a b → m ≡ n
    of_one_area m n a b in_a in_b over =
        let d : Address × ℕ = (a, m) in
        let ka = inv.above in_a.0 d (omega arith) in_a.1 in
        let kb = inv.above in_b.0 d (omega arith) in_b.1 in
        let at_b : get_or all in_b.0 d ≡ (b, n) = member_at all (b, n) d in_b in
        let over_a : IsAncestor (get_or now ka.0 d).0 b =
        tree.through (get_or now ka.0 d).0 a b
        (subst (λ p. IsAncestor (get_or now ka.0 d).0 p.0) in_a.2 ka.3) over in
        let over_b : IsAncestor (get_or now kb.0 d).0 b = subst (λ p. IsAncestor (get_or now kb.0 d).0 p.0) at_b kb.3 in
        let e = one_place ka.0 kb.0 d b ka.1 ka.2 kb.1 kb.2 over_a over_b in
        sym (ka.4 ∙ ap (λ p. p.1) in_a.2) ∙ ap (λ k. (get_or now k d).1) e ∙ (kb.4 ∙ ap (λ p. p.1) at_b)

    pub apart_all : AreApart all
    apart_all m n o = elim o.overlap [
      | inl over ↦ o.different (of_one_area m n o.one o.other o.of_one o.of_other over)
      | inr under ↦ o.different (sym (of_one_area n m o.other o.one o.of_other o.of_one under))
    ]
