-- The turns of a round over cells in order, where a complete set of siblings is a run.
use Rattle.std.proofs.Common.{ℕ, zero, suc, ◌≡◌, ◌≢◌, ◌+◌, ◌-◌, ◌<◌, ◌≤◌, List, [], ◌∷◌, ◌++◌, length, take, drop, set, refl, All, AllPairs, Contains, arith, ◌∙◌, sym, ap, subst, inl, inr, get_or}
use Rattle.std.proofs.Math.Seq.{take-add}
use Rattle.std.proofs.lemmas.Bool.{cases_lt}
use Rattle.std.proofs.lemmas.List.{get_or-set_same, get_or-set_other, get_or-drop, get_or-take, length-drop, length-take, take_more, take_more_set, take-append-drop}
use Rattle.std.proofs.lemmas.List.Elements.{Contains-get_or, Contains-append_left, Contains-append_right, Contains-append_cases, Contains-push_cases}
use Rattle.h3_index.specs.Cell.{Address, IsCell}
use Rattle.h3_index.specs.Descendants.{ancestor_at, descendants, IsAncestor, IsDescendant}
use Rattle.h3_tree.specs.Laws.{CellsFormTrees}
use Rattle.h3_set.specs.Compacted.{parent_of, HasChildren}
use Rattle.h3_set.specs.Coverage.{Overlap}
use Rattle.h3_set.specs.Order.{IsInOrder}
use Rattle.h3_tree.specs.PostOrder.{post_order_key as key, CellsFormIntervals}
use Rattle.h3_set.proofs.KeyLaws.{inside, within as within_keys}
use Rattle.h3_set.proofs.RoundLaws.{one_of}
use Rattle.h3_set.proofs.RunLaws.{run}
use Rattle.h3_set.proofs.Seen.{InSeen, IsMerging, IsMergingInOrder, IsRoundLoop}
use Rattle.h3_set.proofs.Seen.InSeen.{kept, made}
use Rattle.h3_set.proofs.TreeLaws.{any_default, dec_number, from_front, parent_of_child, step_down, IsChild}
use Rattle.h3_set.proofs.TurnLaws.{turn_keep, turn_merge, turn_other, turn_skip}

pub pairs_drop : (R : Address → Address → Type 0) (xs : List Address) (i : ℕ) → AllPairs R xs → AllPairs R (drop i xs)
pairs_drop R xs i h a b d lt lb =
    rw (get_or-drop i xs a d, get_or-drop i xs b d)
    (h (i + a) (i + b) d (omega (arith, lt)) (omega (arith, lb, length-drop i xs)))

pub all_drop : (P : Address → Type 0) (xs : List Address) (i : ℕ) → All P xs → All P (drop i xs)
all_drop P xs i h a d lt =
    rw (get_or-drop i xs a d) (h (i + a) d (omega (arith, lt, length-drop i xs)))

-- the same from i on
here : (i : ℕ) (xs ys : List Address) (d : Address) → drop i xs ≡ drop i ys → get_or xs i d ≡ get_or ys i d
here i xs ys d e =
    let none : i + 0 ≡ i = omega arith in
    sym (rw none at (get_or-drop i xs 0 d)) ∙ ap (λ l. get_or l 0 d) e ∙ rw none at (get_or-drop i ys 0 d)

-- a cell that is written after w others
push_before : (now : List Address) (w : ℕ) (y : Address) → w < length now → (P : Address → Type 0) (d : Address)
    → ((a : ℕ) → a < w → P (get_or now a d)) → P y → (a : ℕ) → a < w + 1 → P (get_or (set now w y) a d)
push_before now w y room P d h last a l =
    elim (cases_lt a w) [
      | inl less ↦ subst P (sym (get_or-set_other now w a y d (omega (arith, less)))) (h a less)
      | inr not ↦ let e : a ≡ w = omega (arith, l, not) in rw e (subst P (sym (get_or-set_same now w y d room)) last)
    ]

push_in_order : (now : List Address) (w : ℕ) (y : Address) → w < length now
    → ((a b : ℕ) (d : Address) → a < b → b < w → key (get_or now a d) ≤ key (get_or now b d))
    → ((a : ℕ) (d : Address) → a < w → key (get_or now a d) ≤ key y) → (a b : ℕ) (d : Address) → a < b → b < w + 1
    → key (get_or (set now w y) a d) ≤ key (get_or (set now w y) b d)
push_in_order now w y room h low a b d lt lb =
    let first : get_or (set now w y) a d ≡ get_or now a d = get_or-set_other now w a y d (omega (arith, lt, lb)) in
    elim (cases_lt b w) [
      | inl less ↦ rw (first, get_or-set_other now w b y d (omega (arith, less))) (h a b d lt less)
      | inr not ↦
          let e : b ≡ w = omega (arith, lb, not) in
          rw (first, e, get_or-set_same now w y d room) (low a d (omega (arith, lt, e)))
    ]

module _ (tree : CellsFormTrees) (intervals : CellsFormIntervals) (all : List Address) (q : ℕ) (pos : 0 < q)
    (apart : AllPairs (λ a b. ¬ Overlap a b) all) (order : IsInOrder all) (cells_valid : All IsCell all) where
  -- a cell is not among those before it
  not_behind : (i : ℕ) (x : Address) → i < length all → get_or all i x ≡ x → ¬ Contains (take i all) x
  not_behind i x lt at m =
      let l : m.0 < i = omega (arith, m.1, length-take i all) in
      apart m.0 i x l lt (rw (sym (get_or-take i all m.0 x l) ∙ m.2, at) (inl (tree.own x)))

  -- later ones of a set whose parent is written
  skip_run : (n j w : ℕ) (now : List Address) (p d : Address) → IsRoundLoop all q j w now
      → ((m : ℕ) → m < n → IsDescendant p q (get_or all (j + m) d)) → length p.digits + 1 ≡ q → j + n ≤ length all
      → Contains (take w now) p → IsRoundLoop all q (j + n) w now
  skip_run zero j w now p d inv kids level room m =
      let none : j + 0 ≡ j = omega arith in
      rw none inv
  skip_run (suc n) j w now p d inv kids level room m =
      let x = get_or all j d in
      let none : j + 0 ≡ j = omega arith in
      let b : IsDescendant p q x = rw none at (kids 0 (omega arith)) in
      let lt : j < length now = omega (arith, inv.size, room) in
      let is : x ≡ get_or now j x = any_default all j d x (omega (arith, room)) ∙ sym (here j now all x inv.rest) in
      let above = parent_of_child p x q level b in
      let next : IsRoundLoop all q (j + 1) w now =
      turn_skip tree all q j w now x b.valid inv lt is apart b.resolution_is pos
      (subst (Contains (take w now)) (sym above) m) in
      let kids' : (m' : ℕ) → m' < n → IsDescendant p q (get_or all (j + 1 + m') d) =
      λ m' l. (let e : j + 1 + m' ≡ j + suc m' = omega arith in rw e (kids (suc m') (omega (arith, l)))) in
      let done = skip_run n (j + 1) w now p d next kids' level (omega (arith, room)) m in
      let e : j + 1 + n ≡ j + suc n = omega arith in
      rw e at done

  module _ (i w : ℕ) (now : List Address) (x : Address) (inv : IsMerging all q i w now) (lt : i < length now)
      (is : x ≡ get_or now i x) where
    within : i < length all
    within = omega (arith, inv.so_far.size, lt)

    at : get_or all i x ≡ x
    at = sym (is ∙ here i now all x inv.so_far.rest)

    valid : IsCell x
    valid = subst IsCell at (cells_valid i x within)

    behind_more : (y : Address) → Contains (take i all) y → Contains (take (i + 1) all) y
    behind_more y m =
        subst (λ l. Contains l y) (sym (take_more all i x within))
        (Contains-append_left (take i all) (get_or all i x ∷ []) y m)

    -- x is of no complete set, and stays
    alone : (length x.digits ≡ q → ¬ HasChildren (Contains all) (parent_of x)) → (p : Address) → length p.digits + 1 ≡ q
        → HasChildren (Contains all) p → (y z : Address) → IsDescendant p q y → IsDescendant p q z
        → Contains (take (i + 1) all) y → Contains (take (i + 1) all) z
    alone no_set p level c y z by bz m =
        elim
        (Contains-push_cases (take i all) (get_or all i x) y
        (subst (λ l. Contains l y) (take_more all i x within) m)) [
          | inl o ↦ behind_more z (inv.whole p level c y z by bz o)
          | inr e ↦
              let same : x ≡ y = sym at ∙ e in
              let b : IsDescendant p q x = subst (IsDescendant p q) (sym same) by in
              absurd
              (no_set b.resolution_is (subst (HasChildren (Contains all)) (sym (parent_of_child p x q level b)) c))
        ]

    -- a cell of another level
    pub merge_other : (length x.digits ≢ q) → IsMerging all q (i + 1) (w + 1) (set now w x)
    merge_other ne =
        record {
          so_far = turn_other tree all q i w now x valid inv.so_far lt is apart ne;
          inside = omega (arith, within);
          whole = alone (λ e. absurd (ne e));
        }

    module _ (level : length x.digits ≡ q) where
      here_level : length (parent_of x).digits + 1 ≡ q
      here_level = omega (arith, level, pos, tree.resolution-ancestor_at x (length x.digits - 1) (omega arith))

      child_of : IsDescendant (parent_of x) q x
      child_of =
          record {
            valid = valid;
            resolution_is = level;
            under = tree.cut_ancestor x (length x.digits - 1) (omega arith);
          }

      -- its parent is not written, since its set is not begun
      not_written_of : InSeen all q i (parent_of x) → ⊥
      not_written_of (kept m k) =
          let same =
          one_of all apart (parent_of x) x (from_front i all (parent_of x) m) (i, within, at) child_of.under in
          omega (arith, here_level, level, ap (λ v. length v.digits) same)
      not_written_of (made e c y m b) =
          not_behind i x within at (inv.whole (parent_of x) here_level c y x b child_of m)

      not_written : ¬ Contains (take w now) (parent_of x)
      not_written m = not_written_of (inv.so_far.written.from_seen (parent_of x) m)

      above_valid : IsCell (parent_of x)
      above_valid = tree.cut_cell x (length x.digits - 1) valid (omega arith)

      above_coarse : length (parent_of x).digits < 15
      above_coarse = omega (arith, here_level, level, valid.coarse)

      child_level : (y : Address) → IsDescendant (parent_of x) (length (parent_of x).digits + 1) y
          → IsDescendant (parent_of x) q y
      child_level y b = subst (λ s. IsDescendant (parent_of x) s y) here_level b

      listed_below : (y : Address) → IsDescendant (parent_of x) q y → Contains (descendants (parent_of x) q) y
      listed_below y b =
          (tree.listed (parent_of x) q above_valid (omega (arith, here_level)) (omega (arith, level, valid.coarse)) y).1
          b

      below_listed : (y : Address) → Contains (descendants (parent_of x) q) y → IsDescendant (parent_of x) q y
      below_listed y m =
          (tree.listed (parent_of x) q above_valid (omega (arith, here_level)) (omega (arith, level, valid.coarse)) y).0
          m

      -- no run begins here
      no_set_ahead : (take (length (descendants (parent_of x) q)) (drop i now) ≢ descendants (parent_of x) q)
          → ¬ HasChildren (Contains (drop i now)) (parent_of x)
      no_set_ahead none c =
          let none_more : i + 0 ≡ i = omega arith in
          let M = drop i all in
          let c' : HasChildren (Contains (drop i all)) (parent_of x) =
          subst (λ l. HasChildren (Contains l) (parent_of x)) inv.so_far.rest c in
          let head : get_or (drop i all) 0 x ≡ x = (rw none_more at (get_or-drop i all 0 x)) ∙ at in
          let first : IsChild (parent_of x) (get_or (drop i all) 0 x) =
          subst (IsChild (parent_of x)) (sym head)
          (subst (λ s. IsDescendant (parent_of x) s x) (sym here_level) child_of) in
          let found =
          run tree intervals (drop i all) (parent_of x) (all_drop IsCell all i cells_valid)
          (pairs_drop (λ a b. key a ≤ key b) all i order) (pairs_drop (λ a b. ¬ Overlap a b) all i apart) c' x
          (omega (arith, length-drop i all, within)) first in
          none (subst (λ l. take (length (descendants (parent_of x) q)) l ≡ descendants (parent_of x) q)
          (sym inv.so_far.rest)
          (subst (λ s. take (length (descendants (parent_of x) s)) (drop i all) ≡ descendants (parent_of x) s)
          here_level found))

      pub merge_keep : (take (length (descendants (parent_of x) q)) (drop i now) ≢ descendants (parent_of x) q)
          → IsMerging all q (i + 1) (w + 1) (set now w x)
      merge_keep none =
          let no_set = no_set_ahead none in
          record {
            so_far = turn_keep tree all q i w now x valid inv.so_far lt is apart level pos not_written no_set;
            inside = omega (arith, within);
            whole =
                alone (λ _ c.
                no_set (subst (λ l. HasChildren (Contains l) (parent_of x)) (sym inv.so_far.rest) (ahead c)));
          }
        where
          ahead : HasChildren (Contains all) (parent_of x) → HasChildren (Contains (drop i all)) (parent_of x)
          ahead c =
              record {
                valid = c.valid;
                coarse = c.coarse;
                all = λ y b.
                    elim
                    (Contains-append_cases (take i all) (drop i all) y
                    (subst (λ l. Contains l y) (sym (take-append-drop i all)) (c.all y b))) [
                      | inr m ↦ m
                      | inl m ↦
                          absurd (not_behind i x within
                          at (inv.whole (parent_of x) here_level c y x (child_level y b) child_of m))
                    ];
              }

      module _ (k : ℕ) (some : 0 < k) (count : k ≡ length (descendants (parent_of x) q))
          (found : take k (drop i now) ≡ descendants (parent_of x) q) where
        found_all : take k (drop i all) ≡ descendants (parent_of x) q
        found_all = subst (λ l. take k l ≡ descendants (parent_of x) q) inv.so_far.rest found

        split : take (i + k) all ≡ take i all ++ descendants (parent_of x) q
        split = take-add i k all ∙ ap (λ l. take i all ++ l) found_all

        room : i + k ≤ length all
        room = omega (arith, count, ap length found_all, length-take k (drop i all), length-drop i all, within)

        kids : (m : ℕ) → m < k → IsDescendant (parent_of x) q (get_or all (i + m) x)
        kids m l =
            let e : get_or all (i + m) x ≡ get_or (descendants (parent_of x) q) m x =
            sym (get_or-drop i all m x) ∙ sym (get_or-take k (drop i all) m x l) ∙ ap (λ l'. get_or l' m x) found_all in
            subst (IsDescendant (parent_of x) q) (sym e)
            (below_listed _ (Contains-get_or (descendants (parent_of x) q) m x (omega (arith, l, count))))

        in_drop : (y : Address) → IsDescendant (parent_of x) q y → Contains (drop i now) y
        in_drop y b =
            subst (λ l. Contains l y) (take-append-drop k (drop i now)) (Contains-append_left (take k (drop i now))
            (drop k (drop i now)) y (subst (λ l. Contains l y) (sym found) (listed_below y b)))

        set_ahead : HasChildren (Contains (drop i now)) (parent_of x)
        set_ahead =
            record { valid = above_valid; coarse = above_coarse; all = λ y b. in_drop y (child_level y b) }

        written_first : IsRoundLoop all q (i + 1) (w + 1) (set now w (parent_of x))
        written_first = turn_merge tree all q i w now x valid inv.so_far lt is apart level pos not_written set_ahead

        there : Contains (take (w + 1) (set now w (parent_of x))) (parent_of x)
        there =
            subst (λ l. Contains l (parent_of x))
            (sym (take_more_set now w (parent_of x) (omega (arith, inv.so_far.behind, lt))))
            (Contains-append_right (take w now) (parent_of x ∷ []) (parent_of x) (0, omega arith, refl))

        pub merge_run : IsMerging all q (i + k) (w + 1) (set now w (parent_of x))
        merge_run =
            let e : i + 1 + (k - 1) ≡ i + k = omega (arith, some) in
            record {
              so_far =
                  subst (λ j. IsRoundLoop all q j (w + 1) (set now w (parent_of x))) e (skip_run (k - 1) (i + 1) (w + 1)
                  (set now w (parent_of x)) (parent_of x) x written_first
                  (λ m l. (let f : i + 1 + m ≡ i + (m + 1) = omega arith in rw f (kids (m + 1) (omega (arith, l)))))
                  here_level (omega (arith, e, room)) there);
              inside = room;
              whole = λ p lp c y z by bz m.
                  elim
                  (Contains-append_cases (take i all) (descendants (parent_of x) q) y
                  (subst (λ l. Contains l y) split m)) [
                    | inl o ↦
                        subst (λ l. Contains l z) (sym split) (Contains-append_left (take i all)
                        (descendants (parent_of x) q) z (inv.whole p lp c y z by bz o))
                    | inr o ↦
                        let one : parent_of x ≡ p =
                        sym (parent_of_child (parent_of x) y q here_level (below_listed y o))
                        ∙ parent_of_child p y q lp by in
                        subst (λ l. Contains l z) (sym split) (Contains-append_right (take i all)
                        (descendants (parent_of x) q) z (listed_below z (subst (λ v. IsDescendant v q z) (sym one) bz)))
                  ];
            }

        -- the parent comes before all that comes after the run
        above_rest : (j : ℕ) (d : Address) → i + k ≤ j → j < length all → key (parent_of x) ≤ key (get_or all j d)
        above_rest j d le lj =
            elim (cases_lt (key (get_or all j d)) (key (parent_of x))) [
              | inr not ↦ not
              | inl less ↦
                  let z = get_or all j d in
                  let p = parent_of x in
                  let hz : IsCell (get_or all j d) = cells_valid j d lj in
                  let at_d : get_or all i d ≡ x = any_default all i d x within ∙ at in
                  let low : key x ≤ key (get_or all j d) =
                  subst (λ v. key v ≤ key (get_or all j d)) at_d (order i j d (omega (arith, le, some)) lj) in
                  let wx = within_keys intervals (parent_of x) x above_valid valid child_of.under in
                  let over : IsAncestor (parent_of x) (get_or all j d) =
                  inside intervals (parent_of x) (get_or all j d) above_valid hz (omega (arith, less))
                  (omega (arith, low, wx.1)) in
                  elim (cases_lt (length (parent_of x).digits) (length (get_or all j d).digits)) [
                    | inr coarse ↦
                        let same : get_or all j d ≡ parent_of x =
                        tree.same (parent_of x) (get_or all j d) over coarse in
                        absurd (omega (arith, less, ap key same))
                    | inl finer ↦
                        let c =
                        step_down tree (parent_of x) (get_or all j d) (length (get_or all j d).digits)
                        (record { valid = hz; resolution_is = refl; under = over }) finer in
                        let m =
                        listed_below (ancestor_at (get_or all j d) (length (parent_of x).digits + 1))
                        (child_level (ancestor_at (get_or all j d) (length (parent_of x).digits + 1)) c) in
                        let few : m.0 < k = omega (arith, m.1, count) in
                        let place : get_or all (i + m.0) d
                        ≡ ancestor_at (get_or all j d) (length (parent_of x).digits + 1) =
                        sym (get_or-drop i all m.0 d) ∙ sym (get_or-take k (drop i all) m.0 d few)
                        ∙ ap (λ l. get_or l m.0 d) found_all
                        ∙ any_default (descendants (parent_of x) q) m.0 d
                        (ancestor_at (get_or all j d) (length (parent_of x).digits + 1)) m.1
                        ∙ m.2 in
                        absurd (apart (i + m.0) j d (omega (arith, few, le)) lj
                        (inl (subst (λ v. IsAncestor v (get_or all j d)) (sym place)
                        (tree.cut_ancestor (get_or all j d) (length (parent_of x).digits + 1)
                        (omega (arith, finer))))))
                  ]
            ]

        pub merge_run_in_order : ((a b : ℕ) (d : Address) → a < b → b < w → key (get_or now a d) ≤ key (get_or now b d))
            → ((a j : ℕ) (d : Address) → a < w → i ≤ j → j < length all → key (get_or now a d) ≤ key (get_or all j d))
            → IsMergingInOrder all q (i + k) (w + 1) (set now w (parent_of x))
        merge_run_in_order rises before =
            let room_w : w < length now = omega (arith, inv.so_far.behind, lt) in
            let wx = within_keys intervals (parent_of x) x above_valid valid child_of.under in
            let up =
            push_in_order now w (parent_of x) room_w rises (λ a d l.
            (let h = before a i d l (omega arith) within in
            let e : key (get_or all i d) ≡ key x = ap key (any_default all i d x within ∙ at) in
            omega (arith, h, e, wx.0))) in
            record {
              merging = merge_run;
              in_order = up;
              before = λ a j d l le lj.
                  push_before now w (parent_of x) room_w (λ b. key b ≤ key (get_or all j d)) d
                  (λ b lb. before b j d lb (omega (arith, le)) lj) (above_rest j d le lj) a l;
            }

    -- a cell at which no run begins
    pub merge_cases :
        (length x.digits ≡ q → take (length (descendants (parent_of x) q)) (drop i now) ≢ descendants (parent_of x) q)
        → IsMerging all q (i + 1) (w + 1) (set now w x)
    merge_cases none =
        elim (dec_number (length x.digits) q) [ inl e ↦ merge_keep e (none e) | inr e ↦ merge_other e ]

    pub merge_cases_in_order :
        (length x.digits ≡ q → take (length (descendants (parent_of x) q)) (drop i now) ≢ descendants (parent_of x) q)
        → ((a b : ℕ) (d : Address) → a < b → b < w → key (get_or now a d) ≤ key (get_or now b d))
        → ((a j : ℕ) (d : Address) → a < w → i ≤ j → j < length all → key (get_or now a d) ≤ key (get_or all j d))
        → IsMergingInOrder all q (i + 1) (w + 1) (set now w x)
    merge_cases_in_order none rises before =
        let room_w : w < length now = omega (arith, inv.so_far.behind, lt) in
        let up =
        push_in_order now w x room_w rises (λ a d l.
        (let h = before a i d l (omega arith) within in
        let e : key (get_or all i d) ≡ key x = ap key (any_default all i d x within ∙ at) in
        omega (arith, h, e))) in
        record {
          merging = merge_cases none;
          in_order = up;
          before = λ a j d l le lj.
              push_before now w x room_w (λ b. key b ≤ key (get_or all j d)) d
              (λ b lb. before b j d lb (omega (arith, le)) lj)
              (subst (λ v. key v ≤ key (get_or all j d)) (any_default all i d x within ∙ at)
              (order i j d (omega (arith, le)) lj))
              a l;
        }
