-- The areas of a cell, written one resolution after another.
use Rattle.std.specs.Int.{from_bool}
use Rattle.std.specs.List.{AllWithin}
use Rattle.std.proofs.Common.{ℕ, ◌≡◌, ◌≢◌, ◌+◌, ◌-◌, ◌*◌, ◌^◌, ◌<◌, ◌≤◌, ◌⊎◌, ◌↔◌, nat_lt, List, [], ◌∷◌, ◌++◌, length, take, set, AllPairs, Contains, arith, ◌∙◌, sym, ap, subst, inl, inr, get_or}
use Rattle.std.proofs.Math.ListN.{length-set}
use Rattle.std.proofs.lemmas.Bool.{cases_lt}
use Rattle.std.proofs.lemmas.List.{get_or-set_other, get_or-set_same, take_more_set}
use Rattle.std.proofs.lemmas.List.Elements.{Contains-append_left, Contains-get_or, Contains-push, Contains-push_cases}
use Rattle.std.proofs.lemmas.Nat.{mod_below}
use Rattle.h3_index.specs.Cell.{Address, IsCell, number_of, resolution}
use Rattle.h3_index.specs.Descendants.{ancestor_at, IsAncestor}
use Rattle.h3_index.specs.Laws.{NumbersAreUnique}
use Rattle.h3_tree.specs.Laws.{CellsFormTrees}
use Rattle.h3_tree.specs.PostOrder.{post_order_key as key, CellsFormIntervals}
use Rattle.h3_set.specs.Laws.{AncestorsAreFound}
use Rattle.h3_regions.specs.Areas.{AreAreasOf, coarsest, IsBefore}
use Rattle.h3_regions.specs.Listed.{AreListed, IsFirstOf, IsStart, IsWritten, LiesAbove, pair_number}
use Rattle.h3_regions.proofs.CoarsestLaws.{coarsest_from, coarsest_le}
use Rattle.h3_regions.proofs.ListLaws.{any_default, contains_at, contains_cases, member_at}
use Rattle.h3_regions.proofs.ListingLaws.{pairs_append}
use Rattle.h3_regions.proofs.SearchLaws.{less_is, less_is_not}

-- ---- the order of numbers

key_small : (c : Address) → key c < 2 ^ 52
unfolding key
key_small c = mod_below (number_of c) (2 ^ 52) (omega arith)

module _ (intervals : CellsFormIntervals) where
  pub coarser_number : (a b : Address) → IsCell a → IsCell b → resolution a < resolution b → number_of a < number_of b
  coarser_number a b va vb less =
      let na = intervals.number a va in
      let nb = intervals.number b vb in
      omega (arith, na, nb, key_small a, key_small b, less)

  pub number_coarser : (a b : Address) → IsCell a → IsCell b → number_of a ≤ number_of b → resolution a ≤ resolution b
  number_coarser a b va vb le = elim (cases_lt (resolution b) (resolution a)) [
    | inl less ↦ let up = coarser_number b a vb va less in absurd (omega (arith, up, le))
    | inr not ↦ not
  ]

pair_order : (p q : Address × ℕ) → p.1 < 2 ^ 32 → q.1 < 2 ^ 32 → pair_number p ≤ pair_number q
    → number_of p.0 ≤ number_of q.0
pair_order p q sp sq le = omega (arith, sp, sq, le)

area_order : (p q : Address × ℕ) → number_of p.0 ≡ number_of q.0 → pair_number p ≤ pair_number q → p.1 ≤ q.1
area_order p q e le = omega (arith, e, le)

module _ (areas : List (Address × ℕ)) (listed : AreListed areas) where
  pub numbers_rise : (i j : ℕ) (d : Address × ℕ) → i ≤ j → j < length areas
      → number_of (get_or areas i d).0 ≤ number_of (get_or areas j d).0
  numbers_rise i j d le lj = elim (cases_lt i j) [
    | inl less ↦
        pair_order (get_or areas i d) (get_or areas j d) (listed.small i d (omega (arith, less, lj)))
        (listed.small j d lj) (listed.in_order i j d less lj)
    | inr not ↦ let e : i ≡ j = omega (arith, le, not) in rw e (omega arith)
  ]

  -- one step of the search
  pub low_more : (number low middle : ℕ) (p : Address × ℕ) → middle < length areas → p ≡ get_or areas middle p
      → number_of p.0 < number → AllWithin (λ q. number_of q.0 < number) areas 0 (middle + 1)
  low_more number low middle p lt is less k d from lk =
      let h = numbers_rise k middle d (omega (arith, lk)) lt in
      let at : get_or areas middle d ≡ p = any_default areas middle d p lt ∙ sym is in
      let same : number_of (get_or areas middle d).0 ≡ number_of p.0 = ap (λ q. number_of q.0) at in
      omega (arith, h, same, less)

  pub high_less : (number middle : ℕ) (p : Address × ℕ) → middle < length areas → p ≡ get_or areas middle p
      → number ≤ number_of p.0 → AllWithin (λ q. number ≤ number_of q.0) areas middle (length areas)
  high_less number middle p lt is le k d from lk =
      let h = numbers_rise middle k d from lk in
      let at : get_or areas middle d ≡ p = any_default areas middle d p lt ∙ sym is in
      let same : number_of (get_or areas middle d).0 ≡ number_of p.0 = ap (λ q. number_of q.0) at in
      omega (arith, h, same, le)

  -- half of a search: what is sought stays between
  pub halved : (number first size h passed : ℕ) (p : Address × ℕ) → h + h ≤ size → h < size
      → first + size ≤ length areas
      → p ≡ get_or areas (first + h) p → passed ≡ from_bool (nat_lt (number_of p.0) number)
      → AllWithin (λ q. number_of q.0 < number) areas 0 first
      → AllWithin (λ q. number ≤ number_of q.0) areas (first + size) (length areas)
      → (first + h * passed + (size - h) ≤ first + size) ×
      AllWithin (λ q. number_of q.0 < number) areas 0 (first + h * passed) ×
      AllWithin (λ q. number ≤ number_of q.0) areas (first + h * passed + (size - h)) (length areas)
  halved number first size h passed p half some room is counted before after =
      elim (cases_lt (number_of p.0) number) [
        | inl less ↦
            let one : passed ≡ 1 = counted ∙ ap from_bool (less_is (number_of p.0) number less) in
            let at : first + h * passed ≡ first + h = rw one (omega arith) in
            let end : first + h * passed + (size - h) ≡ first + size = rw one (omega (arith, some)) in
            let more = low_more number first (first + h) p (omega (arith, some, room)) is less in
            (omega (arith, end), rw at (λ k d low lt. more k d low (omega (arith, lt))), rw end after)
        | inr not ↦
            let none : passed ≡ 0 = counted ∙ ap from_bool (less_is_not (number_of p.0) number not) in
            let at : first + h * passed ≡ first = rw none (omega arith) in
            let end : first + h * passed + (size - h) ≡ first + (size - h) = rw none (omega arith) in
            let more = high_less number (first + h) p (omega (arith, some, room)) is not in
            (omega (arith, end), rw at before, rw end (λ k d low lt. more k d (omega (arith, low, half)) lt))
      ]

  -- ---- where the pairs of a resolution start
  pub start_here : CellsFormIntervals → (r place : ℕ) (p : Address × ℕ) → place < length areas
      → p ≡ get_or areas place p → r ≤ resolution p.0
      → AllWithin (λ q. resolution q.0 < r) areas 0 place → IsStart areas r place
  start_here intervals r place p lt is le before = record {
    within = omega (arith, lt);
    before = before;
    after = λ k d low l. (
        let up =
        number_coarser intervals (get_or areas place d).0 (get_or areas k d).0 (listed.valid place d lt)
        (listed.valid k d l) (numbers_rise place k d low l) in
        let same : resolution (get_or areas place d).0 ≡ resolution p.0 =
        ap (λ q. resolution q.0) (any_default areas place d p lt ∙ sym is) in
        omega (arith, up, same, le));
  }

-- the starts of the resolutions coarser than r are counted
abbrev pub AreStartsBelow : List (Address × ℕ) → List ℕ → ℕ → Type 0
AreStartsBelow areas starts r = (k d : ℕ) → k < r → IsStart areas k (get_or starts k d)

pub one_start_more : (areas : List (Address × ℕ)) (starts : List ℕ) (r place : ℕ) → r < length starts
    → IsStart areas r place → AreStartsBelow areas starts r → AreStartsBelow areas (set starts r place) (r + 1)
one_start_more areas starts r place room start below k d lt = elim (cases_lt k r) [
  | inl less ↦
      let e : get_or (set starts r place) k d ≡ get_or starts k d =
      get_or-set_other starts r k place d (λ e. omega (arith, e, less)) in
      rw e (below k d less)
  | inr not ↦
      let e : k ≡ r = omega (arith, lt, not) in
      let at : get_or (set starts r place) r d ≡ place = get_or-set_same starts r place d room in
      rw (e, at) start
]

-- ---- the pairs with one cell

one_member : (y n : ℕ) → Contains (y ∷ []) n → y ≡ n
one_member y n m = elim (contains_cases y n [] m) [
  | inl e ↦ e
  | inr never ↦ absurd (omega (arith, never.1))
]

-- of the pairs with the ancestor at r, which begin at `first`, those before `place` are looked at
pub record IsWriting (areas : List (Address × ℕ)) (x : Address) (r first place count : ℕ)
    (numbers : List ℕ) : Type 0 where
  pub within : place ≤ length areas
  pub from : first ≤ place
  pub fewer : count ≤ place
  pub room : length areas ≤ length numbers
  pub run : AllWithin (λ p. p.0 ≡ ancestor_at x r) areas first place
  pub each : (n : ℕ)
      → Contains (take count numbers) n ↔
      (LiesAbove areas x r n ⊎ ((k : ℕ) × (first ≤ k) × (k < place) × ((get_or areas k (x, n)).1 ≡ n)))
  pub in_order : AllPairs (IsBefore areas x) (take count numbers)

module _ (tree : CellsFormTrees) (intervals : CellsFormIntervals) (unique : NumbersAreUnique)
    (found : AncestorsAreFound) (areas : List (Address × ℕ)) (listed : AreListed areas) (x : Address) (valid : IsCell x)
    (r : ℕ) (coarse : r ≤ resolution x) where
  a : Address
  a = ancestor_at x r

  a_valid : IsCell (ancestor_at x r)
  a_valid = tree.cut_cell x r valid coarse

  a_level : resolution (ancestor_at x r) ≡ r
  a_level = tree.resolution-ancestor_at x r coarse

  -- where a search begins and ends
  pub begin_before : (place : ℕ) → IsStart areas r place
      → AllWithin (λ p. number_of p.0 < number_of (ancestor_at x r)) areas 0 place
  begin_before place start k d low lt =
      coarser_number intervals (get_or areas k d).0 (ancestor_at x r)
      (listed.valid k d (omega (arith, lt, start.within))) a_valid
      (let h = start.before k d low lt in omega (arith, h, a_level))

  pub end_after : (place : ℕ) → IsStart areas (r + 1) place
      → AllWithin (λ p. number_of (ancestor_at x r) ≤ number_of p.0) areas place (length areas)
  end_after place end k d low lt =
      let up =
      coarser_number intervals (ancestor_at x r) (get_or areas k d).0 a_valid (listed.valid k d lt)
      (let h = end.after k d low lt in omega (arith, h, a_level)) in
      omega (arith, up)

  pub writing_begins : (place count first : ℕ) (numbers : List ℕ) → IsWritten areas x r place count numbers
      → IsFirstOf areas (number_of (ancestor_at x r)) first → place ≤ first
      → IsWriting areas x r first first count numbers
  writing_begins place count first numbers w f later = record {
    within = f.within;
    from = omega arith;
    fewer = omega (arith, w.fewer, later);
    room = w.room;
    run = λ k d low lt. absurd (omega (arith, low, lt));
    each = λ n. (
      (λ m. inl ((w.each n).0 m)),
      (λ h. elim h [ inl above ↦ (w.each n).1 above | inr run ↦ absurd (omega (arith, run.1, run.2)) ]),
    );
    in_order = w.in_order;
  }

  module _ (first place count : ℕ) (numbers : List ℕ) (inv : IsWriting areas x r first place count numbers)
      (pair : Address × ℕ) (lt : place < length areas) (is : pair ≡ get_or areas place pair)
      (same : number_of pair.0 ≡ number_of (ancestor_at x r)) where
    here : (d : Address × ℕ) → get_or areas place d ≡ pair
    here d = any_default areas place d pair lt ∙ sym is

    pair_cell : pair.0 ≡ ancestor_at x r
    pair_cell =
        unique pair.0 (ancestor_at x r) (subst (λ p. IsCell p.0) (here pair) (listed.valid place pair lt)) a_valid same

    run_more : AllWithin (λ p. p.0 ≡ ancestor_at x r) areas first (place + 1)
    run_more k d low l = elim (cases_lt k place) [
      | inl less ↦ inv.run k d low less
      | inr not ↦ let e : k ≡ place = omega (arith, l, not) in rw (e, here d) pair_cell
    ]

    pub room_for : count < length numbers
    room_for = omega (arith, inv.fewer, inv.room, lt)

    -- the area is written already
    pub passed : Contains (take count numbers) pair.1 → IsWriting areas x r first (place + 1) count numbers
    passed m = record {
      within = omega (arith, lt);
      from = omega (arith, inv.from);
      fewer = omega (arith, inv.fewer);
      room = inv.room;
      run = run_more;
      each = λ n. (
        (λ k. elim ((inv.each n).0 k) [ inl above ↦ inl above | inr h ↦ inr (h.0, h.1, omega (arith, h.2), h.3) ]),
        (λ h. elim h [
          | inl above ↦ (inv.each n).1 (inl above)
          | inr h ↦ elim (cases_lt h.0 place) [
            | inl less ↦ (inv.each n).1 (inr (h.0, h.1, less, h.3))
            | inr not ↦
                let e : h.0 ≡ place = omega (arith, h.2, not) in
                let at : get_or areas h.0 (x, n) ≡ pair = ap (λ k. get_or areas k (x, n)) e ∙ here (x, n) in
                subst (Contains (take count numbers)) (sym (ap (λ p. p.1) at) ∙ h.3) m
          ]
        ]),
      );
      in_order = inv.in_order;
    }

    module _ (missing : ¬ Contains (take count numbers) pair.1) where
      member : Contains areas (ancestor_at x r, pair.1)
      member = contains_at areas place pair (ancestor_at x r, pair.1) lt (here pair ∙ ap (λ c. (c, pair.1)) pair_cell)

      over : IsAncestor (ancestor_at x r) x
      over = tree.cut_ancestor x r coarse

      level_le : coarsest areas x pair.1 ≤ r
      level_le = let h = coarsest_le found areas x (ancestor_at x r) pair.1 member over in omega (arith, h, a_level)

      level : coarsest areas x pair.1 ≡ r
      level = elim (cases_lt (coarsest areas x pair.1) r) [
        | inl less ↦
            let c = coarsest_from found areas x pair.1 (omega (arith, less, coarse, valid.coarse)) in
            absurd
            (missing ((inv.each pair.1).1
            (inl (record { by = c.0; member = c.1; above = c.2; coarser = omega (arith, less, c.3) }))))
        | inr not ↦ omega (arith, not, level_le)
      ]

      last : (m : ℕ) → Contains (take count numbers) m → IsBefore areas x m pair.1
      last m k = elim ((inv.each m).0 k) [
        | inl above ↦
            let h = coarsest_le found areas x above.by m above.member above.above in
            let s = above.coarser in
            inl (omega (arith, h, s, level))
        | inr h ↦
            let d : Address × ℕ = (x, m) in
            let q = get_or areas h.0 d in
            let q_cell : (get_or areas h.0 d).0 ≡ ancestor_at x r = inv.run h.0 d h.1 h.2 in
            let lh : h.0 < length areas = omega (arith, h.2, lt) in
            let in_q : Contains areas ((get_or areas h.0 d).0, m) =
            subst (λ n. Contains areas ((get_or areas h.0 d).0, n)) h.3 (Contains-get_or areas h.0 d lh) in
            let low =
            coarsest_le found areas x (get_or areas h.0 d).0 m in_q
            (subst (λ c. IsAncestor c x) (sym q_cell) over) in
            let size : resolution (get_or areas h.0 d).0 ≡ r = ap resolution q_cell ∙ a_level in
            let rise : pair_number (get_or areas h.0 d) ≤ pair_number pair =
            rw (here d) at (listed.in_order h.0 place d h.2 lt) in
            let number : number_of (get_or areas h.0 d).0 ≡ number_of pair.0 = ap number_of (q_cell ∙ sym pair_cell) in
            let le = area_order (get_or areas h.0 d) pair number rise in
            let ne : m ≢ pair.1 = λ e. missing (subst (Contains (take count numbers)) e k) in
            elim (cases_lt (coarsest areas x m) r) [
              | inl less ↦ inl (omega (arith, less, level))
              | inr not ↦ inr (omega (arith, not, low, size, level), omega (arith, le, h.3, ne))
            ]
      ]

      one_pair : AllPairs (IsBefore areas x) (pair.1 ∷ [])
      one_pair i j d li lj = absurd (omega (arith, li, lj))

      grown : take (count + 1) (set numbers count pair.1) ≡ take count numbers ++ pair.1 ∷ []
      grown = take_more_set numbers count pair.1 room_for

      pub wrote : IsWriting areas x r first (place + 1) (count + 1) (set numbers count pair.1)
      wrote = record {
        within = omega (arith, lt);
        from = omega (arith, inv.from);
        fewer = omega (arith, inv.fewer);
        room = omega (arith, inv.room, length-set numbers count pair.1);
        run = run_more;
        each = λ n. rw grown (
          (λ k. elim (Contains-push_cases (take count numbers) pair.1 n k) [
            | inl old ↦
                elim ((inv.each n).0 old) [ inl above ↦ inl above | inr h ↦ inr (h.0, h.1, omega (arith, h.2), h.3) ]
            | inr e ↦ inr (place, inv.from, omega arith, ap (λ p. p.1) (here (x, n)) ∙ e)
          ]),
          (λ h. elim h [
            | inl above ↦ Contains-append_left (take count numbers) (pair.1 ∷ []) n ((inv.each n).1 (inl above))
            | inr h ↦ elim (cases_lt h.0 place) [
              | inl less ↦
                  Contains-append_left (take count numbers) (pair.1 ∷ []) n ((inv.each n).1 (inr (h.0, h.1, less, h.3)))
              | inr not ↦
                  let e : h.0 ≡ place = omega (arith, h.2, not) in
                  let at : get_or areas h.0 (x, n) ≡ pair = ap (λ k. get_or areas k (x, n)) e ∙ here (x, n) in
                  subst (Contains (take count numbers ++ pair.1 ∷ [])) (sym (ap (λ p. p.1) at) ∙ h.3)
                  (Contains-push (take count numbers) pair.1)
            ]
          ]),
        );
        in_order =
            rw grown
            (pairs_append (IsBefore areas x) (take count numbers) (pair.1 ∷ []) inv.in_order one_pair
            (λ m n k l. subst (IsBefore areas x m) (one_member pair.1 n l) (last m k)));
      }

  -- ---- the end of the pairs with one cell
  module _ (first place to count : ℕ) (numbers : List ℕ) (f : IsFirstOf areas (number_of (ancestor_at x r)) first)
      (inv : IsWriting areas x r first place count numbers) (le : place ≤ to) (end : IsStart areas (r + 1) to)
      (beyond : place < to → (d : Address × ℕ) → number_of (get_or areas place d).0 ≢ number_of (ancestor_at x r)) where
    ended_at : (n : ℕ) (c : Address) → Contains areas (c, n) → c ≡ ancestor_at x r
        → (k : ℕ) × (first ≤ k) × (k < place) × ((get_or areas k (x, n)).1 ≡ n)
    ended_at n c m e =
        let d : Address × ℕ = (x, n) in
        let at : get_or areas m.0 d ≡ (c, n) = member_at areas (c, n) d m in
        let number : number_of (get_or areas m.0 d).0 ≡ number_of (ancestor_at x r) =
        ap (λ p. number_of p.0) at ∙ ap number_of e in
        let low : first ≤ m.0 = elim (cases_lt m.0 first) [
          | inl less ↦ let h = f.before m.0 d (omega arith) less in absurd (omega (arith, h, number))
          | inr not ↦ not
        ] in
        let high : m.0 < place = elim (cases_lt m.0 place) [
          | inl less ↦ less
          | inr not ↦ elim (cases_lt place to) [
            | inl more ↦
                let lp : place < length areas = omega (arith, not, m.1) in
                let up = numbers_rise areas listed place m.0 d not m.1 in
                let least = f.after place d inv.from lp in
                absurd (beyond more d (omega (arith, up, least, number)))
            | inr all ↦
                let fine = end.after m.0 d (omega (arith, not, all)) m.1 in
                let level : resolution (get_or areas m.0 d).0 ≡ resolution (ancestor_at x r) =
                ap (λ p. resolution p.0) at ∙ ap resolution e in
                absurd (omega (arith, fine, level, a_level))
          ]
        ] in
        (m.0, low, high, ap (λ p. p.1) at)

    pub written : IsWritten areas x (r + 1) to count numbers
    written = record {
      start = end;
      fewer = omega (arith, inv.fewer, le);
      room = inv.room;
      each = λ n. (
        (λ k. elim ((inv.each n).0 k) [
          | inl above ↦
              let s = above.coarser in
              record { by = above.by; member = above.member; above = above.above; coarser = omega (arith, s) }
          | inr h ↦
              let d : Address × ℕ = (x, n) in
              let lh : h.0 < length areas = omega (arith, h.2, inv.within) in
              let cell : (get_or areas h.0 d).0 ≡ ancestor_at x r = inv.run h.0 d h.1 h.2 in
              let size : resolution (get_or areas h.0 d).0 ≡ r = ap resolution cell ∙ a_level in
              record {
                by = (get_or areas h.0 d).0;
                member = subst (λ n. Contains areas ((get_or areas h.0 d).0, n)) h.3 (Contains-get_or areas h.0 d lh);
                above = subst (λ c. IsAncestor c x) (sym cell) (tree.cut_ancestor x r coarse);
                coarser = omega (arith, size);
              }
        ]),
        (λ h. elim (cases_lt (resolution h.by) r) [
          | inl less ↦ (inv.each n).1 (inl (record { by = h.by; member = h.member; above = h.above; coarser = less }))
          | inr not ↦
              let s = h.coarser in
              let e : resolution h.by ≡ r = omega (arith, not, s) in
              let cell : h.by ≡ ancestor_at x r = sym (h.above) ∙ ap (ancestor_at x) e in
              (inv.each n).1 (inr (ended_at n h.by h.member cell))
        ]),
      );
      in_order = inv.in_order;
    }

-- ---- from the coarsest resolution to the cell's own

pub none_written : (areas : List (Address × ℕ)) (x : Address) (place : ℕ) (numbers : List ℕ)
    → length areas ≤ length numbers → IsStart areas 0 place → IsWritten areas x 0 place 0 numbers
none_written areas x place numbers room start = record {
  start = start;
  fewer = omega arith;
  room = room;
  each = λ n. (
    (λ m. absurd (omega (arith, m.1))),
    (λ h. let s = h.coarser in absurd (omega (arith, s))),
  );
  in_order = λ i j d lt lj. absurd (omega (arith, lj));
}

-- nothing is written of a resolution of which there are no pairs
pub none_between : (areas : List (Address × ℕ)) (x : Address) (r from to count : ℕ) (numbers : List ℕ) → to ≤ from
    → IsStart areas (r + 1) to → IsWritten areas x r from count numbers → IsWritten areas x (r + 1) to count numbers
none_between areas x r from to count numbers le end w =
    let same : from ≤ to = elim (cases_lt to from) [
      | inl less ↦
          let d : Address × ℕ = (x, 0) in
          let coarse = w.start.before to d (omega arith) less in
          let fine = end.after to d (omega arith) (omega (arith, less, w.start.within)) in
          absurd (omega (arith, coarse, fine))
      | inr not ↦ not
    ] in
    let below : (n : ℕ) (h : LiesAbove areas x (r + 1) n) → resolution h.by < r = λ n h. (
    let m = h.member in
    let is : resolution (get_or areas m.0 (h.by, n)).0 ≡ resolution h.by = ap (λ p. resolution p.0) m.2 in
    elim (cases_lt m.0 from) [
      | inl before ↦ let k = w.start.before m.0 (h.by, n) (omega arith) before in omega (arith, k, is)
      | inr after ↦
          let k = end.after m.0 (h.by, n) (omega (arith, after, le)) m.1 in
          let c = h.coarser in
          absurd (omega (arith, k, is, c))
    ]) in
    record {
      start = end;
      fewer = omega (arith, w.fewer, same);
      room = w.room;
      each = λ n. (
        (λ m.
            let h = (w.each n).0 m in
            let c = h.coarser in
            record { by = h.by; member = h.member; above = h.above; coarser = omega (arith, c) }),
        (λ h. (w.each n).1 (record { by = h.by; member = h.member; above = h.above; coarser = below n h })),
      );
      in_order = w.in_order;
    }

-- all resolutions up to the cell's own are done
pub all_written : (tree : CellsFormTrees) (areas : List (Address × ℕ)) (x : Address) (r place count : ℕ)
    (numbers : List ℕ)
    → resolution x < r → IsWritten areas x r place count numbers → AreAreasOf areas x (take count numbers)
all_written tree areas x r place count numbers done w = record {
  each = λ n. (
    (λ m. let h = (w.each n).0 m in record { by = h.by; member = h.member; above = h.above }),
    (λ h.
        let le = tree.no_finer h.by x h.above in
        (w.each n).1 (record { by = h.by; member = h.member; above = h.above; coarser = omega (arith, le, done) })),
  );
  in_order = w.in_order;
}
