-- The search for the cell of a region that stands above a cell.
use Rattle.std.specs.Int.{from_bool}
use Rattle.std.specs.List.Sorted.{IsNonDecreasingBy}
use Rattle.std.proofs.Common.{ℕ, ◌≡◌, ◌+◌, ◌-◌, ◌^◌, ◌<◌, ◌≤◌, ◌⊎◌, List, [], ◌∷◌, length, Bool, true, false, ◌*◌, nat_lt, nat_le, IsTrue, ◌↔◌, arith, ◌∙◌, refl, sym, ap, subst, inl, inr, get_or}
use Rattle.std.proofs.lemmas.Bool.{cases_lt, leb-true, le-leb}
use Rattle.std.proofs.lemmas.Bool.Decides.{nat_tests}
use Rattle.h3_index.specs.Cell.{Address, IsCell, resolution}
use Rattle.h3_index.specs.Descendants.{IsAncestor}
use Rattle.h3_tree.specs.PostOrder.{post_order_key as key, CellsFormIntervals}
use Rattle.h3_regions.specs.Zones.{AreBelow, AreNotBelow, IsFirstPlace, IsZones, StandsAbove}
use Rattle.h3_regions.proofs.IntervalLaws.{inside, within}
use Rattle.h3_regions.proofs.ListLaws.{any_default}

is_less : (m n : ℕ) → nat_lt m n ≡ true → m < n
is_less m n h = grind (arith, nat_tests)

pub less_is : (m n : ℕ) → m < n → nat_lt m n ≡ true
less_is m n h = grind (arith, nat_tests)

pub less_is_not : (m n : ℕ) → n ≤ m → nat_lt m n ≡ false
less_is_not m n h = grind (arith, nat_tests)

-- the table of halves has at 0 and at 1 these themselves
pub half_at : (b : Bool) → get_or (0 ∷ 1 ∷ []) (from_bool b) 0 ≡ from_bool b
half_at true = refl
half_at false = refl

back_one : (i : ℕ) → i + 1 - 1 ≡ i
back_one i = omega arith

sub_one : (first h : ℕ) → first + h + 1 - 1 ≡ first + h
sub_one first h = omega arith

-- of the cells from a place on those before i are looked at, and first is past those with keys below k
pub record IsCounted (cells : List Address) (k from i first : ℕ) : Type 0 where
  pub low : from ≤ first
  pub high : first ≤ i
  pub below : AreBelow cells k first
  pub after : (first ≡ i) ⊎ AreNotBelow cells k first

module _ (cells : List Address) (region : IsZones cells) where
  -- the keys rise
  pub keys_rise : IsNonDecreasingBy key cells
  keys_rise i j d le lt =
      elim (cases_lt i j) [
        | inl less ↦ let h = region.in_order i j d less lt in omega (arith, h)
        | inr not ↦ let e : i ≡ j = omega (arith, le, not) in rw e (omega arith)
      ]

  -- if the last cell before a place has a key below k, so have those before it, and likewise after it
  pub below_from_last : (k i : ℕ) → (d : Address) → 0 < i → i ≤ length cells → key (get_or cells (i - 1) d) < k
      → AreBelow cells k i
  below_from_last k i d some room less j e from lt =
      let h = keys_rise j (i - 1) e (omega (arith, lt)) (omega (arith, some, room)) in
      let same = ap key (any_default cells (i - 1) e d (omega (arith, some, room))) in
      omega (arith, h, same, less)

  pub not_below_from : (k i : ℕ) → (d : Address) → k ≤ key (get_or cells i d) → AreNotBelow cells k i
  not_below_from k i d le j e from lt =
      let h = keys_rise i j e from lt in
      let same = ap key (any_default cells i e d (omega (arith, from, lt))) in
      omega (arith, h, same, le)

  -- the cell before a place decides whether those before it have keys below k, and the one there likewise
  pub below_where : (k i r : ℕ) (a : Address) → 0 < i → i ≤ length cells → a ≡ get_or cells (i - 1) a → r ≡ key a
      → IsTrue (nat_lt r k) ↔ AreBelow cells k i
  below_where k i r a some room is r_is = (
    (λ t.
        let less : r < k = is_less r k t in
        below_from_last k i a some room (omega (arith, less, r_is, ap key is))),
    (λ below.
        let less = below (i - 1) a (omega arith) (omega (arith, some)) in
        less_is r k (omega (arith, less, r_is, ap key is))),
  )

  pub not_below_where : (k i r : ℕ) (a : Address) → i < length cells → a ≡ get_or cells i a → r ≡ key a
      → IsTrue (nat_le k r) ↔ AreNotBelow cells k i
  not_below_where k i r a lt is r_is = (
    (λ t.
        let le : k ≤ r = leb-true k r t in
        not_below_from k i a (omega (arith, le, r_is, ap key is))),
    (λ after.
        let le = after i a (omega arith) lt in
        le-leb k r (omega (arith, le, r_is, ap key is))),
  )

  -- one step of a search: h places on, where the cell there has a key below k; what is sought is between, if it was at
  -- first
  pub narrowed : {A : Type 0} (k first size h passed : ℕ) (a : Address) → h + h ≤ size → h < size
      → first + size ≤ length cells → a ≡ get_or cells (first + h) a → passed ≡ from_bool (nat_lt (key a) k)
      → (A → AreBelow cells k first) → (A → AreNotBelow cells k (first + size))
      → (first + h * passed + (size - h) ≤ length cells) × (A → AreBelow cells k (first + h * passed))
      × (A → AreNotBelow cells k (first + h * passed + (size - h)))
  narrowed k first size h passed a half some room is p below after =
      elim (cases_lt (key a) k) [
        | inl less ↦
            let one : passed ≡ 1 = p ∙ ap from_bool (less_is (key a) k less) in
            let at : first + h * passed ≡ first + h = rw one (omega arith) in
            let end : first + h * passed + (size - h) ≡ first + size = rw one (omega (arith, some)) in
            let more =
            below_from_last k (first + h + 1) a (omega arith) (omega (arith, some, room))
            (rw (sub_one first h) (omega (arith, less, ap key is))) in (
              omega (arith, end, room),
              λ so. rw at (λ j d from lt. more j d from (omega (arith, lt))),
              λ so. rw end (after so),
            )
        | inr not ↦
            let none : passed ≡ 0 = p ∙ ap from_bool (less_is_not (key a) k not) in
            let at : first + h * passed ≡ first = rw none (omega arith) in
            let end : first + h * passed + (size - h) ≡ first + (size - h) = rw none (omega arith) in
            let more = not_below_from k (first + h) a (omega (arith, not, ap key is)) in (
              omega (arith, end, room),
              λ so. rw at (below so),
              λ so. rw end (λ j d from lt. more j d (omega (arith, from, half)) lt),
            )
      ]

  -- one more is looked at
  pub counted_more : (k from i first passed : ℕ) (a : Address) → i < length cells → a ≡ get_or cells i a
      → passed ≡ from_bool (nat_lt (key a) k) → IsCounted cells k from i first
      → IsCounted cells k from (i + 1) (first + passed)
  counted_more k from i first passed a lt is p s =
      elim (cases_lt (key a) k) [
        | inl less ↦
            let one : passed ≡ 1 = p ∙ ap from_bool (less_is (key a) k less) in
            elim s.after [
              | inl e ↦
                  let at : first + passed ≡ i + 1 = omega (arith, one, e) in
                  let more =
                  below_from_last k (i + 1) a (omega arith) (omega (arith, lt))
                  (rw (back_one i) (omega (arith, less, ap key is))) in
                  record { low = omega (arith, s.low); high = omega (arith, at); below = rw at more; after = inl at }
              | inr after ↦
                  let le = after i a s.high lt in
                  absurd (omega (arith, le, less, ap key is))
            ]
        | inr not ↦
            let none : passed ≡ 0 = p ∙ ap from_bool (less_is_not (key a) k not) in
            let at : first + passed ≡ first = omega (arith, none) in
            let after : AreNotBelow cells k first = elim s.after [
              | inl e ↦ rw e (not_below_from k i a (omega (arith, not, ap key is)))
              | inr h ↦ h
            ] in
            record {
              low = omega (arith, at, s.low);
              high = omega (arith, at, s.high);
              below = rw at s.below;
              after = inr (rw at after);
            }
      ]

  pub counted : (k from to first : ℕ) → to ≤ length cells → AreNotBelow cells k to → IsCounted cells k from to first
      → IsFirstPlace cells k first
  counted k from to first room after s =
      record {
        within = omega (arith, s.high, room);
        before = s.below;
        after = elim s.after [ inl e ↦ rw e after | inr h ↦ h ];
      }

  module _ (intervals : CellsFormIntervals) (x : Address) (valid : IsCell x) (i : ℕ)
      (split : IsFirstPlace cells (key x) i) where
    low : (j : ℕ) (d : Address) → j < i → key (get_or cells j d) < key x
    low j d lt = split.before j d (omega arith) lt

    pub high : (j : ℕ) (d : Address) → i ≤ j → j < length cells → key x ≤ key (get_or cells j d)
    high j d le lt = split.after j d le lt

    -- what stands above x is at that place
    pub only_place : (j : ℕ) → j < length cells → StandsAbove cells j x → j ≡ i
    only_place j lt above =
        let a = get_or cells j x in
        let w = within intervals (get_or cells j x) x (region.valid j x lt) valid (above x) in
        elim (cases_lt j i) [
          | inl before ↦ let l = low j x before in absurd (omega (arith, l, w.0))
          | inr not ↦ elim (cases_lt i j) [
            | inl after ↦
                let up = high i x (omega arith) (omega (arith, after, lt)) in
                let rise = region.in_order i j x after lt in
                let under =
                inside intervals (get_or cells j x) (get_or cells i x) (region.valid j x lt)
                (region.valid i x (omega (arith, after, lt))) (omega (arith, rise)) (omega (arith, w.1, up)) in
                absurd (region.apart i j x after lt (inr under))
            | inr same ↦ omega (arith, not, same)
          ]
        ]

    -- the cell there
    module _ (lt : i < length cells) (a : Address) (here : (d : Address) → get_or cells i d ≡ a) where
      pub stands : key a < key x + 8 ^ (15 - resolution a) → StandsAbove cells i x
      stands near d =
          let v : IsCell a = subst IsCell (here d) (region.valid i d lt) in
          let up : key x ≤ key a = rw (here d) at (high i d (omega arith) lt) in
          subst (λ b. IsAncestor b x) (sym (here d)) (inside intervals a x v valid up near)

      pub stands_near : (j : ℕ) → j < length cells → StandsAbove cells j x → key a < key x + 8 ^ (15 - resolution a)
      stands_near j lj above =
          let e = only_place j lj above in
          let v : IsCell a = subst IsCell (here x) (region.valid i x lt) in
          let over : IsAncestor a x = subst (λ b. IsAncestor b x) (ap (λ n. get_or cells n x) e ∙ here x) (above x) in
          (within intervals a x v valid over).1
