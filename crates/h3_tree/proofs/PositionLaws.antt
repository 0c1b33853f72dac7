-- Positions in the list of the descendants: the member at an index has it as its position.
use Rattle.std.proofs.Common.{ℕ, zero, suc, ◌≡◌, ◌+◌, ◌-◌, ◌<◌, ◌≤◌, nat_lt, List, [], ◌∷◌, length, Bool, true, false, cond, count_by, refl, All, AllPairs, Some, get_or, arith, ◌∙◌, sym, ap, inl, inr}
use Rattle.std.proofs.lemmas.Bool.{lt-ltb, le-ltb, cases_Bool}
use Rattle.std.proofs.lemmas.List.Elements.{Contains-get_or}
use Rattle.std.proofs.lemmas.List.Sums.{sum_by-cons}
use Rattle.std.proofs.lemmas.Option.{slice_get_within, slice_get-get_or, get_or_from_slice_get}
use Rattle.h3_index.specs.Cell.{Address, IsCell, is_pentagon, number_of}
use Rattle.h3_index.specs.Descendants.{descendants, IsDescendant}
use Rattle.h3_tree.specs.Known.{DescendantsAreKnown}
use Rattle.h3_tree.specs.Positions.{position_under, MembersHavePositions, PositionsHaveMembers}
use Rattle.h3_tree.proofs.SizeLaws.{sevens_small, sevens_some}

-- ---- in an ascending list the count of the smaller ones is the index

count_cons : {A : Type 0} (p : A → Bool) (x : A) (xs : List A) → count_by p (x ∷ xs) ≡ cond (p x) 1 0 + count_by p xs
count_cons p x xs = sum_by-cons (λ y. cond (p y) 1 0) x xs

count_yes : {A : Type 0} (p : A → Bool) (x : A) (xs : List A) (n : ℕ) → p x ≡ true → count_by p xs ≡ n
    → count_by p (x ∷ xs) ≡ suc n
count_yes p x xs n h e = count_cons p x xs ∙ rw (h, e) (omega arith)

count_none : {A : Type 0} (f : A → ℕ) (n : ℕ) (xs : List A) → All (λ y. n ≤ f y) xs
    → count_by (λ y. nat_lt (f y) n) xs ≡ 0
count_none f n [] h = refl
count_none f n (x ∷ xs) h =
    let here : nat_lt (f x) n ≡ false = le-ltb (f x) n (h 0 x (omega arith)) in
    let rest = count_none f n xs (λ i d lt. h (suc i) d (omega (arith, lt))) in
    rw here (omega (arith, rest))

count_below : {A : Type 0} (f : A → ℕ) (xs : List A) (k : ℕ) (d : A) → AllPairs (λ a b. f a < f b) xs → k < length xs
    → count_by (λ y. nat_lt (f y) (f (get_or xs k d))) xs ≡ k
count_below f [] k d h lt = absurd (omega (arith, lt))
count_below f (x ∷ xs) zero d h lt =
    let here : nat_lt (f x) (f x) ≡ false = le-ltb (f x) (f x) (omega arith) in
    let above : All (λ y. f x ≤ f y) xs =
    λ i e l. let u = h 0 (suc i) e (omega arith) (omega (arith, l)) in omega (arith, u) in
    rw here (omega (arith, count_none f (f x) xs above))
count_below f (x ∷ xs) (suc k) d h lt =
    let here : nat_lt (f x) (f (get_or xs k d)) ≡ true =
    lt-ltb (f x) (f (get_or xs k d)) (h 0 (suc k) d (omega arith) lt) in
    let rest =
    count_below f xs k d (λ i j e l m. h (suc i) (suc j) e (omega (arith, l)) (omega (arith, m)))
    (omega (arith, lt)) in
    count_yes (λ y. nat_lt (f y) (f (get_or xs k d))) x xs k here rest

-- ---- positions of cells

-- the member at an index has it as its position
pub position_under-get : DescendantsAreKnown → (c : Address) (s k : ℕ) (d : Address) → IsCell c → length c.digits ≤ s
    → s ≤ 15 → k < length (descendants c s) → position_under c (get_or (descendants c s) k d) ≡ k
unfolding position_under
position_under-get laws c s k d v low high lt =
    let b = (laws.members c s v low high (get_or (descendants c s) k d)).0 (Contains-get_or (descendants c s) k d lt) in
    rw b.resolution_is (count_below number_of (descendants c s) k d (laws.ascending c s) lt)

-- x is the member at a place
pub record IsAt (c : Address) (s place : ℕ) (x : Address) : Type 0 where
  pub within : place < length (descendants c s)
  pub is : get_or (descendants c s) place x ≡ x

-- the member at a descendant's position is that descendant
pub get-position_under : DescendantsAreKnown → (c x : Address) (s : ℕ) → IsCell c → length c.digits ≤ s → s ≤ 15
    → IsDescendant c s x → IsAt c s (position_under c x) x
get-position_under laws c x s v low high h =
    let m = (laws.members c s v low high x).1 h in
    let e : position_under c x ≡ m.0 =
    ap (position_under c) (sym m.2) ∙ position_under-get laws c s m.0 x v low high m.1 in
    rw e (record { within = m.1; is = m.2 })

pub members_have_positions : DescendantsAreKnown → MembersHavePositions
members_have_positions laws c x s k v low high e =
    ap (position_under c) (sym (get_or_from_slice_get (descendants c s) k x x e))
    ∙ position_under-get laws c s k x v low high (slice_get_within (descendants c s) k x e)

pub positions_have_members : DescendantsAreKnown → PositionsHaveMembers
positions_have_members laws c x s v low high h =
    let at = get-position_under laws c x s v low high h in
    slice_get-get_or (descendants c s) (position_under c x) x at.within ∙ ap Some at.is

-- ---- how many descendants there are at most

pub size_small : DescendantsAreKnown → (c : Address) (s : ℕ) → s ≤ 15 → length (descendants c s) ≤ 4747561509943
size_small laws c s high =
    elim (cases_Bool (is_pentagon c)) [
      | inl h ↦ omega (arith, laws.pentagons c s h, sevens_small (s - length c.digits) (omega arith))
      | inr h ↦ omega (arith, laws.hexagons c s h, sevens_small (s - length c.digits) (omega arith))
    ]

pub size_some : DescendantsAreKnown → (c : Address) (s : ℕ) → 0 < length (descendants c s)
size_some laws c s =
    elim (cases_Bool (is_pentagon c)) [
      | inl h ↦ omega (arith, laws.pentagons c s h)
      | inr h ↦ omega (arith, laws.hexagons c s h, sevens_some (s - length c.digits))
    ]
