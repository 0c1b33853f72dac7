-- The cells of a resolution, and its pentagons, listed and counted.
use Rattle.std.specs.List.{flat_map, list_all, list_any, range_with_len}
use Rattle.std.proofs.Common.{ℕ, zero, suc, ◌≡◌, ◌+◌, ◌-◌, ◌*◌, ◌/◌, ◌%◌, ◌^◌, ◌<◌, ◌≤◌, ◌==◌, ◌&&◌, ◌↔◌, nat_lt, List, [], ◌∷◌, ◌++◌, length, map, replicate, get_or, Bool, true, false, cond, AllPairs, Contains, Option, Some, None, MatchOption, IfSome, slice_get, refl, arith, sym, ap, ◌∙◌, subst, inl, inr, length-append, lit<}
use Rattle.std.proofs.Math.Nat.{pow-suc, pow-zero}
use Rattle.std.proofs.lemmas.Bool.{and_parts}
use Rattle.std.proofs.lemmas.Bool.Decides.{nat_tests}
use Rattle.std.proofs.lemmas.List.Elements.{Contains-append_cases, Contains-get_or}
use Rattle.std.proofs.lemmas.List.FromFn.{get_or-range_with_len, length-range_with_len}
use Rattle.std.proofs.lemmas.Option.{slice_get-map}
use Rattle.std.specs.Option.{option_map}
use Rattle.h3_index.specs.Cell.{Address, IsCell, is_pentagon, is_pentagon_base, leading, number_of, pentagon_bases}
use Rattle.h3_index.specs.Count.{CellsAreListed, CellsUpToAreListed, PentagonsAreListed, base_cell, cells_of, cells_up_to, pentagons}
use Rattle.h3_index.specs.Descendants.{IsDescendant, center_descendant, descendants}
use Rattle.h3_index.proofs.AncestorLaws.{address_same, center, leading-zeros_after}
use Rattle.h3_index.proofs.CellLaws.{number_of_is, low_small}
use Rattle.h3_index.proofs.DescendantLaws.{from_descendants, in_descendants, rising_descendants, size_hexagon, size_pentagon}
use Rattle.h3_index.proofs.PathLaws.{from_flat, in_flat, from_map, in_map}

pub match_some : (o : Option ℕ) (n : ℕ) (P : Type 0) (Q : ℕ → Type 0) → o ≡ Some n → Q n → MatchOption o P Q
match_some o n P Q e q = rw e q

pub if_some : (o : Option ℕ) (n : ℕ) (Q : ℕ → Type 0) → o ≡ Some n → Q n → IfSome o Q
if_some o n Q e q = rw e q

-- ---- the cells of a resolution

pub base_valid : (b : ℕ) → b < 122 → IsCell (base_cell b)
base_valid b h = record { base_small = h; coarse = lit< tt; digits_small = tt; not_deleted = λ t e. omega (arith, e) }

-- the number of a cell of resolution 0, as its bits are put together
pub number_base : (b f : ℕ) → f ≡ b → b < 122 → 576495936675512319 + f * 2 ^ 45 % 2 ^ 64 ≡ number_of (base_cell b)
unfolding number_of
number_base b f e h = rw e (omega (arith, h))

in_range : (a n b : ℕ) → a ≤ b → b < a + n → Contains (range_with_len a n) b
in_range a n b low high =
    let there : b - a < n = omega arith in
    let is : a + (b - a) ≡ b = omega arith in
    (b - a, omega (arith, length-range_with_len a n), get_or-range_with_len a n (b - a) b there ∙ is)

from_range : (a n b : ℕ) → Contains (range_with_len a n) b → (a ≤ b) × (b < a + n)
from_range a n b (k, lt, e) =
    let less : k < n = omega (arith, lt, length-range_with_len a n) in
    let is = sym (get_or-range_with_len a n k b less) ∙ e in
    (omega (arith, is), omega (arith, is, less))

each_cell : (r : ℕ) → r < 16 → (c : Address) → Contains (cells_of r) c ↔ (IsCell c × (length c.digits ≡ r))
unfolding cells_of
each_cell r h c = (
  λ m. let t = from_flat (λ b. descendants (base_cell b) r) (range_with_len 0 122) c m in
      let bound = from_range 0 122 t.0 t.1 in
      let d = from_descendants (base_cell t.0) c r (base_valid t.0 (omega (arith, bound.1))) (omega arith) h t.2 in
      (d.valid, d.resolution_is),
  λ p. let below : IsDescendant (base_cell c.base) r c = record { valid = p.0; resolution_is = p.1; under = refl } in
      in_flat (λ b. descendants (base_cell b) r) (range_with_len 0 122) c.base c
      (in_range 0 122 c.base (omega arith) (omega (arith, p.0.base_small)))
      (in_descendants (base_cell c.base) c r below),
)

-- ---- in ascending order

pairs_cons : {A : Type 0} (R : A → A → Type 0) (x : A) (xs : List A) → ((y : A) → Contains xs y → R x y) → AllPairs R xs
    → AllPairs R (x ∷ xs)
pairs_cons R x xs far near zero zero d lt lj = absurd (omega (arith, lt))
pairs_cons R x xs far near zero (suc j) d lt lj = far (get_or xs j d) (Contains-get_or xs j d (omega (arith, lj)))
pairs_cons R x xs far near (suc i) zero d lt lj = absurd (omega (arith, lt))
pairs_cons R x xs far near (suc i) (suc j) d lt lj = near i j d (omega (arith, lt)) (omega (arith, lj))

pairs_rest : {A : Type 0} (R : A → A → Type 0) (x : A) (xs : List A) → AllPairs R (x ∷ xs) → AllPairs R xs
pairs_rest R x xs h i j d lt lj = h (suc i) (suc j) d (omega (arith, lt)) (omega (arith, lj))

pairs_first : {A : Type 0} (R : A → A → Type 0) (x : A) (xs : List A) → AllPairs R (x ∷ xs) → (y : A) → Contains xs y
    → R x y
pairs_first R x xs h y m = subst (R x) m.2 (h 0 (suc m.0) y (omega arith) (omega (arith, m.1)))

pairs_append : {A : Type 0} (R : A → A → Type 0) (xs ys : List A) → AllPairs R xs → AllPairs R ys
    → ((x y : A) → Contains xs x → Contains ys y → R x y) → AllPairs R (xs ++ ys)
pairs_append R [] ys p q far = q
pairs_append R (x ∷ xs) ys p q far =
    pairs_cons R x (xs ++ ys) (λ y m. elim (Contains-append_cases xs ys y m) [
      | inl n ↦ pairs_first R x xs p y n
      | inr n ↦ far x y (0, omega arith, refl) n
    ]) (pairs_append R xs ys (pairs_rest R x xs p) q (λ v y m n. far v y (suc m.0, omega (arith, m.1), m.2) n))

-- of two cells of one resolution, that of the smaller base cell has the smaller number
base_rises : (a b : Address) → IsCell a → IsCell b → length a.digits ≡ length b.digits → a.base < b.base
    → number_of a < number_of b
base_rises a b h k same less =
    omega (arith, number_of_is a h, number_of_is b k, low_small a h, low_small b k, same, less)

-- of two cells, the coarser has the smaller number
coarser_first : (a b : Address) → IsCell a → IsCell b → length a.digits < length b.digits → number_of a < number_of b
coarser_first a b h k less =
    omega (arith, number_of_is a h, number_of_is b k, low_small a h, low_small b k, h.base_small, less)

-- lists that ascend, one after another, where each number of one is below those of the later ones
rising_flat : (f : ℕ → List Address) (a n : ℕ)
    → ((b : ℕ) → a ≤ b → b < a + n → AllPairs (λ x y. number_of x < number_of y) (f b))
    → ((b d : ℕ) (x y : Address) → a ≤ b → b < d → d < a + n → Contains (f b) x → Contains (f d) y
    → number_of x < number_of y)
    → AllPairs (λ x y. number_of x < number_of y) (flat_map f (range_with_len a n))
rising_flat f a zero each far = λ i j d lt lj. absurd (omega (arith, lj))
rising_flat f a (suc n) each far =
    pairs_append (λ x y. number_of x < number_of y) (f a) (flat_map f (range_with_len (a + 1) n))
    (each a (omega arith) (omega arith))
    (rising_flat f (a + 1) n (λ b low high. each b (omega (arith, low)) (omega (arith, high)))
    (λ b d x y low less high mx my. far b d x y (omega (arith, low)) less (omega (arith, high)) mx my))
    (λ x y mx my.
    let t = from_flat f (range_with_len (a + 1) n) y my in
    let bound = from_range (a + 1) n t.0 t.1 in
    far a t.0 x y (omega arith) (omega (arith, bound.0)) (omega (arith, bound.1)) mx t.2)

pub cells_listed : CellsAreListed
unfolding cells_of
cells_listed r h = record {
  each = each_cell r h;
  ascending =
      rising_flat (λ b. descendants (base_cell b) r) 0 122 (λ b low high. rising_descendants (base_cell b) r)
      (λ b d x y low less high mx my.
      let dx = from_descendants (base_cell b) x r (base_valid b (omega (arith, less, high))) (omega arith) h mx in
      let dy = from_descendants (base_cell d) y r (base_valid d (omega (arith, high))) (omega arith) h my in
      let bx : x.base ≡ b = ap (λ c. c.base) dx.under in
      let by : y.base ≡ d = ap (λ c. c.base) dy.under in
      base_rises x y dx.valid dy.valid (dx.resolution_is ∙ sym dy.resolution_is) (omega (arith, bx, by, less)));
}

pub cells_up_to_listed : CellsUpToAreListed
unfolding cells_up_to
cells_up_to_listed r h = record {
  each = λ c. (
    λ m. let t = from_flat cells_of (range_with_len 0 (r + 1)) c m in
        let bound = from_range 0 (r + 1) t.0 t.1 in
        let is = ((cells_listed t.0 (omega (arith, bound.1, h))).each c).0 t.2 in
        (is.0, omega (arith, is.1, bound.1)),
    λ p.
        in_flat cells_of (range_with_len 0 (r + 1)) (length c.digits) c
        (in_range 0 (r + 1) (length c.digits) (omega arith) (omega (arith, p.1)))
        (((cells_listed (length c.digits) p.0.coarse).each c).1 (p.0, refl)),
  );
  ascending =
      rising_flat cells_of 0 (r + 1) (λ b low high. (cells_listed b (omega (arith, high, h))).ascending)
      (λ b d x y low less high mx my.
      let ix = ((cells_listed b (omega (arith, less, high, h))).each x).0 mx in
      let iy = ((cells_listed d (omega (arith, high, h))).each y).0 my in
      coarser_first x y ix.0 iy.0 (omega (arith, ix.1, iy.1, less)));
}

-- ---- how many they are

-- how many of the base cells are pentagons, and how many are none
pentagons_among : List ℕ → ℕ
pentagons_among [] = 0
pentagons_among (b ∷ bs) = cond (is_pentagon_base b) (pentagons_among bs + 1) (pentagons_among bs)

hexagons_among : List ℕ → ℕ
hexagons_among [] = 0
hexagons_among (b ∷ bs) = cond (is_pentagon_base b) (hexagons_among bs) (hexagons_among bs + 1)

times_more : (n p : ℕ) → (n + 1) * p ≡ n * p + p
times_more n p = grind arith

length_cells : (f : ℕ → List Address) (h p : ℕ) → ((b : ℕ) → is_pentagon_base b ≡ false → length (f b) ≡ h)
    → ((b : ℕ) → is_pentagon_base b ≡ true → length (f b) ≡ p)
    → (bs : List ℕ) → length (flat_map f bs) ≡ pentagons_among bs * p + hexagons_among bs * h
unfolding pentagons_among hexagons_among
length_cells f h p hex pent [] = omega arith
length_cells f h p hex pent (b ∷ bs) = by_kind (is_pentagon_base b) refl (length_cells f h p hex pent bs)
  where
    by_kind : (k : Bool) → is_pentagon_base b ≡ k
        → length (flat_map f bs) ≡ pentagons_among bs * p + hexagons_among bs * h
        → length (flat_map f (b ∷ bs)) ≡ pentagons_among (b ∷ bs) * p + hexagons_among (b ∷ bs) * h
    by_kind true e rest =
        rw e (omega (arith, rest, pent b e, length-append (f b) (flat_map f bs), times_more (pentagons_among bs) p))
    by_kind false e rest =
        rw e (omega (arith, rest, hex b e, length-append (f b) (flat_map f bs), times_more (hexagons_among bs) h))

-- one less than a power of 7 is a multiple of 6
sixth : (n : ℕ) → (k : ℕ) × (7 ^ n ≡ 6 * k + 1)
sixth zero = (0, rw (pow-zero 7) refl)
sixth (suc n) = let t = sixth n in (7 * t.0 + 1, rw (pow-suc 7 n) (omega (arith, t.1)))

base_kind : (b : ℕ) (k : Bool) → is_pentagon_base b ≡ k → is_pentagon (base_cell b) ≡ k
base_kind b true e = rw e refl
base_kind b false e = rw e refl

pub length-cells_of : (r : ℕ) → length (cells_of r) ≡ 2 + 120 * 7 ^ r
unfolding cells_of pentagons_among hexagons_among
length-cells_of r =
    let levels : r - 0 ≡ r = omega arith in
    let all =
    length_cells (λ b. descendants (base_cell b) r) (7 ^ r) (1 + 5 * ((7 ^ r - 1) / 6))
    (λ b e. rw levels at (size_hexagon (base_cell b) r (base_kind b false e)))
    (λ b e. rw levels at (size_pentagon (base_cell b) r (base_kind b true e))) (range_with_len 0 122) in
    let pents : pentagons_among (range_with_len 0 122) ≡ 12 = refl in
    let hexes : hexagons_among (range_with_len 0 122) ≡ 110 = refl in
    let t = sixth r in
    omega (arith, rw (pents, hexes) at all, t.1)

-- ---- pentagons

zeros : (ds : List ℕ) → leading ds ≡ 0 → ds ≡ replicate (length ds) 0
zeros [] h = refl
zeros (zero ∷ ds) h = ap (λ l. 0 ∷ l) (zeros ds h)
zeros (suc d ∷ ds) h =
    let other : (suc d == 0) ≡ false = grind (arith, nat_tests) in
    let first : leading (suc d ∷ ds) ≡ suc d = rw other refl in absurd (omega (arith, first, h))

any_in : (b : ℕ) (bs : List ℕ) → list_any (λ p. b == p) bs ≡ true → Contains bs b
any_in b [] h = absurd (cc)
any_in b (p ∷ bs) h = by_first (b == p) refl (λ k. any_in b bs k)
  where
    by_first : (k : Bool) → (b == p) ≡ k → (list_any (λ p. b == p) bs ≡ true → Contains bs b) → Contains (p ∷ bs) b
    by_first true e later = let same : p ≡ b = grind (arith, nat_tests) in (0, omega arith, same)
    by_first false e later = let m = later (sym (rw e refl) ∙ h) in (suc m.0, omega (arith, m.1), m.2)

-- what a test shows of each listed number
each_passes : (test : ℕ → Bool) (bs : List ℕ) → list_all test bs ≡ true → (b : ℕ) → Contains bs b → test b ≡ true
each_passes test [] h b m = absurd (omega (arith, m.1))
each_passes test (x ∷ bs) h b (zero, lt, e) = subst (λ v. test v ≡ true) e (and_parts (test x) (list_all test bs) h).0
each_passes test (x ∷ bs) h b (suc k, lt, e) =
    each_passes test bs (and_parts (test x) (list_all test bs) h).1 b (k, omega (arith, lt), e)

pentagon_base_small : (b : ℕ) → Contains pentagon_bases b → b < 122
pentagon_base_small b m = let test = each_passes (λ b. nat_lt b 122) pentagon_bases refl b m in grind (arith, nat_tests)

pentagon_base_is : (b : ℕ) → Contains pentagon_bases b → is_pentagon_base b ≡ true
pentagon_base_is b m = each_passes is_pentagon_base pentagon_bases refl b m

center_pentagon : (b r : ℕ) → is_pentagon_base b ≡ true → is_pentagon (center_descendant (base_cell b) r) ≡ true
center_pentagon b r h =
    let none : leading (replicate (r - 0) 0) ≡ 0 = leading-zeros_after [] (r - 0) in rw (h, none) refl

each_pentagon : (r : ℕ) → r < 16 → (c : Address)
    → Contains (pentagons r) c ↔ (IsCell c × ((length c.digits ≡ r) × (is_pentagon c ≡ true)))
unfolding pentagons
each_pentagon r h c = (
  λ m. let t = from_map (λ b. center_descendant (base_cell b) r) pentagon_bases c m in
      let d = center (base_cell t.0) r (base_valid t.0 (pentagon_base_small t.0 t.1)) (omega arith) h in
      subst (λ x. IsCell x × ((length x.digits ≡ r) × (is_pentagon x ≡ true))) t.2
      (d.valid, (d.resolution_is, center_pentagon t.0 r (pentagon_base_is t.0 t.1))),
  λ p. let parts = and_parts (is_pentagon_base c.base) (leading c.digits == 0) p.1.1 in
      let test = parts.1 in
      let none : leading c.digits ≡ 0 = grind (arith, nat_tests) in
      let levels : length c.digits ≡ r - 0 = omega (arith, p.1.0) in
      let same : center_descendant (base_cell c.base) r ≡ c =
      address_same _ c refl (sym (zeros c.digits none ∙ ap (λ n. replicate n 0) levels)) in
      subst (Contains (map (λ b. center_descendant (base_cell b) r) pentagon_bases)) same
      (in_map (λ b. center_descendant (base_cell b) r) pentagon_bases c.base
      (any_in c.base pentagon_bases parts.0)),
)

-- each number of a list is below those after it
is_ascending : List ℕ → Bool
is_ascending [] = true
is_ascending (b ∷ bs) = list_all (λ c. nat_lt b c) bs && is_ascending bs

rising_map : (f : ℕ → Address)
    → ((a b : ℕ) → Contains pentagon_bases a → Contains pentagon_bases b → a < b → number_of (f a) < number_of (f b))
    → (bs : List ℕ) → ((b : ℕ) → Contains bs b → Contains pentagon_bases b) → is_ascending bs ≡ true
    → AllPairs (λ x y. number_of x < number_of y) (map f bs)
unfolding is_ascending
rising_map f rises [] inside h = λ i j d lt lj. absurd (omega (arith, lj))
rising_map f rises (b ∷ bs) inside h =
    let parts = and_parts (list_all (λ c. nat_lt b c) bs) (is_ascending bs) h in
    pairs_cons (λ x y. number_of x < number_of y) (f b) (map f bs) (λ y m.
    let t = from_map f bs y m in
    let test = each_passes (λ c. nat_lt b c) bs parts.0 t.0 t.1 in
    let less : b < t.0 = grind (arith, nat_tests) in
    subst (λ y. number_of (f b) < number_of y) t.2
    (rises b t.0 (inside b (0, omega arith, refl)) (inside t.0 (suc t.1.0, omega (arith, t.1.1), t.1.2)) less))
    (rising_map f rises bs (λ c m. inside c (suc m.0, omega (arith, m.1), m.2)) parts.1)

pub pentagons_listed : PentagonsAreListed
unfolding pentagons is_ascending
pentagons_listed r h = record {
  each = each_pentagon r h;
  ascending = rising_map (λ b. center_descendant (base_cell b) r) (λ a b ma mb less.
      let da = center (base_cell a) r (base_valid a (pentagon_base_small a ma)) (omega arith) h in
      let db = center (base_cell b) r (base_valid b (pentagon_base_small b mb)) (omega arith) h in
      base_rises (center_descendant (base_cell a) r) (center_descendant (base_cell b) r) da.valid db.valid
      (da.resolution_is ∙ sym db.resolution_is) less)
      pentagon_bases (λ b m. m) refl;
}

-- the pentagon in the n-th of the base cells, where there is such a base cell
pub nth_pentagon : (r : ℕ) (n found : Option ℕ) (P : Type 0) → (found ≡ None → P)
    → MatchOption n (found ≡ None) (λ k. slice_get pentagon_bases k ≡ found)
    → MatchOption n P (λ k. slice_get (pentagons r) k ≡ option_map (λ b. center_descendant (base_cell b) r) found)
unfolding pentagons
nth_pentagon r None found P none is = none is
nth_pentagon r (Some k) found P none is =
    slice_get-map (λ b. center_descendant (base_cell b) r) pentagon_bases k
    ∙ ap (option_map (λ b. center_descendant (base_cell b) r)) is
