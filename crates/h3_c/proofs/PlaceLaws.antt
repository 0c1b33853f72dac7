-- What is found beside the zone of a cell, and areas that are put as zones.
use Rattle.std.proofs.Common.{ℕ, zero, suc, ◌≡◌, ◌+◌, ◌-◌, ◌^◌, ◌<◌, ◌≤◌, ◌⊎◌, ◌++◌, List, [], ◌∷◌, length, map, take, zip, get_or, slice_get, slice_set, unwrap_or, true, false, Contains, None, Some, refl, sym, ap, ◌∙◌, inl, inr, arith}
use Rattle.std.proofs.lemmas.Bool.{cases_Bool}
use Rattle.std.proofs.lemmas.Option.{get_or_from_slice_get, slice_get_within}
use Rattle.std.proofs.lemmas.List.{length-map}
use Rattle.std.proofs.lemmas.List.Elements.{Contains-get_or}
use Rattle.h3_index.specs.Cell.{Address, number_of}
use Rattle.h3_index.specs.Laws.{NumbersAreRead}
use Rattle.h3_index.specs.Descendants.{IsAncestor}
use Rattle.h3_set.specs.Coverage.{is_ancestor}
use Rattle.h3_set.specs.Laws.{AncestorsAreFound}
use Rattle.h3_tree.specs.PostOrder.{post_order_key}
use Rattle.h3_regions.specs.AreaLaws.{OneAreaAtMost}
use Rattle.h3_regions.specs.Areas.{AreAlike, AreApart, LiesIn}
use Rattle.h3_regions.specs.Zones.{IsZones}
use Rattle.h3_c.specs.Areas.{AreAreasOver, AreAreasPut, beside}
use Rattle.h3_c.specs.Lists.{indexes, laid_over}
use Rattle.h3_c.specs.Sets.{cells_in}
use Rattle.h3_c.proofs.Laid.{laid_over-snoc}
use Rattle.h3_c.proofs.ZoneLaws.{read-indexes}

pub any_default : {A : Type 0} (xs : List A) (i : ℕ) (d e : A) → i < length xs → get_or xs i d ≡ get_or xs i e
any_default [] i d e lt = absurd (omega (arith, lt))
any_default (x ∷ xs) zero d e lt = refl
any_default (x ∷ xs) (suc i) d e lt = any_default xs i d e (omega (arith, lt))

pub get_or_past : {A : Type 0} (xs : List A) (i : ℕ) (d : A) → length xs ≤ i → get_or xs i d ≡ d
get_or_past [] i d le = refl
get_or_past (x ∷ xs) zero d le = absurd (omega (arith, le))
get_or_past (x ∷ xs) (suc i) d le = get_or_past xs i d (omega (arith, le))

-- ---- the first zone that is x or an ancestor of it

pub beside_at : (zones : List Address) (numbers : List ℕ) (x : Address) (place : ℕ) (d : Address) → place < length zones
    → is_ancestor (get_or zones place d) x ≡ true → ((i : ℕ) → i < place → is_ancestor (get_or zones i d) x ≡ false)
    → beside zones numbers x ≡ get_or numbers place (2 ^ 64 - 1)
beside_at [] numbers x place d lt here before = absurd (omega (arith, lt))
beside_at (z ∷ zones) [] x place d lt here before = refl
beside_at (z ∷ zones) (n ∷ numbers) x zero d lt here before = rw here refl
beside_at (z ∷ zones) (n ∷ numbers) x (suc place) d lt here before =
    rw (before 0 (omega arith))
    (beside_at zones numbers x place d (omega (arith, lt)) here (λ i less. before (suc i) (omega (arith, less))))

pub beside_none : (zones : List Address) (numbers : List ℕ) (x : Address)
    → ((z : Address) → Contains zones z → is_ancestor z x ≡ false) → beside zones numbers x ≡ 2 ^ 64 - 1
beside_none [] numbers x none = refl
beside_none (z ∷ zones) [] x none = refl
beside_none (z ∷ zones) (n ∷ numbers) x none =
    rw (none z (0, omega arith, refl)) (beside_none zones numbers x (λ y m. none y (suc m.0, omega (arith, m.1), m.2)))

module _ (found : AncestorsAreFound) (zones : List Address) (numbers : List ℕ) (x : Address) where
  not_above : (z : Address) → (¬ IsAncestor z x) → is_ancestor z x ≡ false
  not_above z never =
      elim (cases_Bool (is_ancestor z x)) [
        | inl is ↦ absurd (never ((found z x).0 is))
        | inr is ↦ is
      ]

  -- the zone at a place is the only one that is x or an ancestor of it
  pub beside_zone : (in_order : IsZones zones) (z : Address) (place : ℕ) → slice_get zones place ≡ Some z
      → IsAncestor z x
      → ((y : Address) → Contains zones y → IsAncestor y x → Some z ≡ Some y)
      → beside zones numbers x ≡ get_or numbers place (2 ^ 64 - 1)
  beside_zone in_order z place there above one =
      let lt : place < length zones = slice_get_within zones place z there in
      let is : get_or zones place z ≡ z = get_or_from_slice_get zones place z z there in
      beside_at zones numbers x place z lt (rw is ((found z x).1 above))
      (λ i less. not_above (get_or zones i z) (λ over.
      let same : Some z ≡ Some (get_or zones i z) =
      one (get_or zones i z) (Contains-get_or zones i z (omega (arith, less, lt))) over in
      let eq : z ≡ get_or zones i z = ap (λ o. unwrap_or o z) same in
      let ordered : post_order_key (get_or zones i z) < post_order_key (get_or zones place z) =
      in_order.in_order i place z less lt in
      let keys : post_order_key (get_or zones place z) ≡ post_order_key (get_or zones i z) =
      ap post_order_key (is ∙ eq) in
      absurd (omega (arith, ordered, keys))))

  pub beside_no_zone : ((y : Address) → Contains zones y → IsAncestor y x → None ≡ Some y)
      → beside zones numbers x ≡ 2 ^ 64 - 1
  beside_no_zone one =
      beside_none zones numbers x (λ y m. not_above y (λ over. (let e : None ≡ Some y = one y m over in cc)))

-- ---- areas

module _ (ancestors : AncestorsAreFound) (x : Address) where
  cons_lies : (p : Address × ℕ) (areas : List (Address × ℕ)) (n : ℕ) → LiesIn areas x n → LiesIn (p ∷ areas) x n
  cons_lies p areas n h =
      record { by = h.by; member = (suc h.member.0, omega (arith, h.member.1), h.member.2); above = h.above }

  in_tail : (p : Address × ℕ) (areas : List (Address × ℕ)) (n : ℕ) → is_ancestor p.0 x ≡ false → (by : Address)
      → Contains (p ∷ areas) (by, n) → IsAncestor by x → LiesIn areas x n
  in_tail p areas n miss by (zero, lt, e) above =
      let hit : is_ancestor p.0 x ≡ true = ap (λ q. is_ancestor q.0 x) e ∙ (ancestors by x).1 above in
      absurd cc
  in_tail p areas n miss by (suc k, lt, e) above = record { by = by; member = (k, omega (arith, lt), e); above = above }

  tail_lies : (p : Address × ℕ) (areas : List (Address × ℕ)) (n : ℕ) → is_ancestor p.0 x ≡ false
      → LiesIn (p ∷ areas) x n → LiesIn areas x n
  tail_lies p areas n miss h = in_tail p areas n miss h.by h.member h.above

  -- the number that is found is that of an area in which x lies, or x lies in none
  pub beside_lies : (areas : List (Address × ℕ))
      → LiesIn areas x (beside (map (λ p. p.0) areas) (map (λ p. p.1) areas) x)
      ⊎ ((beside (map (λ p. p.0) areas) (map (λ p. p.1) areas) x ≡ 2 ^ 64 - 1) × ((n : ℕ) → ¬ LiesIn areas x n))
  beside_lies [] = inr (refl, λ n h. omega (arith, h.member.1))
  beside_lies (p ∷ areas) =
      elim (cases_Bool (is_ancestor p.0 x)) [
        | inl hit ↦ rw hit (inl (record { by = p.0; member = (0, omega arith, refl); above = (ancestors p.0 x).0 hit }))
        | inr miss ↦ rw miss (elim (beside_lies areas) [
          | inl h ↦ inl (cons_lies p areas _ h)
          | inr w ↦ inr (w.0, λ n h. w.1 n (tail_lies p areas n miss h))
        ])
      ]

module _ (ancestors : AncestorsAreFound) (one : OneAreaAtMost) (areas pairs : List (Address × ℕ))
    (alike : AreAlike areas pairs)
    (apart : AreApart areas) (x : Address) where
  pub area_found : (n : ℕ) → LiesIn pairs x n → beside (map (λ p. p.0) areas) (map (λ p. p.1) areas) x ≡ n
  area_found n h =
      let own : LiesIn areas x n = (alike x n).1 h in
      elim (beside_lies ancestors x areas) [
        | inl lies ↦ one areas x _ n apart lies own
        | inr w ↦ absurd (w.1 n own)
      ]

  pub no_area_found : ((n : ℕ) → ¬ LiesIn pairs x n)
      → beside (map (λ p. p.0) areas) (map (λ p. p.1) areas) x ≡ 2 ^ 64 - 1
  no_area_found none =
      elim (beside_lies ancestors x areas) [
        | inl lies ↦ absurd (none _ ((alike x _).0 lies))
        | inr w ↦ w.0
      ]

-- ---- pairs, one more

pub zip-snoc : (cells : List Address) (numbers : List ℕ) (i : ℕ) (d : Address) → i < length cells → i < length numbers
    → zip (take (suc i) cells) (take (suc i) numbers)
    ≡ zip (take i cells) (take i numbers) ++ (get_or cells i d, get_or numbers i 0) ∷ []
zip-snoc [] numbers i d lt ln = absurd (omega (arith, lt))
zip-snoc (c ∷ cells) [] i d lt ln = absurd (omega (arith, ln))
zip-snoc (c ∷ cells) (n ∷ numbers) zero d lt ln = refl
zip-snoc (c ∷ cells) (n ∷ numbers) (suc i) d lt ln =
    ap (λ l. (c, n) ∷ l) (zip-snoc cells numbers i d (omega (arith, lt)) (omega (arith, ln)))

pub pairs_next : (cells : List Address) (numbers : List ℕ) (pairs : List (Address × ℕ)) (i : ℕ) (d : Address)
    → i < length cells
    → length cells ≤ length numbers → pairs ≡ zip (take i cells) (take i numbers) → d ≡ get_or cells i d
    → pairs ++ (d, get_or numbers i 0) ∷ [] ≡ zip (take (i + 1) cells) (take (i + 1) numbers)
pairs_next cells numbers pairs i d lt long are is_cell =
    let up : i + 1 ≡ suc i = omega arith in
    let more = zip-snoc cells numbers i d lt (omega (arith, lt, long)) in
    ap (λ l. l ++ (d, get_or numbers i 0) ∷ []) are
    ∙ ap (λ c. zip (take i cells) (take i numbers) ++ (c, get_or numbers i 0) ∷ []) is_cell
    ∙ sym more ∙ ap (λ k. zip (take k cells) (take k numbers)) (sym up)

-- numbers beyond those of cells are in no pair
pub pairs_all : (cells : List Address) (numbers : List ℕ) (i : ℕ) → length cells ≤ i → i ≤ length numbers
    → zip (take i cells) (take i numbers) ≡ zip cells numbers
pairs_all [] numbers zero end room = refl
pairs_all [] [] (suc i) end room = refl
pairs_all [] (n ∷ numbers) (suc i) end room = refl
pairs_all (c ∷ cells) numbers zero end room = absurd (omega (arith, end))
pairs_all (c ∷ cells) [] (suc i) end room = refl
pairs_all (c ∷ cells) (n ∷ numbers) (suc i) end room =
    ap (λ l. (c, n) ∷ l) (pairs_all cells numbers i (omega (arith, end)) (omega (arith, room)))

pub pairs_fewer : (cells : List Address) (numbers : List ℕ) → length (zip cells numbers) ≤ length cells
pairs_fewer [] numbers = omega arith
pairs_fewer (c ∷ cells) [] = omega arith
pairs_fewer (c ∷ cells) (n ∷ numbers) = omega (arith, pairs_fewer cells numbers)

-- ---- numbers that are put, one more

snd-snoc : (pairs : List (Address × ℕ)) (i : ℕ) (d : Address × ℕ) → i < length pairs
    → map (λ p. p.1) (take (suc i) pairs) ≡ map (λ p. p.1) (take i pairs) ++ (get_or pairs i d).1 ∷ []
snd-snoc [] i d lt = absurd (omega (arith, lt))
snd-snoc (p ∷ pairs) zero d lt = refl
snd-snoc (p ∷ pairs) (suc i) d lt = ap (λ l. p.1 ∷ l) (snd-snoc pairs i d (omega (arith, lt)))

length-snd : (pairs : List (Address × ℕ)) (i : ℕ) → i ≤ length pairs → length (map (λ p. p.1) (take i pairs)) ≡ i
length-snd pairs zero le = refl
length-snd [] (suc i) le = absurd (omega (arith, le))
length-snd (p ∷ pairs) (suc i) le = ap suc (length-snd pairs i (omega (arith, le)))

pub numbers_next : (pairs : List (Address × ℕ)) (old numbers : List ℕ) (i : ℕ) (d : Address × ℕ) → i < length pairs
    → length pairs ≤ length old → numbers ≡ laid_over (map (λ p. p.1) (take i pairs)) old
    → slice_set numbers i (get_or pairs i d).1 ≡ laid_over (map (λ p. p.1) (take (i + 1) pairs)) old
numbers_next pairs old numbers i d lt room are =
    let up : i + 1 ≡ suc i = omega arith in
    let xs = map (λ p. p.1) (take i pairs) in
    let long : length xs ≡ i = length-snd pairs i (omega (arith, lt)) in
    let more : laid_over (xs ++ (get_or pairs i d).1 ∷ []) old
    ≡ slice_set (laid_over xs old) (length xs) (get_or pairs i d).1 =
    laid_over-snoc xs old (get_or pairs i d).1 (omega (arith, long, lt, room)) in
    ap (λ l. slice_set l i (get_or pairs i d).1) are
    ∙ ap (λ k. slice_set (laid_over xs old) k (get_or pairs i d).1) (sym long)
    ∙ sym more
    ∙ ap (λ l. laid_over l old) (sym (snd-snoc pairs i d lt))
    ∙ ap (λ k. laid_over (map (λ p. p.1) (take k pairs)) old) (sym up)

-- ---- what is put is read again

take_laid_over : (xs old : List ℕ) → length xs ≤ length old → take (length xs) (laid_over xs old) ≡ xs
unfolding laid_over
take_laid_over [] old room = refl
take_laid_over (x ∷ xs) [] room = absurd (omega (arith, room))
take_laid_over (x ∷ xs) (y ∷ old) room = ap (λ l. x ∷ l) (take_laid_over xs old (omega (arith, room)))

pub areas_over : NumbersAreRead
    → (hs numbers old new old_numbers new_numbers : List ℕ) (count : ℕ) (given : List Address)
    → cells_in hs ≡ Some given → length (zip given numbers) ≤ length old
    → length (zip given numbers) ≤ length old_numbers
    → AreAreasPut (zip given numbers) old new old_numbers new_numbers count
    → AreAreasOver hs numbers old new old_numbers new_numbers count
areas_over reads hs numbers old new old_numbers new_numbers count given read room room_of_numbers put =
    let areas = put.areas in
    let zones = map (λ p. p.0) areas in
    let indexes_are : length (indexes zones) ≡ count =
    length-map zones (λ c. number_of c) ∙ length-map areas (λ p. p.0) ∙ sym put.size in
    let numbers_are : length (map (λ p. p.1) areas) ≡ count = length-map areas (λ p. p.1) ∙ sym put.size in
    let front : take count new ≡ indexes zones =
    ap (take count) put.written ∙ ap (λ k. take k (laid_over (indexes zones) old)) (sym indexes_are)
    ∙ take_laid_over (indexes zones) old (omega (arith, indexes_are, put.fewer, room)) in
    let front_of_numbers : take count new_numbers ≡ map (λ p. p.1) areas =
    ap (take count) put.numbers_written
    ∙ ap (λ k. take k (laid_over (map (λ p. p.1) areas) old_numbers)) (sym numbers_are)
    ∙ take_laid_over (map (λ p. p.1) areas) old_numbers (omega (arith, numbers_are, put.fewer, room_of_numbers)) in
    record {
      given = given;
      read = read;
      put = put;
      read_again = ap cells_in front ∙ read-indexes reads zones put.in_order.valid;
      numbers_again = front_of_numbers;
    }
