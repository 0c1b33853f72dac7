-- Zones without names as areas by their places, and the sums of the numbers in each.
use Rattle.std.proofs.Common.{ℕ, zero, suc, if◌then◌else◌, Some, None, ◌≡◌, ◌≢◌, ◌+◌, ◌<◌, ◌==◌, List, [], ◌∷◌, ◌++◌, All, Bool, length, map, take, not, sum, cond, codes, true, false, eq-eqb, refl, arith, ◌∙◌, sym, ap, subst, inl, inr, get_or}
use Rattle.std.proofs.Math.Path.{fun_ext}
use Rattle.std.proofs.Math.IntN.{+ℤ_idl, +ℤ_idr}
use Rattle.std.specs.Prelude.{ℤ, pos, ◌+ℤ◌, ◌||◌}
use Rattle.std.specs.List.{count_by, filter, range_with_len}
use Rattle.std.proofs.lemmas.Bool.{cases_Bool, cases_lt}
use Rattle.std.proofs.lemmas.Bool.Decides.{eqb_tells}
use Rattle.std.proofs.lemmas.List.{get_or-map, length-map}
use Rattle.std.proofs.lemmas.List.FromFn.{fill_by_all}
use Rattle.std.proofs.lemmas.List.Sums.{sum_by-cons, sum_by_push}
use Rattle.h3_index.specs.Cell.{Address, IsCell, number_of}
use Rattle.h3_index.specs.Text.{text_of}
use Rattle.h3_numbers.specs.Laws.{TotalsInParts}
use Rattle.h3_numbers.specs.Sum.{total}
use Rattle.h3_set.specs.Coverage.{IsApart, Overlap, is_ancestor, is_covered}
use Rattle.h3_index.specs.declared.error.H3Error.TheVariants.{DuplicateInput}
use Rattle.h3_regions.specs.AreaCounting.{count_in_area}
use Rattle.h3_regions.specs.AreaLaws.{ClashesAreFound}
use Rattle.h3_regions.specs.Refusals.{areas_refusal, has_clash}
use Rattle.h3_regions.specs.Areas.{AreApart, cells_of, lies_in}
use Rattle.h3_regions.specs.Counting.{count_in, count_outside}
use Rattle.h3_regions.specs.Laws.{CountsAddUp}
use Rattle.h3_regions.specs.Zones.{by_number}
use Rattle.h3_command.specs.AreaSums.{Amount, cells_in, sum_where}
use Rattle.h3_command.specs.SumAnswers.{area_sum, area_sums, none_sum}
use Rattle.h3_command.specs.SumTables.{SumRow}
use Rattle.h3_command.specs.ZoneSums.{ZoneSumsPrintedAddUp, outside_sum, sum_in_zone, sum_outside, zone_sum, zone_sums}
use Rattle.h3_command.specs.ZoneTally.{placed, sums_of_zones, texts_in, zone_texts}
use Rattle.h3_command.proofs.AddedUp.{both_totals, if_so, sum_cons, swapped}
use Rattle.h3_command.proofs.Summing.{sum_append}

-- ---- zones with their places

pub placed_cells : (n : ℕ) (zones : List Address) → map (λ p. p.0) (placed n zones) ≡ zones
placed_cells n [] = refl
placed_cells n (z ∷ zones) = ap (λ l. z ∷ l) (placed_cells (n + 1) zones)

pub placed_size : (n : ℕ) (zones : List Address) → length (placed n zones) ≡ length zones
placed_size n zones = sym (length-map (placed n zones) (λ p. p.0)) ∙ ap length (placed_cells n zones)

pub placed_at : (n : ℕ) (zones : List Address) (k : ℕ) (d : Address × ℕ) (e : Address) → k < length zones
    → get_or (placed n zones) k d ≡ (get_or zones k e, n + k)
placed_at n [] k d e lt = absurd (omega (arith, lt))
placed_at n (z ∷ zones) zero d e lt = let own : n ≡ n + 0 = omega arith in ap (λ m. (z, m)) own
placed_at n (z ∷ zones) (suc k) d e lt =
    let later : n + 1 + k ≡ n + suc k = omega arith in
    placed_at (n + 1) zones k d e (omega (arith, lt)) ∙ ap (λ m. (get_or zones k e, m)) later

pub placed_below : (zones : List Address) → All (λ p. p.1 < length zones) (placed 0 zones)
placed_below zones k d lt =
    let inside : k < length zones = omega (arith, lt, placed_size 0 zones) in
    let own : (get_or (placed 0 zones) k d).1 ≡ 0 + k = ap (λ p. p.1) (placed_at 0 zones k d d.0 inside) in
    omega (arith, own, inside)

-- pairs that have each zone with its place
pub are_placed : (n : ℕ) (zones : List Address) (pairs : List (Address × ℕ)) → length pairs ≡ length zones
    → ((k : ℕ) (d : Address × ℕ) (e : Address) → k < length zones → get_or pairs k d ≡ (get_or zones k e, n + k))
    → pairs ≡ placed n zones
are_placed n [] [] size h = refl
are_placed n [] (p ∷ pairs) size h = absurd (omega (arith, size))
are_placed n (z ∷ zones) [] size h = absurd (omega (arith, size))
are_placed n (z ∷ zones) (p ∷ pairs) size h =
    let own : n + 0 ≡ n = omega arith in
    let head : p ≡ (z, n) = h 0 p z (omega arith) ∙ ap (λ m. (z, m)) own in
    let rest : pairs ≡ placed (n + 1) zones =
    are_placed (n + 1) zones pairs (omega (arith, size)) (λ k d e lt.
    let later : n + suc k ≡ n + 1 + k = omega arith in
    h (suc k) d e (omega (arith, lt)) ∙ ap (λ m. (get_or zones k e, m)) later) in
    ap (λ q. q ∷ pairs) head ∙ ap (λ l. (z, n) ∷ l) rest

-- blocks that have the text of each zone
pub are_texts : (zones : List Address) (blocks : List (List ℕ × ℕ)) → length blocks ≡ length zones
    → ((k : ℕ) (d : List ℕ × ℕ) (e : Address) → k < length zones
    → take (get_or blocks k d).1 (get_or blocks k d).0 ≡ text_of (number_of (get_or zones k e)))
    → texts_in blocks ≡ zone_texts zones
are_texts [] [] size h = refl
are_texts [] (b ∷ blocks) size h = absurd (omega (arith, size))
are_texts (z ∷ zones) [] size h = absurd (omega (arith, size))
are_texts (z ∷ zones) (b ∷ blocks) size h =
    ap (λ t. t ∷ texts_in blocks) (h 0 b z (omega arith))
    ∙ ap (λ l. text_of (number_of z) ∷ l)
    (are_texts zones blocks (omega (arith, size)) (λ k d e lt. h (suc k) d e (omega (arith, lt))))

-- ---- where a cell lies

unequal : (a b : ℕ) → a ≢ b → (a == b) ≡ false
unequal a b ne = elim (eqb_tells a b) [ inl same ↦ absurd (ne same.1) | inr other ↦ other.0 ]

none_placed : (n : ℕ) (zones : List Address) (m : ℕ) → m < n → cells_of (placed n zones) m ≡ []
none_placed n [] m lt = refl
none_placed n (z ∷ zones) m lt =
    let rest = filter (λ p. p.1 == m) (placed (n + 1) zones) in
    ap (λ t. map (λ (p : Address × ℕ). p.0) (cond t ((z, n) ∷ rest) rest)) (unequal n m (λ e. omega (arith, e, lt)))
    ∙ none_placed (n + 1) zones m (omega (arith, lt))

one_placed : (n : ℕ) (zones : List Address) (k : ℕ) (e : Address) → k < length zones
    → cells_of (placed n zones) (n + k) ≡ get_or zones k e ∷ []
one_placed n [] k e lt = absurd (omega (arith, lt))
one_placed n (z ∷ zones) zero e lt =
    let rest = filter (λ p. p.1 == n + 0) (placed (n + 1) zones) in
    ap (λ t. map (λ (p : Address × ℕ). p.0) (cond t ((z, n) ∷ rest) rest)) (eq-eqb n (n + 0) (omega arith))
    ∙ ap (λ l. z ∷ l) (none_placed (n + 1) zones (n + 0) (omega arith))
one_placed n (z ∷ zones) (suc k) e lt =
    let rest = filter (λ p. p.1 == n + suc k) (placed (n + 1) zones) in
    let later : n + suc k ≡ n + 1 + k = omega arith in
    ap (λ t. map (λ (p : Address × ℕ). p.0) (cond t ((z, n) ∷ rest) rest))
    (unequal n (n + suc k) (λ e. omega (arith, e)))
    ∙ ap (λ m. cells_of (placed (n + 1) zones) m) later ∙ one_placed (n + 1) zones k e (omega (arith, lt))

or_false : (b : Bool) → (b || false) ≡ b
or_false true = refl
or_false false = refl

lies_at : (zones : List Address) (x : Address) (k : ℕ) (e : Address) → k < length zones
    → lies_in (placed 0 zones) x k ≡ is_ancestor (get_or zones k e) x
lies_at zones x k e lt =
    let own : k ≡ 0 + k = omega arith in
    ap (λ m. lies_in (placed 0 zones) x m) own ∙ ap (λ l. is_covered l x) (one_placed 0 zones k e lt)
    ∙ or_false (is_ancestor (get_or zones k e) x)

-- ---- overlaps

swap_overlap : (a b : Address) → Overlap a b → Overlap b a
swap_overlap a b (inl h) = inr h
swap_overlap a b (inr h) = inl h

-- no two zones overlap, so no two of these areas do
pub placed_apart : (zones : List Address) → IsApart zones → AreApart (placed 0 zones)
placed_apart zones apart m n o =
    let i = o.of_one.0 in
    let j = o.of_other.0 in
    let c = o.one in
    let inside_i : i < length zones = omega (arith, o.of_one.1, placed_size 0 zones) in
    let inside_j : j < length zones = omega (arith, o.of_other.1, placed_size 0 zones) in
    let first : ◌≡◌ {A = Address × ℕ} (get_or zones i c, 0 + i) (o.one, m) =
    sym (placed_at 0 zones i (o.one, m) c inside_i) ∙ o.of_one.2 in
    let second : ◌≡◌ {A = Address × ℕ} (get_or zones j c, 0 + j) (o.other, n) =
    sym (placed_at 0 zones j (o.other, n) c inside_j) ∙ o.of_other.2 in
    let at_i : 0 + i ≡ m = ap (λ p. p.1) first in
    let at_j : 0 + j ≡ n = ap (λ p. p.1) second in
    let one_is : get_or zones i c ≡ o.one = ap (λ p. p.0) first in
    let other_is : get_or zones j c ≡ o.other = ap (λ p. p.0) second in
    let over : Overlap (get_or zones i c) (get_or zones j c) =
    subst (λ b. Overlap (get_or zones i c) b) (sym other_is) (subst (λ a. Overlap a o.other) (sym one_is) o.overlap) in
    elim (cases_lt i j) [
      | inl less ↦ apart i j c less inside_j over
      | inr not_less ↦
          elim (cases_lt j i) [
            | inl more ↦ apart j i c more inside_i (swap_overlap (get_or zones i c) (get_or zones j c) over)
            | inr not_more ↦ let same : m ≡ n = omega (arith, at_i, at_j, not_less, not_more) in o.different same
          ]
    ]

pub placed_kept : ClashesAreFound → (zones : List Address) → IsApart zones → areas_refusal (placed 0 zones) ≡ None
placed_kept law zones apart =
    let free : has_clash (placed 0 zones) ≡ false = (law (placed 0 zones)).1 (placed_apart zones apart) in
    ap (λ b. if b then Some DuplicateInput else None) free

-- ---- the rows

row_at : (zones : List Address) (amounts : List Amount) (k : ℕ) (e : Address) → k < length zones
    → zone_sum amounts (get_or zones k e) ≡ area_sum (zone_texts zones) (placed 0 zones) amounts k
row_at zones amounts k e lt =
    let z = get_or zones k e in
    let test : (λ x. lies_in (placed 0 zones) x k) ≡ (λ x. is_ancestor z x) = fun_ext (λ x. lies_at zones x k e lt) in
    let name : get_or (zone_texts zones) k [] ≡ text_of (number_of z) =
    get_or-map (λ c. text_of (number_of c)) zones k e [] lt in
    ap (λ (t : Address → Bool). record {
      name = text_of (number_of z);
      count = count_by t (cells_in amounts);
      units =
          sum_where t amounts;
    }) (sym test)
    ∙ ap (λ l. record {
      name = l;
      count = count_in_area (placed 0 zones) (cells_in amounts) k;
      units =
          sum_where (λ x. lies_in (placed 0 zones) x k) amounts;
    }) (sym name)

rows_placed : (zones : List Address) (amounts : List Amount)
    → map (zone_sum amounts) zones
    ≡ map (area_sum (zone_texts zones) (placed 0 zones) amounts) (range_with_len 0 (length zones))
rows_placed [] amounts = refl
rows_placed (z ∷ rest) amounts =
    let zones = z ∷ rest in
    let d = zone_sum amounts z in
    fill_by_all (area_sum (zone_texts zones) (placed 0 zones) amounts) (map (zone_sum amounts) zones) (length zones) d
    (length-map zones (zone_sum amounts))
    (λ k lt. get_or-map (zone_sum amounts) zones k z d lt ∙ row_at zones amounts k z lt)

-- the sums of zones are those of the areas that they are
pub sums_placed : (zones : List Address) (amounts : List Amount)
    → area_sums (codes "0") (zone_texts zones) (placed 0 zones) amounts ≡ sums_of_zones zones amounts
sums_placed zones amounts =
    let texts = zone_texts zones in
    let areas = placed 0 zones in
    let last : none_sum (codes "0") areas amounts ≡ outside_sum zones amounts =
    ap (λ l. record { name = codes "0"; count = count_outside l (cells_in amounts); units = sum_outside l amounts })
    (placed_cells 0 zones) in
    ap (λ n. map (area_sum texts areas amounts) (range_with_len 0 n) ++ none_sum (codes "0") areas amounts ∷ [])
    (length-map zones (λ z. text_of (number_of z)))
    ∙ ap (λ l. l ++ none_sum (codes "0") areas amounts ∷ []) (sym (rows_placed zones amounts))
    ∙ ap (λ r. map (zone_sum amounts) zones ++ r ∷ []) last

-- zones in ascending order have the sums of the zones
pub sums_ordered : (listed ordered : List Address) (amounts : List Amount) → ordered ≡ by_number listed
    → ((x : Address) → is_covered ordered x ≡ is_covered listed x)
    → sums_of_zones ordered amounts ≡ zone_sums listed amounts
sums_ordered listed ordered amounts is covered =
    let tests : (λ x. not (is_covered ordered x)) ≡ (λ x. not (is_covered listed x)) =
    fun_ext (λ x. ap not (covered x)) in
    ap
    (λ (t : Address → Bool).
    map (zone_sum amounts) ordered
    ++ record { name = codes "0"; count = count_by t (cells_in amounts); units = sum_where t amounts } ∷ [])
    tests
    ∙ ap (λ l. map (zone_sum amounts) l ++ outside_sum listed amounts ∷ []) is

-- ---- what is printed adds up

counts_of : (amounts : List Amount) (zones : List Address) (last : SumRow)
    → map (λ (r : SumRow). r.count) (map (zone_sum amounts) zones ++ last ∷ [])
    ≡ map (λ zone. count_in zone (cells_in amounts)) zones ++ last.count ∷ []
counts_of amounts [] last = refl
counts_of amounts (z ∷ zones) last = ap (λ l. count_in z (cells_in amounts) ∷ l) (counts_of amounts zones last)

units_of : (amounts : List Amount) (zones : List Address) (last : SumRow)
    → map (λ (r : SumRow). r.units) (map (zone_sum amounts) zones ++ last ∷ [])
    ≡ map (λ zone. sum_in_zone zone amounts) zones ++ last.units ∷ []
units_of amounts [] last = refl
units_of amounts (z ∷ zones) last = ap (λ l. sum_in_zone z amounts ∷ l) (units_of amounts zones last)

-- 1 if a test is passed
abbrev one_if : Bool → ℕ
one_if b = cond b 1 0

one_more : (p : Address → Bool) (z : Address) (zones : List Address)
    → sum (map (λ c. one_if (p c)) (z ∷ zones)) ≡ one_if (p z) + sum (map (λ c. one_if (p c)) zones)
one_more p z zones = sum_by-cons (λ n. n) (one_if (p z)) (map (λ c. one_if (p c)) zones)

-- no test is passed
none_passed : (v : ℤ) (p : Address → Bool) (zones : List Address) → sum (map (λ z. one_if (p z)) zones) ≡ 0
    → total (map (λ z. if_so v (p z)) zones) ≡ pos 0
none_passed v p [] h = refl
none_passed v p (z ∷ zones) h =
    let both : one_if (p z) + sum (map (λ c. one_if (p c)) zones) ≡ 0 = sym (one_more p z zones) ∙ h in
    elim (cases_Bool (p z)) [
      | inl t ↦ let one : one_if (p z) ≡ 1 = ap one_if t in absurd (omega (arith, one, both))
      | inr f ↦
          let none : one_if (p z) ≡ 0 = ap one_if f in
          ap (λ b. if_so v b +ℤ total (map (λ c. if_so v (p c)) zones)) f
          ∙ +ℤ_idl (total (map (λ c. if_so v (p c)) zones)) ∙ none_passed v p zones (omega (arith, none, both))
    ]

-- of the tests and one more, exactly one is passed
one_passed : (v : ℤ) (p : Address → Bool) (zones : List Address) (o : Bool)
    → sum (map (λ z. one_if (p z)) zones) + one_if o ≡ 1
    → total (map (λ z. if_so v (p z)) zones) +ℤ if_so v o ≡ v
one_passed v p [] true h = +ℤ_idl v
one_passed v p [] false h = absurd (omega (arith, h))
one_passed v p (z ∷ zones) o h =
    let rest = total (map (λ c. if_so v (p c)) zones) in
    let all : one_if (p z) + sum (map (λ c. one_if (p c)) zones) + one_if o ≡ 1 =
    ap (λ n. n + one_if o) (sym (one_more p z zones)) ∙ h in
    elim (cases_Bool (p z)) [
      | inl t ↦
          let one : one_if (p z) ≡ 1 = ap one_if t in
          let none : sum (map (λ c. one_if (p c)) zones) ≡ 0 = omega (arith, one, all) in
          let outside : o ≡ false = elim (cases_Bool o) [
            | inl also ↦ let two : one_if o ≡ 1 = ap one_if also in absurd (omega (arith, one, two, all))
            | inr miss ↦ miss
          ] in
          ap (λ b. (if_so v b +ℤ rest) +ℤ if_so v o) t
          ∙ ap (λ r. (v +ℤ r) +ℤ if_so v o) (none_passed v p zones none)
          ∙ ap (λ b. (v +ℤ pos 0) +ℤ if_so v b) outside ∙ +ℤ_idr (v +ℤ pos 0) ∙ +ℤ_idr v
      | inr f ↦
          let none : one_if (p z) ≡ 0 = ap one_if f in
          ap (λ b. (if_so v b +ℤ rest) +ℤ if_so v o) f ∙ ap (λ r. r +ℤ if_so v o) (+ℤ_idl rest)
          ∙ one_passed v p zones o (omega (arith, none, all))
    ]

count_one : (zone x : Address) → count_in zone (x ∷ []) ≡ one_if (is_ancestor zone x)
count_one zone x = let same : (n : ℕ) → 0 + n ≡ n = λ n. omega arith in same (one_if (is_ancestor zone x))

counts_one : (zones : List Address) (x : Address)
    → map (λ zone. count_in zone (x ∷ [])) zones ≡ map (λ zone. one_if (is_ancestor zone x)) zones
counts_one [] x = refl
counts_one (z ∷ zones) x =
    ap (λ n. n ∷ map (λ zone. count_in zone (x ∷ [])) zones) (count_one z x)
    ∙ ap (λ l. one_if (is_ancestor z x) ∷ l) (counts_one zones x)

module _ (law : CountsAddUp) (zones : List Address) (valid : All IsCell zones) (apart : IsApart zones) where
  -- a number is in the sum of one zone, or in that of none
  once : (x : Address) (v : ℤ)
      → total (map (λ z. if_so v (is_ancestor z x)) (by_number zones)) +ℤ if_so v (not (is_covered zones x)) ≡ v
  once x v =
      let o = not (is_covered zones x) in
      let same : (n : ℕ) → 0 + n ≡ n = λ n. omega arith in
      let one = law.ascending zones (x ∷ []) valid apart in
      let tests : sum (map (λ z. one_if (is_ancestor z x)) (by_number zones)) + one_if o ≡ 1 =
      ap (λ n. sum (map (λ z. one_if (is_ancestor z x)) (by_number zones)) + n) (sym (same (one_if o)))
      ∙ ap (λ l. sum l + count_outside zones (x ∷ [])) (sym (counts_one (by_number zones) x)) ∙ one in
      one_passed v (λ z. is_ancestor z x) (by_number zones) o tests

  nothing : (ordered : List Address) → total (map (λ z. sum_in_zone z []) ordered) ≡ pos 0
  nothing [] = refl
  nothing (z ∷ ordered) = +ℤ_idl (total (map (λ z. sum_in_zone z []) ordered)) ∙ nothing ordered

  added_up : (amounts : List Amount)
      → total (map (λ z. sum_in_zone z amounts) (by_number zones)) +ℤ sum_outside zones amounts
      ≡ total (map (λ a. a.1) amounts)
  added_up [] = ap (λ l. l +ℤ pos 0) (nothing (by_number zones))
  added_up (a ∷ more) =
      let ordered = by_number zones in
      let outside : Address → Bool = λ x. not (is_covered zones x) in
      let each =
      both_totals (λ z. sum_in_zone z (a ∷ more)) (λ z. if_so a.1 (is_ancestor z a.0)) (λ z. sum_in_zone z more) ordered
      (λ z. sum_cons (λ x. is_ancestor z x) a more) in
      let mine = total (map (λ z. if_so a.1 (is_ancestor z a.0)) ordered) in
      let rest = total (map (λ z. sum_in_zone z more) ordered) in
      ap (λ l. l +ℤ sum_outside zones (a ∷ more)) each
      ∙ ap (λ l. (mine +ℤ rest) +ℤ l) (sum_cons outside a more)
      ∙ swapped mine rest (if_so a.1 (outside a.0)) (sum_outside zones more)
      ∙ ap (λ l. l +ℤ (rest +ℤ sum_outside zones more)) (once a.0 a.1)
      ∙ ap (λ l. a.1 +ℤ l) (added_up more)

pub printed_zone_sums : CountsAddUp → TotalsInParts → ZoneSumsPrintedAddUp
printed_zone_sums law parts = record {
  counts = λ zones amounts valid apart. (
      ap sum (counts_of amounts (by_number zones) (outside_sum zones amounts))
      ∙ sum_by_push (λ n. n) (map (λ zone. count_in zone (cells_in amounts)) (by_number zones))
      (count_outside zones (cells_in amounts))
      ∙ law.ascending zones (cells_in amounts) valid apart ∙ length-map amounts (λ (a : Amount). a.0));
  sums = λ zones amounts valid apart. (
      let each = map (λ z. sum_in_zone z amounts) (by_number zones) in
      ap total (units_of amounts (by_number zones) (outside_sum zones amounts))
      ∙ parts each (sum_outside zones amounts ∷ [])
      ∙ ap (λ u. total each +ℤ u) (+ℤ_idr (sum_outside zones amounts)) ∙ added_up law zones valid apart amounts);
  zone_in_parts = λ zone xs ys. sum_append parts (λ x. is_ancestor zone x) xs ys;
  outside_in_parts = λ zones xs ys. sum_append parts (λ x. not (is_covered zones x)) xs ys;
}
