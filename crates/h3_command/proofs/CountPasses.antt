-- The passes over zones, one for each resolution: what a step of one leaves, and that all of them give the zones by
-- number.
use Rattle.std.specs.List.{filter}
use Rattle.std.proofs.Common.{ℕ, zero, suc, ◌≡◌, ◌+◌, ◌^◌, ◌-◌, ◌<◌, ◌≤◌, ◌==◌, List, [], ◌∷◌, ◌++◌, length, map, drop, All, AllPairs, Contains, Bool, true, false, Some, refl, arith, sym, ap, ◌∙◌, inl, inr, get_or}
use Rattle.std.proofs.Math.Nat.{mod-lt}
use Rattle.std.proofs.lemmas.Bool.{cases_Bool, cases_lt}
use Rattle.std.proofs.lemmas.Bool.Decides.{eqb_tells}
use Rattle.std.proofs.lemmas.List.{drop_more, drop_all, map-append}
use Rattle.std.proofs.lemmas.List.Elements.{All-append, All-contains, All-contains_itself, All-filter, All-head, All-nil, All-tail, All-weaker, Contains-append_left, Contains-append_right, filter_passes}
use Rattle.std.proofs.lemmas.List.Kept.{AllPairs-cons, AllPairs-filter}
use Rattle.h3_index.specs.Cell.{Address, IsCell, number_of, resolution}
use Rattle.h3_tree.specs.PostOrder.{post_order_key, CellsFormIntervals}
use Rattle.h3_regions.specs.Laws.{ZonesByNumber}
use Rattle.h3_regions.specs.Zones.{IsZones, by_number}
use Rattle.h3_command.specs.CountLines.{at_resolution, from_place, in_passes}

-- ---- a step

-- no pass is left
pub no_passes : (passes place : ℕ) (zones : List Address) (counts : List ℕ) → passes ≤ 0
    → from_place passes place zones counts ≡ []
no_passes zero place zones counts none = refl
no_passes (suc passes) place zones counts none = absurd (omega (arith, none))

kept_first : (r : ℕ) (z : Address) (n : ℕ) (zones : List Address) (counts : List ℕ) → (resolution z == r) ≡ true
    → at_resolution r (z ∷ zones) (n ∷ counts) ≡ (Some z, n) ∷ at_resolution r zones counts
kept_first r z n zones counts own = rw own refl

left_out : (r : ℕ) (z : Address) (n : ℕ) (zones : List Address) (counts : List ℕ) → (resolution z == r) ≡ false
    → at_resolution r (z ∷ zones) (n ∷ counts) ≡ at_resolution r zones counts
left_out r z n zones counts other = rw other refl

pub none_at_end : (r place : ℕ) (zones : List Address) (counts : List ℕ) → length zones ≤ place
    → at_resolution r (drop place zones) (drop place counts) ≡ []
none_at_end r place zones counts end = rw (drop_all place zones end) refl

pub from_start : (passes : ℕ) (zones : List Address) (counts : List ℕ)
    → from_place passes 0 zones counts ≡ in_passes passes zones counts
from_start zero zones counts = refl
from_start (suc passes) zones counts = refl

-- at the end of the zones the next pass begins
pub next_pass : (passes place : ℕ) (zones : List Address) (counts : List ℕ) → 0 < passes → length zones ≤ place
    → from_place passes place zones counts ≡ from_place (passes - 1) 0 zones counts
next_pass zero place zones counts some end = absurd (omega (arith, some))
next_pass (suc passes) place zones counts some end =
    let one_less : passes ≡ suc passes - 1 = omega arith in
    ap (λ l. l ++ in_passes passes zones counts) (none_at_end (16 - suc passes) place zones counts end)
    ∙ sym (from_start passes zones counts) ∙ ap (λ n. from_place n 0 zones counts) one_less

-- a zone of another resolution is passed over
pub passed : (passes place : ℕ) (zones : List Address) (counts : List ℕ) (d : Address) → 0 < passes
    → place < length zones → length counts ≡ length zones → (resolution (get_or zones place d) == 16 - passes) ≡ false
    → from_place passes place zones counts ≡ from_place passes (place + 1) zones counts
passed zero place zones counts d some lt size other = absurd (omega (arith, some))
passed (suc passes) place zones counts d some lt size other =
    ap (λ l. l ++ in_passes passes zones counts) (
    ap (λ l. at_resolution (16 - suc passes) l (drop place counts)) (drop_more zones place d lt)
    ∙ ap (at_resolution (16 - suc passes) (get_or zones place d ∷ drop (place + 1) zones))
    (drop_more counts place 0 (omega (arith, lt, size)))
    ∙ left_out (16 - suc passes) (get_or zones place d) (get_or counts place 0) (drop (place + 1) zones)
    (drop (place + 1) counts) other
    )

-- one of the resolution of the pass comes next
pub given : (passes place : ℕ) (zones : List Address) (counts : List ℕ) (d : Address) → 0 < passes
    → place < length zones → length counts ≡ length zones → (resolution (get_or zones place d) == 16 - passes) ≡ true
    → from_place passes place zones counts
    ≡ (Some (get_or zones place d), get_or counts place 0) ∷ from_place passes (place + 1) zones counts
given zero place zones counts d some lt size own = absurd (omega (arith, some))
given (suc passes) place zones counts d some lt size own =
    ap (λ l. l ++ in_passes passes zones counts) (
    ap (λ l. at_resolution (16 - suc passes) l (drop place counts)) (drop_more zones place d lt)
    ∙ ap (at_resolution (16 - suc passes) (get_or zones place d ∷ drop (place + 1) zones))
    (drop_more counts place 0 (omega (arith, lt, size)))
    ∙ kept_first (16 - suc passes) (get_or zones place d) (get_or counts place 0) (drop (place + 1) zones)
    (drop (place + 1) counts) own
    )

-- ---- all of them

-- the cells of the so many finest resolutions, coarsest first
abbrev pub coarsest_first : ℕ → List Address → List Address
coarsest_first zero zones = []
coarsest_first (suc passes) zones = filter (λ z. resolution z == 16 - suc passes) zones ++ coarsest_first passes zones

counts_at : (f : Address → ℕ) (r : ℕ) (zones : List Address)
    → at_resolution r zones (map f zones) ≡ map (λ z. (Some z, f z)) (filter (λ z. resolution z == r) zones)
counts_at f r [] = refl
counts_at f r (z ∷ zones) =
    elim (cases_Bool (resolution z == r)) [
      | inl own ↦ rw own (ap (λ l. (Some z, f z) ∷ l) (counts_at f r zones))
      | inr other ↦ rw other (counts_at f r zones)
    ]

pub counts_in_passes : (f : Address → ℕ) (passes : ℕ) (zones : List Address)
    → in_passes passes zones (map f zones) ≡ map (λ z. (Some z, f z)) (coarsest_first passes zones)
counts_in_passes f zero zones = refl
counts_in_passes f (suc passes) zones =
    ap (λ l. l ++ in_passes passes zones (map f zones)) (counts_at f (16 - suc passes) zones)
    ∙ ap (λ l. map (λ z. (Some z, f z)) (filter (λ z. resolution z == 16 - suc passes) zones) ++ l)
    (counts_in_passes f passes zones)
    ∙ sym (map-append (λ z. (Some z, f z)) (filter (λ z. resolution z == 16 - suc passes) zones)
    (coarsest_first passes zones))

-- what the passes have are zones
each_is_a_zone : (passes : ℕ) (zones : List Address) → All (Contains zones) (coarsest_first passes zones)
each_is_a_zone zero zones = All-nil (Contains zones)
each_is_a_zone (suc passes) zones =
    All-append (Contains zones) _ _
    (All-filter (λ z. resolution z == 16 - suc passes) (Contains zones) zones (All-contains_itself zones))
    (each_is_a_zone passes zones)

same_number : (a b : ℕ) → (a == b) ≡ true → a ≡ b
same_number a b t = elim (eqb_tells a b) [
  | inl same ↦ same.1
  | inr other ↦ let never : true ≡ false =
      sym t ∙ other.0 in absurd (cc)
]

of_one_resolution : (r : ℕ) (zones : List Address) → All (λ z. resolution z ≡ r) (filter (λ z. resolution z == r) zones)
of_one_resolution r zones =
    All-weaker (λ z. (resolution z == r) ≡ true) (λ z. resolution z ≡ r) (λ z t. same_number (resolution z) r t) _
    (filter_passes (λ z. resolution z == r) zones)

none_coarser : (passes : ℕ) (zones : List Address) → All (λ z. 16 - passes ≤ resolution z) (coarsest_first passes zones)
none_coarser zero zones = All-nil _
none_coarser (suc passes) zones =
    All-append (λ z. 16 - suc passes ≤ resolution z) _ _
    (All-weaker (λ z. resolution z ≡ 16 - suc passes) (λ z. 16 - suc passes ≤ resolution z) (λ z e. omega (arith, e)) _
    (of_one_resolution (16 - suc passes) zones))
    (All-weaker (λ z. 16 - passes ≤ resolution z) (λ z. 16 - suc passes ≤ resolution z) (λ z le. omega (arith, le)) _
    (none_coarser passes zones))

-- a cell that passes the test is kept
kept : (p : Address → Bool) (xs : List Address) (x : Address) → (k : ℕ) → k < length xs → get_or xs k x ≡ x → p x ≡ true
    → Contains (filter p xs) x
kept p [] x k lt is t = absurd (omega (arith, lt))
kept p (y ∷ xs) x zero lt is t = rw (is, t) (0, omega arith, refl)
kept p (y ∷ xs) x (suc k) lt is t =
    let m = kept p xs x k (omega (arith, lt)) is t in
    elim (cases_Bool (p y)) [
      | inl pass ↦ rw pass (suc m.0, omega (arith, m.1), m.2)
      | inr miss ↦ rw miss m
    ]

each_zone_has_a_pass : (passes : ℕ) (zones : List Address) (z : Address) → Contains zones z → 16 - passes ≤ resolution z
    → resolution z ≤ 15 → Contains (coarsest_first passes zones) z
each_zone_has_a_pass zero zones z m low high = absurd (omega (arith, low, high))
each_zone_has_a_pass (suc passes) zones z m low high =
    elim (eqb_tells (resolution z) (16 - suc passes)) [
      | inl own ↦ Contains-append_left _ _ z (kept (λ c. resolution c == 16 - suc passes) zones z m.0 m.1 m.2 own.0)
      | inr other ↦
          let apart = other.1 in
          let finer : 16 - passes ≤ resolution z = elim (cases_lt (resolution z) (16 - passes)) [
            | inl less ↦ absurd (apart (omega (arith, low, less, high)))
            | inr not ↦ not
          ] in
          Contains-append_right _ _ z (each_zone_has_a_pass passes zones z m finer high)
    ]

pairs_append : (R : Address → Address → Type 0) (xs ys : List Address) → AllPairs R xs → AllPairs R ys
    → All (λ x. All (R x) ys) xs → AllPairs R (xs ++ ys)
pairs_append R [] ys p q between = q
pairs_append R (x ∷ xs) ys p q between =
    AllPairs-cons R x (xs ++ ys)
    (All-append (R x) xs ys (λ k d lt. p 0 (suc k) d (omega arith) (omega (arith, lt)))
    (All-head (λ y. All (R y) ys) x xs between))
    (pairs_append R xs ys (λ i j d less lt. p (suc i) (suc j) d (omega (arith, less)) (omega (arith, lt))) q
    (All-tail (λ y. All (R y) ys) x xs between))

module _ (intervals : CellsFormIntervals) (zones : List Address) (are : IsZones zones) where
  few : (c : Address) → post_order_key c < 2 ^ 52
  unfolding post_order_key
  few c = mod-lt (number_of c) (omega arith)

  all_valid : (list : List Address) → All (Contains zones) list → All IsCell list
  all_valid list members =
      All-weaker (Contains zones) IsCell (λ z m. All-contains IsCell zones z are.valid m) list members

  one_pass_ascends : (r : ℕ) → AllPairs (λ a b. number_of a < number_of b) (filter (λ z. resolution z == r) zones)
  one_pass_ascends r i j d less lt =
      let list = filter (λ z. resolution z == r) zones in
      let valid = All-filter (λ z. resolution z == r) IsCell zones are.valid in
      let own = of_one_resolution r zones in
      let a = get_or list i d in
      let b = get_or list j d in
      let keys : post_order_key a < post_order_key b =
      AllPairs-filter (λ a b. post_order_key a < post_order_key b)
      (λ z. resolution z == r) zones are.in_order i j d less lt in
      let first = intervals.number a (valid i d (omega (arith, less, lt))) in
      let second = intervals.number b (valid j d lt) in
      let here : resolution a ≡ r = own i d (omega (arith, less, lt)) in
      let there : resolution b ≡ r = own j d lt in
      omega (arith, keys, first, second, here, there)

  finer_is_later : (a b : Address) → IsCell a → IsCell b → resolution a < resolution b → number_of a < number_of b
  finer_is_later a b va vb finer =
      let first = intervals.number a va in
      let second = intervals.number b vb in
      omega (arith, first, second, finer, few a)

  passes_ascend : (passes : ℕ) → passes ≤ 16 → AllPairs (λ a b. number_of a < number_of b) (coarsest_first passes zones)
  passes_ascend zero le = λ i j d less lt. absurd (omega (arith, lt))
  passes_ascend (suc passes) le =
      let r = 16 - suc passes in
      let first = filter (λ z. resolution z == r) zones in
      let later = coarsest_first passes zones in
      let valid = All-filter (λ z. resolution z == r) IsCell zones are.valid in
      let later_valid = all_valid later (each_is_a_zone passes zones) in
      let own = of_one_resolution r zones in
      let finer = none_coarser passes zones in
      pairs_append (λ a b. number_of a < number_of b) first later (one_pass_ascends r)
      (passes_ascend passes (omega (arith, le)))
      (λ k d lt i e lti.
      let here : resolution (get_or first k d) ≡ 16 - suc passes = own k d lt in
      let there : 16 - passes ≤ resolution (get_or later i e) = finer i e lti in
      finer_is_later (get_or first k d) (get_or later i e) (valid k d lt) (later_valid i e lti)
      (omega (arith, here, there, le)))

  pub zones_by_number : ZonesByNumber → coarsest_first 16 zones ≡ by_number zones
  zones_by_number law =
      law zones (coarsest_first 16 zones) are.valid (passes_ascend 16 (omega arith)) (λ z. (
        (λ m. let valid : IsCell z = All-contains IsCell zones z are.valid m in
            each_zone_has_a_pass 16 zones z m (omega arith) (omega (arith, valid.coarse))),
        (λ m. All-contains (Contains zones) (coarsest_first 16 zones) z (each_is_a_zone 16 zones) m),
      ))
