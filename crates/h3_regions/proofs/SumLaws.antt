-- The counts of zones of which no two overlap, and of the cells without one, add up.
use Rattle.std.specs.List.{count_by, list_any}
use Rattle.std.proofs.Common.{ℕ, suc, ◌≡◌, ◌+◌, List, [], ◌∷◌, length, map, not, sum, All, Contains, Bool, true, false, cond, refl, arith, ◌∙◌, sym, ap, inl, inr}
use Rattle.std.proofs.lemmas.Bool.{cases_Bool}
use Rattle.std.proofs.lemmas.List.Sums.{sum_by-cons}
use Rattle.h3_index.specs.Cell.{Address, IsCell}
use Rattle.h3_index.specs.Count.{CellsUpToAreListed}
use Rattle.h3_tree.specs.Laws.{CellsFormTrees}
use Rattle.h3_tree.specs.PostOrder.{CellsFormIntervals}
use Rattle.h3_set.specs.Coverage.{is_ancestor, is_covered, IsApart, Overlap}
use Rattle.h3_set.specs.Laws.{AncestorsAreFound}
use Rattle.h3_regions.specs.Counting.{count_in, count_outside}
use Rattle.h3_regions.specs.Laws.{CountsAddUp}
use Rattle.h3_regions.specs.Zones.{by_number}
use Rattle.h3_regions.proofs.NumberLaws.{number_apart, number_members}
use Rattle.h3_regions.proofs.SharedLaws.{ordered_or}
use Rattle.h3_regions.proofs.TestLaws.{covered_false, covered_true, from_covered, none_covered}

apart_tail : (z : Address) (zones : List Address) → IsApart (z ∷ zones) → IsApart zones
apart_tail z zones apart i j d lt lj = apart (suc i) (suc j) d (omega (arith, lt)) (omega (arith, lj))

apart_head : (z : Address) (zones : List Address) → IsApart (z ∷ zones) → (w : Address) → Contains zones w
    → ¬ Overlap z w
apart_head z zones apart w m over = apart 0 (suc m.0) w (omega arith) (omega (arith, m.1)) (rw m.2 over)

abbrev one_if : Bool → ℕ
one_if b = cond b 1 0

count_cons : (p : Address → Bool) (x : Address) (cells : List Address)
    → count_by p (x ∷ cells) ≡ one_if (p x) + count_by p cells
count_cons p x cells = sum_by-cons (λ y. one_if (p y)) x cells

no_hits : (p : Address → Bool) (zones : List Address) → list_any p zones ≡ false → count_by p zones ≡ 0
no_hits p [] none = refl
no_hits p (z ∷ zones) none =
    elim (cases_Bool (p z)) [
      | inl hit ↦ let never : true ≡ false = rw hit at none in absurd (cc)
      | inr miss ↦
          let rest = no_hits p zones (rw miss at none) in
          let first : one_if (p z) ≡ 0 = rw miss refl in
          omega (arith, rest, first, count_cons p z zones)
    ]

either : (b : Bool) → one_if b + one_if (not b) ≡ 1
either true = refl
either false = refl

pub count_alike : (p q : Address → Bool) (cells : List Address) → ((x : Address) → p x ≡ q x)
    → count_by p cells ≡ count_by q cells
count_alike p q [] alike = refl
count_alike p q (x ∷ cells) alike =
    let rest = count_alike p q cells alike in
    let first : one_if (p x) ≡ one_if (q x) = rw (alike x) refl in
    omega (arith, rest, first, count_cons p x cells, count_cons q x cells)

-- each count of a list is that of its first cell and that of the others
one_more : (zones cells : List Address) (x : Address)
    → sum (map (λ zone. count_in zone (x ∷ cells)) zones)
    ≡ count_by (λ zone. is_ancestor zone x) zones + sum (map (λ zone. count_in zone cells) zones)
one_more [] cells x = refl
one_more (z ∷ zones) cells x =
    let rest = one_more zones cells x in
    let hits = count_cons (λ zone. is_ancestor zone x) z zones in
    let first = count_cons (λ y. is_ancestor z y) x cells in
    let after = sum_by-cons (λ n. n) (count_in z (x ∷ cells)) (map (λ zone. count_in zone (x ∷ cells)) zones) in
    let before = sum_by-cons (λ n. n) (count_in z cells) (map (λ zone. count_in zone cells) zones) in
    omega (arith, rest, hits, first, after, before)

nothing_counted : (zones : List Address) → sum (map (λ zone. count_in zone []) zones) ≡ 0
nothing_counted [] = refl
nothing_counted (z ∷ zones) = nothing_counted zones

module _ (tree : CellsFormTrees) (found : AncestorsAreFound) where
  -- a cell has one zone, or none
  one_hit : (zones : List Address) (x : Address) → IsApart zones
      → count_by (λ zone. is_ancestor zone x) zones ≡ one_if (is_covered zones x)
  one_hit [] x apart = refl
  one_hit (z ∷ zones) x apart =
      let rest = one_hit zones x (apart_tail z zones apart) in
      elim (cases_Bool (is_ancestor z x)) [
        | inl hit ↦
            let alone : is_covered zones x ≡ false =
            covered_false found zones x
            (λ w m over. apart_head z zones apart w m (ordered_or tree z w x ((found z x).0 hit) over)) in
            let none = no_hits (λ zone. is_ancestor zone x) zones alone in
            let first : one_if (is_ancestor z x) ≡ 1 = rw hit refl in
            let covered : one_if (is_covered (z ∷ zones) x) ≡ 1 = rw hit refl in
            omega (arith, none, first, covered, count_cons (λ zone. is_ancestor zone x) z zones)
        | inr miss ↦
            let first : one_if (is_ancestor z x) ≡ 0 = rw miss refl in
            let covered : one_if (is_covered (z ∷ zones) x) ≡ one_if (is_covered zones x) = rw miss refl in
            omega (arith, rest, first, covered, count_cons (λ zone. is_ancestor zone x) z zones)
      ]

  all_counted : (zones cells : List Address) → IsApart zones
      → sum (map (λ zone. count_in zone cells) zones) + count_outside zones cells ≡ length cells
  all_counted zones [] apart = let none = nothing_counted zones in omega (arith, none)
  all_counted zones (x ∷ cells) apart =
      let rest = all_counted zones cells apart in
      let step = one_more zones cells x in
      let hit = one_hit zones x apart in
      let whole = either (is_covered zones x) in
      let outside = count_cons (λ y. not (is_covered zones y)) x cells in
      omega (arith, rest, step, hit, whole, outside)

  module _ (intervals : CellsFormIntervals) (listed : CellsUpToAreListed) where
    covered_alike : (zones : List Address) (x : Address) → All IsCell zones
        → is_covered (by_number zones) x ≡ is_covered zones x
    covered_alike zones x valid =
        elim (cases_Bool (is_covered zones x)) [
          | inl is ↦
              let h = from_covered found zones x is in
              covered_true found (by_number zones) x h.by
              ((number_members tree intervals found listed zones h.by valid).1 h.member) h.above
              ∙ sym is
          | inr miss ↦
              covered_false found (by_number zones) x (λ w m.
              none_covered found zones x miss w ((number_members tree intervals found listed zones w valid).0 m))
              ∙ sym miss
        ]

    pub counts_add_up : CountsAddUp
    counts_add_up = record {
      any_order = all_counted;
      ascending = λ zones cells valid apart. (
          let whole =
          all_counted (by_number zones) cells (number_apart tree intervals found listed zones valid apart) in
          let outside =
          count_alike (λ x. not (is_covered (by_number zones) x)) (λ x. not (is_covered zones x)) cells
          (λ x. ap not (covered_alike zones x valid)) in
          omega (arith, whole, outside));
    }
