-- The test for areas of which two overlap.
use Rattle.std.specs.List.{list_any}
use Rattle.std.proofs.Common.{ℕ, ◌≡◌, ◌≢◌, ◌⊎◌, ◌==◌, ◌&&◌, ◌||◌, List, [], ◌∷◌, Bool, true, false, not, Some, None, Contains, refl, arith, ◌∙◌, sym, ap, subst, inl, inr}
use Rattle.std.proofs.lemmas.Bool.{both_ways, cases_Bool}
use Rattle.std.proofs.lemmas.Bool.Decides.{nat_tests}
use Rattle.std.proofs.lemmas.List.Folds.{Any-from_list_any, list_any_at}
use Rattle.h3_index.specs.Cell.{Address}
use Rattle.h3_index.specs.declared.error.H3Error.TheVariants.{DuplicateInput}
use Rattle.h3_set.specs.Coverage.{is_ancestor, Overlap}
use Rattle.h3_set.specs.Laws.{AncestorsAreFound}
use Rattle.h3_set.specs.Refusals.{overlaps}
use Rattle.h3_regions.specs.Areas.{AreApart, AreOverlapping}
use Rattle.h3_regions.specs.AreaLaws.{ClashesAreFound}
use Rattle.h3_regions.specs.Refusals.{areas_refusal, clash, has_clash}
use Rattle.h3_regions.proofs.ListLaws.{contains_cases, contains_head, contains_tail}

pub is_same : (m n : ℕ) → (m == n) ≡ true → m ≡ n
is_same m n h = grind (arith, nat_tests)

pub is_other : (m n : ℕ) → (m == n) ≡ false → m ≢ n
is_other m n h = grind (arith, nat_tests)

pub same_is : (m n : ℕ) → m ≡ n → (m == n) ≡ true
same_is m n h = grind (arith, nat_tests)

pub other_is : (m n : ℕ) → m ≢ n → (m == n) ≡ false
other_is m n h = grind (arith, nat_tests)

pub both : (a b : Bool) → (a && b) ≡ true → (a ≡ true) × (b ≡ true)
both true b h = (refl, h)
both false b h = cc

either : (a b : Bool) → (a || b) ≡ true → (a ≡ true) ⊎ (b ≡ true)
either true b h = inl refl
either false b h = inr h

neither : (a b : Bool) → (a || b) ≡ false → (a ≡ false) × (b ≡ false)
neither false b h = (refl, h)
neither true b h = cc

not_holds : (a : Bool) → not a ≡ true → a ≡ false
not_holds true h = cc
not_holds false h = refl

module _ (found : AncestorsAreFound) where
  overlap_from : (a b : Address) → overlaps a b ≡ true → Overlap a b
  overlap_from a b t = elim (either (is_ancestor a b) (is_ancestor b a) t) [
    | inl h ↦ inl ((found a b).0 h)
    | inr h ↦ inr ((found b a).0 h)
  ]

  overlap_true : (a b : Address) → Overlap a b → overlaps a b ≡ true
  overlap_true a b o = elim o [
    | inl h ↦ rw ((found a b).1 h) refl
    | inr h ↦ elim (cases_Bool (is_ancestor a b)) [
      | inl t ↦ rw t refl
      | inr f ↦ rw (f, (found b a).1 h) refl
    ]
  ]

  clash_from : (p q : Address × ℕ) → clash p q ≡ true → (p.1 ≢ q.1) × Overlap p.0 q.0
  clash_from p q t =
      let two = both (not (p.1 == q.1)) (overlaps p.0 q.0) t in
      (is_other p.1 q.1 (not_holds (p.1 == q.1) two.0), overlap_from p.0 q.0 two.1)

  clash_true : (p q : Address × ℕ) → p.1 ≢ q.1 → Overlap p.0 q.0 → clash p q ≡ true
  clash_true p q ne o = rw (other_is p.1 q.1 ne, overlap_true p.0 q.0 o) refl

  pub overlapping_where : (areas : List (Address × ℕ)) → has_clash areas ≡ true
      → (m : ℕ) × (n : ℕ) × AreOverlapping areas m n
  overlapping_where [] h = cc
  overlapping_where (p ∷ areas) h = elim (either (list_any (clash p) areas) (has_clash areas) h) [
    | inl here ↦
        let w = Any-from_list_any (clash p) areas here in
        let two = clash_from p w.1 w.4 in (
          p.1,
          w.1.1,
          record {
            different = two.0;
            one = p.0;
            other = w.1.0;
            of_one = contains_head p areas;
            of_other = contains_tail p w.1 areas (w.0, w.2, w.3);
            overlap = two.1;
          },
        )
    | inr later ↦
        let r = overlapping_where areas later in
        let o = r.2 in (
          r.0,
          r.1,
          record {
            different = o.different;
            one = o.one;
            other = o.other;
            of_one = contains_tail p (o.one, r.0) areas o.of_one;
            of_other = contains_tail p (o.other, r.1) areas o.of_other;
            overlap = o.overlap;
          },
        )
  ]

  none_here : (p q : Address × ℕ) (areas : List (Address × ℕ)) → list_any (clash p) areas ≡ false → Contains areas q
      → p.1 ≢ q.1 → ¬ Overlap p.0 q.0
  none_here p q areas f m ne o =
      both_ways (list_any (clash p) areas) f (list_any_at (clash p) areas m.0 q m.1 (rw m.2 (clash_true p q ne o)))

  pub apart_where : (areas : List (Address × ℕ)) → has_clash areas ≡ false → AreApart areas
  apart_where [] h m n o = omega (arith, o.of_one.1)
  apart_where (p ∷ areas) h m n o =
      let two = neither (list_any (clash p) areas) (has_clash areas) h in
      elim (contains_cases p (o.one, m) areas o.of_one) [
        | inl first ↦ elim (contains_cases p (o.other, n) areas o.of_other) [
          | inl also ↦ o.different (sym (ap (λ q. q.1) first) ∙ ap (λ q. q.1) also)
          | inr later ↦
              none_here p (o.other, n) areas two.0 later (λ e. o.different (sym (ap (λ q. q.1) first) ∙ e))
              (subst (λ q. Overlap q.0 o.other) (sym first) o.overlap)
        ]
        | inr earlier ↦ elim (contains_cases p (o.other, n) areas o.of_other) [
          | inl also ↦
              none_here p (o.one, m) areas two.0 earlier (λ e. o.different (sym e ∙ ap (λ q. q.1) also))
              (subst (λ q. Overlap q.0 o.one) (sym also) (elim o.overlap [ inl u ↦ inr u | inr u ↦ inl u ]))
          | inr later ↦
              apart_where areas two.1 m n (record {
                different = o.different;
                one = o.one;
                other = o.other;
                of_one = earlier;
                of_other = later;
                overlap = o.overlap;
              })
        ]
      ]

  pub refused_where : (areas : List (Address × ℕ)) → (¬ AreApart areas) → Some DuplicateInput ≡ areas_refusal areas
  refused_where areas h = elim (cases_Bool (has_clash areas)) [
    | inl t ↦ rw t refl
    | inr f ↦ absurd (h (apart_where areas f))
  ]

  pub taken_where : (areas : List (Address × ℕ)) → AreApart areas → None ≡ areas_refusal areas
  taken_where areas h = elim (cases_Bool (has_clash areas)) [
    | inl t ↦ let r = overlapping_where areas t in absurd (h r.0 r.1 r.2)
    | inr f ↦ rw f refl
  ]

  pub clashes_found : ClashesAreFound
  clashes_found areas = (
    (λ f. apart_where areas f),
    (λ h. elim (cases_Bool (has_clash areas)) [
      | inl t ↦ let r = overlapping_where areas t in absurd (h r.0 r.1 r.2)
      | inr f ↦ f
    ]),
  )
