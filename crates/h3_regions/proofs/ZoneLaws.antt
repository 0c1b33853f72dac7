-- The zone of a cell.
use Rattle.std.specs.List.{find}
use Rattle.std.specs.List.Sorted.{IsPermutation}
use Rattle.std.proofs.Common.{◌≡◌, ℕ, ◌<◌, List, [], ◌∷◌, length, get_or, All, Contains, Bool, true, false, Some, None, refl, arith, ◌∙◌, sym, ap, subst, inl, inr}
use Rattle.std.proofs.lemmas.Bool.{cases_Bool}
use Rattle.std.proofs.lemmas.List.Sorted.{Contains-permutation, IsPermutation-sym, list_any-IsPermutation}
use Rattle.h3_index.specs.Cell.{Address, IsCell}
use Rattle.h3_index.specs.Descendants.{IsAncestor}
use Rattle.h3_index.specs.declared.error.H3Error.TheVariants.{DuplicateInput}
use Rattle.h3_tree.specs.Laws.{CellsFormTrees}
use Rattle.h3_set.specs.Coverage.{is_ancestor, is_covered, IsApart}
use Rattle.h3_set.specs.Laws.{AncestorsAreFound, ApartInAnyOrder, OverlapsAreFound}
use Rattle.h3_set.specs.Refusals.{compaction_refusal, has_overlap}
use Rattle.h3_regions.specs.Laws.{ZonesAreOne, ZonesInAnyOrder}
use Rattle.h3_regions.specs.Zones.{StandsAbove, by_number, zone_of}
use Rattle.h3_regions.proofs.ListLaws.{contains_at, contains_cases, contains_head, contains_tail, one_of}
use Rattle.h3_regions.proofs.RegionLaws.{none_above}
use Rattle.h3_regions.proofs.SharedLaws.{ordered_or}
use Rattle.h3_regions.proofs.TestLaws.{from_covered, none_covered}

-- ---- the first that passes a test

pub find_none : (p : Address → Bool) (cells : List Address) → ((z : Address) → Contains cells z → p z ≡ false)
    → find p cells ≡ None
find_none p [] h = refl
find_none p (y ∷ cells) h =
    rw (h y (contains_head y cells)) (find_none p cells (λ z m. h z (contains_tail y z cells m)))

record IsFound (p : Address → Bool) (cells : List Address) (w : Address) : Type 0 where
  pub is : find p cells ≡ Some w
  pub member : Contains cells w
  pub passes : p w ≡ true

found_later : (p : Address → Bool) (y w : Address) (cells : List Address) → p y ≡ false → IsFound p cells w
    → IsFound p (y ∷ cells) w
found_later p y w cells miss f =
    record { is = rw miss (f.is); member = contains_tail y w cells f.member; passes = f.passes }

find_first : (p : Address → Bool) (cells : List Address) (z : Address) → Contains cells z → p z ≡ true
    → (w : Address) × IsFound p cells w
find_first p [] z m t = absurd (omega (arith, m.1))
find_first p (y ∷ cells) z m t =
    elim (cases_Bool (p y)) [
      | inl pass ↦ (y, record { is = rw pass refl; member = contains_head y cells; passes = pass })
      | inr miss ↦ elim (contains_cases y z cells m) [
        | inl e ↦ let same : p y ≡ p z = ap p e in let never : true ≡ false = sym t ∙ sym same ∙ miss in absurd (cc)
        | inr n ↦ let r = find_first p cells z n t in (r.0, found_later p y r.0 cells miss r.1)
      ]
    ]

-- what is found passes
find_from : (p : Address → Bool) (cells : List Address) (z : Address) → find p cells ≡ Some z → p z ≡ true
find_from p [] z e = absurd (cc)
find_from p (y ∷ cells) z e =
    elim (cases_Bool (p y)) [
      | inl pass ↦ let same : Some y ≡ Some z = rw pass at e in let eq : y ≡ z = cc in sym (ap p eq) ∙ pass
      | inr miss ↦ find_from p cells z (rw miss at e)
    ]

-- ---- where miss two overlap

module _ (tree : CellsFormTrees) (found : AncestorsAreFound) where
  pub only_zone : (zones : List Address) (z x : Address) → IsApart zones → Contains zones z → IsAncestor z x
      → zone_of zones x ≡ Some z
  only_zone zones z x apart m above =
      let f = find_first (λ y. is_ancestor y x) zones z m ((found z x).1 above) in
      let over : IsAncestor f.0 x = (found f.0 x).0 f.1.passes in
      let same : f.0 ≡ z = elim (ordered_or tree f.0 z x over above) [
        | inl h ↦ one_of zones apart f.0 z f.1.member m h
        | inr h ↦ sym (one_of zones apart z f.0 m f.1.member h)
      ] in
      f.1.is ∙ ap Some same

  pub no_zone : (zones : List Address) (x : Address) → ((z : Address) → Contains zones z → ¬ IsAncestor z x)
      → zone_of zones x ≡ None
  no_zone zones x none =
      find_none (λ y. is_ancestor y x) zones (λ z m. elim (cases_Bool (is_ancestor z x)) [
        | inl pass ↦ absurd (none z m ((found z x).0 pass))
        | inr miss ↦ miss
      ])

  -- the zone of a cell by what was found in the cells that contracts see as the zones: a place, or none

  pub zone_at : (cells zones : List Address) (z x : Address) (i : ℕ) → cells ≡ zones → IsApart cells → i < length cells
      → get_or cells i z ≡ z → StandsAbove cells i x → Some z ≡ zone_of zones x
  zone_at cells zones z x i same apart lt here above =
      sym (subst (λ l. zone_of l x ≡ Some z) same
      (only_zone cells z x apart (contains_at cells i z z lt here) (subst (λ a. IsAncestor a x) here (above z))))

  pub zone_nowhere : (cells zones : List Address) (x : Address) → cells ≡ zones
      → ((i : ℕ) → i < length cells → StandsAbove cells i x → None ≡ Some i) → None ≡ zone_of zones x
  zone_nowhere cells zones x same none =
      sym (subst (λ l. zone_of l x ≡ None) same (no_zone cells x (none_above cells x none)))

  covered_zone : (zones : List Address) (x : Address) → zone_of zones x ≡ None → is_covered zones x ≡ false
  covered_zone zones x e =
      elim (cases_Bool (is_covered zones x)) [
        | inl pass ↦
            let h = from_covered found zones x pass in
            let f = find_first (λ y. is_ancestor y x) zones h.by h.member ((found h.by x).1 h.above) in
            let is = f.1.is in
            absurd (cc)
        | inr miss ↦ miss
      ]

  pub zones_are_one : ZonesAreOne
  zones_are_one = record {
    zone = λ zones z x apart m. (
      (λ t. only_zone zones z x apart m ((found z x).0 t)),
      (λ e. find_from (λ y. is_ancestor y x) zones z e),
    );
    none = λ zones x. (
      (λ e. no_zone zones x (none_covered found zones x e)),
      (λ e. covered_zone zones x e),
    );
  }

module _ (tree : CellsFormTrees) (found : AncestorsAreFound) (reordered : ApartInAnyOrder) where
  zone_permuted : (zones others : List Address) (x : Address) → IsApart zones → IsPermutation zones others
      → zone_of zones x ≡ zone_of others x
  zone_permuted zones others x apart same =
      elim (cases_Bool (is_covered zones x)) [
        | inl pass ↦
            let h = from_covered found zones x pass in
            let f = find_first (λ y. is_ancestor y x) zones h.by h.member ((found h.by x).1 h.above) in
            f.1.is
            ∙ sym (only_zone tree found others f.0 x (reordered zones others same apart)
            (Contains-permutation zones others f.0 same f.1.member) ((found f.0 x).0 f.1.passes))
        | inr miss ↦
            let out : is_covered others x ≡ false =
            sym (list_any-IsPermutation (λ c. is_ancestor c x) zones others same) ∙ miss in
            no_zone tree found zones x (none_covered found zones x miss)
            ∙ sym (no_zone tree found others x (none_covered found others x out))
      ]

  pub zones_in_any_order : ((zones others : List Address) → IsApart zones → All IsCell zones
      → IsPermutation zones others → by_number zones ≡ by_number others)
      → ZonesInAnyOrder
  zones_in_any_order number = record {
    covered = λ cells others x same. list_any-IsPermutation (λ c. is_ancestor c x) cells others same;
    zone = zone_permuted;
    number = number;
  }

-- ---- overlaps, in any order

overlap_kept : OverlapsAreFound → ApartInAnyOrder → (a b : List Address) → IsPermutation a b → has_overlap a ≡ false
    → has_overlap b ≡ false
overlap_kept overlaps reordered a b same none = (overlaps b).1 (reordered a b same ((overlaps a).0 none))

pub overlap_permuted : OverlapsAreFound → ApartInAnyOrder → (a b : List Address) → IsPermutation a b
    → has_overlap a ≡ has_overlap b
overlap_permuted overlaps reordered a b same =
    elim (cases_Bool (has_overlap a)) [
      | inl some ↦ elim (cases_Bool (has_overlap b)) [
        | inl also ↦ some ∙ sym also
        | inr none ↦
            let never : true ≡ false =
            sym some ∙ overlap_kept overlaps reordered b a (IsPermutation-sym a b same) none in
            absurd (cc)
      ]
      | inr none ↦ none ∙ sym (overlap_kept overlaps reordered a b same none)
    ]

pub refused_where : (cells : List Address) → has_overlap cells ≡ true → Some DuplicateInput ≡ compaction_refusal cells
refused_where cells e = rw e refl

pub taken_where : (cells : List Address) → has_overlap cells ≡ false → None ≡ compaction_refusal cells
taken_where cells e = rw e refl
