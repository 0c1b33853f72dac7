-- Counting cells by areas that may overlap.
use Rattle.std.specs.List.{count_by}
use Rattle.std.proofs.Common.{ℕ, ◌≡◌, ◌≢◌, ◌+◌, ◌<◌, ◌≤◌, List, length, take, set, replicate, map, not, AllPairs, Contains, Bool, true, false, refl, arith, ◌∙◌, sym, ap, subst, inl, inr, get_or}
use Rattle.std.proofs.Math.ListN.{length-set}
use Rattle.std.proofs.lemmas.Bool.{both_ways, cases_Bool, cases_lt}
use Rattle.std.proofs.lemmas.List.{get_or-replicate, get_or-set_same, get_or-set_other, length-replicate, length-take}
use Rattle.std.proofs.lemmas.List.Elements.{Contains-get_or}
use Rattle.std.proofs.lemmas.List.Sums.{count_by-le-length}
use Rattle.h3_index.specs.Cell.{Address}
use Rattle.h3_set.specs.Coverage.{is_covered}
use Rattle.h3_set.specs.Laws.{AncestorsAreFound}
use Rattle.h3_regions.specs.Areas.{AreAreasOf, IsBefore, lies_in}
use Rattle.h3_regions.proofs.AreaCountingLaws.{area_covers, no_area_covers, tested}
use Rattle.h3_regions.proofs.CountingLaws.{counts_more, counts_same}
use Rattle.h3_regions.proofs.ListLaws.{any_default, contains_at}
use Rattle.h3_regions.proofs.ListingLaws.{before_one_way}

-- the first i of some numbers, of which no two are equal, have one more each
pub record IsAdding (numbers old now : List ℕ) (i : ℕ) : Type 0 where
  pub size : length now ≡ length old
  pub more : (k : ℕ) (d : ℕ) → k < i → k < length numbers
      → get_or now (get_or numbers k d) 0 ≡ get_or old (get_or numbers k d) 0 + 1
  pub same : (n : ℕ) → ((k : ℕ) (d : ℕ) → k < i → k < length numbers → get_or numbers k d ≢ n)
      → get_or now n 0 ≡ get_or old n 0

pub adding_begins : (numbers old : List ℕ) → IsAdding numbers old old 0
adding_begins numbers old = record {
  size = refl;
  more = λ k d lt. absurd (omega (arith, lt));
  same = λ n h. refl;
}

module _ (numbers old now : List ℕ) (i : ℕ) (once : AllPairs (λ m n. m ≢ n) numbers)
    (inv : IsAdding numbers old now i) where
  pub added_all : (n : ℕ) → length numbers ≤ i → Contains numbers n → get_or now n 0 ≡ get_or old n 0 + 1
  added_all n end m = rw m.2 at (inv.more m.0 n (omega (arith, m.1, end)) m.1)

  pub added_none : (n : ℕ) → (¬ Contains numbers n) → get_or now n 0 ≡ get_or old n 0
  added_none n miss = inv.same n (λ k d lt lk e. miss (contains_at numbers k d n lk e))

  module _ (e : ℕ) (lt : i < length numbers) (small : get_or numbers i e < length now) where
    -- it has its old count yet
    pub untouched : get_or now (get_or numbers i e) 0 ≡ get_or old (get_or numbers i e) 0
    untouched = inv.same (get_or numbers i e) (λ k d lk ll h. once k i d lk lt (h ∙ any_default numbers i e d lt))

    pub added : IsAdding numbers old (set now (get_or numbers i e) (get_or now (get_or numbers i e) 0 + 1)) (i + 1)
    added =
        let n = get_or numbers i e in
        let v = get_or now (get_or numbers i e) 0 + 1 in
        record {
          size = length-set now n v ∙ inv.size;
          more = λ k d lk ll. elim (cases_lt k i) [
            | inl less ↦
                let ne : get_or numbers k d ≢ get_or numbers i e =
                λ h. once k i d less lt (h ∙ any_default numbers i e d lt) in
                get_or-set_other now n (get_or numbers k d) v 0 ne ∙ inv.more k d less ll
            | inr not ↦
                let at : k ≡ i = omega (arith, lk, not) in
                let here : get_or numbers k d ≡ get_or numbers i e =
                ap (λ j. get_or numbers j d) at ∙ any_default numbers i d e lt in
                rw (here, get_or-set_same now n v 0 small) (ap (λ u. u + 1) untouched)
          ];
          same = λ m h. (
              let ne : m ≢ get_or numbers i e = λ eq. h i e (omega arith) lt (sym eq) in
              get_or-set_other now n m v 0 ne ∙ inv.same m (λ k d lk ll. h k d (omega (arith, lk)) ll));
        }

-- the areas of a cell are each there once
pub areas_once : (areas : List (Address × ℕ)) (x : Address) (list : List ℕ) → AreAreasOf areas x list
    → AllPairs (λ m n. m ≢ n) list
areas_once areas x list h i j d lt lj e =
    let b = h.in_order i j d lt lj in
    let own : IsBefore areas x (get_or list j d) (get_or list j d) =
    subst (λ n. IsBefore areas x n (get_or list j d)) e b in
    before_one_way areas x (get_or list j d) (get_or list j d) own own

-- the first k cells are counted
pub record IsCountingAll (areas : List (Address × ℕ)) (cells : List Address) (size : ℕ) (counts : List ℕ)
    (none k : ℕ) : Type 0 where
  pub size_is : length counts ≡ size
  pub each : (n : ℕ) → n < size → get_or counts n 0 ≡ count_by (λ x. lies_in areas x n) (take k cells)
  pub others : none ≡ count_by (λ x. not (is_covered (map (λ p. p.0) areas) x)) (take k cells)

pub all_begins : (areas : List (Address × ℕ)) (cells : List Address) (size : ℕ)
    → IsCountingAll areas cells size (replicate {A = ℕ} size 0) 0 0
all_begins areas cells size = record {
  size_is = length-replicate size 0;
  each = λ n lt. get_or-replicate size n 0 0 lt;
  others = refl;
}

module _ (areas : List (Address × ℕ)) (cells : List Address) (size : ℕ) (counts : List ℕ) (none k : ℕ)
    (lt : k < length cells) (inv : IsCountingAll areas cells size counts none k) where
  upto : (p : Address → Bool) → count_by p (take k cells) ≤ k
  upto p = let h = count_by-le-length p (take k cells) in omega (arith, h, length-take k cells)

  pub few : none < length cells
  few = omega (arith, inv.others, upto (λ x. not (is_covered (map (λ p. p.0) areas) x)), lt)

  pub each_few : (n d : ℕ) → n < length counts → get_or counts n d < length cells
  each_few n d ln =
      let h = inv.each n (omega (arith, ln, inv.size_is)) in
      omega (arith, any_default counts n d 0 ln, h, upto (λ x. lies_in areas x n), lt)

  module _ (found : AncestorsAreFound) (x : Address) (is : x ≡ get_or cells k x) (list : List ℕ)
      (are : AreAreasOf areas x list) (new : List ℕ) (new_size : length new ≡ length counts)
      (more : (n : ℕ) → Contains list n → get_or new n 0 ≡ get_or counts n 0 + 1)
      (same : (n : ℕ) → (¬ Contains list n) → get_or new n 0 ≡ get_or counts n 0) where
    plus : (p : Address → Bool) → p x ≡ true → count_by p (take (k + 1) cells) ≡ count_by p (take k cells) + 1
    plus = counts_more cells k x lt is

    keep : (p : Address → Bool) → p x ≡ false → count_by p (take (k + 1) cells) ≡ count_by p (take k cells)
    keep = counts_same cells k x lt is

    each_next : (n : ℕ) → n < size → get_or new n 0 ≡ count_by (λ y. lies_in areas y n) (take (k + 1) cells)
    each_next n ln = elim (cases_Bool (lies_in areas x n)) [
      | inl t ↦
          let m : Contains list n = (are.each n).1 ((tested found areas x n).0 t) in
          more n m ∙ ap (λ v. v + 1) (inv.each n ln) ∙ sym (plus (λ y. lies_in areas y n) t)
      | inr f ↦
          let out : ¬ Contains list n =
          λ m. both_ways (lies_in areas x n) f ((tested found areas x n).1 ((are.each n).0 m)) in
          same n out ∙ inv.each n ln ∙ sym (keep (λ y. lies_in areas y n) f)
    ]

    pub some_next : 0 < length list → IsCountingAll areas cells size new none (k + 1)
    some_next some =
        let d : ℕ = 0 in
        let lies = (are.each (get_or list 0 0)).0 (Contains-get_or list 0 0 some) in
        record {
          size_is = new_size ∙ inv.size_is;
          each = each_next;
          others =
              inv.others
              ∙ sym (keep (λ y. not (is_covered (map (λ p. p.0) areas) y))
              (ap not (area_covers found areas x (get_or list 0 0) lies)));
        }

    pub none_next : length list ≡ 0 → IsCountingAll areas cells size new (none + 1) (k + 1)
    none_next empty = record {
      size_is = new_size ∙ inv.size_is;
      each = each_next;
      others =
          ap (λ v. v + 1) inv.others
          ∙ sym (plus (λ y. not (is_covered (map (λ p. p.0) areas) y))
          (ap not (no_area_covers found areas x (λ n h. let m = (are.each n).1 h in omega (arith, m.1, empty)))));
    }
