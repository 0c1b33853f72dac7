-- Counting cells by the cell of a region that covers them.
use Rattle.std.specs.List.{count_by, flat_map, sum_by}
use Rattle.std.specs.List.Sorted.{IsPermutation}
use Rattle.std.proofs.Common.{ℕ, zero, suc, ◌++◌, replicate, length-append, take_all, Contains, ◌≡◌, ◌+◌, ◌<◌, ◌≤◌, List, [], ◌∷◌, length, take, drop, set, map, not, sum, Bool, true, false, cond, Some, None, refl, arith, ◌∙◌, sym, ap, subst, inl, inr, get_or}
use Rattle.std.proofs.Math.ListN.{length-set}
use Rattle.std.proofs.Math.Seq.{drop-append_seam, take-append_seam}
use Rattle.std.proofs.lemmas.Bool.{cases_eq}
use Rattle.std.proofs.lemmas.List.{get_or-map, length-map, get_or-set_same, get_or-set_other}
use Rattle.std.proofs.lemmas.List.Elements.{Contains-get_or}
use Rattle.std.proofs.lemmas.List.Sums.{count_by_more_no, count_by_more_yes, get_or-le-sum_by, sum-map, sum_by-append, sum_by-set}
use Rattle.std.proofs.lemmas.List.Sorted.{sum_by-IsPermutation}
use Rattle.h3_index.specs.Cell.{Address}
use Rattle.h3_index.specs.Descendants.{IsAncestor}
use Rattle.h3_set.specs.Coverage.{is_ancestor, is_covered}
use Rattle.h3_set.specs.Laws.{AncestorsAreFound}
use Rattle.h3_regions.specs.Counting.{AreCounts}
use Rattle.h3_regions.specs.Laws.{CountsInParts}
use Rattle.h3_regions.specs.Zones.{StandsAbove}
use Rattle.h3_regions.proofs.ListLaws.{any_default, as_map}
use Rattle.h3_regions.proofs.RegionLaws.{none_above}
use Rattle.h3_regions.proofs.TestLaws.{covered_false, covered_true, not_true}

-- the first k cells are counted
pub record IsCounting (list cells : List Address) (counts : List ℕ) (others k : ℕ) : Type 0 where
  pub size : length counts ≡ length list
  pub each : (i : ℕ) (d : Address) → i < length list
      → get_or counts i 0 ≡ count_by (λ x. is_ancestor (get_or list i d) x) (take k cells)
  pub none : others ≡ count_by (λ x. not (is_covered list x)) (take k cells)
  pub total : sum counts + others ≡ k

-- counts that are at each place what is counted of the cell there
pub as_counts : {X : Type 0} (f : X → ℕ) (list : List X) (counts : List ℕ) → length counts ≡ length list
    → ((i : ℕ) (d : X) → i < length list → get_or counts i 0 ≡ f (get_or list i d)) → counts ≡ map f list
as_counts f list counts size h =
    as_map f list counts size (λ i d e lt. any_default counts i e 0 (omega (arith, lt, size)) ∙ h i d lt)

-- one cell more, which passes a test or does not
module _ (cells : List Address) (k : ℕ) (x : Address) (lt : k < length cells) (is : x ≡ get_or cells k x) where
  pub counts_more : (p : Address → Bool) → p x ≡ true → count_by p (take (k + 1) cells) ≡ count_by p (take k cells) + 1
  counts_more p e = count_by_more_yes p cells k x lt (ap p (sym is) ∙ e)

  pub counts_same : (p : Address → Bool) → p x ≡ false → count_by p (take (k + 1) cells) ≡ count_by p (take k cells)
  counts_same p e = count_by_more_no p cells k x lt (ap p (sym is) ∙ e)

module _ (found : AncestorsAreFound) (list cells : List Address) (counts : List ℕ) (others k : ℕ) (x : Address)
    (lt : k < length cells) (is : x ≡ get_or cells k x) (inv : IsCounting list cells counts others k) where
  yes : (p : Address → Bool) → p x ≡ true → count_by p (take (k + 1) cells) ≡ count_by p (take k cells) + 1
  yes = counts_more cells k x lt is

  no : (p : Address → Bool) → p x ≡ false → count_by p (take (k + 1) cells) ≡ count_by p (take k cells)
  no = counts_same cells k x lt is

  -- the cell at i covers x, and no other does
  pub counted : (i : ℕ) → i < length list → StandsAbove list i x
      → ((j : ℕ) → j < length list → StandsAbove list j x → Some i ≡ Some j)
      → IsCounting list cells (set counts i (get_or counts i 0 + 1)) others (k + 1)
  counted i li above one =
      let room : i < length counts = omega (arith, li, inv.size) in
      let covered = covered_true found list x (get_or list i x) (Contains-get_or list i x li) (above x) in
      record {
        size = length-set counts i (get_or counts i 0 + 1) ∙ inv.size;
        each = λ j d lj. elim (cases_eq j i) [
          | inl e ↦
              let more = yes (λ y. is_ancestor (get_or list i d) y) ((found (get_or list i d) x).1 (above d)) in
              rw (e, get_or-set_same counts i (get_or counts i 0 + 1) 0 room, more) (ap (λ n. n + 1) (inv.each i d li))
          | inr ne ↦
              let miss : is_ancestor (get_or list j d) x ≡ false = not_true (is_ancestor (get_or list j d) x) (λ t. (
              let over : StandsAbove list j x =
              λ d'. subst (λ a. IsAncestor a x) (any_default list j d d' lj) ((found (get_or list j d) x).0 t) in
              let same = one j lj over in
              let eq : i ≡ j = cc in
              ne (sym eq))) in
              rw (
                get_or-set_other counts i j (get_or counts i 0 + 1) 0 ne,
                no (λ y. is_ancestor (get_or list j d) y) miss,
              )
              (inv.each j d lj)
        ];
        none = inv.none ∙ sym (no (λ y. not (is_covered list y)) (ap not covered));
        total = omega (arith, inv.total, sum_by-set (λ n. n) counts i (get_or counts i 0 + 1) 0 room);
      }

  -- no cell covers x
  pub uncounted : ((j : ℕ) → j < length list → StandsAbove list j x → None ≡ Some j)
      → IsCounting list cells counts (others + 1) (k + 1)
  uncounted one =
      let out = none_above list x one in
      let uncovered = covered_false found list x out in
      record {
        size = inv.size;
        each = λ j d lj. (
            let miss : is_ancestor (get_or list j d) x ≡ false =
            not_true (is_ancestor (get_or list j d) x)
            (λ t. out (get_or list j d) (Contains-get_or list j d lj) ((found (get_or list j d) x).0 t)) in
            inv.each j d lj ∙ sym (no (λ y. is_ancestor (get_or list j d) y) miss));
        none = ap (λ n. n + 1) inv.none ∙ sym (yes (λ y. not (is_covered list y)) (ap not uncovered));
        total = omega (arith, inv.total);
      }

-- ---- one cell more

pub take_all_of : (cells more : List Address) → take (length cells) (cells ++ more) ≡ cells
take_all_of [] more = refl
take_all_of (x ∷ cells) more = ap (λ l. x ∷ l) (take_all_of cells more)

pub all_of_one : (cells : List Address) (x : Address) → take (length cells + 1) (cells ++ x ∷ []) ≡ cells ++ x ∷ []
all_of_one cells x = take_all (length cells + 1) (cells ++ x ∷ []) (omega (arith, length-append cells (x ∷ [])))

pub at_end : (cells : List Address) (x : Address) → x ≡ get_or (cells ++ x ∷ []) (length cells) x
at_end [] x = refl
at_end (y ∷ cells) x = at_end cells x

-- counts of a list, as the first cells of a longer one
begun : (list cells more : List Address) (counts : List ℕ) (others : ℕ) → AreCounts list cells counts others
    → IsCounting list (cells ++ more) counts others (length cells)
begun list cells more counts others h =
    record {
      size = ap length h.each ∙ length-map list (λ zone. count_by (λ x. is_ancestor zone x) cells);
      each = λ i d lt.
          rw (take_all_of cells more) (ap (λ l. get_or l i 0) h.each
          ∙ get_or-map (λ zone. count_by (λ x. is_ancestor zone x) cells) list i d 0 lt);
      none = rw (take_all_of cells more) h.none;
      total = h.all;
    }

ended : (list cells : List Address) (x : Address) (counts : List ℕ) (others : ℕ)
    → IsCounting list (cells ++ x ∷ []) counts others (length cells + 1)
    → AreCounts list (cells ++ x ∷ []) counts others
ended list cells x counts others h =
    let whole = all_of_one cells x in
    record {
      each =
          as_counts (λ a. count_by (λ y. is_ancestor a y) (cells ++ x ∷ [])) list counts h.size
          (λ i d lt. rw whole at (h.each i d lt));
      none = rw whole at h.none;
      all = omega (arith, h.total, length-append cells (x ∷ []));
    }

module _ (found : AncestorsAreFound) (list : List Address) (counts : List ℕ) (others : ℕ) (x : Address) where
  pub one_counted : (i : ℕ) → i < length list → StandsAbove list i x
      → ((j : ℕ) → j < length list → StandsAbove list j x → Some i ≡ Some j)
      → (cells : List Address) → AreCounts list cells counts others
      → AreCounts list (cells ++ x ∷ []) (set counts i (get_or counts i 0 + 1)) others
  one_counted i li above one cells h =
      ended list cells x _ _ (counted found list (cells ++ x ∷ []) counts others (length cells) x
      (omega (arith, length-append cells (x ∷ []))) (at_end cells x) (begun list cells (x ∷ []) counts others h) i
      li above one)

  pub one_uncounted : ((j : ℕ) → j < length list → StandsAbove list j x → None ≡ Some j) → (cells : List Address)
      → AreCounts list cells counts others → AreCounts list (cells ++ x ∷ []) counts (others + 1)
  one_uncounted one cells h =
      ended list cells x _ _ (uncounted found list (cells ++ x ∷ []) counts others (length cells) x
      (omega (arith, length-append cells (x ∷ []))) (at_end cells x) (begun list cells (x ∷ []) counts others h)
      one)

-- the count of a zone stands at its place
pub count_at : (list cells : List Address) (counts : List ℕ) (others : ℕ) (z : Address) (m : Contains list z)
    → AreCounts list cells counts others → get_or counts m.0 0 ≡ count_by (λ x. is_ancestor z x) cells
count_at list cells counts others z m h =
    ap (λ l. get_or l m.0 0) h.each ∙ get_or-map (λ zone. count_by (λ x. is_ancestor zone x) cells) list m.0 z 0 m.1
    ∙ ap (λ zone. count_by (λ x. is_ancestor zone x) cells) m.2

zeros : (list : List Address) → replicate {A = ℕ} (length list) 0 ≡ map (λ zone. 0) list
zeros [] = refl
zeros (x ∷ list) = ap (λ l. 0 ∷ l) (zeros list)

pub no_sum : (n : ℕ) → sum (replicate {A = ℕ} n 0) ≡ 0
no_sum zero = refl
no_sum (suc n) = no_sum n

pub none_counted : (list : List Address) → AreCounts list [] (replicate {A = ℕ} (length list) 0) 0
none_counted list = record { each = zeros list; none = refl; all = omega (arith, no_sum (length list)) }

-- no cell is counted at first
pub counting_begins : (list cells : List Address) → IsCounting list cells (replicate {A = ℕ} (length list) 0) 0 0
counting_begins list cells = begun list [] cells (replicate {A = ℕ} (length list) 0) 0 (none_counted list)

-- a count, and one more there, in the sum of all
pub within_all : (counts : List ℕ) (i : ℕ) → i < length counts → get_or counts i 0 ≤ sum counts
within_all counts i lt = get_or-le-sum_by (λ n. n) counts i 0 lt

pub one_more : (counts : List ℕ) (i : ℕ) → i < length counts
    → sum (set counts i (get_or counts i 0 + 1)) ≡ sum counts + 1
one_more counts i lt = omega (arith, sum_by-set (λ n. n) counts i (get_or counts i 0 + 1) 0 lt)

-- the counts of all zones, and what stands after them
pub counts_first : (n : ℕ) (counts rest : List ℕ) → length counts ≡ n → take n (counts ++ rest) ≡ counts
counts_first n counts rest e = subst (λ m. take m (counts ++ rest) ≡ counts) e (take-append_seam counts rest)

pub rest_after : (n : ℕ) (counts rest : List ℕ) → length counts ≡ n → drop n (counts ++ rest) ≡ rest
rest_after n counts rest e = subst (λ m. drop m (counts ++ rest) ≡ rest) e (drop-append_seam counts rest)

-- ---- in parts

sum_of_parts : (f : Address → ℕ) (parts : List (List Address))
    → sum_by f (flat_map (λ part. part) parts) ≡ sum_by (sum_by f) parts
sum_of_parts f [] = refl
sum_of_parts f (part ∷ parts) =
    let first = sum_by-append f part (flat_map (λ part. part) parts) in
    let rest = sum_of_parts f parts in
    let all = sum_by-append (sum_by f) (part ∷ []) parts in
    let one : sum_by (sum_by f) (part ∷ []) ≡ sum_by f part = omega arith in
    omega (arith, first, rest, all, one)

pub parts_add_up : (p : Address → Bool) (cells : List Address) (parts : List (List Address))
    → IsPermutation cells (flat_map (λ part. part) parts) → count_by p cells ≡ sum (map (count_by p) parts)
parts_add_up p cells parts same =
    sym (sum_by-IsPermutation (λ x. cond (p x) 1 0) cells (flat_map (λ part. part) parts) same)
    ∙ sum_of_parts (λ x. cond (p x) 1 0) parts ∙ sym (sum-map (count_by p) parts)

pub counts_in_parts : CountsInParts
counts_in_parts = record {
  zone = λ zone cells parts same. parts_add_up (λ x. is_ancestor zone x) cells parts same;
  others = λ zones cells parts same. parts_add_up (λ x. not (is_covered zones x)) cells parts same;
}
