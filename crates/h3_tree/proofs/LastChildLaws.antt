-- The last of a cell's descendants: how it is reached, and that the others are the cells from the center one to it.
use Rattle.std.specs.Int.Digits.{AllBelowBase}
use Rattle.std.proofs.Common.{ℕ, zero, suc, ◌≡◌, ◌≢◌, ◌+◌, ◌-◌, ◌*◌, ◌^◌, ◌<◌, ◌≤◌, List, [], ◌∷◌, ◌++◌, length, take, drop, replicate, refl, arith, length-append, lit<, ◌∙◌, sym, ap, subst}
use Rattle.std.proofs.Math.ListN.{length-replicate}
use Rattle.std.proofs.Math.Seq.{take-append_seam}
use Rattle.std.proofs.lemmas.Int.Digits.{number_after_append}
use Rattle.std.proofs.lemmas.List.{append_assoc, length-drop, take-append-drop}
use Rattle.h3_index.specs.Cell.{Address, IsCell, leading, number_of}
use Rattle.h3_index.specs.Descendants.{along, center_descendant, child, ancestor_at, IsDescendant}
use Rattle.h3_tree.specs.LastChild.{last_at, ChildrenFormRanges}
use Rattle.h3_tree.specs.Laws.{CellsFormTrees}
use Rattle.h3_tree.proofs.FollowingLaws.{address_same, not_zero}
use Rattle.h3_tree.proofs.PostOrderLaws.{after, below-drop, inside, number_is, whole_key, whole_small, within}

-- ---- the way down

one_more : (k : ℕ) → ◌++◌ {A = ℕ} (replicate k 6) (6 ∷ []) ≡ replicate (suc k) 6
one_more zero = refl
one_more (suc k) = ap {B = List ℕ} (λ ds. 6 ∷ ds) (one_more k)

-- reached on the way from c down to resolution s
pub record IsOnWay (c : Address) (s : ℕ) (x : Address) : Type 0 where
  pub is : x ≡ last_at c (length x.digits)
  pub not_coarser : length c.digits ≤ length x.digits
  pub not_finer : length x.digits ≤ s

-- ---- its number

-- each digit at most its neighbor
abbrev NoMore : List ℕ → List ℕ → Type 0
NoMore [] ys = Unit {0}
NoMore (x ∷ xs) [] = Unit {0}
NoMore (x ∷ xs) (y ∷ ys) = (x ≤ y) × NoMore xs ys

no_more_same : (xs : List ℕ) → NoMore xs xs
no_more_same [] = tt
no_more_same (x ∷ xs) = (omega arith, no_more_same xs)

no_more_zeros : (k : ℕ) (ds : List ℕ) → NoMore (replicate k 0) ds
no_more_zeros zero ds = tt
no_more_zeros (suc k) [] = tt
no_more_zeros (suc k) (d ∷ ds) = (omega arith, no_more_zeros k ds)

no_more_sixes : (ds : List ℕ) (k : ℕ) → AllBelowBase 7 ds → NoMore ds (replicate k 6)
no_more_sixes [] k h = tt
no_more_sixes (d ∷ ds) zero h = tt
no_more_sixes (d ∷ ds) (suc k) h = (omega (arith, h.0), no_more_sixes ds k h.1)

after_no_more : (m n : ℕ) (xs ys : List ℕ) → m ≤ n → length xs ≡ length ys → NoMore xs ys → after m xs ≤ after n ys
after_no_more m n [] [] le e h = le
after_no_more m n [] (y ∷ ys) le e h = absurd (omega (arith, e))
after_no_more m n (x ∷ xs) [] le e h = absurd (omega (arith, e))
after_no_more m n (x ∷ xs) (y ∷ ys) le e h =
    after_no_more (m * 8 + x) (n * 8 + y) xs ys (omega (arith, le, h.0)) (omega (arith, e)) h.1

-- below one cell, the key with the smaller digits is the smaller one
key_along : (c : Address) (ds : List ℕ)
    → whole_key (along c ds) ≡ after (after (after c.base c.digits) ds) (replicate (15 - length (c.digits ++ ds)) 7)
key_along c ds =
    number_after_append 8 c.base (c.digits ++ ds) (replicate (15 - length (c.digits ++ ds)) 7)
    ∙ ap (λ n. after n (replicate (15 - length (c.digits ++ ds)) 7)) (number_after_append 8 c.base c.digits ds)

key_no_more : (c : Address) (ds es : List ℕ) → length ds ≡ length es → NoMore ds es
    → whole_key (along c ds) ≤ whole_key (along c es)
key_no_more c ds es e h =
    let size : length (c.digits ++ ds) ≡ length (c.digits ++ es) =
    omega (arith, length-append c.digits ds, length-append c.digits es, e) in
    rw (key_along c ds, key_along c es, size) (after_no_more (after (after c.base c.digits) ds)
    (after (after c.base c.digits) es) (replicate (15 - length (c.digits ++ es)) 7)
    (replicate (15 - length (c.digits ++ es)) 7)
    (after_no_more (after c.base c.digits) (after c.base c.digits) ds es (omega arith) e h) refl
    (no_more_same (replicate (15 - length (c.digits ++ es)) 7)))

-- ---- it is a cell

sixes_small : (ds : List ℕ) (k : ℕ) → AllBelowBase 7 ds → AllBelowBase 7 (ds ++ replicate k 6)
sixes_small [] zero h = tt
sixes_small [] (suc k) h = (lit< tt, sixes_small [] k tt)
sixes_small (d ∷ ds) k h = (h.0, sixes_small ds k h.1)

-- further digits 6 make none of the deleted cells
not_deleted : (ds : List ℕ) (k : ℕ) → leading ds ≢ 1 → leading (ds ++ replicate k 6) ≢ 1
not_deleted [] zero h = h
not_deleted [] (suc k) h = λ e. absurd (omega (arith, e))
not_deleted (zero ∷ ds) k h = not_deleted ds k h
not_deleted (suc d ∷ ds) k h = rw (not_zero d) (rw (not_zero d) at h)

last_size : (c : Address) (s d : ℕ) → length c.digits ≤ s → length (c.digits ++ replicate (s - length c.digits) d) ≡ s
last_size c s d le =
    omega (
      arith,
      length-append c.digits (replicate (s - length c.digits) d),
      length-replicate {A = ℕ} (s - length c.digits) d,
      le,
    )

pub last_descendant : (c : Address) (s : ℕ) → IsCell c → length c.digits ≤ s → s ≤ 15 → IsDescendant c s (last_at c s)
last_descendant c s v le fine =
    record {
      valid = record {
        base_small = v.base_small;
        coarse = omega (arith, last_size c s 6 le, fine);
        digits_small = sixes_small c.digits (s - length c.digits) v.digits_small;
        not_deleted = λ t. not_deleted c.digits (s - length c.digits) (v.not_deleted t);
      };
      resolution_is = last_size c s 6 le;
      under =
          address_same (ancestor_at (last_at c s) (length c.digits)) c refl
          (take-append_seam c.digits (replicate (s - length c.digits) 6));
    }

-- ---- the range

-- the digits of a descendant below a cell
record IsBelow (c : Address) (s : ℕ) (x : Address) : Type 0 where
  digits : List ℕ
  is : x ≡ along c digits
  size : length digits ≡ s - length c.digits
  small : AllBelowBase 7 digits

below : (c x : Address) (s : ℕ) → IsDescendant c s x → IsBelow c s x
below c x s h =
    let front : take (length c.digits) x.digits ≡ c.digits = ap (λ y. y.digits) h.under in
    record {
      digits = drop (length c.digits) x.digits;
      is = address_same x (along c (drop (length c.digits) x.digits)) (ap (λ y. y.base) h.under)
          (sym (take-append-drop (length c.digits) x.digits) ∙ ap (λ ys. ys ++ drop (length c.digits) x.digits) front);
      size = omega (arith, length-drop (length c.digits) x.digits, h.resolution_is);
      small = below-drop 7 (length c.digits) x.digits h.valid.digits_small;
    }

-- of two cells of one resolution the one with the smaller key has the smaller number
by_key : (x y : Address) → IsCell x → IsCell y → length x.digits ≡ length y.digits → whole_key x ≤ whole_key y
    → number_of x ≤ number_of y
by_key x y hx hy e h =
    let same : length x.digits * 2 ^ 52 ≡ length y.digits * 2 ^ 52 = ap (λ n. n * 2 ^ 52) e in
    omega (arith, number_is x hx, number_is y hy, same, h)

pub not_before_center : (c x : Address) (s : ℕ) → IsDescendant c s (center_descendant c s) → IsDescendant c s x
    → number_of (center_descendant c s) ≤ number_of x
not_before_center c x s center h =
    let w = below c x s h in
    let size : length {A = ℕ} (replicate (s - length c.digits) 0) ≡ length w.digits =
    length-replicate {A = ℕ} (s - length c.digits) 0 ∙ sym w.size in
    by_key (center_descendant c s) x center.valid h.valid (center.resolution_is ∙ sym h.resolution_is)
    (rw w.is (key_no_more c (replicate (s - length c.digits) 0) w.digits size
    (no_more_zeros (s - length c.digits) w.digits)))

pub not_after_last : (c x : Address) (s : ℕ) → IsCell (last_at c s) → length (last_at c s).digits ≡ s
    → IsDescendant c s x → number_of x ≤ number_of (last_at c s)
not_after_last c x s last long h =
    let w = below c x s h in
    let size : length w.digits ≡ length {A = ℕ} (replicate (s - length c.digits) 6) =
    w.size ∙ sym (length-replicate {A = ℕ} (s - length c.digits) 6) in
    by_key x (last_at c s) h.valid last (h.resolution_is ∙ sym long) (rw w.is (key_no_more c w.digits
    (replicate (s - length c.digits) 6) size (no_more_sixes w.digits (s - length c.digits) w.small)))

-- where the way ends no descendant has a greater number
pub way_end : (c : Address) (s : ℕ) (x y : Address) → IsOnWay c s x → s ≤ length x.digits → IsCell x
    → IsDescendant c s y → number_of y ≤ number_of x
way_end c s x y h end valid below_it =
    let size : length x.digits ≡ s = omega (arith, h.not_finer, end) in
    let is : x ≡ last_at c s = rw size at h.is in
    subst (λ z. number_of y ≤ number_of z) (sym is)
    (not_after_last c y s (subst IsCell is valid) (sym (ap (λ z. length z.digits) is) ∙ size) below_it)

between : (c x : Address) (s : ℕ) → IsCell c → IsCell x → IsDescendant c s (center_descendant c s)
    → IsDescendant c s (last_at c s)
    → (number_of (center_descendant c s) ≤ number_of x) × (number_of x ≤ number_of (last_at c s)) → IsDescendant c s x
between c x s hc hx center last h =
    let low = number_is (center_descendant c s) center.valid in
    let high = number_is (last_at c s) last.valid in
    let own = number_is x hx in
    let size : length x.digits ≡ s =
    omega (
      arith,
      h.0,
      h.1,
      low,
      high,
      own,
      center.resolution_is,
      last.resolution_is,
      whole_small (center_descendant c s) center.valid,
      whole_small (last_at c s) last.valid,
      whole_small x hx,
    ) in
    let from = within c (center_descendant c s) hc center.valid center.under in
    let to = within c (last_at c s) hc last.valid last.under in
    record {
      valid = hx;
      resolution_is = size;
      under =
          inside c x hc hx (
            omega (arith, h.1, high, own, size, last.resolution_is, to.0),
            omega (arith, h.0, low, own, size, center.resolution_is, from.1),
          );
    }

pub ranges : CellsFormTrees → ChildrenFormRanges
ranges t c x s v le fine hx =
    let center = t.center_descendant c s v le fine in (
      λ h. (
        not_before_center c x s center h,
        let last = last_descendant c s v le fine in not_after_last c x s last.valid last.resolution_is h,
      ),
      λ h. between c x s v hx center (last_descendant c s v le fine) h,
    )
