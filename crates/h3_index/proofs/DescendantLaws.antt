-- The list of a cell's descendants: its members, its order and its length.
use Rattle.std.specs.Int.Digits.{number_from_digits, AllBelowBase}
use Rattle.std.proofs.Common.{ℕ, zero, suc, ◌≡◌, ◌≢◌, ◌+◌, ◌-◌, ◌*◌, ◌/◌, ◌^◌, ◌<◌, ◌≤◌, ◌==◌, List, [], ◌∷◌, ◌++◌, length, take, drop, map, replicate, Bool, true, false, ◌&&◌, refl, arith, ◌∙◌, sym, ap, subst, inl, inr, length-append, get_or, Contains, AllPairs}
use Rattle.std.proofs.Math.Nat.{one-le-pow}
use Rattle.std.proofs.Math.Seq.{take-append_seam}
use Rattle.std.proofs.lemmas.Bool.{cases_eq}
use Rattle.std.proofs.lemmas.Bool.Decides.{nat_tests}
use Rattle.std.proofs.lemmas.List.{length-drop, take-append-drop}
use Rattle.std.proofs.lemmas.List.Elements.{Contains-get_or}
use Rattle.std.proofs.lemmas.Nat.{mul-le}
use Rattle.h3_index.specs.Cell.{Address, IsCell, leading, is_pentagon, is_pentagon_base, number_of}
use Rattle.h3_index.specs.Descendants.{along, ancestor_at, descendants, IsDescendant}
use Rattle.h3_index.specs.Laws.{DescendantsAreListed}
use Rattle.h3_index.specs.Paths.{paths}
use Rattle.h3_index.proofs.AncestorLaws.{not_zero, address_same, below_append}
use Rattle.h3_index.proofs.ChainLaws.{count, count_pentagon}
use Rattle.h3_index.proofs.DigitsLaws.{number_append}
use Rattle.h3_index.proofs.PathLaws.{IsPath, in_map, from_map, in_paths, from_paths, rising_paths}

pub leading_after : (xs ys : List ℕ) → leading xs ≡ 0 → leading (xs ++ ys) ≡ leading ys
leading_after [] ys h = refl
leading_after (zero ∷ xs) ys h = leading_after xs ys h
leading_after (suc x ∷ xs) ys h = let z = not_zero x in absurd (omega (arith, rw z at h))

pub leading_before : (xs ys : List ℕ) → leading xs ≢ 0 → leading (xs ++ ys) ≡ leading xs
leading_before [] ys h = absurd (h refl)
leading_before (zero ∷ xs) ys h = leading_before xs ys h
leading_before (suc x ∷ xs) ys h = let z = not_zero x in rw z refl

pub both_true : (a b : Bool) → (a && b) ≡ true → (a ≡ true) × (b ≡ true)
both_true true b h = (refl, h)
both_true false b h = cc

pub true_both : (a b : Bool) → a ≡ true → b ≡ true → (a && b) ≡ true
true_both true true h k = refl
true_both true false h k = cc
true_both false b h k = cc

pub is_zero : (n : ℕ) → (n == 0) ≡ true → n ≡ 0
is_zero n h = grind (arith, nat_tests)

pub zero_is : (n : ℕ) → n ≡ 0 → (n == 0) ≡ true
zero_is n h = rw h refl

pub below_drop : (k : ℕ) (xs : List ℕ) → AllBelowBase 7 xs → AllBelowBase 7 (drop k xs)
below_drop zero xs h = h
below_drop (suc k) [] h = tt
below_drop (suc k) (x ∷ xs) h = below_drop k xs h.1

-- the digits below an ancestor
pub path_of : (c x : Address) (s : ℕ) → IsDescendant c s x
    → IsPath (is_pentagon c) (s - length c.digits) (drop (length c.digits) x.digits)
    × (along c (drop (length c.digits) x.digits) ≡ x)
path_of c x s h =
    let front : take (length c.digits) x.digits ≡ c.digits = ap (λ y. y.digits) h.under in
    let whole : c.digits ++ drop (length c.digits) x.digits ≡ x.digits =
    ap (λ ys. ys ++ drop (length c.digits) x.digits) (sym front) ∙ take-append-drop (length c.digits) x.digits in
    let base : x.base ≡ c.base = ap (λ y. y.base) h.under in
    let path : IsPath (is_pentagon c) (s - length c.digits) (drop (length c.digits) x.digits) = record {
      long = omega (arith, length-drop (length c.digits) x.digits, h.resolution_is);
      small = below_drop (length c.digits) x.digits h.valid.digits_small;
      not_one = λ t e.
          let b = both_true (is_pentagon_base c.base) (leading c.digits == 0) t in
          h.valid.not_deleted (rw base b.0) (ap leading (sym whole)
          ∙ leading_after c.digits (drop (length c.digits) x.digits) (is_zero (leading c.digits) b.1) ∙ e);
    } in
    (path, address_same (along c (drop (length c.digits) x.digits)) x (sym base) whole)

-- the list of the descendants has them all, and no other
pub in_descendants : (c x : Address) (s : ℕ) → IsDescendant c s x → Contains (descendants c s) x
unfolding descendants
in_descendants c x s h =
    let w = path_of c x s h in
    subst (Contains (map (along c) (paths (is_pentagon c) (s - length c.digits)))) w.1 (in_map (along c)
    (paths (is_pentagon c) (s - length c.digits)) (drop (length c.digits) x.digits)
    (in_paths (is_pentagon c) (s - length c.digits) (drop (length c.digits) x.digits) w.0))

pub along_descendant : (c : Address) (s : ℕ) (ds : List ℕ) → IsCell c → length c.digits ≤ s → s < 16
    → IsPath (is_pentagon c) (s - length c.digits) ds → IsDescendant c s (along c ds)
along_descendant c s ds v le fine h =
    let size : length (c.digits ++ ds) ≡ s = omega (arith, length-append c.digits ds, h.long) in
    record {
      valid = record {
        base_small = v.base_small;
        coarse = omega (arith, size);
        digits_small = below_append c.digits ds v.digits_small h.small;
        not_deleted = λ t e. elim (cases_eq (leading c.digits) 0) [
          | inl z ↦
              h.not_one (true_both (is_pentagon_base c.base) (leading c.digits == 0) t (zero_is (leading c.digits) z))
              (sym (leading_after c.digits ds z) ∙ e)
          | inr z ↦ v.not_deleted t (sym (leading_before c.digits ds z) ∙ e)
        ];
      };
      resolution_is = size;
      under = address_same (ancestor_at (along c ds) (length c.digits)) c refl (take-append_seam c.digits ds);
    }

pub from_descendants : (c x : Address) (s : ℕ) → IsCell c → length c.digits ≤ s → s < 16 → Contains (descendants c s) x
    → IsDescendant c s x
unfolding descendants
from_descendants c x s v le fine m =
    let w = from_map (along c) (paths (is_pentagon c) (s - length c.digits)) x m in
    subst (IsDescendant c s) w.2
    (along_descendant c s w.0 v le fine (from_paths (is_pentagon c) (s - length c.digits) w.0 w.1))

pub listed : DescendantsAreListed
listed c s v le fine x = (λ m. from_descendants c x s v le (omega (arith, fine)) m, λ h. in_descendants c x s h)

-- ---- the order

scaled : (a b q t : ℕ) → a < b → 1 ≤ q → a * q + t < b * q + t
scaled a b q t h k =
    let more : suc a * q ≤ b * q = mul-le (suc a) q b q h (omega arith) in
    let spread : suc a * q ≡ a * q + q = grind arith in
    omega (arith, more, spread, k)

-- at one base cell and one resolution, the digits decide
pub number_rises : (b : ℕ) (xs ys : List ℕ) → length xs ≡ length ys → number_from_digits 8 xs < number_from_digits 8 ys
    → number_of (record { base = b; digits = xs }) < number_of (record { base = b; digits = ys })
unfolding number_of
number_rises b xs ys e h =
    let k = 15 - length ys in
    let s =
    scaled (number_from_digits 8 xs) (number_from_digits 8 ys) (8 ^ length {A = ℕ} (replicate (15 - length ys) 7))
    (number_from_digits 8 (replicate (15 - length ys) 7)) h
    (one-le-pow (length {A = ℕ} (replicate (15 - length ys) 7)) 8 (omega arith)) in
    rw (e, number_append xs (replicate (15 - length ys) 7), number_append ys (replicate (15 - length ys) 7))
    (omega (arith, s))

get_map : {A B : Type 0} (f : A → B) (xs : List A) (k : ℕ) (d : B) (e : A) → k < length (map f xs)
    → (k < length xs) × (get_or (map f xs) k d ≡ f (get_or xs k e))
get_map f [] k d e lt = absurd (omega (arith, lt))
get_map f (x ∷ xs) zero d e lt = (omega arith, refl)
get_map f (x ∷ xs) (suc k) d e lt = let t = get_map f xs k d e (omega (arith, lt)) in (omega (arith, t.0), t.1)

behind : (c a b : List ℕ) → length a ≡ length b → number_from_digits 8 a < number_from_digits 8 b
    → number_from_digits 8 (c ++ a) < number_from_digits 8 (c ++ b)
behind c a b e h = rw (number_append c a, number_append c b, e) (omega (arith, h))

pub rising_descendants : (c : Address) (s : ℕ) → AllPairs (λ a b. number_of a < number_of b) (descendants c s)
unfolding descendants
rising_descendants c s i j d lt lj =
    let p = is_pentagon c in
    let n = s - length c.digits in
    let vj = get_map (along c) (paths (is_pentagon c) (s - length c.digits)) j d [] lj in
    let vi = get_map (along c) (paths (is_pentagon c) (s - length c.digits)) i d [] (omega (arith, lt, lj)) in
    let a = get_or (paths (is_pentagon c) (s - length c.digits)) i [] in
    let b = get_or (paths (is_pentagon c) (s - length c.digits)) j [] in
    let la =
    (from_paths (is_pentagon c) (s - length c.digits) _
    (Contains-get_or (paths (is_pentagon c) (s - length c.digits)) i [] vi.0)).long in
    let lb =
    (from_paths (is_pentagon c) (s - length c.digits) _
    (Contains-get_or (paths (is_pentagon c) (s - length c.digits)) j [] vj.0)).long in
    let more = rising_paths (is_pentagon c) (s - length c.digits) i j [] lt vj.0 in
    let same : length a ≡ length b = la ∙ sym lb in
    rw (vi.1, vj.1) (number_rises c.base (c.digits ++ a) (c.digits ++ b)
    (omega (arith, length-append c.digits a, length-append c.digits b, same)) (behind c.digits a b same more))

-- ---- how many

pub length-along : (c : Address) (xs : List (List ℕ)) → length (map (along c) xs) ≡ length xs
length-along c [] = refl
length-along c (x ∷ xs) = ap suc (length-along c xs)

pub length-descendants : (c : Address) (s : ℕ)
    → length (descendants c s) ≡ length (paths (is_pentagon c) (s - length c.digits))
unfolding descendants
length-descendants c s = length-along c (paths (is_pentagon c) (s - length c.digits))

size_of : (p : Bool) (n : ℕ) → p ≡ false → length (paths p n) ≡ 7 ^ n
size_of p n h = rw h (count n)

size_pentagon_of : (p : Bool) (n : ℕ) → p ≡ true → length (paths p n) ≡ 1 + 5 * ((7 ^ n - 1) / 6)
size_pentagon_of p n h = rw h (count_pentagon n)

pub size_hexagon : (c : Address) (s : ℕ) → is_pentagon c ≡ false → length (descendants c s) ≡ 7 ^ (s - length c.digits)
size_hexagon c s h = length-descendants c s ∙ size_of (is_pentagon c) (s - length c.digits) h

pub size_pentagon : (c : Address) (s : ℕ) → is_pentagon c ≡ true
    → length (descendants c s) ≡ 1 + 5 * ((7 ^ (s - length c.digits) - 1) / 6)
size_pentagon c s h = length-descendants c s ∙ size_pentagon_of (is_pentagon c) (s - length c.digits) h
