-- The paths: which digit lists they are, and that their numbers ascend.
use Rattle.std.specs.List.{flat_map}
use Rattle.std.specs.Int.Digits.{number_from_digits, AllBelowBase}
use Rattle.std.proofs.Common.{ℕ, zero, suc, ◌≡◌, ◌≢◌, ◌+◌, ◌*◌, ◌^◌, ◌<◌, ◌≤◌, ◌==◌, List, [], ◌∷◌, length, map, replicate, Bool, true, false, ◌&&◌, Option, Some, None, if◌then◌else◌, refl, arith, sym, ap, subst, inl, inr, get_or, Contains, All, AllPairs}
use Rattle.std.proofs.lemmas.Int.Digits.{number_lt}
use Rattle.std.proofs.lemmas.List.Elements.{Contains-append_left, Contains-append_right, Contains-append_cases, Contains-get_or}
use Rattle.std.proofs.lemmas.Nat.{mul-le}
use Rattle.std.proofs.Math.ListN.{length-replicate}
use Rattle.h3_index.specs.Cell.{leading}
use Rattle.h3_index.specs.Paths.{steps, paths, next_step, next_below, next_path, AreLinked}
use Rattle.h3_index.proofs.AncestorLaws.{not_zero}
use Rattle.h3_index.proofs.ChainLaws.{chain}
use Rattle.h3_index.proofs.DigitsLaws.{number_first, number_zeros}

-- the digits that lead n levels down
pub record IsPath (p : Bool) (n : ℕ) (ds : List ℕ) : Type 0 where
  pub long : length ds ≡ n
  pub small : AllBelowBase 7 ds
  pub not_one : p ≡ true → leading ds ≢ 1

pub in_map : {A B : Type 0} (f : A → B) (xs : List A) (x : A) → Contains xs x → Contains (map f xs) (f x)
in_map f [] x m = absurd (omega (arith, m.1))
in_map f (y ∷ xs) x (zero, lt, e) = (0, omega arith, ap f e)
in_map f (y ∷ xs) x (suc k, lt, e) =
    let t = in_map f xs x (k, omega (arith, lt), e) in (suc t.0, omega (arith, t.1), t.2)

pub from_map : {A B : Type 0} (f : A → B) (xs : List A) (y : B) → Contains (map f xs) y
    → (x : A) × Contains xs x × (f x ≡ y)
from_map f [] y m = absurd (omega (arith, m.1))
from_map f (x ∷ xs) y (zero, lt, e) = (x, (0, omega arith, refl), e)
from_map f (x ∷ xs) y (suc k, lt, e) =
    let t = from_map f xs y (k, omega (arith, lt), e) in (t.0, (suc t.1.0, omega (arith, t.1.1), t.1.2), t.2)

pub in_flat : {A B : Type 0} (f : A → List B) (xs : List A) (x : A) (y : B) → Contains xs x → Contains (f x) y
    → Contains (flat_map f xs) y
in_flat f [] x y m n = absurd (omega (arith, m.1))
in_flat f (z ∷ xs) x y (zero, lt, e) n =
    Contains-append_left (f z) (flat_map f xs) y (subst (λ v. Contains (f v) y) (sym e) n)
in_flat f (z ∷ xs) x y (suc k, lt, e) n =
    Contains-append_right (f z) (flat_map f xs) y (in_flat f xs x y (k, omega (arith, lt), e) n)

pub from_flat : {A B : Type 0} (f : A → List B) (xs : List A) (y : B) → Contains (flat_map f xs) y
    → (x : A) × Contains xs x × Contains (f x) y
from_flat f [] y m = absurd (omega (arith, m.1))
from_flat f (z ∷ xs) y m =
    elim (Contains-append_cases (f z) (flat_map f xs) y m) [
      | inl n ↦ (z, (0, omega arith, refl), n)
      | inr n ↦ let t = from_flat f xs y n in (t.0, (suc t.1.0, omega (arith, t.1.1), t.1.2), t.2)
    ]

pub in_steps : (p : Bool) (d : ℕ) → d < 7 → (p ≡ true → d ≢ 1) → Contains (steps p) d
in_steps false zero lt h = (0, omega arith, refl)
in_steps false (suc zero) lt h = (1, omega arith, refl)
in_steps false (suc (suc zero)) lt h = (2, omega arith, refl)
in_steps false (suc (suc (suc zero))) lt h = (3, omega arith, refl)
in_steps false (suc (suc (suc (suc zero)))) lt h = (4, omega arith, refl)
in_steps false (suc (suc (suc (suc (suc zero))))) lt h = (5, omega arith, refl)
in_steps false (suc (suc (suc (suc (suc (suc zero)))))) lt h = (6, omega arith, refl)
in_steps false (suc (suc (suc (suc (suc (suc (suc d))))))) lt h = absurd (omega (arith, lt))
in_steps true zero lt h = (0, omega arith, refl)
in_steps true (suc zero) lt h = absurd (h refl refl)
in_steps true (suc (suc zero)) lt h = (1, omega arith, refl)
in_steps true (suc (suc (suc zero))) lt h = (2, omega arith, refl)
in_steps true (suc (suc (suc (suc zero)))) lt h = (3, omega arith, refl)
in_steps true (suc (suc (suc (suc (suc zero))))) lt h = (4, omega arith, refl)
in_steps true (suc (suc (suc (suc (suc (suc zero)))))) lt h = (5, omega arith, refl)
in_steps true (suc (suc (suc (suc (suc (suc (suc d))))))) lt h = absurd (omega (arith, lt))

pub from_steps : (p : Bool) (d : ℕ) → Contains (steps p) d → (d < 7) × (p ≡ true → d ≢ 1)
from_steps false d (zero, lt, e) = (omega (arith, e), λ f. cc)
from_steps false d ((suc zero), lt, e) = (omega (arith, e), λ f. cc)
from_steps false d ((suc (suc zero)), lt, e) = (omega (arith, e), λ f. cc)
from_steps false d ((suc (suc (suc zero))), lt, e) = (omega (arith, e), λ f. cc)
from_steps false d ((suc (suc (suc (suc zero)))), lt, e) = (omega (arith, e), λ f. cc)
from_steps false d ((suc (suc (suc (suc (suc zero))))), lt, e) = (omega (arith, e), λ f. cc)
from_steps false d ((suc (suc (suc (suc (suc (suc zero)))))), lt, e) = (omega (arith, e), λ f. cc)
from_steps false d ((suc (suc (suc (suc (suc (suc (suc k))))))), lt, e) = absurd (omega (arith, lt))
from_steps true d (zero, lt, e) = (omega (arith, e), λ _ f. omega (arith, e, f))
from_steps true d ((suc zero), lt, e) = (omega (arith, e), λ _ f. omega (arith, e, f))
from_steps true d ((suc (suc zero)), lt, e) = (omega (arith, e), λ _ f. omega (arith, e, f))
from_steps true d ((suc (suc (suc zero))), lt, e) = (omega (arith, e), λ _ f. omega (arith, e, f))
from_steps true d ((suc (suc (suc (suc zero)))), lt, e) = (omega (arith, e), λ _ f. omega (arith, e, f))
from_steps true d ((suc (suc (suc (suc (suc zero))))), lt, e) = (omega (arith, e), λ _ f. omega (arith, e, f))
from_steps true d ((suc (suc (suc (suc (suc (suc k)))))), lt, e) = absurd (omega (arith, lt))

pub rule_down : (p : Bool) (d : ℕ) (ds : List ℕ) → (p ≡ true → leading (d ∷ ds) ≢ 1) → (p && d == 0) ≡ true
    → leading ds ≢ 1
rule_down false d ds h e = cc
rule_down true zero ds h e = h refl
rule_down true (suc d) ds h e = let z = not_zero d in let e' : (suc d == 0) ≡ true = e in cc

pub rule_up : (p : Bool) (d : ℕ) (ds : List ℕ) → (p ≡ true → d ≢ 1) → ((p && d == 0) ≡ true → leading ds ≢ 1) → p ≡ true
    → leading (d ∷ ds) ≢ 1
rule_up false d ds h k e = cc
rule_up true zero ds h k e = k refl
rule_up true (suc d) ds h k e = let z = not_zero d in rw z (h refl)

pub in_paths : (p : Bool) (n : ℕ) (ds : List ℕ) → IsPath p n ds → Contains (paths p n) ds
unfolding paths
in_paths p zero [] h = (0, omega arith, refl)
in_paths p zero (d ∷ ds) h = absurd (omega (arith, h.long))
in_paths p (suc n) [] h = absurd (omega (arith, h.long))
in_paths p (suc n) (d ∷ ds) h =
    let rest : IsPath (p && d == 0) n ds =
    record { long = omega (arith, h.long); small = h.small.1; not_one = rule_down p d ds h.not_one } in
    in_flat (λ e. map (λ es. e ∷ es) (paths (p && e == 0) n)) (steps p) d (d ∷ ds)
    (in_steps p d h.small.0 (λ e f. h.not_one e (rw f refl)))
    (in_map (λ es. d ∷ es) (paths (p && d == 0) n) ds (in_paths (p && d == 0) n ds rest))

pub from_paths : (p : Bool) (n : ℕ) (ds : List ℕ) → Contains (paths p n) ds → IsPath p n ds
unfolding paths
from_paths p zero ds (zero, lt, e) =
    subst (IsPath p 0) e (record { long = refl; small = tt; not_one = λ _ f. omega (arith, f) })
from_paths p zero ds (suc k, lt, e) = absurd (omega (arith, lt))
from_paths p (suc n) ds m =
    let a = from_flat (λ e. map (λ es. e ∷ es) (paths (p && e == 0) n)) (steps p) ds m in
    let b = from_map (λ es. a.0 ∷ es) (paths (p && a.0 == 0) n) ds a.2 in
    let ih = from_paths (p && a.0 == 0) n b.0 b.1 in
    let st = from_steps p a.0 a.1 in
    subst (IsPath p (suc n)) b.2
    (record { long = ap suc ih.long; small = (st.0, ih.small); not_one = rule_up p a.0 b.0 st.1 ih.not_one })

-- ---- the order

over_more : (p : Bool) (d : ℕ) → d < next_step p d
over_more true zero = omega arith
over_more true (suc d) = let z = not_zero d in rw z (omega arith)
over_more false d = omega arith

carry_over : (p : Bool) (d n : ℕ) (ds : List ℕ) (y : List ℕ) (b : Bool) → length ds ≡ n → AllBelowBase 8 ds
    → (if b then None else Some (next_step p d ∷ replicate n 0)) ≡ Some y
    → (number_from_digits 8 (d ∷ ds) < number_from_digits 8 y) × (length y ≡ suc n)
carry_over p d n ds y true e all h = cc
carry_over p d n ds y false e all h =
    let is : y ≡ next_step p d ∷ replicate n 0 = cc in
    let size = length-replicate {A = ℕ} n 0 in
    let low : number_from_digits 8 ds < 8 ^ n = rw e at (number_lt 8 ds all) in
    let more : suc d * 8 ^ n ≤ next_step p d * 8 ^ n =
    mul-le (suc d) (8 ^ n) (next_step p d) (8 ^ n) (over_more p d) (omega arith) in
    let spread : suc d * 8 ^ n ≡ d * 8 ^ n + 8 ^ n = grind arith in
    rw (is, number_first d ds, number_first (next_step p d) (replicate n 0), size, e, number_zeros n)
    (omega (arith, low, more, spread), omega (arith, size))

-- the next digits make a larger number
carry_rises : (p : Bool) (d n : ℕ) (ds : List ℕ) (r : Option (List ℕ)) (y : List ℕ) → length ds ≡ n → AllBelowBase 8 ds
    → next_below p d n r ≡ Some y
    → ((es : List ℕ) → r ≡ Some es → (number_from_digits 8 ds < number_from_digits 8 es) × (length es ≡ n))
    → (number_from_digits 8 (d ∷ ds) < number_from_digits 8 y) × (length y ≡ suc n)
carry_rises p d n ds (Some es) y e all h ih =
    let is : y ≡ d ∷ es = cc in
    let i = ih es refl in
    let size : length es ≡ length ds = omega (arith, i.1, e) in
    rw (is, number_first d ds, number_first d es, size) (omega (arith, i.0), omega (arith, e))
carry_rises p d n ds None y e all h ih = carry_over p d n ds y (d == 6) e all h

pub after_rises : (p : Bool) (x y : List ℕ) → AllBelowBase 8 x → next_path p x ≡ Some y
    → (number_from_digits 8 x < number_from_digits 8 y) × (length y ≡ length x)
after_rises p [] y all h = cc
after_rises p (d ∷ ds) y all h =
    carry_rises p d (length ds) ds (next_path (p && d == 0) ds) y refl all.1 h
    (λ es e. after_rises (p && d == 0) ds es all.1 e)

wider : (ds : List ℕ) → AllBelowBase 7 ds → AllBelowBase 8 ds
wider [] h = tt
wider (d ∷ ds) h = (omega (arith, h.0), wider ds h.1)

cons_pairs : {A : Type 0} (n : A → ℕ) (x : A) (xs : List A) → All (λ y. n x < n y) xs → AllPairs (λ a b. n a < n b) xs
    → AllPairs (λ a b. n a < n b) (x ∷ xs)
cons_pairs n x xs h k zero zero d lt lj = absurd (omega (arith, lt))
cons_pairs n x xs h k zero (suc j) d lt lj = h j d (omega (arith, lj))
cons_pairs n x xs h k (suc i) zero d lt lj = absurd (omega (arith, lt))
cons_pairs n x xs h k (suc i) (suc j) d lt lj = k i j d (omega (arith, lt)) (omega (arith, lj))

all_cons : {A : Type 0} (P : A → Type 0) (x : A) (xs : List A) → P x → All P xs → All P (x ∷ xs)
all_cons P x xs h k zero d lt = h
all_cons P x xs h k (suc i) d lt = k i d (omega (arith, lt))

rises : (p : Bool) (x : List ℕ) (xs : List (List ℕ)) (z : Option (List ℕ)) → AllBelowBase 7 x → All (AllBelowBase 7) xs
    → AreLinked (next_path p) x xs z
    → All (λ y. number_from_digits 8 x < number_from_digits 8 y) xs
    × AllPairs (λ a b. number_from_digits 8 a < number_from_digits 8 b) (x ∷ xs)
rises p x [] z h all l = ((λ i d lt. absurd (omega (arith, lt))), (λ i j d lt lj. absurd (omega (arith, lt, lj))))
rises p x (y ∷ ys) z h all l =
    let small : AllBelowBase 7 y = all 0 y (omega arith) in
    let more = (after_rises p x y (wider x h) l.0).0 in
    let ih = rises p y ys z small (λ i d lt. all (suc i) d (omega (arith, lt))) l.1 in
    let far : All (λ w. number_from_digits 8 x < number_from_digits 8 w) (y ∷ ys) =
    all_cons (λ w. number_from_digits 8 x < number_from_digits 8 w) y ys more
    (λ i d lt. omega (arith, more, ih.0 i d lt)) in
    (far, cons_pairs (λ ds. number_from_digits 8 ds) x (y ∷ ys) far ih.1)

pub rising_paths : (p : Bool) (n : ℕ) → AllPairs (λ a b. number_from_digits 8 a < number_from_digits 8 b) (paths p n)
rising_paths p n =
    let c = chain p n in
    let small : All (AllBelowBase 7) (paths p n) =
    λ i d lt. (from_paths p n (get_or (paths p n) i d) (Contains-get_or (paths p n) i d lt)).small in
    let small' : All (AllBelowBase 7) (replicate n 0 ∷ c.others) = subst (All (AllBelowBase 7)) c.is small in
    rw c.is (rises p (replicate n 0) c.others None (small' 0 (replicate n 0) (omega arith))
    (λ i d lt. small' (suc i) d (omega (arith, lt))) c.links).1
