-- Sums of a digit list and a direction: one sum, its reverse, its turns, and triangles.
use Rattle.std.proofs.Common.{rules, ◌≡◌, ◌-◌, ◌<◌, ◌≤◌, ◌++◌, take, get_or, length-append, ℕ, zero, suc, ◌+◌, refl, arith, sym, ap, subst, ◌∙◌, Option, Some, None, List, [], ◌∷◌, length, map, drop, set, option_map}
use Rattle.std.specs.Int.Digits.{AllBelowBase}
use Rattle.std.proofs.Math.Seq.{take-suc}
use Rattle.std.proofs.lemmas.List.{append_assoc, drop_all, drop-set, length-map, length-take-le, set_split, take_all, take-set}
use Rattle.h3_directions.specs.declared.direction.Direction.{Direction}
use Rattle.h3_directions.specs.declared.direction.Direction.TheVariants.{K, J, JK, I, IK, IJ}
use Rattle.h3_lattice.specs.declared.class.Class.{Class}
use Rattle.h3_lattice.specs.declared.class.Class.TheVariants.{Two, Three}
use Rattle.h3_directions.specs.Eisenstein.{Eisenstein, minus_one, product_of, sum_of, zero_point}
use Rattle.h3_directions.specs.Direction.{digit_or_zero, digit_turned, digit_value, direction_of, opposite, turned, turned_once, unit_of, value_of}
use Rattle.h3_lattice.specs.Class.{class_at, multiplier, IsCarry}
use Rattle.h3_lattice.specs.Expansion.{multiplier_at, place, place_from, scaled}
use Rattle.h3_lattice.specs.Moved.{IsSum}
use Rattle.h3_lattice.specs.Laws.{SumsCloseTriangles, SumsExist, SumsReverse, SumsTurn, SumsAreUnique, Triangle, all_across}
use Rattle.h3_lattice.proofs.LinearLaws.{points}
use Rattle.h3_lattice.proofs.DivisionLaws.{one_division}
use Rattle.h3_lattice.proofs.CarryLaws.{carries_triangle}
use Rattle.h3_lattice.proofs.ExpansionLaws.{added, added_place, all_small-digits, along_expansion, directions-digits, expansion_along, length-added_digits, one_list, one_step, place_from-append, sum-zero}
use Rattle.h3_lattice.proofs.TurnLaws.{all_small-turned, map-turned-suc, once, option_turned-suc, option_turned-zero, place_from-no_turns, place-turned}

-- ---- one sum

is_added : (ds : List ℕ) (d : Direction)
    → IsSum ds d (added 0 (map direction_of ds) (Some d)).0
    (map digit_or_zero (added 0 (map direction_of ds) (Some d)).1)
is_added ds d =
    let s = added 0 (map direction_of ds) (Some d) in
    along_expansion (sum_of (place ds) (unit_of d)) (value_of s.0) (length ds) (map digit_or_zero s.1)
    (length-added_digits ds d) (all_small-digits s.1) (added_place ds d)

pub sums_exist : SumsExist
sums_exist ds d = record {
  out = (added 0 (map direction_of ds) (Some d)).0;
  list = map digit_or_zero (added 0 (map direction_of ds) (Some d)).1;
  is = is_added ds d;
}

one_value : (u v : Option Direction) → value_of u ≡ value_of v → u ≡ v
one_value u v e =
    (one_division Two zero_point zero_point u v (ap (sum_of (product_of (multiplier Two) zero_point)) e)).1

pub sums_are_unique : SumsAreUnique
sums_are_unique ds d u v es fs h k =
    let z = sum_of (place ds) (unit_of d) in
    let one = one_list 0 (value_of u) (value_of v) es fs (h.long ∙ sym k.long) h.digits k.digits
    (expansion_along z (value_of u) (length ds) es h ∙ sym (expansion_along z (value_of v) (length ds) fs k)) in
    (one_value u v one.0, one.1)

-- ---- its reverse

abbrev negated : Eisenstein → Eisenstein
negated z = product_of minus_one z

unit_of-opposite : (d : Direction) → unit_of (opposite d) ≡ negated (unit_of d)
unit_of-opposite K = refl
unit_of-opposite J = refl
unit_of-opposite JK = refl
unit_of-opposite I = refl
unit_of-opposite IK = refl
unit_of-opposite IJ = refl

value_of-opposite : (u : Option Direction) → value_of (option_map opposite u) ≡ negated (value_of u)
value_of-opposite None = refl
value_of-opposite (Some d) = unit_of-opposite d

negated-multiplied : (c : Class) (z : Eisenstein)
    → product_of (multiplier c) (negated z) ≡ negated (product_of (multiplier c) z)
negated-multiplied Three z = omega (arith, points)
negated-multiplied Two z = omega (arith, points)

scaled-negated : (n k : ℕ) (z : Eisenstein) → scaled n k (negated z) ≡ negated (scaled n k z)
scaled-negated n zero z = refl
scaled-negated n (suc k) z =
    ap (scaled (n + 1) k) (negated-multiplied (class_at (n + 1)) z)
    ∙ scaled-negated (n + 1) k (product_of (multiplier_at (n + 1)) z)

other_way : (p v s q : Eisenstein) → sum_of p v ≡ sum_of s q → sum_of q (negated v) ≡ sum_of (negated s) p
other_way p v s q e = omega (arith, points)

pub sums_reverse : SumsReverse
sums_reverse ds d u es a h = record {
  long = sym h.long;
  digits = a;
  sum =
      ap (sum_of (place es)) (unit_of-opposite d)
      ∙ other_way (place ds) (unit_of d) (scaled 0 (length ds) (value_of u)) (place es) h.sum
      ∙ ap (λ s. sum_of s (place ds)) (sym (scaled-negated 0 (length ds) (value_of u))
      ∙ ap (scaled 0 (length ds)) (sym (value_of-opposite u))
      ∙ ap (λ n. scaled 0 n (value_of (option_map opposite u))) (sym h.long));
}

-- ---- its turns

unit_of-once : (d : Direction) → unit_of (turned 1 d) ≡ once (unit_of d)
unit_of-once K = refl
unit_of-once J = refl
unit_of-once JK = refl
unit_of-once I = refl
unit_of-once IK = refl
unit_of-once IJ = refl

value_of-once : (u : Option Direction) → value_of (option_map (turned 1) u) ≡ once (value_of u)
value_of-once None = refl
value_of-once (Some d) = unit_of-once d

once-multiplied : (c : Class) (z : Eisenstein) → product_of (multiplier c) (once z) ≡ once (product_of (multiplier c) z)
once-multiplied Three z = omega (arith, points)
once-multiplied Two z = omega (arith, points)

scaled-once : (n k : ℕ) (z : Eisenstein) → scaled n k (once z) ≡ once (scaled n k z)
scaled-once n zero z = refl
scaled-once n (suc k) z =
    ap (scaled (n + 1) k) (once-multiplied (class_at (n + 1)) z)
    ∙ scaled-once (n + 1) k (product_of (multiplier_at (n + 1)) z)

once-sum : (x y : Eisenstein) → sum_of (once x) (once y) ≡ once (sum_of x y)
once-sum x y = omega (arith, points)

turned_sum : (ds : List ℕ) (d : Direction) (u : Option Direction) (es : List ℕ) → IsSum ds d u es
    → IsSum (map (digit_turned 1) ds) (turned 1 d) (option_map (turned 1) u) (map (digit_turned 1) es)
turned_sum ds d u es h = record {
  long = length-map es (digit_turned 1) ∙ h.long ∙ sym (length-map ds (digit_turned 1));
  digits = all_small-turned 1 es;
  sum =
      ap (λ p. sum_of p (unit_of (turned 1 d))) (place-turned 1 ds)
      ∙ ap (sum_of (once (place ds))) (unit_of-once d)
      ∙ once-sum (place ds) (unit_of d)
      ∙ ap once h.sum
      ∙ sym (once-sum (scaled 0 (length ds) (value_of u)) (place es))
      ∙ ap (sum_of (once (scaled 0 (length ds) (value_of u)))) (sym (place-turned 1 es))
      ∙ ap (λ s. sum_of s (place (map (digit_turned 1) es))) (sym (scaled-once 0 (length ds) (value_of u))
      ∙ ap (scaled 0 (length ds)) (sym (value_of-once u))
      ∙ ap (λ n. scaled 0 n (value_of (option_map (turned 1) u))) (sym (length-map ds (digit_turned 1))));
}

no_turns_sum : (ds : List ℕ) (d : Direction) (u : Option Direction) (es : List ℕ) → IsSum ds d u es
    → IsSum (map (digit_turned 0) ds) d (option_map (turned 0) u) (map (digit_turned 0) es)
no_turns_sum ds d u es h = record {
  long = length-map es (digit_turned 0) ∙ h.long ∙ sym (length-map ds (digit_turned 0));
  digits = all_small-turned 0 es;
  sum =
      ap (λ p. sum_of p (unit_of d)) (place_from-no_turns 0 zero_point ds)
      ∙ h.sum
      ∙ ap (sum_of (scaled 0 (length ds) (value_of u))) (sym (place_from-no_turns 0 zero_point es))
      ∙ ap (λ s. sum_of s (place (map (digit_turned 0) es))) (ap (λ w. scaled 0 (length ds) (value_of w))
      (sym (option_turned-zero u))
      ∙ ap (λ n. scaled 0 n (value_of (option_map (turned 0) u))) (sym (length-map ds (digit_turned 0))));
}

pub sums_turn : SumsTurn
sums_turn zero ds d u es h = no_turns_sum ds d u es h
sums_turn (suc n) ds d u es h =
    let once_more =
    turned_sum (map (digit_turned n) ds) (turned n d) (option_map (turned n) u) (map (digit_turned n) es)
    (sums_turn n ds d u es h) in
    let same_out =
    subst
    (λ (w : Option Direction).
    IsSum (map (digit_turned 1) (map (digit_turned n) ds)) (turned (suc n) d) w
    (map (digit_turned 1) (map (digit_turned n) es)))
    (sym (option_turned-suc n u)) once_more in
    let same_list = subst
    (λ (l : List ℕ).
    IsSum (map (digit_turned 1) (map (digit_turned n) ds)) (turned (suc n) d) (option_map (turned (suc n)) u) l)
    (sym (map-turned-suc n es)) same_out in
    subst (λ (l : List ℕ). IsSum l (turned (suc n) d) (option_map (turned (suc n)) u) (map (digit_turned (suc n)) es))
    (sym (map-turned-suc n ds)) same_list

-- ---- triangles

record IsTriangleOf (n : ℕ) (xs : List (Option Direction)) (u t v : Option Direction) : Type 0 where
  same : (added n (added n xs u).1 t).1 ≡ (added n xs v).1
  form : Triangle (added n xs u).0 (added n (added n xs u).1 t).0 (added n xs v).0

list_triangle : (n : ℕ) (xs : List (Option Direction)) (u t v : Option Direction) → Triangle u t v
    → IsTriangleOf n xs u t v
list_triangle n [] u t v h = record { same = refl; form = h }
list_triangle n (x ∷ xs) u t v h =
    let c = class_at (n + 1) in
    let finer = list_triangle (n + 1) xs u t v h in
    let s = added (n + 1) xs u in
    let k = carries_triangle c x s.0 (added (n + 1) s.1 t).0 (added (n + 1) xs v).0 finer.form in
    let first = k.same in
    let others = finer.same in
    record { same = cc; form = k.form }

pub sums_close_triangles : SumsCloseTriangles
sums_close_triangles ds d u v es fs h k =
    let xs = map direction_of ds in
    let a = added 0 xs (Some d) in
    let b = added 0 xs (Some (turned_once d)) in
    let t = list_triangle 0 xs (Some d) (Some (turned 2 d)) (Some (turned_once d)) (all_across d) in
    let one = sums_are_unique ds d a.0 u (map digit_or_zero a.1) es (is_added ds d) h in
    let two = sums_are_unique ds (turned_once d) b.0 v (map digit_or_zero b.1) fs (is_added ds (turned_once d)) k in
    let e = added 0 a.1 (Some (turned 2 d)) in
    let back : map direction_of es ≡ a.1 = ap (map direction_of) (sym one.1) ∙ directions-digits a.1 in
    let third : IsSum es (turned 2 d) e.0 (map digit_or_zero e.1) =
    subst
    (λ (l : List (Option Direction)).
    IsSum es (turned 2 d) (added 0 l (Some (turned 2 d))).0
    (map digit_or_zero (added 0 l (Some (turned 2 d))).1))
    back (is_added es (turned 2 d)) in
    let last : map digit_or_zero e.1 ≡ fs = ap (map digit_or_zero) t.same ∙ two.1 in
    record {
      out = e.0;
      third = subst (IsSum es (turned 2 d) e.0) last third;
      form =
          subst (λ (w : Option Direction). Triangle u e.0 w) two.0
          (subst (λ (w : Option Direction). Triangle w e.0 b.0) one.0 t.form);
    }

-- ---- a sum, digit by digit

small_push : (ds : List ℕ) (d : ℕ) → AllBelowBase 7 ds → d < 7 → AllBelowBase 7 (ds ++ d ∷ [])
small_push [] d all small = (small, tt)
small_push (x ∷ ds) d all small = (all.0, small_push ds d all.1 small)

small_take : (n : ℕ) (ds : List ℕ) → AllBelowBase 7 ds → AllBelowBase 7 (take n ds)
small_take zero ds all = tt
small_take (suc n) [] all = tt
small_take (suc n) (d ∷ ds) all = (all.0, small_take n ds all.1)

-- where k is carried to the coarser digits, and u out of them, the finest digit goes after their sum
pushed_sum : (ds es : List ℕ) (d : Direction) (k u : Option Direction) (x y n : ℕ) → n ≡ length ds + 1
    → length es ≡ length ds → AllBelowBase 7 es → y < 7 → place_from 0 (value_of u) es ≡ sum_of (place ds) (value_of k)
    → IsCarry (class_at n) x d (value_of k) y → IsSum (ds ++ x ∷ []) d u (es ++ y ∷ [])
pushed_sum ds es d k u x y n at long all small h e =
    let first : n ≡ 0 + length ds + 1 = omega arith in
    let second : n ≡ 0 + length es + 1 = omega arith in
    along_expansion (sum_of (place (ds ++ x ∷ [])) (unit_of d)) (value_of u) (length (ds ++ x ∷ [])) (es ++ y ∷ [])
    (omega (arith, length-append ds (x ∷ []), length-append es (y ∷ []))) (small_push es y all small)
    (place_from-append 0 (value_of u) es y n second
    ∙ ap (λ z. sum_of (product_of (multiplier_at n) z) (digit_value y)) h
    ∙ sym (one_step (class_at n) (place ds) (digit_value x) (unit_of d) (value_of k) (digit_value y) e)
    ∙ ap (λ p. sum_of p (unit_of d)) (sym (place_from-append 0 zero_point ds x n first)))

-- what is added to the first r of the digits ms, and the others after that: the whole sum
pub record IsUnderway (ds : List ℕ) (direction : Direction) (r : ℕ) (d : Direction) (ms : List ℕ) : Type 0 where
  pub whole : (u : Option Direction) (es : List ℕ) → IsSum (take r ms) d u es → IsSum ds direction u (es ++ drop r ms)

pub begins : (ds : List ℕ) (direction : Direction) → IsUnderway ds direction (length ds) direction ds
begins ds direction = record {
  whole = λ u es h.
      let all : take (length ds) ds ≡ ds = take_all (length ds) ds (omega arith) in
      let none : drop (length ds) ds ≡ [] = drop_all (length ds) ds (omega arith) in
      let same : es ++ [] ≡ es = search rules in
      rw (none, same) (rw all at h);
}

nothing-sum : (x : Eisenstein) → sum_of zero_point x ≡ sum_of x zero_point
nothing-sum x = omega (arith, points)

pub ends : (ds : List ℕ) (direction : Direction) (d : Direction) (ms : List ℕ) → IsUnderway ds direction 0 d ms
    → IsSum ds direction (Some d) ms
ends ds direction d ms h =
    h.whole (Some d) [] (record { long = refl; digits = tt; sum = nothing-sum (unit_of d) })

-- the r-th of the digits ms is x; it and a direction leave y, and k is carried
module _ (ms : List ℕ) (d : Direction) (c : Class) (k : Option Direction) (r x y : ℕ) (small : AllBelowBase 7 ms)
    (most : r ≤ length ms) (some : 1 ≤ r) (class : c ≡ class_at r) (digit : x ≡ get_or ms (r - 1) 7) (left : y ≤ 6)
    (carry : IsCarry c x d (value_of k) y) where
  above : suc (r - 1) ≡ r
  above = omega arith

  abbrev coarser : List ℕ
  coarser = take (r - 1) ms

  finest : take r ms ≡ coarser ++ x ∷ []
  finest =
      ap (λ n. take n ms) (sym above) ∙ take-suc ms (r - 1) 7 (omega (arith, above))
      ∙ ap (λ v. coarser ++ v ∷ []) (sym digit)

  long : r ≡ length coarser + 1
  long = omega (arith, length-take-le (r - 1) ms (omega arith), above)

  sum_after : (es : List ℕ) (u : Option Direction) → length es ≡ length coarser → AllBelowBase 7 es
      → place_from 0 (value_of u) es ≡ sum_of (place coarser) (value_of k) → IsSum (take r ms) d u (es ++ y ∷ [])
  sum_after es u same all h =
      subst (λ l. IsSum l d u (es ++ y ∷ [])) (sym finest) (pushed_sum coarser es d k u x y r long same all
      (omega arith) h (subst (λ v. IsCarry v x d (value_of k) y) class carry))

  ends_here : k ≡ None → IsSum (take r ms) d None (coarser ++ y ∷ [])
  ends_here none =
      sum_after coarser None refl (small_take (r - 1) ms small)
      (sum-zero (place coarser) ∙ ap (λ (o : Option Direction). sum_of (place coarser) (value_of o)) (sym none))

  goes_on : (e : Direction) (u : Option Direction) (es : List ℕ) → k ≡ Some e → IsSum coarser e u es
      → IsSum (take r ms) d u (es ++ y ∷ [])
  goes_on e u es some_e h =
      sum_after es u h.long h.digits (expansion_along (sum_of (place coarser) (unit_of e)) (value_of u) (length coarser)
      es h
      ∙ ap (λ (o : Option Direction). sum_of (place coarser) (value_of o)) (sym some_e))

  -- nothing is carried: the coarser digits stay
  pub last_sum : (ds : List ℕ) (direction : Direction) → IsUnderway ds direction r d ms → k ≡ None
      → IsSum ds direction None (set ms (r - 1) y)
  last_sum ds direction h none =
      let split : set ms (r - 1) y ≡ coarser ++ y ∷ drop r ms =
      rw above at (set_split ms (r - 1) y (omega (arith, above))) in
      let list = append_assoc coarser (y ∷ []) (drop r ms) in
      subst (IsSum ds direction None) (list ∙ sym split) (h.whole None (coarser ++ y ∷ []) (ends_here none))

  pub next_sum : (ds : List ℕ) (direction e : Direction) → IsUnderway ds direction r d ms → k ≡ Some e
      → IsUnderway ds direction (r - 1) e (set ms (r - 1) y)
  next_sum ds direction e h some_e = record {
    whole = λ u es g.
        let next : r - 1 + 1 ≡ r = omega arith in
        let same : take (r - 1) (set ms (r - 1) y) ≡ coarser = take-set ms (r - 1) y in
        let tail : drop (r - 1) (set ms (r - 1) y) ≡ y ∷ drop r ms =
        rw next at (drop-set ms (r - 1) y (omega (arith, above))) in
        let list = append_assoc es (y ∷ []) (drop r ms) in
        let own : IsSum coarser e u es = rw same at g in
        subst (IsSum ds direction u) (list ∙ ap (λ l. es ++ l) (sym tail))
        (h.whole u (es ++ y ∷ []) (goes_on e u es some_e own));
  }
