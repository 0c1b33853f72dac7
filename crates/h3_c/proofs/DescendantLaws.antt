-- The children of a cell, and their numbers: each is one unit after the one before.
use Rattle.std.specs.List.{flat_map}
use Rattle.std.specs.Int.Digits.{number_from_digits, number_from_digits_after}
use Rattle.std.proofs.Common.{◌≡◌, ℕ, zero, suc, ◌+◌, ◌-◌, ◌*◌, ◌%◌, ◌^◌, ◌<◌, ◌≤◌, ◌==◌, ◌&&◌, List, [], ◌∷◌, ◌++◌, length, map, replicate, Bool, true, false, lit<, rules, refl, sym, ap, ◌∙◌, arith}
use Rattle.std.proofs.Math.ListN.{length-replicate}
use Rattle.std.proofs.Math.Nat.{pow-le-pow_right, pow-suc}
use Rattle.std.proofs.lemmas.Int.Digits.{number_after_append, number_push}
use Rattle.std.proofs.lemmas.Bool.Decides.{nat_tests}
use Rattle.std.proofs.lemmas.Grind.{flat_map-append}
use Rattle.std.proofs.lemmas.List.{append-nil, append_assoc, length-append, map-append}
use Rattle.std.proofs.lemmas.Nat.{mod_below, pow-add}
use Rattle.h3_index.specs.Cell.{Address, IsCell, is_pentagon, is_pentagon_base, leading, number_of, padded}
use Rattle.h3_index.specs.Descendants.{along, child, children, descendants}
use Rattle.h3_index.specs.Paths.{paths, steps}
use Rattle.h3_tree.specs.PostOrder.{CellsFormIntervals, post_order_key}

by_kind : (p : Address) (b : Bool) → map (along p) (paths b 1) ≡ map (child p) (steps b)
unfolding paths
by_kind p true = refl
by_kind p false = refl

pub children_are : (p : Address) → children p ≡ map (child p) (steps (is_pentagon p))
unfolding descendants
children_are p =
    let one : length p.digits + 1 - length p.digits ≡ 1 = omega arith in
    rw one (by_kind p (is_pentagon p))

-- the children of the digits below a number, of a cell that is no pentagon
abbrev pub children_below : Address → ℕ → List Address
children_below p zero = []
children_below p (suc d) = children_below p d ++ child p d ∷ []

pub children_below-next : (p : Address) (d : ℕ) → children_below p (d + 1) ≡ children_below p d ++ child p d ∷ []
children_below-next p d = let next : d + 1 ≡ suc d = omega arith in rw next refl

pub length-children_below : (p : Address) (d : ℕ) → length (children_below p d) ≡ d
length-children_below p zero = refl
length-children_below p (suc d) =
    omega (arith, length-append (children_below p d) (child p d ∷ []), length-children_below p d)

pub seven_children : (p : Address) → is_pentagon p ≡ false → children_below p 7 ≡ children p
seven_children p hexagon = sym (children_are p ∙ ap (λ b. map (child p) (steps b)) hexagon)

-- ---- their numbers

spread : (n d x : ℕ) → (n + d) * 8 + x ≡ n * 8 + x + d * 8
spread n d x = grind arith

spread_more : (d q : ℕ) → d * 8 * q ≡ d * (q * 8)
spread_more d q = grind arith

-- more in front of some digits
more_in_front : (n d : ℕ) (ds : List ℕ)
    → number_from_digits_after 8 (n + d) ds ≡ number_from_digits_after 8 n ds + d * 8 ^ length ds
more_in_front n d [] = omega arith
more_in_front n d (x ∷ ds) =
    ap (λ m. number_from_digits_after 8 m ds) (spread n d x)
    ∙ more_in_front (n * 8 + x) (d * 8) ds
    ∙ ap (λ m. number_from_digits_after 8 (n * 8 + x) ds + m)
    (spread_more d (8 ^ length ds) ∙ ap (λ q. d * q) (sym (pow-suc 8 (length ds))))

-- the digits of a child, from its parent's
value_of : (p : Address) (d : ℕ)
    → number_from_digits 8 (padded (p.digits ++ d ∷ []))
    ≡ number_from_digits_after 8 (number_from_digits 8 p.digits * 8 + d) (replicate (14 - length p.digits) 7)
value_of p d =
    let size : 15 - length (p.digits ++ d ∷ []) ≡ 14 - length p.digits =
    omega (arith, length-append p.digits (d ∷ [])) in
    ap (λ k. number_from_digits 8 ((p.digits ++ d ∷ []) ++ replicate k 7)) size
    ∙ number_after_append 8 0 (p.digits ++ d ∷ []) (replicate (14 - length p.digits) 7)
    ∙ ap (λ n. number_from_digits_after 8 n (replicate (14 - length p.digits) 7)) (number_push 8 p.digits d)

value_from : (p : Address) (d : ℕ)
    → number_from_digits 8 (padded (p.digits ++ d ∷ []))
    ≡ number_from_digits 8 (padded (p.digits ++ 0 ∷ [])) + d * 8 ^ (14 - length p.digits)
value_from p d =
    let v = number_from_digits 8 p.digits in
    let rest : List ℕ = replicate (14 - length p.digits) 7 in
    let none : v * 8 + d ≡ v * 8 + 0 + d = omega arith in
    value_of p d
    ∙ ap (λ n. number_from_digits_after 8 n rest) none
    ∙ more_in_front (v * 8 + 0) d rest
    ∙ ap (λ n. n + d * 8 ^ length rest) (sym (value_of p 0))
    ∙ ap (λ k. number_from_digits 8 (padded (p.digits ++ 0 ∷ [])) + d * 8 ^ k)
    (length-replicate {A = ℕ} (14 - length p.digits) 7)

pub number_child : (p : Address) (d : ℕ)
    → number_of (child p d) ≡ number_of (child p 0) + d * 8 ^ (14 - length p.digits)
unfolding number_of
number_child p d =
    let one : length (p.digits ++ d ∷ []) ≡ length p.digits + 1 = length-append p.digits (d ∷ []) in
    let first : length (p.digits ++ 0 ∷ []) ≡ length p.digits + 1 = length-append p.digits (0 ∷ []) in
    omega (arith, one, first, value_from p d)

-- seven more in the last digit is one more in resolution
pub number_parent : (p : Address) → length p.digits < 15
    → number_of p + 2 ^ 52 ≡ number_of (child p 0) + 7 * 8 ^ (14 - length p.digits)
unfolding number_of
number_parent p coarse =
    let k = 14 - length p.digits in
    let up : 15 - length p.digits ≡ suc k = omega (arith, coarse) in
    let one : length (p.digits ++ 7 ∷ []) ≡ length p.digits + 1 = length-append p.digits (7 ∷ []) in
    let less : 15 - length (p.digits ++ 7 ∷ []) ≡ k = omega (arith, one) in
    let same : padded p.digits ≡ padded (p.digits ++ 7 ∷ []) =
    ap (λ n. p.digits ++ replicate n 7) up
    ∙ sym (ap (λ n. (p.digits ++ 7 ∷ []) ++ replicate n 7) less ∙ append_assoc p.digits (7 ∷ []) (replicate k 7)) in
    let first : length (p.digits ++ 0 ∷ []) ≡ length p.digits + 1 = length-append p.digits (0 ∷ []) in
    omega (arith, first, ap (number_from_digits 8) same, value_from p 7)

pub number_step : (p : Address) (d u number : ℕ) → u ≡ 8 ^ (14 - length p.digits)
    → number ≡ number_of (child p 0) + d * u → number ≡ number_of (child p d)
number_step p d u number unit is = is ∙ ap (λ v. number_of (child p 0) + d * v) unit ∙ sym (number_child p d)

-- ---- the unit

eights : (k : ℕ) → 2 ^ (3 * k) ≡ 8 ^ k
eights zero = refl
eights (suc k) =
    let next : 3 * suc k ≡ 3 * k + 3 = omega arith in
    rw (next, pow-add 2 (3 * k) 3, eights k, pow-suc 8 k) refl

pub power_small : (k : ℕ) → k ≤ 15 → 8 ^ k ≤ 2 ^ 45
power_small k few = (let p : 8 ^ k ≤ 8 ^ 15 = pow-le-pow_right (omega arith) few in p)

pub unit_is : (r : ℕ) → 1 * 2 ^ (3 * (15 - r)) % 2 ^ 64 ≡ 8 ^ (15 - r)
unit_is r =
    let few : 15 - r ≤ 15 = omega arith in
    let most = power_small (15 - r) few in
    let one : 1 * 8 ^ (15 - r) ≡ 8 ^ (15 - r) = omega arith in
    rw (eights (15 - r), one) (omega (arith, most))

-- numbers of cells leave room for units
pub number_small : CellsFormIntervals → (c : Address) → IsCell c → number_of c < 2 ^ 60
unfolding post_order_key
number_small law c valid =
    let key : number_of c % 2 ^ 52 < 2 ^ 52 = mod_below (number_of c) (2 ^ 52) (lit< tt) in
    omega (arith, key, law.number c valid, valid.coarse)

-- ---- the descendants of the children, one after another

none_zero : (d : ℕ) → (suc d == 0) ≡ false
none_zero d = grind (arith, nat_tests)

leading-push : (ds : List ℕ) (d : ℕ) → (leading (ds ++ d ∷ []) == 0) ≡ ((leading ds == 0) && (d == 0))
leading-push [] zero = refl
leading-push [] (suc d) = let z = none_zero d in rw z z
leading-push (zero ∷ ds) d = leading-push ds d
leading-push (suc x ∷ ds) d = let z = none_zero x in rw (z, z) refl

and_three : (a b c : Bool) → a && (b && c) ≡ (a && b) && c
and_three true b c = refl
and_three false b c = refl

pub pentagon-child : (c : Address) (d : ℕ) → is_pentagon (child c d) ≡ (is_pentagon c && d == 0)
pentagon-child c d =
    ap (λ b. is_pentagon_base c.base && b) (leading-push c.digits d)
    ∙ and_three (is_pentagon_base c.base) (leading c.digits == 0) (d == 0)

pub hexagon-child : (c : Address) (d : ℕ) → is_pentagon c ≡ false → is_pentagon (child c d) ≡ false
hexagon-child c d hexagon = pentagon-child c d ∙ ap (λ b. b && d == 0) hexagon

along-digits : (base : ℕ) (ds es : List ℕ) → ds ≡ es
    → ◌≡◌ {A = Address} (record { base = base; digits = ds }) (record { base = base; digits = es })
along-digits base ds es same = ap {B = Address} (λ l. record { base = base; digits = l }) same

along-child : (c : Address) (d : ℕ) (es : List ℕ) → along c (d ∷ es) ≡ along (child c d) es
along-child c d es =
    along-digits c.base (c.digits ++ d ∷ es) ((c.digits ++ d ∷ []) ++ es) (sym (append_assoc c.digits (d ∷ []) es))

along_map : (c : Address) (d : ℕ) (xs : List (List ℕ))
    → map (along c) (map (λ ds. d ∷ ds) xs) ≡ map (along (child c d)) xs
along_map c d [] = refl
along_map c d (x ∷ xs) =
    ap (λ y. y ∷ map (along c) (map (λ ds. d ∷ ds) xs)) (along-child c d x)
    ∙ ap (λ ys. along (child c d) x ∷ ys) (along_map c d xs)

block : (c : Address) (s n d : ℕ) → s - length (c.digits ++ d ∷ []) ≡ n
    → map (along c) (map (λ ds. d ∷ ds) (paths (is_pentagon c && d == 0) n)) ≡ descendants (child c d) s
unfolding descendants
block c s n d e = along_map c d (paths (is_pentagon c && d == 0) n) ∙ rw (e, pentagon-child c d) refl

blocks_of : (c : Address) (s n : ℕ) → ((d : ℕ) → s - length (c.digits ++ d ∷ []) ≡ n) → (ds : List ℕ)
    → map (along c) (flat_map (λ d. map (λ es. d ∷ es) (paths (is_pentagon c && d == 0) n)) ds)
    ≡ flat_map (λ d. descendants (child c d) s) ds
blocks_of c s n e [] = refl
blocks_of c s n e (d ∷ ds) =
    map-append (along c) (map (λ es. d ∷ es) (paths (is_pentagon c && d == 0) n))
    (flat_map (λ k. map (λ es. k ∷ es) (paths (is_pentagon c && k == 0) n)) ds)
    ∙ ap (λ ys. ys ++ map (along c) (flat_map (λ k. map (λ es. k ∷ es) (paths (is_pentagon c && k == 0) n)) ds))
    (block c s n d (e d))
    ∙ ap (λ ys. descendants (child c d) s ++ ys) (blocks_of c s n e ds)

blocks_at : (c : Address) (s n : ℕ) → s - length c.digits ≡ suc n
    → descendants c s ≡ flat_map (λ d. descendants (child c d) s) (steps (is_pentagon c))
unfolding descendants paths
blocks_at c s n more =
    rw more (blocks_of c s n (λ d. omega (arith, length-append c.digits (d ∷ []), more)) (steps (is_pentagon c)))

blocks : (c : Address) (s : ℕ) → length c.digits < s
    → descendants c s ≡ flat_map (λ d. descendants (child c d) s) (steps (is_pentagon c))
blocks c s finer = blocks_at c s (s - length c.digits - 1) (omega (arith, finer))

pub descendants-own : (c : Address) (s : ℕ) → s ≡ length c.digits → descendants c s ≡ c ∷ []
unfolding descendants paths
descendants-own c s e =
    let none : s - length c.digits ≡ 0 = omega arith in
    rw none (ap (λ x. x ∷ []) (along-digits c.base (c.digits ++ []) c.digits (append-nil c.digits)))

flat_twice : {A B C : Type 0} (f : A → List B) (g : B → List C) (h : A → List C) → ((x : A) → h x ≡ flat_map g (f x))
    → (xs : List A) → flat_map h xs ≡ flat_map g (flat_map f xs)
flat_twice f g h e [] = refl
flat_twice f g h e (x ∷ xs) =
    ap (λ l. l ++ flat_map h xs) (e x) ∙ ap (λ l. flat_map g (f x) ++ l) (flat_twice f g h e xs)
    ∙ sym (flat_map-append g (f x) (flat_map f xs))

by_level : (n : ℕ) (c : Address) (s r : ℕ) → s ≡ length c.digits + n → s < r
    → descendants c r ≡ flat_map (λ k. descendants k r) (descendants c s)
by_level zero c s r e finer =
    let own : s ≡ length c.digits = omega arith in
    rw (descendants-own c s own) (sym (append-nil (descendants c r)))
by_level (suc n) c s r e finer =
    blocks c r (omega arith)
    ∙ flat_twice (λ d. descendants (child c d) s) (λ k. descendants k r) (λ d. descendants (child c d) r)
    (λ d. by_level n (child c d) s r (omega (arith, e, length-append c.digits (d ∷ []))) finer)
    (steps (is_pentagon c))
    ∙ ap (flat_map (λ k. descendants k r)) (sym (blocks c s (omega arith)))

-- the descendants are those of the descendants at a resolution between
pub descendants-between : (c : Address) (s r : ℕ) → length c.digits ≤ s → s < r
    → descendants c r ≡ flat_map (λ k. descendants k r) (descendants c s)
descendants-between c s r not_coarser finer = by_level (s - length c.digits) c s r (omega (arith, not_coarser)) finer

-- the children of the children of the digits below a number, of a cell that is no pentagon
abbrev pub grandchildren_below : Address → ℕ → List Address
grandchildren_below c zero = []
grandchildren_below c (suc d) = grandchildren_below c d ++ children (child c d)

pub grandchildren_below-next : (c : Address) (d : ℕ)
    → grandchildren_below c (d + 1) ≡ grandchildren_below c d ++ children (child c d)
grandchildren_below-next c d = let next : d + 1 ≡ suc d = omega arith in rw next refl

pub length-seven : (p : Address) → is_pentagon p ≡ false → length (children p) ≡ 7
length-seven p hexagon = ap length (sym (seven_children p hexagon)) ∙ length-children_below p 7

pub length-grandchildren_below : (c : Address) (d : ℕ) → is_pentagon c ≡ false
    → length (grandchildren_below c d) ≡ 7 * d
length-grandchildren_below c zero hexagon = refl
length-grandchildren_below c (suc d) hexagon =
    omega (
      arith,
      length-append (grandchildren_below c d) (children (child c d)),
      length-seven (child c d) (hexagon-child c d hexagon),
      length-grandchildren_below c d hexagon,
    )

pub all_grandchildren : (c : Address) → is_pentagon c ≡ false
    → grandchildren_below c 7 ≡ descendants c (length c.digits + 2)
all_grandchildren c hexagon =
    let r = length c.digits + 2 in
    let own : (d : ℕ) → descendants (child c d) r ≡ children (child c d) = λ d.
    (let same : r ≡ length (c.digits ++ d ∷ []) + 1 = omega (arith, length-append c.digits (d ∷ [])) in
    ap (descendants (child c d)) same) in
    sym (blocks c r (omega arith) ∙ ap (λ b. flat_map (λ d. descendants (child c d) r) (steps b)) hexagon ∙ seven own)
  where
    seven : ((d : ℕ) → descendants (child c d) (length c.digits + 2) ≡ children (child c d))
        → flat_map (λ d. descendants (child c d) (length c.digits + 2)) (steps false) ≡ grandchildren_below c 7
    seven own = rw (own 0, own 1, own 2, own 3, own 4, own 5, own 6) (search (rules, append_assoc, append-nil))

pub length-forty_nine : (c : Address) → is_pentagon c ≡ false → length (descendants c (length c.digits + 2)) ≡ 49
length-forty_nine c hexagon = ap length (sym (all_grandchildren c hexagon)) ∙ length-grandchildren_below c 7 hexagon
