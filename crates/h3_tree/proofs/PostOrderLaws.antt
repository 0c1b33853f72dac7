-- The keys of the cells below a cell are an interval that ends at its own.
--
-- A key is a number of base 8: the base cell and then the fifteen digits. Its front at q is the part up to digit q; the
-- digits after it make a number below a power of 8, and below a cell's own resolution they are all 7.
use Rattle.std.specs.Int.Digits.{number_from_digits, number_from_digits_after, AllBelowBase}
use Rattle.std.proofs.Common.{ℕ, zero, suc, ◌≡◌, ◌+◌, ◌-◌, ◌*◌, ◌^◌, ◌<◌, ◌≤◌, List, [], ◌∷◌, ◌++◌, length, take, drop, replicate, refl, arith, length-append, lit<, ◌∙◌, sym, ap, subst, inl, inr}
use Rattle.std.proofs.Math.ListN.{length-replicate}
use Rattle.std.proofs.Math.Nat.{pow-suc, pow-zero}
use Rattle.std.proofs.Math.Seq.{take-append_seam}
use Rattle.std.proofs.lemmas.Bool.{cases_lt}
use Rattle.std.proofs.lemmas.Int.Digits.{number_after_append, number_after_lt}
use Rattle.std.proofs.lemmas.List.{length-drop, length-take-le, take-append-drop, take-append-le}
use Rattle.std.proofs.lemmas.Nat.{mul-le}
use Rattle.h3_index.specs.Cell.{Address, IsCell, number_of, padded}
use Rattle.h3_index.specs.Descendants.{ancestor_at, IsAncestor}
use Rattle.h3_tree.specs.PostOrder.{post_order_key, CellsFormIntervals}

-- ---- numbers of base 8 with a front

abbrev pub after : ℕ → List ℕ → ℕ
after = number_from_digits_after 8

after_is : (n : ℕ) (ds : List ℕ) → after n ds ≡ n * 8 ^ length ds + number_from_digits 8 ds
after_is n [] = let one = pow-zero 8 in rw one (omega arith)
after_is n (d ∷ ds) =
    let spread : (n * 8 + d) * 8 ^ length ds ≡ n * (8 ^ length ds * 8) + (0 * 8 + d) * 8 ^ length ds = grind arith in
    rw (after_is (n * 8 + d) ds, after_is (0 * 8 + d) ds, pow-suc 8 (length ds)) (omega (arith, spread))

sevens : (n k : ℕ) → after n (replicate k 7) + 1 ≡ (n + 1) * 8 ^ k
sevens n zero = let one = pow-zero 8 in rw one (omega arith)
sevens n (suc k) =
    let spread : (n * 8 + 7 + 1) * 8 ^ k ≡ (n + 1) * (8 ^ k * 8) = grind arith in
    rw (pow-suc 8 k) (sevens (n * 8 + 7) k ∙ spread)

-- one number with as many digits: one front, and the same digits
same_digits : (m n : ℕ) (xs ys : List ℕ) → AllBelowBase 8 xs → AllBelowBase 8 ys → length xs ≡ length ys
    → after m xs ≡ after n ys → (m ≡ n) × (xs ≡ ys)
same_digits m n [] [] h k e f = (f, refl)
same_digits m n [] (y ∷ ys) h k e f = absurd (omega (arith, e))
same_digits m n (x ∷ xs) [] h k e f = absurd (omega (arith, e))
same_digits m n (x ∷ xs) (y ∷ ys) h k e f =
    let rest = same_digits (m * 8 + x) (n * 8 + y) xs ys h.1 k.1 (omega (arith, e)) f in
    let first : x ≡ y = omega (arith, rest.0, h.0, k.0) in
    (omega (arith, rest.0, h.0, k.0), ap (λ d. d ∷ xs) first ∙ ap (λ ds. y ∷ ds) rest.1)

below-padded : (ds : List ℕ) (k : ℕ) → AllBelowBase 7 ds → AllBelowBase 8 (ds ++ replicate k 7)
below-padded [] zero h = tt
below-padded [] (suc k) h = (lit< tt, below-padded [] k tt)
below-padded (d ∷ ds) k h = (omega (arith, h.0), below-padded ds k h.1)

below-take : (q : ℕ) (ds : List ℕ) → AllBelowBase 8 ds → AllBelowBase 8 (take q ds)
below-take zero ds h = tt
below-take (suc q) [] h = tt
below-take (suc q) (d ∷ ds) h = (h.0, below-take q ds h.1)

pub below-drop : (b q : ℕ) (ds : List ℕ) → AllBelowBase b ds → AllBelowBase b (drop q ds)
below-drop b zero ds h = h
below-drop b (suc q) [] h = tt
below-drop b (suc q) (d ∷ ds) h = below-drop b q ds h.1

-- a front without 7 is within the digits
within_digits : (ds : List ℕ) (q m : ℕ) → q ≤ length ds + m → AllBelowBase 7 (take q (ds ++ replicate m 7))
    → q ≤ length ds
within_digits ds zero m le h = omega arith
within_digits [] (suc q) zero le h = absurd (omega (arith, le))
within_digits [] (suc q) (suc m) le h = absurd (omega (arith, h.0))
within_digits (d ∷ ds) (suc q) m le h = let rest = within_digits ds q m (omega (arith, le)) h.1 in omega (arith, rest)

-- ---- keys

length-padded : (c : Address) → IsCell c → length (padded c.digits) ≡ 15
length-padded c h =
    omega (
      arith,
      h.coarse,
      length-append c.digits (replicate (15 - length c.digits) 7),
      length-replicate {A = ℕ} (15 - length c.digits) 7,
    )

padded_below : (c : Address) → IsCell c → AllBelowBase 8 (padded c.digits)
padded_below c h = below-padded c.digits (15 - length c.digits) h.digits_small

abbrev pub whole_key : Address → ℕ
whole_key c = after c.base (padded c.digits)

pub whole_small : (c : Address) → IsCell c → whole_key c < 2 ^ 52
whole_small c h =
    let low : whole_key c < (c.base + 1) * 8 ^ 15 =
    rw (length-padded c h) at (number_after_lt 8 c.base (padded c.digits) (padded_below c h)) in
    omega (arith, low, h.base_small)

pub number_is : (c : Address) → IsCell c → number_of c ≡ 2 ^ 59 + length c.digits * 2 ^ 52 + whole_key c
unfolding number_of
number_is c h =
    let is : whole_key c ≡ c.base * 8 ^ 15 + number_from_digits 8 (padded c.digits) =
    rw (length-padded c h) at (after_is c.base (padded c.digits)) in
    omega (arith, is)

key_is : (c : Address) → IsCell c → post_order_key c ≡ whole_key c
unfolding post_order_key
key_is c h = omega (arith, number_is c h, whole_small c h)

abbrev front : Address → ℕ → ℕ
front c q = after c.base (take q (padded c.digits))

-- a key between its front and the next one
after_between : (n : ℕ) (ds : List ℕ) → AllBelowBase 8 ds
    → (n * 8 ^ length ds ≤ after n ds) × (after n ds < (n + 1) * 8 ^ length ds)
after_between n ds h = (omega (arith, after_is n ds), number_after_lt 8 n ds h)

key_between : (c : Address) (q : ℕ) → IsCell c → q ≤ 15
    → (front c q * 8 ^ (15 - q) ≤ whole_key c) × (whole_key c < (front c q + 1) * 8 ^ (15 - q))
key_between c q h le =
    let size : length (drop q (padded c.digits)) ≡ 15 - q =
    omega (arith, length-drop q (padded c.digits), length-padded c h) in
    let split : whole_key c ≡ after (front c q) (drop q (padded c.digits)) =
    ap (after c.base) (sym (take-append-drop q (padded c.digits)))
    ∙ number_after_append 8 c.base (take q (padded c.digits)) (drop q (padded c.digits)) in
    rw (split, ← size)
    (after_between (front c q) (drop q (padded c.digits)) (below-drop 8 q (padded c.digits) (padded_below c h)))

own_digits : (c : Address) → take (length c.digits) (padded c.digits) ≡ c.digits
own_digits c = take-append_seam c.digits (replicate (15 - length c.digits) 7)

-- a cell's key is the last one with its front
key_last : (c : Address) → whole_key c + 1 ≡ (front c (length c.digits) + 1) * 8 ^ (15 - length c.digits)
key_last c =
    rw (own_digits c, number_after_append 8 c.base c.digits (replicate (15 - length c.digits) 7))
    (sevens (after c.base c.digits) (15 - length c.digits))

-- ---- ancestors have the front

front_from : (a x : Address) → IsCell a → IsCell x → IsAncestor a x
    → front x (length a.digits) ≡ front a (length a.digits)
front_from a x ha hx above =
    let digits : take (length a.digits) x.digits ≡ a.digits = ap (λ c. c.digits) above in
    let base : x.base ≡ a.base = ap (λ c. c.base) above in
    let le : length a.digits ≤ length x.digits =
    omega (arith, ap length digits, length-take-at_most (length a.digits) x.digits) in
    let front_is : take (length a.digits) (padded x.digits) ≡ a.digits =
    take-append-le (length a.digits) x.digits (replicate (15 - length x.digits) 7) le ∙ digits in
    rw (front_is, own_digits a, base) refl
  where
    length-take-at_most : (q : ℕ) (ds : List ℕ) → length (take q ds) ≤ length ds
    length-take-at_most zero ds = omega arith
    length-take-at_most (suc q) [] = omega arith
    length-take-at_most (suc q) (d ∷ ds) = let rest = length-take-at_most q ds in omega (arith, rest)

same : (b : ℕ) (xs ys : List ℕ) → xs ≡ ys
    → ◌≡◌ {A = Address} (record { base = b; digits = xs }) (record { base = b; digits = ys })
same b xs ys e = ap {B = Address} (λ zs. record { base = b; digits = zs }) e

address_same : (a b : Address) → a.base ≡ b.base → a.digits ≡ b.digits → a ≡ b
address_same a b e f =
    same a.base a.digits b.digits f ∙ ap {B = Address} (λ n. record { base = n; digits = b.digits }) e

ancestor_from : (a x : Address) → IsCell a → IsCell x → front x (length a.digits) ≡ front a (length a.digits)
    → IsAncestor a x
ancestor_from a x ha hx e =
    let q = length a.digits in
    let of_x = below-take (length a.digits) (padded x.digits) (padded_below x hx) in
    let of_a = below-take (length a.digits) (padded a.digits) (padded_below a ha) in
    let size_x : length (take (length a.digits) (padded x.digits)) ≡ length a.digits =
    length-take-le (length a.digits) (padded x.digits) (omega (arith, length-padded x hx, ha.coarse)) in
    let size_a : length (take (length a.digits) (padded a.digits)) ≡ length a.digits =
    length-take-le (length a.digits) (padded a.digits) (omega (arith, length-padded a ha, ha.coarse)) in
    let both =
    same_digits x.base a.base (take (length a.digits) (padded x.digits)) (take (length a.digits) (padded a.digits))
    of_x of_a (size_x ∙ sym size_a) e in
    let is : take (length a.digits) (padded x.digits) ≡ a.digits = both.1 ∙ own_digits a in
    let le : length a.digits ≤ length x.digits =
    within_digits x.digits (length a.digits) (15 - length x.digits) (omega (arith, ha.coarse, hx.coarse))
    (subst (AllBelowBase 7) (sym is) ha.digits_small) in
    address_same (ancestor_at x (length a.digits)) a both.0
    (sym (take-append-le (length a.digits) x.digits (replicate (15 - length x.digits) 7) le) ∙ is)

one_more : (f p : ℕ) → (f + 1) * p ≡ f * p + p
one_more f p = grind arith

-- two fronts are one where each key is within the other's reach
one_front : (f g p kx ka : ℕ) → f * p ≤ kx → kx < (f + 1) * p → ka + 1 ≡ (g + 1) * p → kx ≤ ka → ka < kx + p → f ≡ g
one_front f g p kx ka low high last le reach =
    elim (cases_lt f g) [
      | inl less ↦
          let a = mul-le (f + 1) p g p (omega (arith, less)) (omega arith) in absurd (omega (arith, a, one_more g p))
      | inr not ↦ elim (cases_lt g f) [
        | inl more ↦ let a = mul-le (g + 1) p f p (omega (arith, more)) (omega arith) in absurd (omega (arith, a))
        | inr also ↦ omega (arith, not, also)
      ]
    ]

pub inside : (a x : Address) → IsCell a → IsCell x
    → (whole_key x ≤ whole_key a) × (whole_key a < whole_key x + 8 ^ (15 - length a.digits)) → IsAncestor a x
inside a x ha hx h =
    let b = key_between x (length a.digits) hx (omega (arith, ha.coarse)) in
    ancestor_from a x ha hx (one_front (front x (length a.digits)) (front a (length a.digits))
    (8 ^ (15 - length a.digits)) (whole_key x) (whole_key a) b.0 b.1 (key_last a) h.0 h.1)

pub within : (a x : Address) → IsCell a → IsCell x → IsAncestor a x
    → (whole_key x ≤ whole_key a) × (whole_key a < whole_key x + 8 ^ (15 - length a.digits))
within a x ha hx above =
    let b = rw (front_from a x ha hx above) at (key_between x (length a.digits) hx (omega (arith, ha.coarse))) in
    let last = key_last a in
    let more = one_more (front a (length a.digits)) (8 ^ (15 - length a.digits)) in
    (omega (arith, b.1, last), omega (arith, b.0, last, more))

pub cells_form_intervals : CellsFormIntervals
cells_form_intervals =
    record {
      interval =
          λ a x ha hx. rw (key_is a ha, key_is x hx) ((λ above. within a x ha hx above), (λ h. inside a x ha hx h));
      number = λ c h. rw (key_is c h) (number_is c h);
    }
