-- A table without a fault is sound
use Rattle.std.proofs.Common.{◌≡◌, ◌≢◌, ◌<◌, ◌≤◌, ◌+◌, ◌-◌, ℕ, zero, suc, Bool, true, false, not, Option, Some, None, List, [], ◌∷◌, length, get_or, subst, refl, arith, sym, ◌∙◌, ap, ◌&&◌, ◌||◌}
use Rattle.std.specs.Prelude.{if◌then◌else◌, ◌==◌, nat_lt}
use Rattle.std.proofs.Common.{inl, inr}
use Rattle.std.specs.Prelude.{All}
use Rattle.std.proofs.lemmas.List.Elements.{All-get_or}
use Rattle.std.proofs.lemmas.Bool.{cases_eq, not-true}
use Rattle.std.proofs.lemmas.Bool.Decides.{nat_tests}
use Rattle.std.specs.Option.{option_or}
use Rattle.std.specs.List.{list_all}
use Rattle.h3_directions.specs.declared.direction.Direction.{Direction}
use Rattle.h3_directions.specs.declared.direction.Direction.TheVariants.{K, J, JK, I, IK, IJ}
use Rattle.h3_directions.specs.declared.error.TableError.{TableError}
use Rattle.h3_directions.specs.declared.error.TableError.TheVariants as fault
use Rattle.h3_table.specs.declared.checks.Check.TheVariants as check
use Rattle.h3_index.specs.Cell.{is_pentagon_base}
use Rattle.h3_directions.specs.Direction.{digit_of, directions, turned_once}
use Rattle.h3_table.specs.Links.{AreLinks, IsHexagonBase, IsLink, IsSound, Links, is_hexagon_base, links_in, no_link, pair_of, slot_of}
use Rattle.h3_table.specs.declared.links.Link.{Link}
use Rattle.h3_table.specs.Checks.{at_links, closes, fault_at, fault_of_links, from_base, in_directions, leads_apart, are_apart, reverses, same_link, error_unless}
use Rattle.h3_table.specs.First.{LeadsApart, IsClosed, IsReversed}
use Rattle.h3_table.specs.Table.{ChecksMeanSound}

-- ---- the digits of directions

pub digit_of-gt : (d : Direction) → 0 < digit_of d
digit_of-gt K = omega arith
digit_of-gt J = omega arith
digit_of-gt JK = omega arith
digit_of-gt I = omega arith
digit_of-gt IK = omega arith
digit_of-gt IJ = omega arith

pub digit_of-lt : (d : Direction) → digit_of d < 7
digit_of-lt K = omega arith
digit_of-lt J = omega arith
digit_of-lt JK = omega arith
digit_of-lt I = omega arith
digit_of-lt IK = omega arith
digit_of-lt IJ = omega arith

pub direction-at : (d : Direction) → get_or directions (digit_of d - 1) K ≡ d
direction-at K = refl
direction-at J = refl
direction-at JK = refl
direction-at I = refl
direction-at IK = refl
direction-at IJ = refl

pub digit_at : (i : ℕ) → i < 6 → digit_of (get_or directions i K) ≡ i + 1
digit_at zero h = refl
digit_at (suc zero) h = refl
digit_at (suc (suc zero)) h = refl
digit_at (suc (suc (suc zero))) h = refl
digit_at (suc (suc (suc (suc zero)))) h = refl
digit_at (suc (suc (suc (suc (suc zero))))) h = refl
digit_at (suc (suc (suc (suc (suc (suc i)))))) h = absurd (omega arith)

-- ---- where there is no error

pub both : (a b : Option TableError) → option_or a b ≡ None → (a ≡ None) × (b ≡ None)
both None b e = (refl, e)
both (Some x) b e = cc e

pub no_fault : (b : Bool) (e : TableError) → error_unless b e ≡ None → b ≡ true
no_fault true e h = refl
no_fault false e h = cc h

in_directions-at : (f : Direction → Option TableError) (ds : List Direction) (i : ℕ) → in_directions f ds ≡ None
    → i < length ds → f (get_or ds i K) ≡ None
unfolding in_directions
in_directions-at f [] i e h = absurd (omega arith)
in_directions-at f (d ∷ ds) zero e h = (both (f d) (in_directions f ds) e).0
in_directions-at f (d ∷ ds) (suc i) e h = in_directions-at f ds i (both (f d) (in_directions f ds) e).1 (omega arith)

pub in_each : (f : Direction → Option TableError) (d : Direction) → in_directions f directions ≡ None → f d ≡ None
in_each f d e =
    let small = digit_of-lt d in
    subst (λ d. f d ≡ None) (direction-at d) (in_directions-at f directions (digit_of d - 1) e (omega arith))

here : (h : Bool) (o : Option TableError) → (if h then o else None) ≡ None → h ≡ true → o ≡ None
here true o e k = e
here false o e k = cc k

at_each : (f : ℕ → Direction → Option TableError) (n b k : ℕ) (d : Direction) → from_base f b n ≡ None → b ≤ k
    → k < b + n → is_hexagon_base k ≡ true → f k d ≡ None
unfolding from_base
at_each f zero b k d e h l x = absurd (omega arith)
at_each f (suc n) b k d e h l x =
    let two = both (if is_hexagon_base b then in_directions (f b) directions else None) (from_base f (b + 1) n) e in
    elim (cases_eq b k) [
      | inl same ↦ in_each (f k) d (here (is_hexagon_base k) (in_directions (f k) directions) (rw same at two.0) x)
      | inr other ↦ at_each f n (b + 1) k d two.1 (omega arith) (omega arith) x
    ]

pub and_both : (a b : Bool) → a && b ≡ true → (a ≡ true) × (b ≡ true)
and_both true b e = (refl, e)
and_both false b e = cc e

nat_lt-true : (m n : ℕ) → m < n → nat_lt m n ≡ true
nat_lt-true m n h = grind (arith, nat_tests)

pub true-nat_lt : (m n : ℕ) → nat_lt m n ≡ true → m < n
true-nat_lt m n h = grind (arith, nat_tests)

-- the test of hexagon base cells says what it should
pub hexagon_of : (b : ℕ) → is_hexagon_base b ≡ true → IsHexagonBase b
unfolding is_hexagon_base
hexagon_of b e =
    let two = and_both (nat_lt b 122) (not (is_pentagon_base b)) e in
    (true-nat_lt b 122 two.0, not-true (is_pentagon_base b) two.1)

pub is_hexagon_of : (b : ℕ) → IsHexagonBase b → is_hexagon_base b ≡ true
unfolding is_hexagon_base
is_hexagon_of b h = let small : nat_lt b 122 ≡ true = nat_lt-true b 122 h.0 in rw (small, h.1) refl

pub no_fault_at : (f : ℕ → Direction → Option TableError) (b : ℕ) (d : Direction) → at_links f ≡ None
    → is_hexagon_base b ≡ true → f b d ≡ None
no_fault_at f b d e h = let k = hexagon_of b h in at_each f 122 0 b d e (omega arith) (omega arith) h

or_true : (a b : Bool) → not a || b ≡ true → a ≡ true → b ≡ true
or_true true b e h = e
or_true false b e h = cc h

pub nth_direction : ℕ → Direction
nth_direction n =
    if n == 1 then K else if n == 2 then J else if n == 3 then JK else if n == 4 then I else if n == 5 then IK else IJ

named : (d : Direction) → nth_direction (digit_of d) ≡ d
unfolding nth_direction
named K = refl
named J = refl
named JK = refl
named I = refl
named IK = refl
named IJ = refl

-- a digit of 1 to 6 is that of a direction
pub direction_below : (d : ℕ) → 0 < d → d < 7 → digit_of (nth_direction d) ≡ d
unfolding nth_direction
direction_below zero low high = absurd (omega arith)
direction_below (suc zero) low high = refl
direction_below (suc (suc zero)) low high = refl
direction_below (suc (suc (suc zero))) low high = refl
direction_below (suc (suc (suc (suc zero)))) low high = refl
direction_below (suc (suc (suc (suc (suc zero))))) low high = refl
direction_below (suc (suc (suc (suc (suc (suc zero)))))) low high = refl
direction_below (suc (suc (suc (suc (suc (suc (suc d))))))) low high = absurd (omega arith)

same_numbers : (d e : Direction) → digit_of d ≡ digit_of e → d ≡ e
same_numbers d e h = sym (named d) ∙ ap nth_direction h ∙ named e

pair_same : (p q : ℕ × ℕ) → p.0 ≡ q.0 → p.1 ≡ q.1 → p ≡ q
pair_same p q a b = λ i. (a i, b i)

pub eqb-eq : (m n : ℕ) → (m == n) ≡ true → m ≡ n
eqb-eq m n e = grind (arith, nat_tests)

links_same : (p q : ℕ × ℕ) → same_link p q ≡ true → p ≡ q
links_same p q e =
    let two = and_both (p.0 == q.0) (p.1 == q.1) e in pair_same p q (eqb-eq p.0 q.0 two.0) (eqb-eq p.1 q.1 two.1)

list_all-at : (p : Direction → Bool) (ds : List Direction) (i : ℕ) → list_all p ds ≡ true → i < length ds
    → p (get_or ds i K) ≡ true
list_all-at p [] i e h = absurd (omega arith)
list_all-at p (d ∷ ds) zero e h = (and_both (p d) (list_all p ds) e).0
list_all-at p (d ∷ ds) (suc i) e h = list_all-at p ds i (and_both (p d) (list_all p ds) e).1 (omega arith)

pub each_at : (p : Direction → Bool) (d : Direction) → list_all p directions ≡ true → p d ≡ true
each_at p d e =
    let small = digit_of-lt d in
    subst (λ d. p d ≡ true) (direction-at d) (list_all-at p directions (digit_of d - 1) e (omega arith))

or_left : (a b : Bool) → a || b ≡ true → b ≡ false → a ≡ true
or_left true b e h = refl
or_left false b e h = cc

not_self : (m n : ℕ) → not (m == n) ≡ true → m ≡ n → ⊥
not_self m n e h = grind (arith, nat_tests)

same_not : (m n : ℕ) → m ≡ n → not (m == n) ≡ false
same_not m n h = grind (arith, nat_tests)

one_direction : (link : Links) (b : ℕ) (d e : Direction) → are_apart link b d e ≡ true → (link b d).0 ≡ (link b e).0
    → d ≡ e
one_direction link b d e t h =
    same_numbers d e (sym (eqb-eq (digit_of e) (digit_of d) (or_left (digit_of e == digit_of d)
    (not ((link b e).0 == (link b d).0)) t (same_not (link b e).0 (link b d).0 (sym h)))))

or_assoc : (a b c : Bool) → a || (b || c) ≡ (a || b) || c
or_assoc true b c = refl
or_assoc false b c = refl

-- a list of links, base cell by base cell, has links
pub links_within : (links : List Link) → length links ≡ 732 → AreLinks links → (b : ℕ) (d : Direction) → IsHexagonBase b
    → IsLink (links_in links b d)
unfolding links_in
links_within links long all b d h =
    let small : digit_of d < 7 = digit_of-lt d in
    let below : b < 122 = h.0 in
    All-get_or (λ l. IsLink (pair_of l)) links (slot_of b (digit_of d)) no_link (omega arith) all

-- ---- what each test says

pub apart-is : (link : Links) (b : ℕ) (d : Direction) → leads_apart link b d ≡ true → LeadsApart link b d
apart-is link b d t =
    let two = and_both (not ((link b d).0 == b)) (list_all (are_apart link b d) directions) t in
    record {
      away = λ same. not_self (link b d).0 b two.0 same;
      apart = λ e same. one_direction link b d e (each_at (are_apart link b d) e two.1) same;
    }

pub reversed-is : (link : Links) (b : ℕ) (d : Direction) → reverses link b d ≡ true → IsReversed link b d
reversed-is link b d t k = links_same _ _ (or_true (is_hexagon_base (link b d).0) _ t (is_hexagon_of (link b d).0 k))

pub closed-is : (link : Links) (b : ℕ) (d : Direction) → closes link b d ≡ true → IsClosed link b d
closed-is link b d t k l =
    links_same _ _ (or_true (is_hexagon_base (link b (turned_once d)).0) _
    (or_true (is_hexagon_base (link b d).0) _ (or_assoc (not (is_hexagon_base (link b d).0)) _ _ ∙ t)
    (is_hexagon_of (link b d).0 k))
    (is_hexagon_of (link b (turned_once d)).0 l))

-- what the three tests say at every place
pub sound_of : (link : Links) → ((b : ℕ) (d : Direction) → IsHexagonBase b → IsLink (link b d))
    → fault_of_links link ≡ None → IsSound link
sound_of link within none =
    let one =
    both (at_links (fault_at check.Neighbors link))
    (option_or (at_links (fault_at check.Reversal link)) (at_links (fault_at check.Corner link))) none in
    let two = both (at_links (fault_at check.Reversal link)) (at_links (fault_at check.Corner link)) one.1 in
    let neighbors : (b : ℕ) (d : Direction) → IsHexagonBase b → leads_apart link b d ≡ true = λ b d h.
    no_fault (leads_apart link b d) (fault.Neighbours b)
    (no_fault_at (fault_at check.Neighbors link) b d one.0 (is_hexagon_of b h)) in
    let reversal : (b : ℕ) (d : Direction) → IsHexagonBase b → reverses link b d ≡ true = λ b d h.
    no_fault (reverses link b d) (fault.Reversal b d)
    (no_fault_at (fault_at check.Reversal link) b d two.0 (is_hexagon_of b h)) in
    let corner : (b : ℕ) (d : Direction) → IsHexagonBase b → closes link b d ≡ true = λ b d h.
    no_fault (closes link b d) (fault.Corner b d)
    (no_fault_at (fault_at check.Corner link) b d two.1 (is_hexagon_of b h)) in
    record {
      within = within;
      apart = λ b d e h same. (apart-is link b d (neighbors b d h)).apart e same;
      away = λ b d h same. (apart-is link b d (neighbors b d h)).away same;
      reversal = λ b d h k. reversed-is link b d (reversal b d h) k;
      corner = λ b d h k l. closed-is link b d (corner b d h) k l;
    }

-- ---- a sound table has no fault

list_all-true : (p : Direction → Bool) (ds : List Direction) → ((d : Direction) → p d ≡ true) → list_all p ds ≡ true
list_all-true p [] h = refl
list_all-true p (d ∷ ds) h = let first = h d in let rest = list_all-true p ds h in rw (first, rest) refl

pub in_directions-none : (f : Direction → Option TableError) (ds : List Direction) → ((d : Direction) → f d ≡ None)
    → in_directions f ds ≡ None
unfolding in_directions
in_directions-none f [] h = refl
in_directions-none f (d ∷ ds) h = let first = h d in let rest = in_directions-none f ds h in rw (first, rest) refl

pub if_none : (c : Bool) (o : Option TableError) → (c ≡ true → o ≡ None) → (if c then o else None) ≡ None
if_none true o h = h refl
if_none false o h = refl

pub nones : (a b : Option TableError) → a ≡ None → b ≡ None → option_or a b ≡ None
nones a b h k = rw (h, k) refl

pub from_base-none : (f : ℕ → Direction → Option TableError) (b n : ℕ)
    → ((b : ℕ) (d : Direction) → IsHexagonBase b → f b d ≡ None) → from_base f b n ≡ None
unfolding from_base
from_base-none f b zero h = refl
from_base-none f b (suc n) h =
    nones (if is_hexagon_base b then in_directions (f b) directions else None) (from_base f (b + 1) n)
    (if_none (is_hexagon_base b) (in_directions (f b) directions)
    (λ k. in_directions-none (f b) directions (λ d. h b d (hexagon_of b k))))
    (from_base-none f (b + 1) n h)

pub error_unless-none : (b : Bool) (e : TableError) → b ≡ true → error_unless b e ≡ None
error_unless-none b e h = rw h refl

eqb-self : (n : ℕ) → (n == n) ≡ true
eqb-self n = grind (arith, nat_tests)

not_eqb : (m n : ℕ) → m ≢ n → not (m == n) ≡ true
not_eqb m n h = grind (arith, nat_tests)

or_right : (a b : Bool) → b ≡ true → a || b ≡ true
or_right true b e = refl
or_right false b e = e

parts_true : (m n p q : ℕ) → (p ≡ q → m ≡ n) → (m == n) || not (p == q) ≡ true
parts_true m n p q h =
    elim (cases_eq p q) [
      | inl same ↦ (let e : (m == n) ≡ true = rw (h same) (eqb-self n) in rw e refl)
      | inr other ↦ or_right (m == n) (not (p == q)) (not_eqb p q other)
    ]

same_link-self : (p : ℕ × ℕ) → same_link p p ≡ true
same_link-self p = let first = eqb-self p.0 in let second = eqb-self p.1 in rw (first, second) refl

same_or : (h : Bool) (p q : ℕ × ℕ) → (h ≡ true → p ≡ q) → not h || same_link p q ≡ true
same_or true p q e = rw (e refl) (same_link-self q)
same_or false p q e = refl

same_or_or : (h k : Bool) (p q : ℕ × ℕ) → (h ≡ true → k ≡ true → p ≡ q) → not h || not k || same_link p q ≡ true
same_or_or true true p q e = rw (e refl refl) (same_link-self q)
same_or_or true false p q e = refl
same_or_or false k p q e = refl

pub apart-of : (link : Links) (b : ℕ) (d : Direction) → LeadsApart link b d → leads_apart link b d ≡ true
apart-of link b d s =
    let away : not ((link b d).0 == b) ≡ true = not_eqb (link b d).0 b s.away in
    let each : list_all (are_apart link b d) directions ≡ true =
    list_all-true (are_apart link b d) directions are_apart_of in
    rw (away, each) refl
  where
    are_apart_of : (e : Direction) → are_apart link b d e ≡ true
    are_apart_of e =
        parts_true (digit_of e) (digit_of d) (link b e).0 (link b d).0 (λ k. ap digit_of (sym (s.apart e (sym k))))

pub reversed-of : (link : Links) (b : ℕ) (d : Direction) → IsReversed link b d → reverses link b d ≡ true
reversed-of link b d s = same_or (is_hexagon_base (link b d).0) _ _ (λ k. s (hexagon_of (link b d).0 k))

pub closed-of : (link : Links) (b : ℕ) (d : Direction) → IsClosed link b d → closes link b d ≡ true
closed-of link b d s =
    same_or_or (is_hexagon_base (link b d).0) (is_hexagon_base (link b (turned_once d)).0) _ _
    (λ k l. s (hexagon_of (link b d).0 k) (hexagon_of (link b (turned_once d)).0 l))

sound_none : (link : Links) → IsSound link → fault_of_links link ≡ None
sound_none link s =
    let apart : (b : ℕ) (d : Direction) → IsHexagonBase b → LeadsApart link b d =
    λ b d h. record { away = s.away b d h; apart = λ e k. s.apart b d e h k } in
    let neighbors =
    from_base-none (fault_at check.Neighbors link) 0 122 (λ b d h.
    error_unless-none (leads_apart link b d) (fault.Neighbours b) (apart-of link b d (apart b d h))) in
    let reversal = from_base-none (fault_at check.Reversal link) 0 122 (λ b d h.
    error_unless-none (reverses link b d) (fault.Reversal b d) (reversed-of link b d (λ k. s.reversal b d h k))) in
    let corner =
    from_base-none (fault_at check.Corner link) 0 122 (λ b d h.
    error_unless-none (closes link b d) (fault.Corner b d) (closed-of link b d (λ k l. s.corner b d h k l))) in
    nones _ _ neighbors (nones _ _ reversal corner)

pub checks_mean_sound : ChecksMeanSound
checks_mean_sound link within = (sound_of link within, sound_none link)
