-- Directed edges and their numbers: what the fields of an edge's number say is that edge.
use Rattle.std.specs.Int.Digits.{number_from_digits}
use Rattle.std.specs.Cmp.Derive.{both_true}
use Rattle.std.specs.Result.{result_ok, result_err}
use Rattle.std.proofs.Common.{ℕ, ◌≡◌, ◌≢◌, ◌+◌, ◌-◌, ◌*◌, ◌/◌, ◌%◌, ◌^◌, ◌<◌, ◌==◌, nat_lt, length, take, replicate, Bool, true, false, not, ◌&&◌, Some, None, Result, Ok, Err, IfOk, IfErr, if◌then◌else◌, refl, arith, ◌∙◌, sym, ap, subst}
use Rattle.std.proofs.Math.Seq.{take-append_seam}
use Rattle.std.proofs.lemmas.Bool.{and_parts, false≢true}
use Rattle.std.proofs.lemmas.Bool.Decides.{nat_tests}
use Rattle.h3_index.specs.Cell.{Address, IsCell, is_pentagon, number_of, padded}
use Rattle.h3_index.specs.CellNumber.{address_in, is_cell}
use Rattle.h3_index.specs.declared.error.H3Error.{H3Error}
use Rattle.h3_index.specs.declared.error.H3Error.TheVariants.{DirEdgeInvalid}
use Rattle.h3_index.specs.Edge.{DirectedEdge, IsEdge, direction_refusal, directed_edge, edge_number, has_edge}
use Rattle.h3_index.specs.EdgeNumber.{IsEdgeNumber, directed_edge_in, direction_in, edge_in, is_edge}
use Rattle.h3_index.proofs.CellLaws.{digits-under, head_of, low_small, mode-number_of, number_of_is, same_from_number}
use Rattle.h3_index.proofs.CellTestLaws.{is_cell-true, not_deleted-true, true-is_cell, true-not_deleted}

-- ---- the number and the fields in it

-- the bits above the digits
abbrev edge_head : DirectedEdge → ℕ
edge_head e = 2 ^ 14 + e.direction * 2 ^ 11 + head_of e.origin

edge_number_is : (e : DirectedEdge) → IsEdge e
    → edge_number e ≡ edge_head e * 2 ^ 45 + number_from_digits 8 (padded e.origin.digits)
unfolding edge_number
edge_number_is e h = omega (arith, number_of_is e.origin h.origin_cell)

fields_are : (d res base low : ℕ) → d < 8 → res < 16 → base < 128 → low < 2 ^ 45
    → ((2 ^ 14 + d * 2 ^ 11 + (2 ^ 14 + res * 2 ^ 7 + base)) * 2 ^ 45 + low) / 2 ^ 52 % 16 ≡ res
    × ((2 ^ 14 + d * 2 ^ 11 + (2 ^ 14 + res * 2 ^ 7 + base)) * 2 ^ 45 + low) / 2 ^ 45 % 128 ≡ base
    × ((2 ^ 14 + d * 2 ^ 11 + (2 ^ 14 + res * 2 ^ 7 + base)) * 2 ^ 45 + low) / 2 ^ 56 % 8 ≡ d
fields_are d res base low o p q r =
    (omega (arith, o, p, q, r), omega (arith, o, p, q, r), omega (arith, o, p, q, r))

pub directed_edge_in-number : (e : DirectedEdge) → IsEdge e → directed_edge_in (edge_number e) ≡ e
unfolding directed_edge_in address_in
directed_edge_in-number e h =
    let cell = h.origin_cell in
    let f =
    fields_are e.direction (length e.origin.digits) e.origin.base (number_from_digits 8 (padded e.origin.digits))
    (omega (arith, h.direction_small)) cell.coarse (omega (arith, cell.base_small)) (low_small e.origin cell) in
    let digits = digits-under (edge_head e) e.origin.digits cell.coarse cell.digits_small in
    let whole : take (length e.origin.digits) (padded e.origin.digits) ≡ e.origin.digits =
    take-append_seam e.origin.digits (replicate (15 - length e.origin.digits) 7) in
    rw (edge_number_is e h, digits, f.0, f.1, f.2, whole) refl

pub is_number_of_edge : (e : DirectedEdge) → IsEdge e → IsEdgeNumber (edge_number e)
is_number_of_edge e h =
    record { is = ap edge_number (directed_edge_in-number e h); valid = rw (directed_edge_in-number e h) h }

pub direction-in : (m : ℕ) → (directed_edge_in m).direction ≡ direction_in m
unfolding directed_edge_in
direction-in m = refl

-- ---- the bits of the origin, and those above them

bits_are : (n d m : ℕ) → n / 2 ^ 56 ≡ 8 → d < 8 → m ≡ n + 2 ^ 59 + d * 2 ^ 56
    → m % 2 ^ 56 + 2 ^ 59 ≡ n × m / 2 ^ 59 ≡ 2 × m / 2 ^ 56 % 8 ≡ d
bits_are n d m h small e = (omega (arith, h, small, e), omega (arith, h, small, e), omega (arith, h, small, e))

pub record HasBits (e : DirectedEdge) (m : ℕ) : Type 0 where
  pub origin : m % 2 ^ 56 + 2 ^ 59 ≡ number_of e.origin
  pub mode : m / 2 ^ 59 ≡ 2
  pub direction : m / 2 ^ 56 % 8 ≡ e.direction

pub bits_of : (e : DirectedEdge) (m : ℕ) → IsEdge e → edge_number e ≡ m → HasBits e m
unfolding edge_number
bits_of e m h is =
    let b =
    bits_are (number_of e.origin) e.direction m (mode-number_of e.origin h.origin_cell)
    (omega (arith, h.direction_small)) (sym is) in
    record { origin = b.0; mode = b.1; direction = b.2 }

-- the origin's number, as it is read from that of an edge
pub record IsOrigin (e : DirectedEdge) (n : ℕ) : Type 0 where
  pub valid : IsCell e.origin
  pub is : n ≡ number_of e.origin

pub origin_inside : (e : DirectedEdge) (m n : ℕ) → IsEdgeNumber m → directed_edge_in m ≡ e → n ≡ m % 2 ^ 56 + 2 ^ 59
    → IsOrigin e n
origin_inside e m n h is at =
    let valid : IsEdge e = subst IsEdge is h.valid in
    let number : edge_number e ≡ m = ap edge_number (sym is) ∙ h.is in
    record { valid = valid.origin_cell; is = at ∙ (bits_of e m valid number).origin }

number_is : (n d m : ℕ) → m % 2 ^ 56 + 2 ^ 59 ≡ n → m / 2 ^ 59 ≡ 2 → m / 2 ^ 56 % 8 ≡ d → n + 2 ^ 59 + d * 2 ^ 56 ≡ m
number_is n d m origin mode direction = omega (arith, origin, mode, direction)

-- the number of a cell and a direction that stand in a number of mode 2
pub from_bits : (c : Address) (d m : ℕ) → m % 2 ^ 56 + 2 ^ 59 ≡ number_of c → m / 2 ^ 59 ≡ 2 → m / 2 ^ 56 % 8 ≡ d
    → edge_number (directed_edge c d) ≡ m
unfolding edge_number
from_bits c d m = number_is (number_of c) d m

-- ---- the test

pub has_edge-true : (c : Address) (d : ℕ) → 0 < d → d < 7 → (is_pentagon c ≡ true → d ≢ 1) → has_edge c d ≡ true
has_edge-true c d some small left =
    let some_test : nat_lt 0 d ≡ true = grind (arith, nat_tests) in
    let small_test : nat_lt d 7 ≡ true = grind (arith, nat_tests) in
    both_true (both_true some_test small_test) (not_deleted-true (is_pentagon c) d left)

pub true-has_edge : (c : Address) (d : ℕ) → IsCell c → has_edge c d ≡ true → IsEdge (directed_edge c d)
true-has_edge c d h e =
    let all = and_parts (nat_lt 0 d && nat_lt d 7) (not (is_pentagon c && d == 1)) e in
    let sizes = and_parts (nat_lt 0 d) (nat_lt d 7) all.0 in
    record {
      origin_cell = h;
      some_direction = (let test = sizes.0 in grind (arith, nat_tests));
      direction_small = (let test = sizes.1 in grind (arith, nat_tests));
      not_deleted = true-not_deleted (is_pentagon c) d all.1;
    }

is_edge-true : (e : DirectedEdge) → IsEdge e → is_edge e ≡ true
is_edge-true e h =
    both_true (is_cell-true e.origin h.origin_cell)
    (has_edge-true e.origin e.direction h.some_direction h.direction_small h.not_deleted)

true-is_edge : (e : DirectedEdge) → is_edge e ≡ true → IsEdge e
true-is_edge e h =
    let p = and_parts (is_cell e.origin) (has_edge e.origin e.direction) h in
    true-has_edge e.origin e.direction (true-is_cell e.origin p.0) p.1

pub edge_in-some : (e : DirectedEdge) (m : ℕ) → IsEdge e → edge_number e ≡ m → edge_in m ≡ Some e
unfolding edge_in
edge_in-some e m h is =
    let at : directed_edge_in m ≡ e = ap directed_edge_in (sym is) ∙ directed_edge_in-number e h in
    let same : (edge_number e == m) ≡ true = grind (arith, nat_tests) in
    rw (at, is_edge-true e h, same) refl

if-none : (b : Bool) (e : DirectedEdge) → (b ≡ true → ⊥) → (if b then Some e else None) ≡ None
if-none false e h = refl
if-none true e h = absurd (h refl)

pub edge_in-none : (m : ℕ) → ((e : DirectedEdge) → IsEdge e → edge_number e ≢ m) → edge_in m ≡ None
unfolding edge_in
edge_in-none m h =
    if-none (is_edge (directed_edge_in m) && edge_number (directed_edge_in m) == m) (directed_edge_in m) (λ test.
    let parts = and_parts (is_edge (directed_edge_in m)) (edge_number (directed_edge_in m) == m) test in
    let same = parts.1 in
    h (directed_edge_in m) (true-is_edge (directed_edge_in m) parts.0) (grind (arith, nat_tests)))

-- ---- an edge made of a cell and a direction

below_more : (n : ℕ) → n / 2 ^ 56 ≡ 8 → n + 2 ^ 59 < 2 ^ 64
below_more n h = omega (arith, h)

pub mode_fits : (c : Address) (n : ℕ) → IsCell c → n ≡ number_of c → n + 2 ^ 59 < 2 ^ 64
mode_fits c n h e = rw e (below_more (number_of c) (mode-number_of c h))

pub record IsEdgeForm (c : Address) (d n x : ℕ) : Type 0 where
  pub fits : n + 2 ^ 59 + x * 2 ^ 56 % 2 ^ 64 < 2 ^ 64
  pub is : edge_number (directed_edge c d) ≡ n + 2 ^ 59 + x * 2 ^ 56 % 2 ^ 64

sums_are : (n d : ℕ) → n / 2 ^ 56 ≡ 8 → d < 7
    → n + 2 ^ 59 + d * 2 ^ 56 % 2 ^ 64 < 2 ^ 64 × n + 2 ^ 59 + d * 2 ^ 56 ≡ n + 2 ^ 59 + d * 2 ^ 56 % 2 ^ 64
sums_are n d h small = (omega (arith, h, small), omega (arith, h, small))

pub edge_form : (c : Address) (d n x : ℕ) → IsCell c → d < 7 → n ≡ number_of c → x ≡ d → IsEdgeForm c d n x
unfolding edge_number
edge_form c d n x h small e f =
    let s = sums_are (number_of c) d (mode-number_of c h) small in
    rw (e, f) (record { fits = s.0; is = s.1 })

pub made_edge : (e : DirectedEdge) (m : ℕ) → IsEdge e → edge_number e ≡ m → directed_edge_in m ≡ e
made_edge e m h is = ap directed_edge_in (sym is) ∙ directed_edge_in-number e h

pub made_number : (e : DirectedEdge) (m : ℕ) → IsEdge e → edge_number e ≡ m → IsEdgeNumber m
made_number e m h is = subst IsEdgeNumber is (is_number_of_edge e h)

-- ---- an edge read from a number

-- the cell that stands in a number of mode 2, and the direction
pub record Stands (c : Address) (d m : ℕ) : Type 0 where
  pub origin : number_of c ≡ m % 2 ^ 56 + 2 ^ 59
  pub mode : m / 2 ^ 59 ≡ 2
  pub direction : d ≡ m / 2 ^ 56 % 8

pub number_read : (c : Address) (d m : ℕ) → Stands c d m → edge_number (directed_edge c d) ≡ m
number_read c d m s = from_bits c d m (sym s.origin) s.mode (sym s.direction)

pub only_read : (c : Address) (d m : ℕ) → IsCell c → Stands c d m → (IsEdge (directed_edge c d) → ⊥)
    → (e : DirectedEdge) → IsEdge e → edge_number e ≢ m
only_read c d m h s none e valid is =
    let b = bits_of e m valid is in
    let origin : e.origin ≡ c = same_from_number e.origin c valid.origin_cell h (sym b.origin ∙ sym s.origin) in
    let direction : e.direction ≡ d = sym b.direction ∙ sym s.direction in
    none (subst IsEdge (λ i. directed_edge (origin i) (direction i)) valid)

abbrev Made : Address → ℕ → Result DirectedEdge H3Error → Type 0
Made c d r = IfOk r (λ e. (e ≡ directed_edge c d) × IsEdge e)

-- a cell has no edge in a direction that is refused
pub none_refused : (c : Address) (d : ℕ) (e : H3Error) → Some e ≡ direction_refusal c d
    → (e ≡ DirEdgeInvalid) × (IsEdge (directed_edge c d) → ⊥)
none_refused c d e is = by_test (has_edge c d) refl
  where
    by_test : (b : Bool) → has_edge c d ≡ b → (e ≡ DirEdgeInvalid) × (IsEdge (directed_edge c d) → ⊥)
    by_test true test = let none : Some e ≡ None = rw test at is in cc
    by_test false test =
        let other : Some e ≡ Some DirEdgeInvalid = rw test at is in
        (cc, λ h. false≢true (sym test ∙ has_edge-true c d h.some_direction h.direction_small h.not_deleted))

pub made_read : (c : Address) (d m : ℕ) (r : Result DirectedEdge H3Error) → IsCell c → Stands c d m → Made c d r
    → result_err r ≡ direction_refusal c d → result_ok r ≡ edge_in m
made_read c d m (Ok e) h s made refused =
    sym (edge_in-some e m made.1 (ap edge_number made.0 ∙ number_read c d m s))
made_read c d m (Err e) h s made refused =
    sym (edge_in-none m (only_read c d m h s (none_refused c d e refused).1))

pub made_accepted : (c : Address) (d m : ℕ) (r : Result DirectedEdge H3Error) → Stands c d m → Made c d r
    → IfOk r (λ e. IsEdge e × (edge_number e ≡ m))
made_accepted c d m (Ok e) s made = (made.1, ap edge_number made.0 ∙ number_read c d m s)
made_accepted c d m (Err e) s made = tt

pub made_refused : (c : Address) (d m : ℕ) (r : Result DirectedEdge H3Error) → IsCell c → Stands c d m
    → result_err r ≡ direction_refusal c d
    → IfErr r (λ e. (e ≡ DirEdgeInvalid) × ((e : DirectedEdge) → IsEdge e → edge_number e ≢ m))
made_refused c d m (Ok e) h s refused = tt
made_refused c d m (Err e) h s refused =
    let n = none_refused c d e refused in
    (n.0, only_read c d m h s n.1)
