-- The slots hold the links of the records
use Rattle.std.proofs.Common.{◌≡◌, ◌<◌, ℕ, zero, suc, Bool, true, false, not, Option, Some, None, List, [], ◌∷◌, ◌++◌, length, replicate, refl, arith, sym, ◌∙◌, slice_index_or, slice_index}
use Rattle.std.proofs.lemmas.List.{length-replicate}
use Rattle.std.proofs.lemmas.Bool.Decides.{nat_tests}
use Rattle.std.specs.Prelude.{is_some, if◌then◌else◌, ◌==◌, ◌&&◌, nat_lt}
use Rattle.std.specs.List.{list_all}
use Rattle.std.specs.Option.{option_and_then, option_or}
use Rattle.h3_directions.specs.declared.error.TableError.TheVariants as fault
use Rattle.h3_table.specs.declared.format.Format.{Format}
use Rattle.h3_table.specs.declared.format.Format.TheVariants.{One, Two}
use Rattle.h3_directions.specs.Direction.{digit_of, directions}
use Rattle.h3_table.specs.Fields.{Record, numbers_in}
use Rattle.h3_table.specs.Format.{own_digit, in_range, link_in, width}
use Rattle.h3_table.specs.FormatOne.{in_range_one, link_one}
use Rattle.h3_table.specs.FormatTwo.{in_range_two, is_link_two, link_at_digit, link_two}
use Rattle.h3_table.specs.Links.{IsLink, is_hexagon_base, is_link, slot_of}
use Rattle.h3_table.specs.Records.{fault_in, record_link, first_link}
use Rattle.h3_table.specs.Slots.{Holds, IsInRangeOne, IsInRangeTwo, SetsLinks}
use Rattle.h3_table.proofs.SoundLaws.{and_both, direction_below, eqb-eq, nth_direction, true-nat_lt, each_at}

or_none : (o : Option (ℕ × ℕ)) → option_or o None ≡ o
or_none None = refl
or_none (Some p) = refl

pub first_link-append : (format : Format) (b d : ℕ) (body : List Record) (r : Record)
    → first_link format b d (body ++ (r ∷ [])) ≡ option_or (first_link format b d body) (record_link format b d r)
unfolding first_link
first_link-append format b d [] r = or_none (record_link format b d r)
first_link-append format b d (x ∷ body) r =
    rw (first_link-append format b d body r)
    (or_assoc (record_link format b d x) (first_link format b d body) (record_link format b d r))
  where
    or_assoc : (o p q : Option (ℕ × ℕ)) → option_or o (option_or p q) ≡ option_or (option_or o p) q
    or_assoc None p q = refl
    or_assoc (Some x) p q = refl

pub first_link-none : (format : Format) (b d : ℕ) → first_link format b d [] ≡ None
unfolding first_link
first_link-none format b d = refl

-- ---- numbers in range

hexagon_below : (b : ℕ) → is_hexagon_base b ≡ true → b < 122
unfolding is_hexagon_base
hexagon_below b e = grind (arith, nat_tests)

-- numbers in range in format 1, test by test
pub in_range_one-parts : (ns : List ℕ) → in_range_one ns ≡ true
    → (is_hexagon_base (slice_index ns 0) ≡ true) × (nat_lt 0 (slice_index ns 1) ≡ true)
    × (nat_lt (slice_index ns 1) 7 ≡ true) × (is_link (slice_index ns 2, slice_index ns 3) ≡ true)
in_range_one-parts ns e =
    let last =
    and_both (is_hexagon_base (slice_index ns 0) && nat_lt 0 (slice_index ns 1) && nat_lt (slice_index ns 1) 7)
    (is_link (slice_index ns 2, slice_index ns 3)) e in
    let third =
    and_both (is_hexagon_base (slice_index ns 0) && nat_lt 0 (slice_index ns 1)) (nat_lt (slice_index ns 1) 7)
    last.0 in
    let second = and_both (is_hexagon_base (slice_index ns 0)) (nat_lt 0 (slice_index ns 1)) third.0 in
    (second.0, second.1, third.1, last.1)

link-true : (link : ℕ × ℕ) → is_link link ≡ true → IsLink link
link-true link e =
    let two = and_both (nat_lt link.0 122) (nat_lt link.1 6) e in
    (true-nat_lt link.0 122 two.0, true-nat_lt link.1 6 two.1)

pub in_range_one-true : (ns : List ℕ) → in_range_one ns ≡ true → IsInRangeOne ns
in_range_one-true ns e =
    let p = in_range_one-parts ns e in
    let link = link-true (slice_index ns 2, slice_index ns 3) p.3 in (
      hexagon_below (slice_index ns 0) p.0,
      true-nat_lt 0 (slice_index ns 1) p.1,
      true-nat_lt (slice_index ns 1) 7 p.2,
      link.0,
      link.1,
    )

pub in_range_two-true : (ns : List ℕ) → in_range_two ns ≡ true → IsInRangeTwo ns
in_range_two-true ns e =
    let two = and_both (is_hexagon_base (slice_index ns 0)) (list_all (is_link_two ns) directions) e in (
      hexagon_below (slice_index ns 0) two.0,
      λ d low high.
          let is = direction_below d low high in
          rw is
          at (link-true (link_at_digit (digit_of (nth_direction d)) ns)
          (each_at (is_link_two ns) (nth_direction d) two.1)),
    )

-- what all formats have of numbers in range: a hexagon base cell, and a first digit
pub first_place : (format : Format) (ns : List ℕ) → in_range format ns ≡ true
    → (slice_index ns 0 < 122) × (0 < own_digit format ns) × (own_digit format ns < 7)
first_place One ns e = let k = in_range_one-true ns e in (k.0, k.1, k.2)
first_place Two ns e = ((in_range_two-true ns e).0, omega arith, omega arith)

-- ---- the links in the slots are those of the records

same_if : (known other : Option (ℕ × ℕ)) (row : ℕ) (b : Bool) → (b ≡ true → known ≡ other)
    → (if not b then Some (fault.Range row) else if is_some known then Some (fault.Repeated row) else None)
    ≡ (if not b then Some (fault.Range row) else if is_some other then Some (fault.Repeated row) else None)
same_if known other row true h = rw (h refl) refl
same_if known other row false h = refl

pub fault-same : (format : Format) (known other : ℕ → ℕ → Option (ℕ × ℕ)) (row : ℕ) (o : Option (List ℕ))
    → ((ns : List ℕ) → in_range format ns ≡ true
    → known (slice_index ns 0) (own_digit format ns) ≡ other (slice_index ns 0) (own_digit format ns))
    → fault_in format row known o ≡ fault_in format row other o
fault-same format known other row None h = refl
fault-same format known other row (Some ns) h =
    same_if (known (slice_index ns 0) (own_digit format ns)) (other (slice_index ns 0) (own_digit format ns)) row
    (in_range format ns) (h ns)

pub fault-held : (format : Format) (slots : List (Option (ℕ × ℕ))) (body : List Record) (row : ℕ) (o : Option (List ℕ))
    → Holds format slots body
    → fault_in format row (λ b d. slice_index_or slots (slot_of b d) None) o
    ≡ fault_in format row (λ b d. first_link format b d body) o
fault-held format slots body row o h =
    fault-same format (λ b d. slice_index_or slots (slot_of b d) None) (λ b d. first_link format b d body) row o
    (λ ns e. let k = first_place format ns e in h.same (slice_index ns 0) (own_digit format ns) k.1 k.2)

-- no slot is known before the first record
none_known : (n i : ℕ) → slice_index_or {A = Option (ℕ × ℕ)} (replicate n None) i None ≡ None
none_known zero i = refl
none_known (suc n) zero = refl
none_known (suc n) (suc i) = none_known n i

pub holds-none : (format : Format) → Holds format (replicate 732 None) []
holds-none format = record {
  long = length-replicate {A = Option (ℕ × ℕ)} 732 None;
  same = λ b d k l. none_known 732 (slot_of b d) ∙ sym (first_link-none format b d);
}

-- numbers without a fault are in range, and their slot is free
range_free : (row : ℕ) (o : Option (ℕ × ℕ)) (b : Bool)
    → (if not b then Some (fault.Range row) else if is_some o then Some (fault.Repeated row) else None) ≡ None
    → (b ≡ true) × (o ≡ None)
range_free row o false e = cc e
range_free row None true e = (refl, refl)
range_free row (Some p) true e = cc e

pub free-slot : (format : Format) (row : ℕ) (known : ℕ → ℕ → Option (ℕ × ℕ)) (ns : List ℕ)
    → fault_in format row known (Some ns) ≡ None
    → (in_range format ns ≡ true) × (known (slice_index ns 0) (own_digit format ns) ≡ None)
free-slot format row known ns e = range_free row (known (slice_index ns 0) (own_digit format ns)) (in_range format ns) e

-- ---- a record's links come together

if_some : (c : Bool) (p : ℕ × ℕ) → is_some {T = ℕ × ℕ} (if c then Some p else None) ≡ true → c ≡ true
if_some true p e = refl
if_some false p e = cc e

-- numbers that have a link have it for their base cell, and in format 1 for their direction
pub link_one-named : (b d : ℕ) (ns : List ℕ) → is_some (link_one b d ns) ≡ true
    → (slice_index ns 0 ≡ b) × (slice_index ns 1 ≡ d)
link_one-named b d ns e =
    let two =
    and_both _ _
    (if_some ((slice_index ns 0 == b) && (slice_index ns 1 == d)) (slice_index ns 2, slice_index ns 3) e) in
    (eqb-eq _ _ two.0, eqb-eq _ _ two.1)

pub link_two-named : (b d : ℕ) (ns : List ℕ) → is_some (link_two b d ns) ≡ true → slice_index ns 0 ≡ b
link_two-named b d ns e =
    let two =
    and_both (slice_index ns 0 == b) _
    (if_some ((slice_index ns 0 == b) && (nat_lt 0 d && nat_lt d 7)) (link_at_digit d ns) e) in
    eqb-eq _ _ two.0

-- in format 2, a record with no link in the first direction has none in any
none_of_both : (x y : ℕ × ℕ) (p r q : Bool) → r ≡ true → (if p && r then Some x else None) ≡ None
    → (if p && q then Some y else None) ≡ None
none_of_both x y true true q t e = cc e
none_of_both x y true false q t e = cc t
none_of_both x y false r q t e = refl

record_link-first : (b d : ℕ) (r : Record) (o : Option (List ℕ)) → option_and_then (link_two b 1) o ≡ None
    → option_and_then (link_two b d) o ≡ None
record_link-first b d r None e = refl
record_link-first b d r (Some ns) e =
    none_of_both (link_at_digit 1 ns) (link_at_digit d ns) (slice_index ns 0 == b) (nat_lt 0 1 && nat_lt 1 7)
    (nat_lt 0 d && nat_lt d 7) refl e

or_nones : (o p : Option (ℕ × ℕ)) → option_or o p ≡ None → (o ≡ None) × (p ≡ None)
or_nones None p e = (refl, e)
or_nones (Some x) p e = cc e

none_or : (o p : Option (ℕ × ℕ)) → o ≡ None → p ≡ None → option_or o p ≡ None
none_or o p e f = rw e f

no_link_two : (b d : ℕ) (body : List Record) → first_link Two b 1 body ≡ None → first_link Two b d body ≡ None
unfolding first_link
no_link_two b d [] e = refl
no_link_two b d (r ∷ body) e =
    let two = or_nones (record_link Two b 1 r) (first_link Two b 1 body) e in
    none_or (record_link Two b d r) (first_link Two b d body) (record_link-first b d r (numbers_in 13 r) two.0)
    (no_link_two b d body two.1)

-- no record before has a link that numbers without a fault have
pub free-links : (format : Format) (b d : ℕ) (ns : List ℕ) (body : List Record)
    → first_link format (slice_index ns 0) (own_digit format ns) body ≡ None
    → is_some (link_in format b d ns) ≡ true → first_link format b d body ≡ None
free-links One b d ns body free named = let same = link_one-named b d ns named in rw (same.0, same.1) at free
free-links Two b d ns body free named = let same = link_two-named b d ns named in no_link_two b d body (rw same at free)

either_first : (o p : Option (ℕ × ℕ)) → (is_some p ≡ true → o ≡ None) → option_or p o ≡ option_or o p
either_first None None h = refl
either_first (Some x) None h = refl
either_first None (Some y) h = refl
either_first (Some x) (Some y) h = cc (h refl)

pub holds-more : (format : Format) (slots new : List (Option (ℕ × ℕ))) (body : List Record) (r : Record) (ns : List ℕ)
    (row : ℕ)
    → Holds format slots body → numbers_in (width format) r ≡ Some ns
    → fault_in format row (λ b d. slice_index_or slots (slot_of b d) None) (Some ns) ≡ None
    → SetsLinks format ns slots new → Holds format new (body ++ (r ∷ []))
holds-more format slots new body r ns row h e f t =
    let free = free-slot format row (λ b d. slice_index_or slots (slot_of b d) None) ns f in
    let k = first_place format ns free.0 in
    let first : first_link format (slice_index ns 0) (own_digit format ns) body ≡ None =
    sym (h.same (slice_index ns 0) (own_digit format ns) k.1 k.2) ∙ free.1 in
    record {
      long = t.long ∙ h.long;
      same = λ b d low high.
          let here : record_link format b d r ≡ link_in format b d ns = rw e refl in
          let before = h.same b d low high in
          rw (first_link-append format b d body r, here, t.each b d low high, before)
          (either_first (first_link format b d body) (link_in format b d ns) (free-links format b d ns body first));
    }

-- of a record of format 2, the links in directions of digits below n are set
pub record Kept (ns : List ℕ) (n : ℕ) (old new : List (Option (ℕ × ℕ))) : Type 0 where
  pub long : length new ≡ length old
  pub each : (b d : ℕ) → 0 < d → d < 7
      → slice_index_or new (slot_of b d) None
      ≡ option_or
      (if (slice_index ns 0 == b) && (nat_lt 0 d && nat_lt d n) then Some (link_at_digit d ns) else None)
      (slice_index_or old (slot_of b d) None)
