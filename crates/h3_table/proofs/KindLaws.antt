-- Which errors each part of a table's judgement finds.
use Rattle.std.proofs.Common.{◌≡◌, ◌<◌, ◌+◌, ℕ, zero, suc, Bool, true, false, not, Option, Some, None, List, [], ◌∷◌, ◌++◌, length, refl, arith, slice_index}
use Rattle.std.specs.Prelude.{if◌then◌else◌, ⊤, is_some}
use Rattle.std.specs.Option.{option_or}
use Rattle.h3_directions.specs.declared.direction.Direction.{Direction}
use Rattle.h3_directions.specs.declared.error.TableError.{TableError}
use Rattle.h3_directions.specs.declared.error.TableError.TheVariants as fault
use Rattle.h3_table.specs.declared.checks.Check.{Check}
use Rattle.h3_table.specs.declared.checks.Check.TheVariants as check
use Rattle.h3_directions.specs.Direction.{digit_of, directions}
use Rattle.h3_table.specs.declared.format.Format.{Format}
use Rattle.h3_table.specs.Fields.{Record, numbers_in}
use Rattle.h3_table.specs.Format.{own_digit, header_format, format_after, in_range, width}
use Rattle.h3_table.specs.Links.{Links, is_hexagon_base}
use Rattle.h3_table.specs.Checks.{at_links, closes, fault_at, fault_of_links, from_base, in_directions, leads_apart, reverses}
use Rattle.h3_table.specs.Records.{body_of, fault_in, fault_of, fault_of_records, first_fault, format_of, first_link}
use Rattle.h3_table.specs.Table.{links_of, missing_of, table_fault}

-- 1 for errors of one record, then a number for each later part, and 0 for what is no error of the table
abbrev pub kind : TableError → ℕ
kind fault.Read = 0
kind fault.Memory = 0
kind (fault.Form row) = 1
kind (fault.Range row) = 1
kind (fault.Repeated row) = 1
kind fault.Missing = 2
kind (fault.Neighbours b) = 3
kind (fault.Reversal b d) = 4
kind (fault.Corner b d) = 5

abbrev pub kind_of : Check → ℕ
kind_of check.Neighbors = 3
kind_of check.Reversal = 4
kind_of check.Corner = 5

-- an error that is found is of this kind
abbrev pub IsKind : ℕ → Option TableError → Type 0
IsKind k None = ⊤
IsKind k (Some e) = kind e ≡ k

or_kind : (k : ℕ) (a b : Option TableError) → IsKind k a → IsKind k b → IsKind k (option_or a b)
or_kind k None b p q = q
or_kind k (Some e) b p q = p

if_kind : (k : ℕ) (c : Bool) (a b : Option TableError) → IsKind k a → IsKind k b → IsKind k (if c then a else b)
if_kind k true a b p q = p
if_kind k false a b p q = q

in_directions-kind : (k : ℕ) (f : Direction → Option TableError) (ds : List Direction)
    → ((d : Direction) → IsKind k (f d)) → IsKind k (in_directions f ds)
unfolding in_directions
in_directions-kind k f [] h = tt
in_directions-kind k f (d ∷ ds) h = or_kind k (f d) (in_directions f ds) (h d) (in_directions-kind k f ds h)

from_base-kind : (k : ℕ) (f : ℕ → Direction → Option TableError) (b n : ℕ)
    → ((b : ℕ) (d : Direction) → IsKind k (f b d)) → IsKind k (from_base f b n)
unfolding from_base
from_base-kind k f b zero h = tt
from_base-kind k f b (suc n) h =
    or_kind k (if is_hexagon_base b then in_directions (f b) directions else None) (from_base f (b + 1) n)
    (if_kind k (is_hexagon_base b) (in_directions (f b) directions) None (in_directions-kind k (f b) directions (h b))
    tt)
    (from_base-kind k f (b + 1) n h)

fault_at-kind : (c : Check) (link : Links) (b : ℕ) (d : Direction) → IsKind (kind_of c) (fault_at c link b d)
fault_at-kind check.Neighbors link b d = if_kind 3 (leads_apart link b d) None (Some (fault.Neighbours b)) tt refl
fault_at-kind check.Reversal link b d = if_kind 4 (reverses link b d) None (Some (fault.Reversal b d)) tt refl
fault_at-kind check.Corner link b d = if_kind 5 (closes link b d) None (Some (fault.Corner b d)) tt refl

fault_in-kind : (format : Format) (row : ℕ) (known : ℕ → ℕ → Option (ℕ × ℕ)) (o : Option (List ℕ))
    → IsKind 1 (fault_in format row known o)
fault_in-kind format row known None = refl
fault_in-kind format row known (Some ns) =
    if_kind 1 (not (in_range format ns)) (Some (fault.Range row))
    (if is_some (known (slice_index ns 0) (own_digit format ns)) then Some (fault.Repeated row) else None) refl
    (if_kind 1 (is_some (known (slice_index ns 0) (own_digit format ns))) (Some (fault.Repeated row)) None refl tt)

fault_of-kind : (before : List Record) (r : Record) → IsKind 1 (fault_of before r)
fault_of-kind [] r = if_kind 1 (is_some (header_format r)) None (Some (fault.Form 1)) tt refl
fault_of-kind (front ∷ body) r =
    fault_in-kind (format_after front) (length body + 2) (λ b d. first_link (format_after front) b d body)
    (numbers_in (width (format_after front)) r)

first_fault-kind : (before rest : List Record) → IsKind 1 (first_fault before rest)
unfolding first_fault
first_fault-kind before [] = tt
first_fault-kind before (r ∷ rest) =
    or_kind 1 (fault_of before r) (first_fault (before ++ r ∷ []) rest) (fault_of-kind before r)
    (first_fault-kind (before ++ r ∷ []) rest)

-- ---- the parts

pub records-kind : (records : List Record) → IsKind 1 (fault_of_records records)
records-kind [] = refl
records-kind (front ∷ body) = first_fault-kind [] (front ∷ body)

pub missing-kind : (records : List Record) → IsKind 2 (at_links (missing_of records))
missing-kind records =
    from_base-kind 2 (missing_of records) 0 122 (λ b d.
    if_kind 2 (is_some (first_link (format_of records) b (digit_of d) (body_of records))) None (Some fault.Missing)
    tt refl)

pub checks-kind : (c : Check) (link : Links) → IsKind (kind_of c) (at_links (fault_at c link))
checks-kind c link = from_base-kind (kind_of c) (fault_at c link) 0 122 (fault_at-kind c link)

-- ---- the error of two parts in turn

-- the error is of one of the parts
pub either_kind : (a b : Option TableError) (e : TableError) (k : ℕ) (P : ℕ → Type 0) → IsKind k a → P k
    → ((x : TableError) → b ≡ Some x → P (kind x)) → option_or a b ≡ Some e → P (kind e)
either_kind None b e k P i p q is = q e is
either_kind (Some x) b e k P i p q is = let same : x ≡ e = cc is in rw (← same, i) p

pub is_kind : (k : ℕ) (o : Option TableError) (e : TableError) → IsKind k o → o ≡ Some e → kind e ≡ k
is_kind k None e i is = cc is
is_kind k (Some x) e i is = let same : x ≡ e = cc is in rw (← same) i

-- a file's error is of the file
pub table_fault-kind : (records : List Record) (e : TableError) → table_fault records ≡ Some e → 0 < kind e
table_fault-kind records e is =
    let link = links_of records in
    either_kind (fault_of_records records) (option_or (at_links (missing_of records)) (fault_of_links link)) e 1
    (λ k. 0 < k) (records-kind records) (omega arith) (λ x is.
    either_kind (at_links (missing_of records)) (fault_of_links link) x 2 (λ k. 0 < k) (missing-kind records)
    (omega arith) (λ x is.
    either_kind (at_links (fault_at check.Neighbors link))
    (option_or (at_links (fault_at check.Reversal link)) (at_links (fault_at check.Corner link))) x 3 (λ k. 0 < k)
    (checks-kind check.Neighbors link) (omega arith) (λ x is.
    either_kind (at_links (fault_at check.Reversal link)) (at_links (fault_at check.Corner link)) x 4 (λ k. 0 < k)
    (checks-kind check.Reversal link) (omega arith) (λ x is.
    let five = is_kind 5 (at_links (fault_at check.Corner link)) x (checks-kind check.Corner link) is in
    omega arith) is) is) is) is
