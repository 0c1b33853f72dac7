-- What a list of records says of a table, and the first faulty record.
use Rattle.std.specs.Prelude.{ℕ, ◌+◌, not, is_some, if◌then◌else◌, List, [], ◌∷◌, ◌++◌, length, Option, Some, None, slice_index}
use Rattle.std.specs.Option.{option_and_then, option_or}
use Rattle.h3_directions.specs.declared.error.TableError.{TableError}
use Rattle.h3_directions.specs.declared.error.TableError.TheVariants as fault
use Rattle.h3_table.specs.declared.format.Format.{Format}
use Rattle.h3_table.specs.declared.format.Format.TheVariants.{One}
use Rattle.h3_table.specs.Fields.{Record, numbers_in}
use Rattle.h3_table.specs.Format.{own_digit, header_format, format_after, in_range, link_in, width}

-- the records under the header
abbrev pub body_of : List Record → List Record
body_of [] = []
body_of (front ∷ body) = body

-- their format, format 1 where there is no header
abbrev pub format_of : List Record → Format
format_of [] = One
format_of (front ∷ body) = format_after front

-- ---- links

-- the link in a record for a base cell and the direction of a digit
abbrev pub record_link : Format → ℕ → ℕ → Record → Option (ℕ × ℕ)
record_link format b d r = option_and_then (link_in format b d) (numbers_in (width format) r)

-- the link in the first of these records that has one for the base cell and the direction
unfoldable pub first_link : Format → ℕ → ℕ → List Record → Option (ℕ × ℕ)
first_link format b d [] = None
first_link format b d (r ∷ rest) = option_or (record_link format b d r) (first_link format b d rest)

-- ---- faults

-- the fault of a record with these numbers, where some links are known: its form, its range, or a repetition
abbrev pub fault_in : Format → ℕ → (ℕ → ℕ → Option (ℕ × ℕ)) → Option (List ℕ) → Option TableError
fault_in format row known None = Some (fault.Form row)
fault_in format row known (Some ns) =
    if not (in_range format ns) then Some (fault.Range row)
    else (if is_some (known (slice_index ns 0) (own_digit format ns)) then Some (fault.Repeated row)
    else None)

-- the fault of a record, after the records before it: the first has to be a header
abbrev pub fault_of : List Record → Record → Option TableError
fault_of [] r = if is_some (header_format r) then None else Some (fault.Form 1)
fault_of (front ∷ body) r =
    fault_in (format_after front) (length body + 2) (λ b d. first_link (format_after front) b d body)
    (numbers_in (width (format_after front)) r)

-- the first fault of records that come after others
unfoldable pub first_fault : List Record → List Record → Option TableError
first_fault before [] = None
first_fault before (r ∷ rest) = option_or (fault_of before r) (first_fault (before ++ r ∷ []) rest)

-- fault_of_records records: the first faulty record, each judged after those before it, by the format whose header the
-- first is
abbrev pub fault_of_records : List Record → Option TableError
fault_of_records [] = Some (fault.Form 1)
fault_of_records (front ∷ body) = first_fault [] (front ∷ body)
