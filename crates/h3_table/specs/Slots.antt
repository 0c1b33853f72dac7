-- A table that is not read whole yet. Private contracts and proofs alone cite this file.
use Rattle.std.specs.Prelude.{◌≡◌, ◌⊎◌, ℕ, ◌<◌, is_some, List, length, Option, Some, None, slice_index, slice_index_or}
use Rattle.std.specs.Option.{option_or}
use Rattle.h3_directions.specs.declared.direction.Direction.{Direction}
use Rattle.h3_directions.specs.declared.error.TableError.{TableError}
use Rattle.h3_directions.specs.declared.error.TableError.TheVariants as fault
use Rattle.h3_directions.specs.Direction.{digit_of}
use Rattle.h3_table.specs.declared.format.Format.{Format}
use Rattle.h3_table.specs.Fields.{Record}
use Rattle.h3_table.specs.Format.{link_in}
use Rattle.h3_table.specs.FormatTwo.{link_at_digit}
use Rattle.h3_table.specs.Links.{IsLink, slot_of}
use Rattle.h3_table.specs.Checks.{error_unless}
use Rattle.h3_table.specs.Records.{first_link}

-- the bounds of numbers that are in range, in format 1
abbrev pub IsInRangeOne : List ℕ → Type 0
IsInRangeOne ns =
    (slice_index ns 0 < 122) × (0 < slice_index ns 1) × (slice_index ns 1 < 7) × (slice_index ns 2 < 122)
    × (slice_index ns 3 < 6)

-- and in format 2
abbrev pub IsInRangeTwo : List ℕ → Type 0
IsInRangeTwo ns = (slice_index ns 0 < 122) × ((d : ℕ) → 0 < d → d < 7 → IsLink (link_at_digit d ns))

-- the new slots have the links in a record's numbers, and elsewhere what the old ones have
pub record SetsLinks (format : Format) (ns : List ℕ) (old new : List (Option (ℕ × ℕ))) : Type 0 where
  pub long : length new ≡ length old
  pub each : (b d : ℕ) → 0 < d → d < 7
      → slice_index_or new (slot_of b d) None
      ≡ option_or (link_in format b d ns) (slice_index_or old (slot_of b d) None)

-- the slots hold the links of these records
pub record Holds (format : Format) (slots : List (Option (ℕ × ℕ))) (body : List Record) : Type 0 where
  pub long : length slots ≡ 732
  pub same : (b d : ℕ) → 0 < d → d < 7 → slice_index_or slots (slot_of b d) None ≡ first_link format b d body

-- no link stands in the slot of this base cell and direction
abbrev pub missing_at : List (Option (ℕ × ℕ)) → ℕ → Direction → Option TableError
missing_at slots b d = error_unless (is_some (slice_index_or slots (slot_of b (digit_of d)) None)) fault.Missing

-- an error is this one, or out of memory
abbrev pub IsFaultOrMemory : Option TableError → TableError → Type 0
IsFaultOrMemory first e = (e ≡ fault.Memory) ⊎ (first ≡ Some e)

-- out of memory, or a read fault, which comes only where reads fail
abbrev pub StopsReading : Type 0 → TableError → Type 0
StopsReading read_fails e = (e ≡ fault.Memory) ⊎ ((e ≡ fault.Read) × read_fails)
