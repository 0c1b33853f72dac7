-- What the records of a file say as a whole: their table, or why they are refused.
use Rattle.std.specs.Prelude.{◌≡◌, ◌↔◌, ℕ, Bool, true, is_some, List, ◌∷◌, All, ⊤, Option, Some, None, unwrap_or}
use Rattle.std.specs.List.{count_by}
use Rattle.std.specs.Option.{option_or}
use Rattle.h3_directions.specs.declared.direction.Direction.{Direction}
use Rattle.h3_directions.specs.declared.error.TableError.{TableError}
use Rattle.h3_directions.specs.declared.error.TableError.TheVariants as fault
use Rattle.h3_directions.specs.Direction.{digit_of}
use Rattle.h3_table.specs.declared.format.Format.{Format}
use Rattle.h3_table.specs.Fields.{Record, numbers_in}
use Rattle.h3_table.specs.Format.{header, in_range, width}
use Rattle.h3_table.specs.Links.{IsHexagonBase, IsLink, IsSound, Links}
use Rattle.h3_table.specs.Checks.{at_links, fault_of_links, error_unless}
use Rattle.h3_table.specs.Records.{body_of, fault_of_records, format_of, record_link, first_link}

-- links_of records: the table that a file holds
abbrev pub links_of : List Record → Links
links_of records b d = unwrap_or (first_link (format_of records) b (digit_of d) (body_of records)) (0, 0)

-- no record has the link of this base cell and direction
abbrev pub missing_of : List Record → ℕ → Direction → Option TableError
missing_of records b d =
    error_unless (is_some (first_link (format_of records) b (digit_of d) (body_of records))) fault.Missing

-- table_fault records: a file's first error: of the records, a missing one, of the checks
--
-- why a table file is refused: its first faulty record, or else a missing one, or else the first check that fails
abbrev pub table_fault : List Record → Option TableError
table_fault records =
    option_or (fault_of_records records) (option_or (at_links (missing_of records)) (fault_of_links (links_of records)))

-- RefusesTable: which errors a file may get
--
-- An error fits the file: out of memory says nothing of it, a read fault comes only where reads fail, and any other
-- is the file's first fault.
abbrev pub RefusesTable : Type 0 → Option TableError → TableError → Type 0
RefusesTable read_fails first fault.Read = read_fails
RefusesTable read_fails first fault.Memory = ⊤
RefusesTable read_fails first e = first ≡ Some e

-- ---- the tables that are accepted

-- ChecksMeanSound: of links that are links, no check fails exactly where they are sound
--
-- of links that lead to base cells by 0 to 5 turns, none of the checks fails exactly where they are sound
abbrev pub ChecksMeanSound : Type 0
ChecksMeanSound =
    (link : Links) → ((b : ℕ) (d : Direction) → IsHexagonBase b → IsLink (link b d))
    → (fault_of_links link ≡ None) ↔ IsSound link

-- a record has a link for this base cell and direction
abbrev pub has_link : Format → ℕ → ℕ → Record → Bool
has_link format b d r = is_some (record_link format b d r)

-- the numbers of a record's fields are in their ranges
pub record IsLinkRecord (format : Format) (r : Record) : Type 0 where
  pub numbers : List ℕ
  pub parsed : numbers_in (width format) r ≡ Some numbers
  pub ranges : in_range format numbers ≡ true

-- IsOfForm records: the header of one of the formats, and records in range, of which for each hexagon base cell and
-- direction exactly one has the link
--
-- the form of a table file: the header of one of the formats, and then, in any order, records in their ranges, of which
-- for each hexagon base cell and direction exactly one has the link: so there is one record for each of both in format
-- 1, and one for each hexagon base cell in format 2
pub record IsOfForm (records : List Record) : Type 0 where
  pub format : Format
  pub front : records ≡ header format ∷ body_of records
  pub each : All (IsLinkRecord format) (body_of records)
  pub once : (b : ℕ) (d : Direction) → IsHexagonBase b → count_by (has_link format b (digit_of d)) (body_of records) ≡ 1

-- SoundFilesAreAccepted: there is no error exactly where the file is of the form and its links are sound
abbrev pub SoundFilesAreAccepted : Type 0
SoundFilesAreAccepted =
    (records : List Record) → (table_fault records ≡ None) ↔ (IsOfForm records × IsSound (links_of records))
