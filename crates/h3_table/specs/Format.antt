-- The two formats of a table file, side by side.
use Rattle.std.specs.Prelude.{ℕ, Bool, if◌then◌else◌, List, Option, Some, None, slice_index, unwrap_or}
use Rattle.h3_table.specs.declared.format.Format.{Format}
use Rattle.h3_table.specs.declared.format.Format.TheVariants.{One, Two}
use Rattle.h3_table.specs.Fields.{Record, same_fields}
use Rattle.h3_table.specs.FormatOne.{header_one, in_range_one, link_one}
use Rattle.h3_table.specs.FormatTwo.{header_two, in_range_two, link_two}

abbrev pub header : Format → Record
header One = header_one
header Two = header_two

-- how many fields a record has
abbrev pub width : Format → ℕ
width One = 4
width Two = 13

-- a record's numbers are in their ranges
abbrev pub in_range : Format → List ℕ → Bool
in_range One ns = in_range_one ns
in_range Two ns = in_range_two ns

-- the link in a record's numbers for a base cell and the direction of a digit
abbrev pub link_in : Format → ℕ → ℕ → List ℕ → Option (ℕ × ℕ)
link_in One b d ns = link_one b d ns
link_in Two b d ns = link_two b d ns

-- the digit of a direction that a record has a link for: where this link is known, the record repeats an earlier one,
-- since a record of format 2 has a link in each direction
abbrev pub own_digit : Format → List ℕ → ℕ
own_digit One ns = slice_index ns 1
own_digit Two ns = 1

-- the format whose header a file's first record is
abbrev pub header_format : Record → Option Format
header_format front =
    if same_fields front (header One) then Some One else (if same_fields front (header Two) then Some Two else None)

-- the format of the records after it, format 1 where it is no header
abbrev pub format_after : Record → Format
format_after front = unwrap_or (header_format front) One
