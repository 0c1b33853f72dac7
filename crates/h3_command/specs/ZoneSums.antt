-- The counts and sums of the rows of a list by zones without names, as a table of cells, counts and sums.
use Rattle.std.specs.Prelude.{◌≡◌, ◌||◌, Bool, not, List, [], ◌∷◌, ◌++◌, All, length, map, sum, codes, Option, None, Some, ℤ, ◌+ℤ◌}
use Rattle.h3_index.specs.Cell.{Address, IsCell, number_of}
use Rattle.h3_index.specs.Text.{text_of}
use Rattle.h3_lines.specs.Answer.{Answer, written}
use Rattle.h3_numbers.specs.Sum.{total}
use Rattle.h3_set.specs.Coverage.{IsApart, is_ancestor, is_covered}
use Rattle.h3_regions.specs.Counting.{count_in, count_outside}
use Rattle.h3_regions.specs.Zones.{by_number}
use Rattle.h3_requests.specs.declared.rows.RowOptions.{RowOptions}
use Rattle.h3_rows.specs.Named.{Entry}
use Rattle.h3_command.specs.AreaSums.{Amount, cells_in, sum_where}
use Rattle.h3_command.specs.SumAnswers.{amounts_among, sum_titles}
use Rattle.h3_command.specs.SumTables.{SumRow, sums_table}

-- ---- the sums

-- sum_in_zone zone amounts: the sum of the numbers whose cells are the zone or below it
abbrev pub sum_in_zone : Address → List Amount → ℤ
sum_in_zone zone amounts = sum_where (λ x. is_ancestor zone x) amounts

-- sum_outside zones amounts: the sum of the numbers whose cells no zone covers
abbrev pub sum_outside : List Address → List Amount → ℤ
sum_outside zones amounts = sum_where (λ x. not (is_covered zones x)) amounts

-- ---- the rows

-- zone_sum amounts zone: the text of a zone, how many of the cells are the zone or below it, and what their numbers add
-- up to
abbrev pub zone_sum : List Amount → Address → SumRow
zone_sum amounts zone =
    record {
      name = text_of (number_of zone);
      count = count_in zone (cells_in amounts);
      units = sum_in_zone zone amounts;
    }

-- outside_sum zones amounts: `0` with the same of the cells that no zone covers
abbrev pub outside_sum : List Address → List Amount → SumRow
outside_sum zones amounts =
    record { name = codes "0"; count = count_outside zones (cells_in amounts); units = sum_outside zones amounts }

-- zone_sums zones amounts: each zone, in ascending order, and then those outside
abbrev pub zone_sums : List Address → List Amount → List SumRow
zone_sums zones amounts = map (zone_sum amounts) (by_number zones) ++ outside_sum zones amounts ∷ []

-- ---- as a table

-- zones_have_header file list: the table of zones has a header, if the zones are in a table, or the list does
abbrev pub zones_have_header : Option RowOptions → RowOptions → Bool
zones_have_header None list = list.has_header
zones_have_header (Some file) list = file.has_header || list.has_header

-- zone_sums_answer file list zones rows: how many of the rows of a list have their cells in each of the zones of a
-- file, which is a table or bare, and in none, and what their numbers add up to, as a table in the form of the list;
-- the title of the column of zones is `zone`
abbrev pub zone_sums_answer : Option RowOptions → RowOptions → List Address → List Entry → Answer
zone_sums_answer file list zones rows =
    written (sums_table list.separator (sum_titles (zones_have_header file list) (codes "zone") rows)
    (zone_sums zones (amounts_among list.quotes rows)))

-- ---- a law

-- ZoneSumsPrintedAddUp: the counts in the rows of zones of which no two overlap add up to the number of rows with a
-- cell, and the sums to the sum of the numbers in these; and the sums of two parts of a list add up to those of the
-- whole
pub record ZoneSumsPrintedAddUp : Type 0 where
  pub counts : (zones : List Address) (amounts : List Amount) → All IsCell zones → IsApart zones
      → sum (map (λ row. row.count) (zone_sums zones amounts)) ≡ length amounts
  pub sums : (zones : List Address) (amounts : List Amount) → All IsCell zones → IsApart zones
      → total (map (λ row. row.units) (zone_sums zones amounts)) ≡ total (map (λ a. a.1) amounts)
  pub zone_in_parts : (zone : Address) (xs ys : List Amount)
      → sum_in_zone zone (xs ++ ys) ≡ sum_in_zone zone xs +ℤ sum_in_zone zone ys
  pub outside_in_parts : (zones : List Address) (xs ys : List Amount)
      → sum_outside zones (xs ++ ys) ≡ sum_outside zones xs +ℤ sum_outside zones ys
