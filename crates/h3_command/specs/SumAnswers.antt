-- The counts and sums of the rows of a list by the areas of a table of zones with names, as a table of names, counts
-- and sums.
use Rattle.std.specs.Prelude.{◌≡◌, ℕ, Bool, List, [], ◌∷◌, ◌++◌, get_or, length, map, sum, codes, string_bytes, Option, None, Some, unwrap_or, if◌then◌else◌, ℤ, pos}
use Rattle.std.specs.List.{range_with_len}
use Rattle.h3_index.specs.Cell.{Address}
use Rattle.h3_lines.specs.Answer.{Answer, written}
use Rattle.h3_numbers.specs.Sum.{total}
use Rattle.h3_regions.specs.AreaCounting.{count_in_area, count_in_none}
use Rattle.h3_regions.specs.Refusals.{areas_refusal}
use Rattle.h3_requests.specs.declared.rows.AreaOptions.{AreaOptions}
use Rattle.h3_requests.specs.declared.rows.RowOptions.{RowOptions}
use Rattle.h3_rows.specs.Areas.{area_cells, area_names, title_of}
use Rattle.h3_rows.specs.Named.{Entry, number_in}
use Rattle.h3_command.specs.AreaCounts.{has_header}
use Rattle.h3_command.specs.AreaSums.{Amount, cells_in, sum_in_area, sum_in_none}
use Rattle.h3_command.specs.Rows.{title_or_zone}
use Rattle.h3_command.specs.SumTables.{SumRow, sums_table}

-- ---- the numbers of a list

-- amount_in quotes field: the number in a field, in units of 10^-18. Of rows that are read each has one.
abbrev pub amount_in : Bool → List ℕ → ℤ
amount_in quotes field = unwrap_or (number_in quotes field) (pos 0)

-- amount_before quotes cell field later: a cell with the number in its row, before the others; a header has no cell,
-- and is left out
abbrev pub amount_before : Bool → Option Address → List ℕ → List Amount → List Amount
amount_before quotes None field later = later
amount_before quotes (Some cell) field later = (cell, amount_in quotes field) ∷ later

-- amounts_among quotes entries: the cells of a list with the numbers in their rows
abbrev pub amounts_among : Bool → List Entry → List Amount
amounts_among quotes [] = []
amounts_among quotes (e ∷ es) = amount_before quotes e.cell e.field (amounts_among quotes es)

-- ---- the rows

-- area_sum names areas amounts n: the name of the area with number n, how many of the cells lie in it, and what their
-- numbers add up to
abbrev pub area_sum : List (List ℕ) → List (Address × ℕ) → List Amount → ℕ → SumRow
area_sum names areas amounts n =
    record {
      name = get_or names n [];
      count = count_in_area areas (cells_in amounts) n;
      units =
          sum_in_area areas amounts n;
    }

-- none_sum none areas amounts: `none` with the same of the cells that lie in no area
abbrev pub none_sum : List ℕ → List (Address × ℕ) → List Amount → SumRow
none_sum none areas amounts =
    record { name = none; count = count_in_none areas (cells_in amounts); units = sum_in_none areas amounts }

-- area_sums none names areas amounts: each area, in order, and then none
abbrev pub area_sums : List ℕ → List (List ℕ) → List (Address × ℕ) → List Amount → List SumRow
area_sums none names areas amounts =
    map (area_sum names areas amounts) (range_with_len 0 (length names)) ++ none_sum none areas amounts ∷ []

-- ---- as a table

-- title_or_sum rows: the field of the column of numbers in the header of a list, or else `sum`
abbrev pub title_or_sum : List Entry → List ℕ
title_or_sum rows = unwrap_or (title_of rows) (codes "sum")

-- sum_titles header zones rows: the titles of the columns of names and of sums, if there is a header: those that they
-- have in the table of zones and in the list, or else `zone` and `sum`
abbrev pub sum_titles : Bool → List ℕ → List Entry → Option (List ℕ × List ℕ)
sum_titles header zone rows = if header then Some (zone, title_or_sum rows) else None

-- area_sums_answer options list zones rows: how many of the rows of a list have their cells in each of the areas of a
-- table of zones, and in none, and what their numbers add up to, as a table in the form of that one
abbrev pub area_sums_answer : AreaOptions → RowOptions → List Entry → List Entry → Answer
area_sums_answer options list zones rows =
    let form = options.table.rows in
    let sums =
    area_sums (string_bytes options.none) (area_names form.quotes zones) (area_cells form.quotes zones)
    (amounts_among list.quotes rows) in
    written (sums_table form.separator (sum_titles (has_header options (Some list)) (title_or_zone zones) rows) sums)

-- ---- a law

-- AreaSumsPrintedAddUp: the counts in the rows of areas of which no two overlap add up to the number of rows with a
-- cell, and the sums to the sum of the numbers in these
pub record AreaSumsPrintedAddUp : Type 0 where
  pub counts : (quotes : Bool) (none : List ℕ) (zones : List Entry) (amounts : List Amount)
      → areas_refusal (area_cells quotes zones) ≡ None
      → sum (map (λ row. row.count) (area_sums none (area_names quotes zones) (area_cells quotes zones) amounts))
      ≡ length amounts
  pub sums : (quotes : Bool) (none : List ℕ) (zones : List Entry) (amounts : List Amount)
      → areas_refusal (area_cells quotes zones) ≡ None
      → total (map (λ row. row.units) (area_sums none (area_names quotes zones) (area_cells quotes zones) amounts))
      ≡ total (map (λ a. a.1) amounts)
