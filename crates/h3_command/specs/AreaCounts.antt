-- How many cells of a list lie in each of the areas of a table of zones with names, as a table of names and counts.
use Rattle.std.specs.Prelude.{◌≡◌, ℕ, Bool, ◌||◌, List, [], ◌∷◌, ◌++◌, length, map, sum, get_or, codes, string_bytes, Option, None, Some, if◌then◌else◌}
use Rattle.std.specs.List.{flat_map, range_with_len}
use Rattle.h3_index.specs.Cell.{Address}
use Rattle.h3_lines.specs.Answer.{Answer, number_line, written}
use Rattle.h3_regions.specs.AreaCounting.{count_in_area, count_in_none}
use Rattle.h3_regions.specs.Refusals.{areas_refusal}
use Rattle.h3_requests.specs.declared.rows.AreaOptions.{AreaOptions}
use Rattle.h3_requests.specs.declared.rows.RowOptions.{RowOptions}
use Rattle.h3_rows.specs.Areas.{area_cells, area_names}
use Rattle.h3_rows.specs.Named.{Entry}
use Rattle.h3_command.specs.Rows.{title_or_zone}

-- ---- the rows

-- area_count names areas cells n: the name of the area with number n, and how many of the cells lie in it
abbrev pub area_count : List (List ℕ) → List (Address × ℕ) → List Address → ℕ → List ℕ × ℕ
area_count names areas cells n = (get_or names n [], count_in_area areas cells n)

-- area_counts none names areas cells: each area, in order, with how many of the cells lie in it; and then `none` with
-- how many lie in no area
abbrev pub area_counts : List ℕ → List (List ℕ) → List (Address × ℕ) → List Address → List (List ℕ × ℕ)
area_counts none names areas cells =
    map (area_count names areas cells) (range_with_len 0 (length names)) ++ (none, count_in_none areas cells) ∷ []

-- ---- as a table

-- count_row separator row: a name, the separator, a count in decimal, and a line feed
abbrev pub count_row : ℕ → List ℕ × ℕ → List ℕ
count_row separator row = row.0 ++ separator ∷ number_line row.1

-- header_row separator title: the title of the column of names, the separator, `count` and a line feed; nothing if
-- there is no title
abbrev pub header_row : ℕ → Option (List ℕ) → List ℕ
header_row separator None = []
header_row separator (Some title) = title ++ separator ∷ (codes "count" ++ 10 ∷ [])

-- counts_table separator title rows: the header, if there is a title, and a row for each name with its count
abbrev pub counts_table : ℕ → Option (List ℕ) → List (List ℕ × ℕ) → List ℕ
counts_table separator title rows = header_row separator title ++ flat_map (count_row separator) rows

-- has_header options list: the table of zones has a header, or the list does
abbrev pub has_header : AreaOptions → Option RowOptions → Bool
has_header options None = options.table.rows.has_header
has_header options (Some rows) = options.table.rows.has_header || rows.has_header

-- counts_title options list entries: the title of the column of names in the header, if there is a header: the one that
-- it has in the table of zones, or else `zone`
abbrev pub counts_title : AreaOptions → Option RowOptions → List Entry → Option (List ℕ)
counts_title options list entries =
    if has_header options list then Some (title_or_zone entries) else None

-- area_counts_answer options list entries cells: how many of the cells lie in each of the areas of a table of zones,
-- and how many in none, as a table in the form of that one
abbrev pub area_counts_answer : AreaOptions → Option RowOptions → List Entry → List Address → Answer
area_counts_answer options list entries cells =
    let rows = options.table.rows in
    let counts =
    area_counts (string_bytes options.none) (area_names rows.quotes entries)
    (area_cells rows.quotes entries) cells in
    written (counts_table rows.separator (counts_title options list entries) counts)

-- ---- a law

-- AreaCountsPrintedAddUp: the numbers in the rows of the counts of areas of which no two overlap add up to the number
-- of cells that are counted
abbrev pub AreaCountsPrintedAddUp : Type 0
AreaCountsPrintedAddUp =
    (quotes : Bool) (none : List ℕ) (entries : List Entry) (cells : List Address)
    → areas_refusal (area_cells quotes entries) ≡ None
    → sum (map (λ row. row.1) (area_counts none (area_names quotes entries) (area_cells quotes entries) cells))
    ≡ length cells
