-- One list for each value of a field: what a command answers to the cells of its rows.
use Rattle.std.specs.Prelude.{ℕ, Bool, List, [], ◌∷◌, ◌++◌, codes, get_or, length, Option, None, Some, unwrap_or, Result, Ok, Err, if◌then◌else◌}
use Rattle.std.specs.List.{flat_map, range_with_len}
use Rattle.h3_index.specs.Cell.{Address}
use Rattle.h3_index.specs.declared.error.H3Error.{H3Error}
use Rattle.h3_lines.specs.Answer.{Answer, cell_line, written}
use Rattle.h3_lines.specs.declared.run_error.AnswerError.{AnswerError}
use Rattle.h3_lines.specs.declared.run_error.AnswerError.TheVariants.{AtRow}
use Rattle.h3_lines.specs.declared.run_error.RowError.TheVariants.{Call}
use Rattle.h3_regions.specs.Areas.{cells_of}
use Rattle.h3_requests.specs.declared.rows.RowOptions.{RowOptions}
use Rattle.h3_rows.specs.Areas.{area_cells, area_names, first_rows, title_of}
use Rattle.h3_rows.specs.Named.{Entry}

-- value_line separator value cell: a row of two fields, a value and a cell
abbrev pub value_line : ℕ → List ℕ → Address → List ℕ
value_line separator value cell = value ++ separator ∷ cell_line cell

-- value_lines separator value cells: such a row for each cell
abbrev pub value_lines : ℕ → List ℕ → List Address → List ℕ
value_lines separator value cells = flat_map (value_line separator value) cells

-- lists_then separator value row list later: the list of a value, each cell as a row with the value, before those of
-- the later values; the first error decides, and is that of the value's first row
abbrev pub lists_then : ℕ → List ℕ → ℕ → Result (List Address) H3Error → Result (List ℕ) AnswerError
    → Result (List ℕ) AnswerError
lists_then separator value row (Err e) later = Err (AtRow row (Call e))
lists_then separator value row (Ok cells) (Err e) = Err e
lists_then separator value row (Ok cells) (Ok text) = Ok (value_lines separator value cells ++ text)

-- lists_of separator function names rows cells numbers: for each of the values with these numbers, what a function
-- answers to exactly its own cells
abbrev pub lists_of : ℕ → (List Address → Result (List Address) H3Error) → List (List ℕ) → List ℕ → List (Address × ℕ)
    → List ℕ
    → Result (List ℕ) AnswerError
lists_of separator function names rows cells [] = Ok []
lists_of separator function names rows cells (n ∷ ns) =
    lists_then separator (get_or names n []) (get_or rows n 0) (function (cells_of cells n))
    (lists_of separator function names rows cells ns)

-- title_row separator title: the header: the title of the values' field, the separator, `cell` and a line feed; nothing
-- if there is no title
abbrev pub title_row : ℕ → Option (List ℕ) → List ℕ
title_row separator None = []
title_row separator (Some title) = title ++ separator ∷ (codes "cell" ++ 10 ∷ [])

-- all_or_error header text: the header and the text; nothing is written if there is an error in place of the text
abbrev pub all_or_error : List ℕ → Result (List ℕ) AnswerError → Answer
all_or_error header (Ok text) = written (header ++ text)
all_or_error header (Err e) = record { output = []; ending = Err e }

-- lists_answer separator title function names rows cells: the header, if there is a title, and for each value, in
-- order, what a function answers to exactly its own cells, each cell as a row with the value; or the first error alone
abbrev pub lists_answer : ℕ → Option (List ℕ) → (List Address → Result (List Address) H3Error) → List (List ℕ) → List ℕ
    → List (Address × ℕ) → Answer
lists_answer separator title function names rows cells =
    all_or_error (title_row separator title)
    (lists_of separator function names rows cells (range_with_len 0 (length names)))

-- title_if has_header title: if the list has a header, its title of the values' field, which is empty if the header
-- lacks that field
abbrev pub title_if : Bool → Option (List ℕ) → Option (List ℕ)
title_if has_header title = if has_header then Some (unwrap_or title []) else None

-- by_answer rows function entries: for each value of a field of a list's rows, in the order in which values first stand
-- in a row with a cell, what a function answers to exactly the cells of the value's rows, each cell as a row of the
-- value, as it stands in the first of these, and the cell; before them a header, if the list has one. An error is that
-- of the first value whose list has one, at the value's first row, and nothing else is written then.
abbrev pub by_answer : RowOptions → (List Address → Result (List Address) H3Error) → List Entry → Answer
by_answer rows function entries =
    lists_answer rows.separator (title_if rows.has_header (title_of entries)) function (area_names rows.quotes entries)
    (first_rows rows.quotes entries) (area_cells rows.quotes entries)
