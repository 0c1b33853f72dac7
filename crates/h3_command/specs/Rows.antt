-- Lists, bare or of rows: answered line by line, where each row is written with the answer to its own cell beside it,
-- or by their cells as a whole.
use Rattle.std.specs.Prelude.{ℕ, Bool, List, [], Option, None, Some, codes, option_map, unwrap_or}
use Rattle.h3_lines.specs.Answer.{Answer}
use Rattle.h3_lines.specs.EachLine.{list_answer}
use Rattle.h3_lines.specs.List.{Says}
use Rattle.h3_requests.specs.declared.rows.RowOptions.{RowOptions}
use Rattle.h3_requests.specs.declared.rows.Tables.{Tables}
use Rattle.h3_rows.specs.Areas.{title_of}
use Rattle.h3_rows.specs.Named.{Entry}
use Rattle.h3_rows.specs.RowForm.{form_as, form_of, pair_form_of, text_form_of}
use Rattle.h3_rows.specs.RowsAnswer.{Form}
use Rattle.h3_rows.specs.RowsAnswer.{list_answer as row_answers}

-- rows_form rows name: the form of a list's rows, if it has rows, where the new column has this name unless another is
-- given
abbrev pub rows_form : Option RowOptions → List ℕ → Option Form
rows_form rows name = option_map (λ options. form_of options name) rows

-- pair_form rows: the same where an answer is a cell and its distance, which have a new column each
abbrev pub pair_form : Option RowOptions → Option Form
pair_form rows = option_map pair_form_of rows

-- text_form rows quotes name: the same where an answer is a text of any length; `quotes` says whether quotes count in
-- it
abbrev pub text_form : Option RowOptions → Bool → List ℕ → Option Form
text_form rows quotes name = option_map (λ options. text_form_of quotes options name) rows

-- title_or_zone entries: the name of the column of names in a table's header, or else `zone`
abbrev pub title_or_zone : List Entry → List ℕ
title_or_zone entries = unwrap_or (title_of entries) (codes "zone")

-- area_form rows quotes entries: the same where an answer is the name of an area of a table: the new column's name is
-- that of `--as`, else that of the column of names in the table's header, else `zone`
abbrev pub area_form : Option RowOptions → Bool → List Entry → Option Form
area_form rows quotes entries = text_form rows quotes (title_or_zone entries)

-- list_form rows: the form of a list's rows, if it has rows, of which the cells alone are read: no column is added
abbrev pub list_form : Option RowOptions → Option Form
list_form rows = rows_form rows []

-- list_form_as says rows: the same where this is taken for the indexes of the cells
abbrev pub list_form_as : Says → Option RowOptions → Option Form
list_form_as says rows = option_map (form_as says) rows

-- file_form tables: the form of the rows of a file of cells, if it has rows, of which the cells alone are read
abbrev pub file_form : Tables → Option Form
file_form tables = list_form tables.file

-- listed_answer form about list: the answer to the list in these bytes, line by line, or row by row in a form
abbrev pub listed_answer : Option Form → (Option ℕ → Answer) → List ℕ → Answer
listed_answer None about list = list_answer about list
listed_answer (Some form) about list = row_answers form about list
