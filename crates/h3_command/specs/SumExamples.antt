-- The counts and sums of rows by the areas of a table at worked values, by computation.
use Rattle.std.specs.Prelude.{◌≡◌, Bool, false, true, List, [], ◌∷◌, ◌++◌, codes, Err, refl}
use Rattle.std.specs.Fmt.{digits}
use Rattle.h3_index.specs.Cell.{number_of}
use Rattle.h3_index.specs.CellNumber.{address_in, cell_in}
use Rattle.h3_index.specs.Text.{parsed_index}
use Rattle.h3_index.specs.declared.error.H3Error.TheVariants.{DuplicateInput}
use Rattle.h3_lines.specs.Answer.{Answer, written}
use Rattle.h3_lines.specs.declared.run_error.AnswerError.TheVariants.{AtRow, File}
use Rattle.h3_lines.specs.declared.run_error.CellFile.TheVariants.{Zones}
use Rattle.h3_lines.specs.declared.run_error.RowError.TheVariants.{NotANumber}
use Rattle.h3_rows.specs.Areas.{area_cells, area_names}
use Rattle.h3_rows.specs.Named.{Entry, Table}
use Rattle.h3_rows.specs.RowsAnswer.{After, Named}
use Rattle.h3_rows.specs.declared.table.FieldContent.TheVariants.{Number}
use Rattle.h3_command.specs.Answer.{Request, answer_to}
use Rattle.h3_command.specs.Answer.ListRequest.{of_rows}
use Rattle.h3_command.specs.Answer.Request.{after_areas}
use Rattle.h3_command.specs.AreaExamples.{commas, in_columns, overlapping, p, q, south, trips, worked}
use Rattle.h3_command.specs.Rows.{title_or_zone}
use Rattle.h3_command.specs.SumAnswers.{amounts_among, area_sums, sum_titles}
use Rattle.h3_command.specs.SumTables.{sums_table}

-- a list whose cells are in the column `cell`, and its numbers in the column `amount`
abbrev amounts : Table
amounts =
    record {
      form = commas (Named (codes "cell")) true ([] ∷ []) false;
      name = Named (codes "amount");
      content = Number;
    }

-- one without a header, whose cells are in the first field and numbers in the second
abbrev headless : Table
headless = record { form = commas (After 0) false ([] ∷ []) false; name = After 1; content = Number }

-- the sums, after commas and with a header
abbrev summed : List Entry → List Entry → Answer
summed zones rows =
    written (sums_table 44 (sum_titles true (title_or_zone zones) rows)
    (area_sums [] (area_names true zones) (area_cells true zones) (amounts_among true rows)))

-- the request of sums in areas
abbrev added_up : Bool → Table → Table → (List Entry → List Entry → Answer) → Request
added_up overlapping areas table about = after_areas overlapping areas (λ zones. of_rows table (about zones))

-- each area in the order of its first row, once, and none at last; the row without a cell is in no sum
sums_of_rows : answer_to (added_up false (in_columns (codes "zone")) amounts summed) trips worked
    ≡ written (codes "zone,count,amount" ++ 10 ∷ codes "north,1,1.5" ++ 10 ∷ south ++ codes ",1,2" ++ 10
    ∷ codes ",1,-0.5" ++ 10 ∷ [])
unfolding digits parsed_index cell_in address_in number_of
sums_of_rows = refl

-- a row with a cell and no number: nothing is printed
no_number : answer_to (added_up false (in_columns (codes "zone")) amounts summed)
    (trips ++ codes "5," ++ p ++ codes ",." ++ 10 ∷ []) worked
    ≡ record { output = []; ending = Err (AtRow 6 NotANumber) }
unfolding parsed_index cell_in address_in number_of
no_number = refl

-- areas that overlap are an error, unless they may: then a row is in the sum of each area of its cell
apart_alone : answer_to (added_up false (in_columns (codes "zone")) amounts summed) trips overlapping
    ≡ record { output = []; ending = Err (File Zones DuplicateInput) }
unfolding parsed_index cell_in address_in number_of
apart_alone = refl

in_each : answer_to (added_up true (in_columns (codes "zone")) amounts summed) trips overlapping
    ≡ written (codes "zone,count,amount" ++ 10 ∷ codes "north,1,1.5" ++ 10 ∷ south ++ codes ",1,2" ++ 10
    ∷ codes "all,2,3.5" ++ 10 ∷ codes ",1,-0.5" ++ 10 ∷ [])
unfolding digits parsed_index cell_in address_in number_of
in_each = refl

-- sums are exact; a list without a header has no title, and then `sum` stands in its place
tenths : answer_to (added_up false (in_columns (codes "zone")) headless summed)
    (p ++ codes ",0.1" ++ 10 ∷ p ++ codes ",0.2" ++ 10 ∷ p ++ codes ",-0.3" ++ 10 ∷ q ++ codes ", " ++ 10 ∷ []) worked
    ≡ written
    (codes "zone,count,sum" ++ 10 ∷ codes "north,3,0" ++ 10 ∷ south ++ codes ",1,0" ++ 10 ∷ codes ",0,0" ++ 10 ∷ [])
unfolding digits parsed_index cell_in address_in number_of
tenths = refl
