-- The counts and sums of rows by zones without names at worked values, by computation.
use Rattle.std.specs.Prelude.{◌≡◌, ℕ, Bool, false, true, List, [], ◌∷◌, ◌++◌, codes, None, Some, Err, refl}
use Rattle.std.specs.Fmt.{digits}
use Rattle.h3_index.specs.Cell.{Address, number_of}
use Rattle.h3_index.specs.CellNumber.{address_in, cell_in}
use Rattle.h3_index.specs.Count.{cells_of, cells_up_to}
use Rattle.h3_index.specs.Descendants.{descendants}
use Rattle.h3_index.specs.Paths.{paths}
use Rattle.h3_index.specs.Text.{parsed_index, text_of}
use Rattle.h3_index.specs.declared.error.H3Error.TheVariants.{DuplicateInput}
use Rattle.h3_lines.specs.Answer.{Answer, written}
use Rattle.h3_lines.specs.declared.run_error.AnswerError.TheVariants.{AtRow, File}
use Rattle.h3_lines.specs.declared.run_error.CellFile.TheVariants.{Zones}
use Rattle.h3_lines.specs.declared.run_error.RowError.TheVariants.{NotANumber}
use Rattle.h3_regions.specs.Zones.{by_number}
use Rattle.h3_requests.specs.declared.command.Command.TheVariants.{CountCellsInZones}
use Rattle.h3_requests.specs.declared.rows.CellField.TheVariants as field
use Rattle.h3_requests.specs.declared.rows.Tables.{Tables}
use Rattle.h3_rows.specs.Named.{Entry, Table}
use Rattle.h3_rows.specs.RowsAnswer.{After, Named}
use Rattle.h3_rows.specs.declared.table.FieldContent.TheVariants.{Number}
use Rattle.h3_command.specs.Answer.{Request, answer_to, request_of}
use Rattle.h3_command.specs.Answer.ListRequest.{of_rows}
use Rattle.h3_command.specs.Answer.Request.{after_file}
use Rattle.h3_command.specs.AreaExamples.{commas}
use Rattle.h3_command.specs.SumAnswers.{amounts_among, sum_titles}
use Rattle.h3_command.specs.SumTables.{sums_table}
use Rattle.h3_command.specs.ZoneSums.{zone_sums}

-- a list whose cells are in the column `cell`, and its numbers in the column `amount`
abbrev amounts : Table
amounts =
    record {
      form = commas (Named (codes "cell")) true ([] ∷ []) false;
      name = Named (codes "amount");
      content = Number;
    }

-- one without a header, whose cells are in the first field and numbers in the second
abbrev headless : Table
headless = record { form = commas (After 0) false ([] ∷ []) false; name = After 1; content = Number }

-- the sums, after commas and with a header or without
abbrev summed : Bool → List Address → List Entry → Answer
summed header zones rows =
    written (sums_table 44 (sum_titles header (codes "zone") rows) (zone_sums zones (amounts_among true rows)))

-- a zone, a finer one of a base cell before it, and a third without rows: by number the finer one is the last
abbrev zones : List ℕ
zones = codes "8003fffffffffff" ++ 10 ∷ codes "8100bffffffffff" ++ 10 ∷ codes "8005fffffffffff" ++ 10 ∷ []

-- the request of sums in zones
abbrev added_up : Table → (List Address → List Entry → Answer) → Request
added_up table about = after_file Zones None (λ zones. of_rows table (about zones))

-- a row below the second zone, one in the first, one whose cell is above a zone and so in none, one without a cell, and
-- one in the second zone without a number
abbrev trips : List ℕ
trips =
    codes "id,cell,amount" ++ 10 ∷ codes "1,8200affffffffff,1.50" ++ 10 ∷ codes "2,8003fffffffffff,2" ++ 10
    ∷ codes "3,8001fffffffffff,-0.5" ++ 10 ∷ codes "4,,." ++ 10 ∷ codes "5,8100bffffffffff, " ++ 10 ∷ []

-- each zone, in ascending order, also the one without rows, and none at last; the row without a cell is in no sum
sums_of_rows : answer_to (added_up amounts (summed true)) trips zones
    ≡ written (codes "zone,count,amount" ++ 10 ∷ codes "8003fffffffffff,1,2" ++ 10
    ∷ codes "8005fffffffffff,0,0" ++ 10 ∷ codes "8100bffffffffff,2,1.5" ++ 10 ∷ codes "0,1,-0.5" ++ 10 ∷ [])
unfolding digits parsed_index cell_in address_in number_of text_of by_number cells_up_to cells_of descendants paths
sums_of_rows = refl

-- the list has its cells in the first field and numbers in the second, with semicolons and without a header; the zones
-- are in the second field of a table with commas and a header
abbrev tables : Tables
tables = record {
  list =
      Some (record {
        field = field.Number 1;
        has_header = false;
        separator = 59;
        quotes = false;
        name = None;
        keeps_going = false;
        shows_errors = false;
        is_ragged = false;
        counted = refl;
        separates = refl;
      });
  sum = Some (field.Number 2);
  by = None;
  file =
      Some (record {
        field = field.Number 2;
        has_header = true;
        separator = 44;
        quotes = false;
        name = None;
        keeps_going = false;
        shows_errors = false;
        is_ragged = false;
        counted = refl;
        separates = refl;
      });
  areas = None;
  sum_counted = refl;
  by_counted = refl;
}

-- the answer has the list's separator, and a header as the table of zones has one: the zones' column is always `zone`,
-- and that of the sums is `sum` if the list has no header
sums_of_tables : answer_to (request_of tables CountCellsInZones)
    (codes "8001fffffffffff;0.1" ++ 10 ∷ codes "8001fffffffffff;-0.3" ++ 10 ∷ codes "8001fffffffffff;0.2" ++ 10 ∷ [])
    (codes "name,cell" ++ 10 ∷ codes "north,8001fffffffffff" ++ 10 ∷ [])
    ≡ written
    (codes "zone;count;sum" ++ 10 ∷ codes "8001fffffffffff;3;0" ++ 10 ∷ codes "0;0;0" ++ 10 ∷ [])
unfolding digits parsed_index cell_in address_in number_of text_of by_number cells_up_to cells_of descendants paths
sums_of_tables = refl

-- without a header, and without zones
sums_of_none : answer_to (added_up headless (summed false))
    (codes "8001fffffffffff,0.1" ++ 10 ∷ []) []
    ≡ written (codes "0,1,0.1" ++ 10 ∷ [])
unfolding digits parsed_index cell_in address_in number_of text_of by_number cells_up_to cells_of descendants paths
sums_of_none = refl

-- a row with a cell and no number: nothing is printed
no_number : answer_to (added_up amounts (summed true))
    (trips ++ codes "6,8001fffffffffff,." ++ 10 ∷ []) zones
    ≡ record { output = []; ending = Err (AtRow 7 NotANumber) }
unfolding parsed_index cell_in address_in number_of
no_number = refl

-- zones that overlap are an error, be the list faulty or not
no_sums : answer_to (added_up amounts (summed true)) (codes "x")
    (zones ++ codes "8001fffffffffff" ++ 10 ∷ [])
    ≡ record { output = []; ending = Err (File Zones DuplicateInput) }
unfolding parsed_index cell_in address_in number_of
no_sums = refl
