-- The definitions of tables of zones with names at worked values, by computation.
use Rattle.std.specs.Prelude.{map, ◌≡◌, ℕ, Bool, true, false, List, [], ◌∷◌, ◌++◌, codes, Option, None, Some, Err, refl}
use Rattle.h3_index.specs.Cell.{number_of}
use Rattle.h3_index.specs.CellNumber.{address_in, cell_in}
use Rattle.h3_index.specs.Text.{parsed_index}
use Rattle.h3_index.specs.declared.error.H3Error.TheVariants.{DuplicateInput}
use Rattle.h3_regions.specs.Areas.{areas_of}
use Rattle.h3_lines.specs.List.{itself}
use Rattle.h3_lines.specs.Answer.{Answer, written}
use Rattle.h3_lines.specs.declared.run_error.AnswerError.TheVariants.{File, FileAtRow, FileColumn}
use Rattle.h3_lines.specs.declared.run_error.CellFile.TheVariants.{Zones}
use Rattle.h3_lines.specs.declared.run_error.ColumnError.TheVariants.{NotFound, NotUnique}
use Rattle.h3_lines.specs.declared.run_error.RowError.TheVariants.{Bad}
use Rattle.h3_lines.specs.declared.run_error.RowFault.TheVariants.{NotAnIndex}
use Rattle.h3_rows.specs.Named.{Entry, Table}
use Rattle.h3_rows.specs.declared.table.FieldContent.TheVariants.{Text}
use Rattle.h3_rows.specs.RowsAnswer.{After, Choice, Form, Named}
use Rattle.h3_command.specs.Answer.{Request, answer_to, reads_list_after}
use Rattle.h3_command.specs.Answer.ListRequest.{of_lines}
use Rattle.h3_command.specs.Answer.Request.{after_areas}
use Rattle.h3_command.specs.Areas.{area_answer, areas_of_file}
use Rattle.h3_command.specs.Rows.{title_or_zone}

-- commas between fields, and quotes count
abbrev pub commas : Choice → Bool → List (List ℕ) → Bool → Form
commas choice has_header names quoted = record {
  separator = 44;
  quotes = true;
  choice = choice;
  says = itself;
  has_header = has_header;
  names = names;
  empty = [];
  quoted_answers = quoted;
  keeps_going = false;
  shows_errors = false;
  is_ragged = false;
}

-- the cells are in the column `cell`, and the names in one with this name
abbrev pub in_columns : List ℕ → Table
in_columns name =
    record { form = commas (Named (codes "cell")) true ([] ∷ []) false; name = Named name; content = Text }

-- the cells are in the second field, and the names in the first, without a header
abbrev pub in_fields : Table
in_fields = record { form = commas (After 1) false ([] ∷ []) false; name = After 0; content = Text }

-- a list of rows whose cell is in the column `cell`
abbrev rows : List Entry → Option Form
rows entries = Some (commas (Named (codes "cell")) true (title_or_zone entries ∷ []) true)

-- a bare list
abbrev bare : List Entry → Option Form
bare entries = None

abbrev pub p : List ℕ
p = codes "85283473fffffff"

abbrev pub q : List ℕ
q = codes "85283477fffffff"

abbrev pub x : List ℕ
x = codes "8528340ffffffff"

-- the parent of the first two
abbrev c : List ℕ
c = codes "8428347ffffffff"

-- `"south, old"`, with its quotes
abbrev pub south : List ℕ
south = 34 ∷ codes "south, old" ++ 34 ∷ []

-- two areas, of which one is in two rows, and a row without a cell
abbrev pub worked : List ℕ
worked =
    codes "zone,cell" ++ 10 ∷ codes "north," ++ p ++ 10 ∷ south ++ 44 ∷ q ++ 10 ∷ codes "north," ++ p ++ 10
    ∷ codes "none," ++ 10 ∷ []

-- a row in each of these, one in none, and one without a cell
abbrev pub trips : List ℕ
trips =
    codes "id,cell,amount" ++ 10 ∷ codes "1," ++ p ++ codes ",1.50" ++ 10 ∷ codes "2," ++ q ++ codes ",2" ++ 10
    ∷ codes "3," ++ x ++ codes ",-0.5" ++ 10 ∷ codes "4,,7"
    ++ 10 ∷ []

-- ---- answers

-- the request of the names of areas
abbrev named : Bool → Table → (List Entry → Option Form) → (List Entry → Option ℕ → Answer) → Request
named overlapping table form about =
    after_areas overlapping table (λ entries. of_lines (form entries) (about entries))

-- each row with the name of its area, in a column that is called as the table's own
names_beside_rows : answer_to (named false (in_columns (codes "zone")) rows (area_answer true
    [])) trips worked
    ≡ written (codes "id,cell,amount,zone" ++ 10 ∷ codes "1," ++ p ++ codes ",1.50,north" ++ 10 ∷ codes "2," ++ q
    ++ codes ",2," ++ south ++ 10 ∷ codes "3," ++ x ++ codes ",-0.5," ++ 10 ∷ codes "4,,7," ++ 10 ∷ [])
unfolding parsed_index cell_in address_in number_of areas_of
names_beside_rows = refl

-- a bare list, and a text for the cells in no area
names_of_lines : answer_to (named false (in_columns (codes "zone")) bare (area_answer true (codes "-")))
    (p ++ 10 ∷ x ++ 10 ∷ []) worked
    ≡ written (codes "north" ++ 10 ∷ codes "-" ++ 10 ∷ [])
unfolding parsed_index cell_in address_in number_of areas_of
names_of_lines = refl

-- ---- how a table is refused

-- one more area, whose cell is above the others
abbrev pub overlapping : List ℕ
overlapping = worked ++ codes "all," ++ c ++ 10 ∷ []

areas_overlap : areas_of_file false (in_columns (codes "zone")) overlapping ≡ Err (File Zones DuplicateInput)
unfolding parsed_index cell_in address_in number_of
areas_overlap = refl

-- where they may overlap, each row stands once for each of its areas: first with the one whose cell is coarser, though
-- that comes last in the table
names_of_overlapping : answer_to (named true (in_columns (codes "zone")) rows (area_answer true
    [])) trips overlapping
    ≡ written (codes "id,cell,amount,zone" ++ 10 ∷ codes "1," ++ p ++ codes ",1.50,all" ++ 10 ∷ codes "1," ++ p
    ++ codes ",1.50,north" ++ 10 ∷ codes "2," ++ q ++ codes ",2,all" ++ 10 ∷ codes "2," ++ q ++ codes ",2," ++ south
    ++ 10 ∷ codes "3," ++ x ++ codes ",-0.5," ++ 10 ∷ codes "4,,7," ++ 10 ∷ [])
unfolding parsed_index cell_in address_in number_of areas_of
names_of_overlapping = refl

-- and a bare list has a line for each
lines_of_overlapping : answer_to
    (named true (in_columns (codes "zone")) bare (area_answer true (codes "-"))) (p ++ 10 ∷ x ++ 10 ∷
    []) overlapping
    ≡ written (codes "all" ++ 10 ∷ codes "north" ++ 10 ∷ codes "-" ++ 10 ∷ [])
unfolding parsed_index cell_in address_in number_of areas_of
lines_of_overlapping = refl

-- the list has no part in the answer then, be it faulty or not
list_left : map (λ list. answer_to (named false (in_columns (codes "zone")) rows (area_answer true
    [])) list overlapping) (trips ∷ codes "x" ∷ [])
    ≡ record { output = []; ending = Err (File Zones DuplicateInput) }
    ∷ record { output = []; ending = Err (File Zones DuplicateInput) } ∷ []
unfolding parsed_index cell_in address_in number_of
list_left = refl

list_read : map (reads_list_after (named false (in_columns (codes "zone")) rows (area_answer true [])))
    (worked ∷ overlapping ∷ [])
    ≡ true ∷ false ∷ []
unfolding parsed_index cell_in address_in number_of
list_read = refl

missed_columns : map (λ name. areas_of_file false (in_columns name) worked) (codes "zones" ∷ codes "cell " ∷ [])
    ≡ Err (FileColumn Zones NotFound) ∷ Err (FileColumn Zones NotFound) ∷ []
missed_columns = refl

two_columns : areas_of_file false (in_columns (codes "zone")) (codes "zone,cell,zone")
    ≡ Err (FileColumn Zones NotUnique)
two_columns = refl

-- a faulty row comes before an overlap
faulty_first : areas_of_file false in_fields (codes "a," ++ p ++ 10 ∷ codes "b," ++ p ++ 10 ∷ codes "c,y")
    ≡ Err (FileAtRow Zones 3 (Bad NotAnIndex))
unfolding parsed_index cell_in address_in number_of
faulty_first = refl
