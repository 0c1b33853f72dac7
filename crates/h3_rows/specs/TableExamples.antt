-- The definitions of tables at worked values, by computation.
use Rattle.std.specs.Prelude.{map, ◌≡◌, ℕ, Bool, true, false, List, [], ◌∷◌, ◌++◌, codes, Option, None, Some, option_map, Result, Err, Ok, pos, neg_ℤ, refl}
use Rattle.h3_index.specs.Cell.{number_of}
use Rattle.h3_index.specs.CellNumber.{address_in, cell_in}
use Rattle.h3_index.specs.Text.{parsed_index}
use Rattle.h3_index.specs.declared.error.H3Error.TheVariants.{CellInvalid}
use Rattle.h3_lines.specs.List.{itself}
use Rattle.h3_lines.specs.Pieces.{rows_of}
use Rattle.h3_lines.specs.declared.run_error.AnswerError.{AnswerError}
use Rattle.h3_lines.specs.declared.run_error.AnswerError.TheVariants.{AtRow, Column}
use Rattle.h3_lines.specs.declared.run_error.ColumnError.TheVariants.{NotFound, NotUnique}
use Rattle.h3_lines.specs.declared.run_error.RowError.TheVariants.{Bad, Call, NotANumber}
use Rattle.h3_lines.specs.declared.run_error.RowFault.TheVariants.{FieldCount, NoSuchField, NotAnIndex, StrayQuote}
use Rattle.h3_rows.specs.Areas.{area_cells, area_names, first_rows, title_of}
use Rattle.h3_rows.specs.Named.{Entry, Table, named_cells, number_in}
use Rattle.h3_rows.specs.RowsAnswer.{After, Choice, Form, Named}
use Rattle.h3_rows.specs.declared.table.FieldContent.TheVariants.{Number, Text}

-- commas between fields, and quotes count
abbrev commas : Choice → Bool → Bool → Form
commas choice has_header is_ragged =
    record {
      separator = 44;
      quotes = true;
      choice = choice;
      says = itself;
      has_header = has_header;
      names = [];
      empty = [];
      quoted_answers = false;
      keeps_going = false;
      shows_errors = false;
      is_ragged = is_ragged;
    }

-- a header, the cells in the column `cell`, and the names in the column `zone`
abbrev zones : Table
zones = record { form = commas (Named (codes "cell")) true false; name = Named (codes "zone"); content = Text }

-- the same columns, where rows may have any number of fields
abbrev ragged_zones : Table
ragged_zones = record { form = commas (Named (codes "cell")) true true; name = Named (codes "zone"); content = Text }

-- no header, the names in the first field, and the cells in the second
abbrev plain_zones : Table
plain_zones = record { form = commas (After 1) false false; name = After 0; content = Text }

-- no header, the cells in the first field, and the names in the second
abbrev named_after : Table
named_after = record { form = commas (After 0) false false; name = After 1; content = Text }

-- the same with tabs, and no quotes
abbrev tabs : Table
tabs =
    record {
      form =
          record {
            separator = 9;
            quotes = false;
            choice = After 0;
            says = itself;
            has_header = false;
            names = [];
            empty = [];
            quoted_answers = false;
            keeps_going = false;
            shows_errors = false;
            is_ragged = false;
          };
      name = After 1;
      content = Text;
    }

abbrev p : List ℕ
p = codes "85283473fffffff"

abbrev q : List ℕ
q = codes "85283477fffffff"

-- "south, old"
abbrev south : List ℕ
south = 34 ∷ codes "south, old" ++ 34 ∷ []

-- a header, two areas of which the first has two rows, and a row without a cell
abbrev worked : List ℕ
worked =
    codes "zone,cell" ++ 10 ∷ codes "north," ++ p ++ 10 ∷ south ++ 44 ∷ q ++ 10 ∷ codes "north," ++ p ++ 10
    ∷ codes "none," ++ 10 ∷ []

-- the entries with the numbers of their cells
abbrev numbers : Result (List Entry) AnswerError → Result (List (Option ℕ × List ℕ)) AnswerError
numbers (Ok entries) = Ok (map (λ e. (option_map number_of e.cell, e.field)) entries)
numbers (Err e) = Err e

-- what is read of a list
abbrev read : Table → List ℕ → Result (List (Option ℕ × List ℕ)) AnswerError
read table list = numbers (named_cells table (rows_of table.form.quotes list))

abbrev names_among : Bool → Result (List Entry) AnswerError → List (List ℕ)
names_among quotes (Ok entries) = area_names quotes entries
names_among quotes (Err e) = []

-- the names of the areas of a list
abbrev names : Table → List ℕ → List (List ℕ)
names table list = names_among table.form.quotes (named_cells table (rows_of table.form.quotes list))

abbrev numbers_among : Result (List Entry) AnswerError → List (ℕ × ℕ)
numbers_among (Ok entries) = map (λ c. (number_of c.0, c.1)) (area_cells true entries)
numbers_among (Err e) = []

abbrev title_among : Result (List Entry) AnswerError → Option (List ℕ)
title_among (Ok entries) = title_of entries
title_among (Err e) = None

-- the name in the header of the column of names of a list
abbrev title : Table → List ℕ → Option (List ℕ)
title table list = title_among (named_cells table (rows_of table.form.quotes list))

-- ---- what is read

worked_entries : read zones worked
    ≡ Ok ((None, codes "zone") ∷ (Some 0x85283473fffffff, codes "north") ∷ (Some 0x85283477fffffff, south)
    ∷ (Some 0x85283473fffffff, codes "north") ∷ [])
unfolding parsed_index cell_in address_in number_of
worked_entries = refl

-- a row whose cell is missing has no entry, even if it has no field for the name
missing_cells : read named_after (10 ∷ 10 ∷ codes " " ++ 10 ∷ p ++ codes ",a")
    ≡ Ok ((Some 0x85283473fffffff, codes "a") ∷ [])
unfolding parsed_index cell_in address_in number_of
missing_cells = refl

-- a row with a cell and no field for its name
no_name : read named_after (p ++ codes ",a" ++ 10 ∷ p) ≡ Err (AtRow 2 (Bad NoSuchField))
unfolding parsed_index cell_in address_in number_of
no_name = refl

-- that comes before what its cell's text says, and after the number of its fields
no_name_no_index : map (read named_after) (codes "x" ∷ codes "0" ∷ [])
    ≡ Err (AtRow 1 (Bad NoSuchField)) ∷ Err (AtRow 1 (Bad NoSuchField)) ∷ []
unfolding parsed_index cell_in address_in number_of
no_name_no_index = refl

no_name_narrow : read (record { form = commas (Named (codes "cell")) true false; name = After 2; content = Text })
    (codes "x,y,cell" ++ 10 ∷ codes "x")
    ≡ Err (AtRow 2 (Bad (FieldCount 1 3)))
no_name_narrow = refl

-- faulty rows have their reasons: under a header also a row whose cell is missing, unless rows may have any number of
-- fields
wide_row : read zones (codes "zone,cell" ++ 10 ∷ codes "north,,x") ≡ Err (AtRow 2 (Bad (FieldCount 3 2)))
wide_row = refl

ragged_row : read ragged_zones (codes "zone,cell" ++ 10 ∷ codes "north,,x" ++ 10 ∷ codes "south," ++ q ++ codes ",x")
    ≡ Ok ((None, codes "zone") ∷ (Some 0x85283477fffffff, codes "south") ∷ [])
unfolding parsed_index cell_in address_in number_of
ragged_row = refl

no_index : read plain_zones (codes "north," ++ p ++ 10 ∷ codes "south,x") ≡ Err (AtRow 2 (Bad NotAnIndex))
unfolding parsed_index cell_in address_in number_of
no_index = refl

no_cell : read plain_zones (codes "north,0") ≡ Err (AtRow 1 (Call CellInvalid))
unfolding parsed_index cell_in address_in number_of
no_cell = refl

stray_quote : read plain_zones (codes "5" ++ 34 ∷ codes " pipe" ++ 34 ∷ codes ",") ≡ Err (AtRow 1 (Bad StrayQuote))
stray_quote = refl

-- columns that a header has not, or has twice: the cell's is looked for first
no_cell_column : read
    (record { form = commas (Named (codes "cells")) true false; name = Named (codes "zones"); content = Text })
    (codes "cells,cells")
    ≡ Err (Column NotUnique)
no_cell_column = refl

no_name_column : read (record { form = zones.form; name = Named (codes "zones"); content = Text }) worked
    ≡ Err (Column NotFound)
no_name_column = refl

two_name_columns : read zones (codes "zone,cell,zone") ≡ Err (Column NotUnique)
two_name_columns = refl

-- a list without a row has no header
no_header : read (record { form = plain_zones.form; name = Named (codes "zone"); content = Text }) (10 ∷ [])
    ≡ Err (Column NotFound)
no_header = refl

-- a column of names is looked for in a header, also where the cells are in a field with a number
named_column : read (record { form = plain_zones.form; name = Named (codes "zone"); content = Text })
    (codes "zone,x" ++ 10 ∷ codes "a," ++ p)
    ≡ Ok ((None, codes "zone") ∷ (Some 0x85283473fffffff, codes "a") ∷ [])
unfolding parsed_index cell_in address_in number_of
named_column = refl

-- ---- numbers

-- a blank field, in quotes or not, is 0; blanks around a number do not count, nor do quotes
numbers_in_fields : map (number_in true)
    ([] ∷ codes "  " ∷ (34 ∷ codes " " ++ 34 ∷ []) ∷ codes " 1.50 " ∷ (34 ∷ codes "-2" ++ 34 ∷ []) ∷ [])
    ≡ Some (pos 0) ∷ Some (pos 0) ∷ Some (pos 0) ∷ Some (pos 1500000000000000000)
    ∷ Some (neg_ℤ (pos 2000000000000000000)) ∷ []
numbers_in_fields = refl

-- other texts are not numbers, nor are blanks in quotes around one, nor quotes that do not count
no_numbers_in_fields : map (number_in true)
    (codes "." ∷ codes "1." ∷ codes ".5" ∷ codes "1e3" ∷ codes "0x1" ∷ (34 ∷ codes " 1" ++ 34 ∷ []) ∷ [])
    ++ number_in false (34 ∷ codes "1" ++ 34 ∷ []) ∷ []
    ≡ None ∷ None ∷ None ∷ None ∷ None ∷ None ∷ None ∷ []
no_numbers_in_fields = refl

-- a header, the cells in the column `cell`, and numbers in the column `amount`; rows may have any number of fields
abbrev amounts : Table
amounts = record { form = commas (Named (codes "cell")) true true; name = Named (codes "amount"); content = Number }

-- a row whose cell is missing has no entry, even if it has no number or no field for one
numbers_read : read amounts
    (codes "cell,amount" ++ 10 ∷ p ++ codes ",1.50" ++ 10 ∷ codes ",x" ++ 10 ∷ codes " " ++ 10 ∷ q ++ codes ",")
    ≡ Ok ((None, codes "amount") ∷ (Some 0x85283473fffffff, codes "1.50") ∷ (Some 0x85283477fffffff, []) ∷ [])
unfolding parsed_index cell_in address_in number_of
numbers_read = refl

-- a row with a cell, and no number or no field for one
no_number : map (λ row. read amounts (codes "cell,amount" ++ 10 ∷ row)) ((p ++ codes ",.") ∷ p ∷ [])
    ≡ Err (AtRow 2 NotANumber) ∷ Err (AtRow 2 NotANumber) ∷ []
unfolding parsed_index cell_in address_in number_of
no_number = refl

-- an error of its cell comes first
no_index_no_number : map (λ row. read amounts (codes "cell,amount" ++ 10 ∷ row)) (codes "x,." ∷ codes "0" ∷ [])
    ≡ Err (AtRow 2 (Bad NotAnIndex)) ∷ Err (AtRow 2 (Call CellInvalid)) ∷ []
unfolding parsed_index cell_in address_in number_of
no_index_no_number = refl

-- ---- areas

worked_names : names zones worked ≡ codes "north" ∷ south ∷ []
unfolding parsed_index cell_in address_in number_of
worked_names = refl

worked_areas : numbers_among (named_cells zones (rows_of true worked)) ≡ (0x85283473fffffff, 0) ∷ (
  0x85283477fffffff,
  1,
) ∷ (0x85283473fffffff, 0) ∷ []
unfolding parsed_index cell_in address_in number_of
worked_areas = refl

abbrev rows_among : Result (List Entry) AnswerError → List ℕ
rows_among (Ok entries) = first_rows true entries
rows_among (Err e) = []

-- the first rows of areas: a line feed in quotes counts, and a row without a cell is passed over
worked_first_rows : map (λ list. rows_among (named_cells zones (rows_of true list))) (worked
    ∷ (codes "zone,cell" ++ 10 ∷ 34 ∷ codes "a" ++ 10 ∷ codes "b" ++ 34 ∷ 44 ∷ p ++ 10 ∷ codes "c," ++ 10 ∷ codes "c,"
    ++ q)
    ∷ [])
    ≡ (2 ∷ 3 ∷ []) ∷ (2 ∷ 5 ∷ []) ∷ []
unfolding parsed_index cell_in address_in number_of
worked_first_rows = refl

-- two spellings of one name, in quotes and with blanks, are one area, written as in its first row
one_area : names plain_zones (34 ∷ codes "a" ++ 34 ∷ 44 ∷ p ++ 10 ∷ codes " a ," ++ q ++ 10 ∷ codes "b," ++ q)
    ≡ (34 ∷ codes "a" ++ 34 ∷ []) ∷ codes "b" ∷ []
unfolding parsed_index cell_in address_in number_of
one_area = refl

-- a name loses the blanks around it, and a carriage return at its end, and keeps those inside its quotes
blanks_around : names plain_zones (codes "  a " ++ 9 ∷ 44 ∷ p ++ 10 ∷ 34 ∷ codes " a " ++ 34 ∷ 32 ∷ 44 ∷ q)
    ≡ codes "a" ∷ (34 ∷ codes " a " ++ 34 ∷ []) ∷ []
unfolding parsed_index cell_in address_in number_of
blanks_around = refl

return_at_end : names tabs (p ++ 9 ∷ codes "a" ++ 13 ∷ 9 ∷ codes "x" ++ 10 ∷ q ++ 9 ∷ codes "a" ++ 13 ∷ 10 ∷ [])
    ≡ codes "a" ∷ []
unfolding parsed_index cell_in address_in number_of
return_at_end = refl

-- a byte order mark is no part of a name
marked : names plain_zones (239 ∷ 187 ∷ 191 ∷ codes "a," ++ p) ≡ codes "a" ∷ []
unfolding parsed_index cell_in address_in number_of
marked = refl

-- a first row that is a byte order mark alone is passed over
marked_alone : title zones (239 ∷ 187 ∷ 191 ∷ 10 ∷ codes "zone,cell" ++ 10 ∷ []) ≡ Some (codes "zone")
marked_alone = refl

-- a name that stands in rows without a cell alone is no area
no_area : names plain_zones (codes "a," ++ 10 ∷ codes "b," ++ p) ≡ codes "b" ∷ []
unfolding parsed_index cell_in address_in number_of
no_area = refl

-- ---- the header's own name

worked_title : title zones worked ≡ Some (codes "zone")
unfolding parsed_index cell_in address_in number_of
worked_title = refl

-- without blanks and a byte order mark, in its quotes
quoted_title : title zones (239 ∷ 187 ∷ 191 ∷ 32 ∷ 34 ∷ codes "zone" ++ 34 ∷ codes " ,cell" ++ 10 ∷ [])
    ≡ Some (34 ∷ codes "zone" ++ 34 ∷ [])
quoted_title = refl

no_title : title plain_zones (codes "a," ++ p) ≡ None
unfolding parsed_index cell_in address_in number_of
no_title = refl

-- a header without the field of the names
short_header : title (record { form = commas (After 0) true true; name = After 1; content = Text })
    (codes "cell" ++ 10 ∷ p ++ codes ",a")
    ≡ None
unfolding parsed_index cell_in address_in number_of
short_header = refl
