-- The definitions at worked values, by computation.
use Rattle.std.specs.Prelude.{map, ◌≡◌, ℕ, Bool, true, false, List, [], ◌∷◌, ◌++◌, codes, Option, None, Some, Err, Ok, refl}
use Rattle.h3_index.specs.Text.{parsed_index}
use Rattle.h3_index.specs.declared.error.H3Error.TheVariants.{Failed}
use Rattle.h3_lines.specs.Answer.{Answer, refused, written}
use Rattle.h3_lines.specs.List.{itself}
use Rattle.h3_lines.specs.declared.run_error.AnswerError.TheVariants.{AtRow, AtRowAndMore, Column}
use Rattle.h3_lines.specs.declared.run_error.ColumnError.TheVariants.{InUse, NotFound, NotUnique}
use Rattle.h3_lines.specs.declared.run_error.RowError.TheVariants.{Bad}
use Rattle.h3_lines.specs.declared.run_error.RowFault.TheVariants.{CarriageReturn, FieldCount, NoSuchField, NotAnIndex, OpenQuote, StrayQuote}
use Rattle.h3_rows.specs.RowsAnswer.{After, Form, Named, answer_names, column_of, empty_answer, error_names, list_answer}

-- a function that answers any index by a word, and refuses a text that is none
abbrev name : Option ℕ → Answer
name None = refused Failed
name (Some n) = written (codes "five" ++ 10 ∷ [])

-- a function that says whether a text is an index
abbrev truth : Option ℕ → Answer
truth None = written (codes "false" ++ 10 ∷ [])
truth (Some n) = written (codes "true" ++ 10 ∷ [])

-- a function with two answers
abbrev twice : Option ℕ → Answer
twice index = written (codes "x" ++ 10 ∷ codes "y" ++ 10 ∷ [])

-- tabs between fields, with the cell after so many others
abbrev tabs : ℕ → Form
tabs before =
    record {
      separator = 9;
      quotes = false;
      choice = After before;
      says = itself;
      has_header = false;
      names = codes "new" ∷ [];
      empty = [];
      quoted_answers = false;
      keeps_going = false;
      shows_errors = false;
      is_ragged = false;
    }

abbrev commas : ℕ → Form
commas before =
    record {
      separator = 44;
      quotes = true;
      choice = After before;
      says = itself;
      has_header = false;
      names = codes "new" ∷ [];
      empty = [];
      quoted_answers = false;
      keeps_going = false;
      shows_errors = false;
      is_ragged = false;
    }

-- quotes count, and the cell is in a column
abbrev column : List ℕ → Form
column cell =
    record {
      separator = 44;
      quotes = true;
      choice = Named cell;
      says = itself;
      has_header = true;
      names = codes "cellToParent" ∷ [];
      empty = [];
      quoted_answers = false;
      keeps_going = false;
      shows_errors = false;
      is_ragged = false;
    }

-- a header, and the cell in the first field
abbrev headed : Form
headed =
    record {
      separator = 9;
      quotes = false;
      choice = After 0;
      says = itself;
      has_header = true;
      names = codes "new" ∷ [];
      empty = [];
      quoted_answers = false;
      keeps_going = false;
      shows_errors = false;
      is_ragged = false;
    }

-- runs that go on
abbrev going_on : Form
going_on =
    record {
      separator = 9;
      quotes = false;
      choice = After 0;
      says = itself;
      has_header = false;
      names = codes "new" ∷ [];
      empty = [];
      quoted_answers = false;
      keeps_going = true;
      shows_errors = false;
      is_ragged = false;
    }

abbrev quoted_going_on : Form
quoted_going_on =
    record {
      separator = 44;
      quotes = true;
      choice = After 0;
      says = itself;
      has_header = false;
      names = codes "new" ∷ [];
      empty = [];
      quoted_answers = false;
      keeps_going = true;
      shows_errors = false;
      is_ragged = false;
    }

-- ---- rows with their answers

-- an empty row is written as it is, and one whose cell is missing has an empty answer
missing_and_empty : list_answer (tabs 1) name (codes "a" ++ 9 ∷ codes "85283473fffffff" ++ 9 ∷ codes "x" ++ 10 ∷ 10
    ∷ codes "b" ++ 9 ∷ 9 ∷ codes "y" ++ 10 ∷ codes "c" ++ 9 ∷ codes "8528340ffffffff" ++ 10 ∷ [])
    ≡ written (codes "a" ++ 9 ∷ codes "85283473fffffff" ++ 9 ∷ codes "x" ++ 9 ∷ codes "five" ++ 10 ∷ 10 ∷ codes "b" ++ 9
    ∷ 9 ∷ codes "y" ++ 9 ∷ 10 ∷ codes "c" ++ 9 ∷ codes "8528340ffffffff" ++ 9 ∷ codes "five" ++ 10 ∷ [])
unfolding parsed_index
missing_and_empty = refl

-- an empty last row without its line feed gets it; nothing at all has no row
empty_rows : map (list_answer (tabs 0) name) ([] ∷ (10 ∷ 13 ∷ []) ∷ []) ≡ written [] ∷ written (10 ∷ 13 ∷ 10 ∷ []) ∷ []
empty_rows = refl

-- a column that has a name: quotes, a line feed inside them, carriage returns, a last row without its ending, which
-- gets that of the row before it
quoted : list_answer (column (codes "cell")) name (codes "id,cell" ++ 13 ∷ 10 ∷ 34 ∷ codes "a, " ++ 34 ∷ 34 ∷ codes "b"
    ++ 34 ∷ 34 ∷ 10 ∷ codes "c" ++ 34 ∷ 44 ∷ 34 ∷ codes " 85283473FFFFFFF " ++ 34 ∷ 13 ∷ 10 ∷ codes "d," ++ 34
    ∷ codes "0x85283473fffffff" ++ 34 ∷ [])
    ≡ written (codes "id,cell,cellToParent" ++ 13 ∷ 10 ∷ 34 ∷ codes "a, " ++ 34 ∷ 34 ∷ codes "b" ++ 34 ∷ 34 ∷ 10
    ∷ codes "c" ++ 34 ∷ 44 ∷ 34 ∷ codes " 85283473FFFFFFF " ++ 34 ∷ codes ",five" ++ 13 ∷ 10 ∷ codes "d," ++ 34
    ∷ codes "0x85283473fffffff" ++ 34 ∷ codes ",five" ++ 13 ∷ 10 ∷ [])
unfolding parsed_index
quoted = refl

-- a last row without its line feed keeps its own carriage returns, and the only row has none to get; a row with a line
-- feed gets nothing
endings : map (list_answer (tabs 0) name) ((codes "8" ++ 13 ∷ 13 ∷ 10 ∷ codes "8")
    ∷ (codes "8" ++ 13 ∷ 13 ∷ 10 ∷ codes "8" ++ 13 ∷ []) ∷ codes "8" ∷ (codes "8" ++ 13 ∷ 10 ∷ codes "8" ++ 10 ∷ [])
    ∷ (13 ∷ 10 ∷ 10 ∷ codes "8") ∷ [])
    ≡ written (codes "8" ++ 9 ∷ codes "five" ++ 13 ∷ 13 ∷ 10 ∷ codes "8" ++ 9 ∷ codes "five" ++ 13 ∷ 13 ∷ 10 ∷ [])
    ∷ written (codes "8" ++ 9 ∷ codes "five" ++ 13 ∷ 13 ∷ 10 ∷ codes "8" ++ 9 ∷ codes "five" ++ 13 ∷ 10 ∷ [])
    ∷ written (codes "8" ++ 9 ∷ codes "five" ++ 10 ∷ [])
    ∷ written (codes "8" ++ 9 ∷ codes "five" ++ 13 ∷ 10 ∷ codes "8" ++ 9 ∷ codes "five" ++ 10 ∷ [])
    ∷ written (13 ∷ 10 ∷ 10 ∷ codes "8" ++ 9 ∷ codes "five" ++ 10 ∷ []) ∷ []
unfolding parsed_index
endings = refl

-- the first faulty row ends the answer; where the run goes on it has an empty one
faulty_row : list_answer (tabs 0) name (codes "85283473fffffff" ++ 10 ∷ codes "xyz" ++ 10 ∷ [])
    ≡ record
    { output = codes "85283473fffffff" ++ 9 ∷ codes "five" ++ 10 ∷ []; ending = Err (AtRow 2 (Bad NotAnIndex)) }
unfolding parsed_index
faulty_row = refl

kept_row : list_answer going_on name (codes "85283473fffffff" ++ 10 ∷ codes "xyz" ++ 10 ∷ [])
    ≡ record {
      output = codes "85283473fffffff" ++ 9 ∷ codes "five" ++ 10 ∷ codes "xyz" ++ 9 ∷ 10 ∷ [];
      ending = Err (AtRowAndMore 2 (Bad NotAnIndex) 0);
    }
unfolding parsed_index
kept_row = refl

kept_rows : list_answer going_on name (codes "xyz" ++ 10 ∷ codes "8" ++ 10 ∷ 10 ∷ codes "-" ++ 10 ∷ codes "-" ++ 10 ∷
    [])
    ≡ record {
      output = codes "xyz" ++ 9 ∷ 10 ∷ codes "8" ++ 9 ∷ codes "five" ++ 10 ∷ 10 ∷ codes "-" ++ 9 ∷ 10
          ∷ codes "-" ++ 9 ∷ 10 ∷ [];
      ending = Err (AtRowAndMore 1 (Bad NotAnIndex) 2);
    }
unfolding parsed_index
kept_rows = refl

-- a malformed row ends also a run that goes on, and its own line is reported
malformed_kept : list_answer quoted_going_on name (codes "x" ++ 10 ∷ codes "5" ++ 34 ∷ codes " pipe" ++ 10 ∷ [])
    ≡ record { output = codes "x," ++ 10 ∷ []; ending = Err (AtRow 2 (Bad OpenQuote)) }
unfolding parsed_index
malformed_kept = refl

-- a function answers an index; a missing cell has an empty answer
validity : list_answer (record {
  separator = 44;
  quotes = false;
  choice = After 0;
  says = itself;
  has_header = false;
  names = [] ∷ [];
  empty = [];
  quoted_answers = false;
  keeps_going = false;
  shows_errors = false;
  is_ragged = false;
}) truth (codes "85283473fffffff,1" ++ 10 ∷ codes ",3" ++ 10 ∷ [])
    ≡ written (codes "85283473fffffff,1,true" ++ 10 ∷ codes ",3," ++ 10 ∷ [])
unfolding parsed_index
validity = refl

-- a row once for each of its answers
two_answers : list_answer (tabs 0) twice (codes "5" ++ 9 ∷ codes "p" ++ 13 ∷ 10 ∷ [])
    ≡ written (codes "5" ++ 9 ∷ codes "p" ++ 9 ∷ codes "x" ++ 13 ∷ 10 ∷ codes "5" ++ 9 ∷ codes "p" ++ 9 ∷ codes "y"
    ++ 13 ∷ 10 ∷ [])
unfolding parsed_index
two_answers = refl

-- ---- rows that are malformed or faulty

-- a quote that stays open; a stray quote; a field that is not there
open_quote : list_answer (commas 0) name (34 ∷ codes "85283473fffffff" ++ 10 ∷ [])
    ≡ record { output = []; ending = Err (AtRow 1 (Bad OpenQuote)) }
open_quote = refl

stray_quote : list_answer (commas 1) name
    (codes "5" ++ 34 ∷ codes " pipe,85283473fffffff" ++ 10 ∷ codes "6" ++ 34 ∷ codes " pipe,8528340ffffffff" ++ 10 ∷
    [])
    ≡ record { output = []; ending = Err (AtRow 1 (Bad StrayQuote)) }
stray_quote = refl

no_field : list_answer (tabs 2) name (codes "a" ++ 9 ∷ codes "b" ++ 10 ∷ [])
    ≡ record { output = []; ending = Err (AtRow 1 (Bad NoSuchField)) }
no_field = refl

-- a line feed inside quotes counts in the number of a row
numbers : list_answer (commas 1) name (34 ∷ 10 ∷ 34 ∷ codes ",1" ++ 10 ∷ codes "a,x" ++ 10 ∷ [])
    ≡ record { output = 34 ∷ 10 ∷ 34 ∷ codes ",1,five" ++ 10 ∷ []; ending = Err (AtRow 3 (Bad NotAnIndex)) }
unfolding parsed_index
numbers = refl

-- a quote without `quotes` is a byte like others; blanks in quotes are a missing cell
plain_quotes : list_answer (tabs 1) name (codes "5" ++ 34 ∷ 9 ∷ codes "8" ++ 10 ∷ [])
    ≡ written (codes "5" ++ 34 ∷ 9 ∷ codes "8" ++ 9 ∷ codes "five" ++ 10 ∷ [])
unfolding parsed_index
plain_quotes = refl

blank_cell : list_answer (commas 0) name (34 ∷ codes " " ++ 34 ∷ codes ",1")
    ≡ written (34 ∷ codes " " ++ 34 ∷ codes ",1," ++ 10 ∷ [])
blank_cell = refl

-- ---- headers

columns : map (column_of 44 true (codes "cell"))
    (codes "cell,cell" ∷ codes "id" ∷ (codes "id, " ++ 34 ∷ codes "cell" ++ 34 ∷ codes " ") ∷ [])
    ≡ Err NotUnique ∷ Err NotFound ∷ Ok 1 ∷ []
columns = refl

-- where a column is not one field, nothing is written, not even the empty rows before the header
no_column : map (list_answer (column (codes "cell")) name)
    ((codes "cell,cell" ++ 10 ∷ []) ∷ [] ∷ (10 ∷ codes "id" ++ 10 ∷ []) ∷ (10 ∷ 10 ∷ []) ∷ [])
    ≡ map (λ e. record { output = []; ending = Err (Column e) }) (NotUnique ∷ NotFound ∷ NotFound ∷ NotFound ∷ [])
no_column = refl

-- the empty rows before a header are written before it, and count in numbers
after_empty_rows : list_answer headed name (10 ∷ 13 ∷ 10 ∷ codes "id" ++ 10 ∷ codes "x" ++ 10 ∷ [])
    ≡ record
    { output = 10 ∷ 13 ∷ 10 ∷ codes "id" ++ 9 ∷ codes "new" ++ 10 ∷ []; ending = Err (AtRow 4 (Bad NotAnIndex)) }
unfolding parsed_index
after_empty_rows = refl

-- a malformed header ends the answer as a row does
malformed_header : list_answer (column (codes "cell")) name (10 ∷ codes "c" ++ 34 ∷ codes "ell" ++ 34 ∷ 10 ∷ [])
    ≡ record { output = 10 ∷ []; ending = Err (AtRow 2 (Bad StrayQuote)) }
malformed_header = refl

-- a byte order mark is before the header, and not in the text of its first field
order_mark : list_answer (column (codes "cell")) name (239 ∷ 187 ∷ 191 ∷ codes "cell" ++ 10 ∷ codes "8" ++ 10 ∷ [])
    ≡ written (239 ∷ 187 ∷ 191 ∷ codes "cell,cellToParent" ++ 10 ∷ codes "8,five" ++ 10 ∷ [])
unfolding parsed_index
order_mark = refl

order_mark_of_rows : list_answer (tabs 0) name (239 ∷ 187 ∷ 191 ∷ codes "8" ++ 10 ∷ [])
    ≡ written (239 ∷ 187 ∷ 191 ∷ codes "8" ++ 9 ∷ codes "five" ++ 10 ∷ [])
unfolding parsed_index
order_mark_of_rows = refl

-- a first row that is a byte order mark alone is an empty row: it is passed over before a header, and else it is
-- written as it is; a mark in another row is a text
order_mark_alone : list_answer (column (codes "cell")) name
    (239 ∷ 187 ∷ 191 ∷ 13 ∷ 10 ∷ codes "cell" ++ 10 ∷ codes "8" ++ 10 ∷ [])
    ≡ written (239 ∷ 187 ∷ 191 ∷ 13 ∷ 10 ∷ codes "cell,cellToParent" ++ 10 ∷ codes "8,five" ++ 10 ∷ [])
unfolding parsed_index
order_mark_alone = refl

order_mark_as_a_row : list_answer (tabs 0) name (239 ∷ 187 ∷ 191 ∷ 10 ∷ codes "8" ++ 10 ∷ [])
    ≡ written (239 ∷ 187 ∷ 191 ∷ 10 ∷ codes "8" ++ 9 ∷ codes "five" ++ 10 ∷ [])
unfolding parsed_index
order_mark_as_a_row = refl

later_order_mark : list_answer (tabs 0) name (10 ∷ 239 ∷ 187 ∷ 191 ∷ 10 ∷ [])
    ≡ record { output = 10 ∷ []; ending = Err (AtRow 2 (Bad NotAnIndex)) }
unfolding parsed_index
later_order_mark = refl

-- ---- answers of two parts

-- a function with two answers, of which each has a cell and a distance
abbrev ringed : Option ℕ → Answer
ringed None = refused Failed
ringed (Some n) = written (codes "x" ++ 9 ∷ codes "0" ++ 10 ∷ codes "y" ++ 9 ∷ codes "1" ++ 10 ∷ [])

-- tabs, with the cell in the first field
abbrev pairs : List (List ℕ) → Bool → Bool → Form
pairs names headed goes_on =
    record {
      separator = 9;
      quotes = false;
      choice = After 0;
      says = itself;
      has_header = headed;
      names = names;
      empty = empty_answer true 9;
      quoted_answers = false;
      keeps_going = goes_on;
      shows_errors = false;
      is_ragged = false;
    }

-- a header gets two names, and a missing cell two empty parts
two_columns : list_answer (pairs (answer_names true None []) true false) ringed
    (codes "c" ++ 9 ∷ codes "p" ++ 10 ∷ codes "5" ++ 9 ∷ codes "q" ++ 13 ∷ 10 ∷ 9 ∷ codes "q" ++ 10 ∷ 10 ∷ [])
    ≡ written (codes "c" ++ 9 ∷ codes "p" ++ 9 ∷ codes "near" ++ 9 ∷ codes "distance" ++ 10 ∷ codes "5" ++ 9 ∷ codes "q"
    ++ 9 ∷ codes "x" ++ 9 ∷ codes "0" ++ 13 ∷ 10 ∷ codes "5" ++ 9 ∷ codes "q" ++ 9 ∷ codes "y" ++ 9 ∷ codes "1"
    ++ 13 ∷ 10 ∷ 9 ∷ codes "q" ++ 9 ∷ 9 ∷ 10 ∷ 10 ∷ [])
unfolding parsed_index
two_columns = refl

-- so does a row with an error, where the run goes on
two_empty : list_answer (pairs [] false true) ringed (codes "zz" ++ 10 ∷ codes "5")
    ≡ record {
      output = codes "zz" ++ 9 ∷ 9 ∷ 10 ∷ codes "5" ++ 9 ∷ codes "x" ++ 9 ∷ codes "0" ++ 10 ∷ codes "5" ++ 9
          ∷ codes "y" ++ 9 ∷ codes "1" ++ 10 ∷ [];
      ending = Err (AtRowAndMore 1 (Bad NotAnIndex) 0);
    }
unfolding parsed_index
two_empty = refl

-- names that were given
given_names : answer_names true (Some (codes "near")) [] ++ error_names true (Some (codes "near"))
    ≡ codes "near" ∷ codes "nearDistance" ∷ codes "nearError" ∷ []
given_names = refl

-- ---- rows that other programs would cut otherwise

-- a quote after a blank, with a separator or a line feed in its field
padded_quotes : list_answer (commas 1) name
    (codes "a, " ++ 34 ∷ codes ",8" ++ 10 ∷ codes "b, " ++ 34 ∷ codes ",8" ++ 10 ∷ [])
    ≡ record { output = []; ending = Err (AtRow 1 (Bad StrayQuote)) }
padded_quotes = refl

padded_cell : list_answer (commas 1) name (codes "a, " ++ 34 ∷ codes "8" ++ 34 ∷ 10 ∷ [])
    ≡ written (codes "a, " ++ 34 ∷ codes "8" ++ 34 ∷ codes ",five" ++ 10 ∷ [])
unfolding parsed_index
padded_cell = refl

-- all carriage returns before a line feed are a row's ending, and none is inside a row
returns : list_answer (column (codes "cell")) name
    (codes "cell" ++ 13 ∷ 13 ∷ 10 ∷ codes "8" ++ 13 ∷ 13 ∷ 10 ∷ codes "8" ++ 13 ∷ 10 ∷ [])
    ≡ written (codes "cell,cellToParent" ++ 13 ∷ 13 ∷ 10 ∷ codes "8,five" ++ 13 ∷ 13 ∷ 10 ∷ codes "8,five" ++ 13 ∷ 10 ∷
    [])
unfolding parsed_index
returns = refl

return_inside : list_answer (commas 1) name (codes "a" ++ 13 ∷ codes "b,8" ++ 10 ∷ [])
    ≡ record { output = []; ending = Err (AtRow 1 (Bad CarriageReturn)) }
return_inside = refl

-- a row has as many fields as the header
fewer_fields : list_answer (column (codes "cell")) name (codes "cell,n,note" ++ 10 ∷ codes "8,1" ++ 10 ∷ [])
    ≡ record { output = codes "cell,n,note,cellToParent" ++ 10 ∷ []; ending = Err (AtRow 2 (Bad (FieldCount 2 3))) }
fewer_fields = refl

-- the name of a new column is not in the header already
name_in_use : list_answer (column (codes "cell")) name (codes "cell, cellToParent " ++ 10 ∷ codes "8,1" ++ 10 ∷ [])
    ≡ record { output = []; ending = Err (Column InUse) }
name_in_use = refl

-- nor do two new columns have one name: one of texts that is named `error`, and that of the names of errors
abbrev named_alike : Bool → Form
named_alike has_header =
    record {
      separator = 44;
      quotes = true;
      choice = After 0;
      says = itself;
      has_header = has_header;
      names = (34 ∷ codes "error" ++ 34 ∷ []) ∷ codes "error" ∷ [];
      empty = [];
      quoted_answers = false;
      keeps_going = false;
      shows_errors = true;
      is_ragged = false;
    }

names_alike : map (λ has_header. list_answer (named_alike has_header) name (codes "8" ++ 10 ∷ [])) (true ∷ false ∷ [])
    ≡ record { output = []; ending = Err (Column InUse) } ∷ written (codes "8,five," ++ 10 ∷ []) ∷ []
unfolding parsed_index
names_alike = refl

-- the names of errors have a column
error_column : list_answer (record {
  separator = 9;
  quotes = false;
  choice = After 0;
  says = itself;
  has_header = false;
  names = [];
  empty = [];
  quoted_answers = false;
  keeps_going = true;
  shows_errors = true;
  is_ragged = false;
}) name (codes "8" ++ 10 ∷ codes "xyz" ++ 10 ∷ 32 ∷ 10 ∷ [])
    ≡ record {
      output = codes "8" ++ 9 ∷ codes "five" ++ 9 ∷ 10 ∷ codes "xyz" ++ 9 ∷ 9 ∷ codes "E_FAILED" ++ 10 ∷ 32 ∷ 9
          ∷ 9 ∷ codes "missing" ++ 10 ∷ [];
      ending = Err (AtRowAndMore 2 (Bad NotAnIndex) 0);
    }
unfolding parsed_index
error_column = refl

-- ---- texts

-- a function that answers by a text with a line feed between its quotes
abbrev text : Option ℕ → Answer
text index = written (34 ∷ codes "a" ++ 10 ∷ codes "b" ++ 34 ∷ 10 ∷ [])

abbrev texts : Bool → Form
texts quoted =
    record {
      separator = 44;
      quotes = true;
      choice = After 0;
      says = itself;
      has_header = false;
      names = [];
      empty = [];
      quoted_answers = quoted;
      keeps_going = false;
      shows_errors = false;
      is_ragged = false;
    }

-- its row stands once if quotes count in answers, and else once for each of its two lines
text_once : list_answer (texts true) text (codes "8" ++ 13 ∷ 10 ∷ [])
    ≡ written (codes "8," ++ 34 ∷ codes "a" ++ 10 ∷ codes "b" ++ 34 ∷ 13 ∷ 10 ∷ [])
unfolding parsed_index
text_once = refl

text_cut : list_answer (texts false) text (codes "8" ++ 10 ∷ [])
    ≡ written (codes "8," ++ 34 ∷ codes "a" ++ 10 ∷ codes "8,b" ++ 34 ∷ 10 ∷ [])
unfolding parsed_index
text_cut = refl

-- the name of a new column has quotes, and its text is in the header already
abbrev quoted_name : Form
quoted_name =
    record {
      separator = 44;
      quotes = true;
      choice = After 0;
      says = itself;
      has_header = true;
      names = (34 ∷ codes "a,b" ++ 34 ∷ []) ∷ [];
      empty = [];
      quoted_answers = true;
      keeps_going = false;
      shows_errors = false;
      is_ragged = false;
    }

quoted_in_use : list_answer quoted_name text (codes "cell," ++ 34 ∷ codes "a,b" ++ 34 ∷ 10 ∷ [])
    ≡ record { output = []; ending = Err (Column InUse) }
quoted_in_use = refl
