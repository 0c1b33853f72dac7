-- What is known of the options by which rows are read.
use Rattle.std.specs.Prelude.{true, false, Bool, List, [], ◌++◌, ℕ, string_bytes, option_map}
use Rattle.h3_lines.specs.List.{Says, itself}
use Rattle.h3_requests.specs.declared.rows.RowOptions.{RowOptions}
use Rattle.h3_rows.specs.RowsAnswer.{Form, answer_names, choice_of, empty_answer, error_names}

-- form_with quoted options name is_pair: the form of the rows; `quoted` says whether quotes count in answers; the new
-- column has this name unless another is given, and where an answer is a pair, a cell and its distance, there are two
abbrev pub form_with : Bool → RowOptions → List ℕ → Bool → Form
form_with quoted options name is_pair = record {
  separator = options.separator;
  quotes = options.quotes;
  choice = choice_of options.field;
  says = itself;
  has_header = options.has_header;
  names =
      answer_names is_pair (option_map string_bytes options.name) name
      ++ error_names options.shows_errors (option_map string_bytes options.name);
  empty = empty_answer is_pair options.separator;
  quoted_answers = quoted;
  keeps_going = options.keeps_going;
  shows_errors = options.shows_errors;
  is_ragged = options.is_ragged;
}

-- columns_form options name is_pair: the form of the rows where an answer is a word, or a pair of words; no quotes
-- count in these
abbrev pub columns_form : RowOptions → List ℕ → Bool → Form
columns_form options name is_pair = form_with false options name is_pair

-- form_of options name: the form of the rows, where the new column has this name unless another is given
abbrev pub form_of : RowOptions → List ℕ → Form
form_of options name = columns_form options name false

-- pair_form_of options: the form of the rows, where the new columns are for a cell and its distance
abbrev pub pair_form_of : RowOptions → Form
pair_form_of options = columns_form options [] true

-- text_form_of quoted options name: the form of the rows where an answer is a text; `quoted` says whether quotes count
-- in it
abbrev pub text_form_of : Bool → RowOptions → List ℕ → Form
text_form_of quoted options name = form_with quoted options name false

-- form_as says options: the form of the rows of a list, where this is taken for the index of a cell
abbrev pub form_as : Says → RowOptions → Form
form_as says options = record {
  separator = options.separator;
  quotes = options.quotes;
  choice = choice_of options.field;
  says = says;
  has_header = options.has_header;
  names = (form_of options []).names;
  empty = (form_of options []).empty;
  quoted_answers = false;
  keeps_going = options.keeps_going;
  shows_errors = options.shows_errors;
  is_ragged = options.is_ragged;
}
