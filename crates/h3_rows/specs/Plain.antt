-- Rows with whole fields alone, found by a look at sixteen bytes at once. Private contracts and proofs alone cite this
-- file.
use Rattle.std.specs.Prelude.{◌≡◌, ℕ, ◌+◌, ◌<◌, ◌≤◌, ◌==◌, ◌||◌, Bool, true, false, not, List, ◌∷◌, ◌++◌, drop, get_or, length, replicate, take, None, Ok, Some, if◌then◌else◌}
use Rattle.h3_index.specs.Cell.{Address}
use Rattle.h3_index.specs.Text.{parsed_index}
use Rattle.std.specs.List.{count_by, list_all}
use Rattle.memchr.specs.Find.{is_byte2, is_byte3}
use Rattle.h3_lines.specs.Pieces.{Uncut, cut, inside_after}
use Rattle.h3_rows.specs.Cells.{cell_read}
use Rattle.h3_rows.specs.Row.{field_text, is_empty_row, is_read_alike, opens_well, piece_at, quotes_are_sound, read_of, row_body}
use Rattle.h3_rows.specs.RowsAnswer.{Form, is_as_wide, malformed, row_cell}
use Rattle.h3_rows.specs.declared.state.Columns.{Columns}

-- the quote if quotes count, and else a line feed
abbrev pub quote_or_feed : Bool → ℕ
quote_or_feed quotes = if quotes then 34 else 10

-- the byte is one of four
abbrev pub is_byte4 : ℕ → ℕ → ℕ → ℕ → ℕ → Bool
is_byte4 first second third fourth b = b == first || is_byte3 second third fourth b

-- no byte is a line feed or a carriage return
abbrev pub is_one_line : List ℕ → Bool
is_one_line bytes = list_all (λ b. not (is_byte2 10 13 b)) bytes

-- a field without quotes, or between two quotes that count, without line feeds and carriage returns
pub record IsWhole (separator : ℕ) (quotes : Bool) (field : List ℕ) : Type 0 where
  pub uncut : Uncut separator quotes false field false
  pub on_line : is_one_line field ≡ true
  pub goes_on : quotes ≡ true → (more : List ℕ)
      → opens_well separator true false false (field ++ separator ∷ more) ≡ opens_well separator true false false more
  pub opens : quotes ≡ true → opens_well separator true false false field ≡ true
  pub alike : quotes ≡ true → is_read_alike separator field ≡ true

-- whole fields, each with the separator after it
pub record AreWhole (separator : ℕ) (quotes : Bool) (bytes : List ℕ) : Type 0 where
  pub on_line : is_one_line bytes ≡ true
  pub outside : inside_after quotes false bytes ≡ false
  pub sound : quotes ≡ true → (more : List ℕ) → quotes_are_sound separator more ≡ true
      → quotes_are_sound separator (bytes ++ more) ≡ true

-- whole fields, with the separator between them
pub record IsWholeRow (separator : ℕ) (quotes : Bool) (bytes : List ℕ) : Type 0 where
  pub on_line : is_one_line bytes ≡ true
  pub outside : inside_after quotes false bytes ≡ false
  pub sound : quotes ≡ true → quotes_are_sound separator bytes ≡ true

-- the bytes begin with whole fields, each with the separator after it, and these bytes follow
pub record BeginsWhole (separator : ℕ) (quotes : Bool) (bytes rest : List ℕ) : Type 0 where
  pub front : List ℕ
  pub split : bytes ≡ front ++ rest
  pub whole : AreWhole separator quotes front

-- the bytes begin with whole fields, after which some of the fields that are before another are still to pass
pub record PassesFields (separator : ℕ) (quotes : Bool) (before left : ℕ) (bytes rest : List ℕ) : Type 0 where
  pub front : List ℕ
  pub split : bytes ≡ front ++ rest
  pub whole : AreWhole separator quotes front
  pub passed : (more : List ℕ)
      → piece_at before (cut separator quotes false (front ++ more)) ≡ piece_at left (cut separator quotes false more)
  pub later : (n : ℕ) (more : List ℕ) → piece_at (before + n) (cut separator quotes false (front ++ more))
      ≡ piece_at (left + n) (cut separator quotes false more)
  pub counted : (more : List ℕ)
      → length (cut separator quotes false (front ++ more)) + left ≡ before + length (cut separator quotes false more)

-- where the separator is at this place, the bytes before it are so many whole fields and one more
abbrev pub EndsField : ℕ → Bool → ℕ → List ℕ → ℕ → Type 0
EndsField separator quotes before bytes end = end < length bytes → get_or bytes end 0 ≡ separator
    → PassesFields separator quotes (before + 1) 0 bytes (drop (end + 1) bytes)

-- from its cell's field on, which has `end` bytes, a row of whole fields has `last` bytes, and it has as many fields as
-- it should
pub record EndsPlain (separator : ℕ) (quotes : Bool) (columns : Columns) (rest : List ℕ) (end last : ℕ) : Type 0 where
  pub within : last < length rest
  pub whole : IsWholeRow separator quotes (take last rest)
  pub field_is : piece_at 0 (cut separator quotes false (take last rest)) ≡ Some (take end rest)
  pub as_wide : is_as_wide columns.width (columns.before + length (cut separator quotes false (take last rest))) ≡ true

-- the text of a field parses as this index
pub record IsPlainField (quotes : Bool) (field : List ℕ) (index : ℕ) : Type 0 where
  pub text : List ℕ
  pub text_is : field_text quotes field ≡ text
  pub parses : parsed_index text ≡ Some index

-- the bytes begin with a row that has whole fields alone, as many as it should, and with at most one carriage return
-- and a line feed after it; and this is its field after so many others
pub record IsPlainRow (separator : ℕ) (quotes : Bool) (columns : Columns) (bytes row : List ℕ) (returns : ℕ)
    (field : List ℕ) : Type 0 where
  pub after : List ℕ
  pub split : bytes ≡ (row ++ replicate returns 13) ++ 10 ∷ after
  pub few : returns ≤ 1
  pub whole : IsWholeRow separator quotes row
  pub field_is : piece_at columns.before (cut separator quotes false row) ≡ Some field
  pub as_wide : is_as_wide columns.width (length (cut separator quotes false row)) ≡ true

-- the bytes begin with a row, with at most one carriage return and a line feed after it, that has no other line feed
-- and nothing wrong, is not empty, is read whole as the row with this number, and has this cell
pub record IsPlainCell (form : Form) (number : ℕ) (columns : Columns) (bytes row : List ℕ) (returns : ℕ)
    (cell : Address) : Type 0 where
  pub after : List ℕ
  pub split : bytes ≡ (row ++ replicate returns 13) ++ 10 ∷ after
  pub few : returns ≤ 1
  pub whole : Uncut 10 form.quotes false (row ++ replicate returns 13) false
  pub feedless : count_by (λ b. b == 10) (row ++ replicate returns 13) ≡ 0
  pub sound : malformed form number (row ++ replicate returns 13, false) ≡ None
  pub body_is : row_body (row ++ replicate returns 13) ≡ row
  pub read_is : read_of number row ≡ row
  pub filled : is_empty_row number row ≡ false
  pub cell_is : cell_read form.says (row_cell form number columns row) ≡ Ok (Some cell)
