-- What stands in the new columns of rows: each line of an answer is a word of lower-case letters and digits, or two of
-- them, and so one field, or two, whatever byte separates fields; or it is the name of an area, which is one field of
-- its table's form; and the name of an error is one field, unless an underscore separates fields.
use Rattle.std.specs.Prelude.{◌≡◌, ⊤, ℕ, nat_le, Bool, true, false, ◌==◌, not, ◌&&◌, ◌||◌, List, [], ◌∷◌, ◌++◌, All, Option, None, Some, Ok}
use Rattle.std.specs.List.{flat_map, list_all}
use Rattle.h3_index.specs.Cell.{Address}
use Rattle.h3_table.specs.Links.{Links}
use Rattle.h3_lines.specs.Answer.{Answer}
use Rattle.h3_lines.specs.RunError.{row_error_name}
use Rattle.h3_lines.specs.declared.run_error.RowError.{RowError}
use Rattle.h3_requests.specs.Rows.{is_separator}
use Rattle.h3_requests.specs.declared.command.Command.{Command}
use Rattle.h3_requests.specs.declared.command.Command.TheVariants as command
use Rattle.h3_requests.specs.declared.rows.AreaOptions.{AreaOptions}
use Rattle.h3_requests.specs.declared.rows.RowOptions.{RowOptions}
use Rattle.h3_requests.specs.declared.rows.Tables.{Tables}
use Rattle.h3_rows.specs.Laws.{IsWholeOrRefused}
use Rattle.h3_lines.specs.Pieces.{Uncut, cut, inside_after, is_uncut}
use Rattle.h3_rows.specs.Named.{Entry, names_table}
use Rattle.h3_rows.specs.Row.{quotes_are_sound}
use Rattle.h3_rows.specs.RowsAnswer.{row_with, rows_with}
use Rattle.h3_command.specs.Answer.{ListRequest, Request, request_of}
use Rattle.h3_command.specs.Answer.ListRequest.{of_lines, of_numbered, of_rows, of_whole}
use Rattle.h3_command.specs.Answer.Request.{after_areas, after_file, after_table, of_list, of_table, plain}
use Rattle.h3_command.specs.Areas.{areas_of_file}
use Rattle.h3_command.specs.LongAnswers.{between_parts}
use Rattle.h3_command.specs.Rows.{title_or_zone}

-- ---- words, and lines of them

-- is_lower_or_digit b: a lower-case letter or a digit of ASCII
abbrev pub is_lower_or_digit : ℕ → Bool
is_lower_or_digit b = (nat_le 48 b && nat_le b 57) || (nat_le 97 b && nat_le b 122)

-- IsWord text: lower-case letters and digits of ASCII alone
abbrev pub IsWord : List ℕ → Type 0
IsWord text = list_all is_lower_or_digit text ≡ true

-- IsPairOfWords between text: two such words with a byte between them
abbrev pub IsPairOfWords : ℕ → List ℕ → Type 0
IsPairOfWords between text = (a : List ℕ) × (b : List ℕ) × IsWord a × IsWord b × (text ≡ a ++ (between ∷ b))

-- IsField separator quotes text: one field of a form of rows: outside quotes that count it has no separator, no line
-- feed and, if quotes count, no carriage return; no such quote is open at its end; and if quotes count, those in it are
-- sound
pub record IsField (separator : ℕ) (quotes : Bool) (text : List ℕ) : Type 0 where
  pub in_row : is_uncut separator quotes false text ≡ true
  pub in_line : is_uncut 10 quotes false text ≡ true
  pub returnless : quotes ≡ true → is_uncut 13 quotes false text ≡ true
  pub closed : inside_after quotes false text ≡ false
  pub sound : quotes ≡ true → quotes_are_sound separator text ≡ true

-- AreLinesOf Is text: the text is lines, each of them so, and ended by a line feed
abbrev pub AreLinesOf : (List ℕ → Type 0) → List ℕ → Type 0
AreLinesOf Is text = (lines : List (List ℕ)) × All Is lines × (text ≡ flat_map (λ line. line ++ 10 ∷ []) lines)

-- ---- answers

-- AnswersEach Is r: if a list is answered line by line, or row by row, each answer to an index is so
abbrev pub AnswersEach : (Answer → Type 0) → ListRequest → Type 0
AnswersEach Is (of_whole form about) = ⊤
AnswersEach Is (of_numbered says form about) = ⊤
AnswersEach Is (of_lines form about) = (index : Option ℕ) → Is (about index)
AnswersEach Is (of_rows table about) = ⊤

-- AnswersBy Is r: the same of a request
abbrev pub AnswersBy : (Answer → Type 0) → Request → Type 0
AnswersBy Is (plain a) = ⊤
AnswersBy Is (of_table about) = ⊤
AnswersBy Is (of_list r) = AnswersEach Is r
AnswersBy Is (after_table then_list) = (link : Links) → AnswersEach Is (then_list link)
AnswersBy Is (after_file f rows then_list) = (cells : List Address) → AnswersEach Is (then_list cells)
AnswersBy Is (after_areas overlapping table then_list) =
    (bytes : List ℕ) (entries : List Entry) → areas_of_file overlapping table bytes ≡ Ok entries
    → AnswersEach Is (then_list entries)

-- IsZoneLine areas: what each line of the answer of `cellsToZones` is: a word, or, if the zones have names, one field
-- of their table's form
abbrev pub IsZoneLine : Option AreaOptions → List ℕ → Type 0
IsZoneLine None = IsWord
IsZoneLine (Some areas) = IsField areas.table.rows.separator areas.table.rows.quotes

-- IsAnswerLine tables command: what each line of a command's answer to an index is: a word; a cell and its distance
-- with the byte of `between_parts` between them; or as `IsZoneLine` says
abbrev pub IsAnswerLine : Tables → Command → List ℕ → Type 0
IsAnswerLine tables (command.GridDisksDistancesUnsafe k) = IsPairOfWords (between_parts tables.list)
IsAnswerLine tables command.CellsToZones = IsZoneLine tables.areas
IsAnswerLine tables c = IsWord

-- AreAnswerLines Is a: the answer is lines that are so, with no error after them, or the error of a call alone
abbrev pub AreAnswerLines : (List ℕ → Type 0) → Answer → Type 0
AreAnswerLines Is a = AreLinesOf Is a.output × IsWholeOrRefused a

-- AnswersAreWords: whatever the command and the options of its tables, each answer to an index is such lines, or an
-- error
abbrev pub AnswersAreWords : Type 0
AnswersAreWords = (tables : Tables) (c : Command)
    → AnswersBy (AreAnswerLines (IsAnswerLine tables c)) (request_of tables c)

-- ---- beside their rows

-- is_plain separator text: no byte is the separator, a quote, a line feed or a carriage return
abbrev pub is_plain : ℕ → List ℕ → Bool
is_plain separator text = list_all (λ b. not (b == separator || b == 34 || b == 10 || b == 13)) text

-- WordsAreFields: a word is one field of any form of rows: it has no byte that may separate fields, no quote and no
-- line end
abbrev pub WordsAreFields : Type 0
WordsAreFields = (separator : ℕ) (quotes : Bool) (text : List ℕ) → is_separator separator ≡ true → IsWord text
    → (is_plain separator text ≡ true) × (is_uncut separator quotes false text ≡ true)
    × (is_uncut 10 quotes false text ≡ true) × (inside_after quotes false text ≡ false)

-- WordPairsAreUncut: a pair of words is in one line: it has no line feed that ends one, and no quote stays open
abbrev pub WordPairsAreUncut : Type 0
WordPairsAreUncut = (separator : ℕ) (quotes : Bool) (a b : List ℕ) → is_separator separator ≡ true → IsWord a → IsWord b
    → (is_uncut 10 quotes false (a ++ (separator ∷ b)) ≡ true)
    × (inside_after quotes false (a ++ (separator ∷ b)) ≡ false)

-- WordsAreKept: so the fields of a row with a word are those of the row, and then the word: taking the column away
-- gives the row back
abbrev pub WordsAreKept : Type 0
WordsAreKept =
    (separator : ℕ) (quotes : Bool) (row a : List ℕ) → is_separator separator ≡ true
    → inside_after quotes false row ≡ false → IsWord a
    → cut separator quotes false (row ++ separator ∷ a) ≡ cut separator quotes false row ++ (a, false) ∷ []

-- WordPairsAreKept: and those of a row with a pair of words are those of the row, and then the two
abbrev pub WordPairsAreKept : Type 0
WordPairsAreKept =
    (separator : ℕ) (quotes : Bool) (row a b : List ℕ) → is_separator separator ≡ true
    → inside_after quotes false row ≡ false → IsWord a → IsWord b
    → cut separator quotes false (row ++ (separator ∷ (a ++ (separator ∷ b)))) ≡ cut separator quotes false row ++ (
      a,
      false,
    ) ∷ (b, false) ∷ []

-- TitlesAreFields: the name that the new column gets of a table of zones with names is one field of the table's form
abbrev pub TitlesAreFields : Type 0
TitlesAreFields =
    (overlapping : Bool) (areas : AreaOptions) (bytes : List ℕ) (entries : List Entry)
    → areas_of_file overlapping (names_table areas.table) bytes ≡ Ok entries
    → IsField areas.table.rows.separator areas.table.rows.quotes (title_or_zone entries)

-- NamesAreKept: if the list and the table of zones are cut alike, the fields of a row with the name of an area are
-- those of the row, and then the name; and, if quotes count, those that are sound in the row stay so, and a row without
-- a carriage return outside quotes stays without one
abbrev pub NamesAreKept : Type 0
NamesAreKept =
    (rows : RowOptions) (areas : AreaOptions) (row name : List ℕ) → areas.table.rows.separator ≡ rows.separator
    → areas.table.rows.quotes ≡ rows.quotes
    → inside_after rows.quotes false row ≡ false → IsZoneLine (Some areas) name
    → (cut rows.separator rows.quotes false (row ++ rows.separator ∷ name)
    ≡ cut rows.separator rows.quotes false row ++ (name, false) ∷ [])
    × (rows.quotes ≡ true → quotes_are_sound rows.separator row ≡ true
    → quotes_are_sound rows.separator (row ++ rows.separator ∷ name) ≡ true)
    × (rows.quotes ≡ true → is_uncut 13 true false row ≡ true
    → is_uncut 13 true false (row ++ rows.separator ∷ name) ≡ true)

-- ErrorNamesAreFields: the name of a row's error is one field of any form of rows whose separator is no underscore
-- (95): it has no byte that separates fields, no quote and no line end. (`missing` is a word.)
abbrev pub ErrorNamesAreFields : Type 0
ErrorNamesAreFields =
    (separator : ℕ) (quotes : Bool) (e : RowError) → is_separator separator ≡ true → (separator == 95) ≡ false
    → (is_plain separator (row_error_name e) ≡ true) × (is_uncut separator quotes false (row_error_name e) ≡ true)
    × (is_uncut 10 quotes false (row_error_name e) ≡ true) × (inside_after quotes false (row_error_name e) ≡ false)

-- ErrorNamesAreKept: so the fields of a row with the name of its error, also of one that has an answer before it, are
-- those of the row, and then the name
abbrev pub ErrorNamesAreKept : Type 0
ErrorNamesAreKept =
    (separator : ℕ) (quotes : Bool) (row : List ℕ) (e : RowError) → is_separator separator ≡ true
    → (separator == 95) ≡ false → inside_after quotes false row ≡ false
    → cut separator quotes false (row ++ separator ∷ row_error_name e)
    ≡ cut separator quotes false row ++ (row_error_name e, false) ∷ []

-- RowsStandOnce: a row stands once for each line of its answer, with that line and what is after it, where each line
-- feed in a line is inside quotes that count in it, and none of these stays open
abbrev pub RowsStandOnce : Type 0
RowsStandOnce =
    (separator : ℕ) (quotes : Bool) (after row : List ℕ) (lines : List (List ℕ))
    → All (λ line. Uncut 10 quotes false line false) lines
    → rows_with separator quotes after row (flat_map (λ line. line ++ 10 ∷ []) lines)
    ≡ flat_map (λ line. row_with separator row (line ++ after)) lines
