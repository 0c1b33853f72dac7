-- The areas of a table: its names, and of each cell the number of its name.
use Rattle.std.specs.Prelude.{◌≡◌, ℕ, ◌-◌, ◌<◌, ◌≤◌, ◌==◌, get_or, Bool, true, false, ◌&&◌, List, [], ◌∷◌, ◌++◌, length, take, drop, map, Option, None, Some, is_some, Ok, unwrap_or, bytes_eq, if◌then◌else◌, refl, All, Contains}
use Rattle.std.specs.List.{position_from}
use Rattle.h3_index.specs.Cell.{Address}
use Rattle.h3_index.specs.Text.{trimmed}
use Rattle.h3_lines.specs.Pieces.{inside_after, is_uncut, rows_of}
use Rattle.h3_rows.specs.Named.{Entry, Table, named_cells}
use Rattle.h3_rows.specs.Row.{field_text, quotes_are_sound, unquoted}

-- ---- named cells

-- NamedCell: a cell, and the name in the same row, without blanks at its ends
abbrev pub NamedCell : Type 0
NamedCell = Address × List ℕ

-- named_before cell name later: a cell with this name before the others; the name of a header has no cell, and is left
-- out
abbrev pub named_before : Option Address → List ℕ → List NamedCell → List NamedCell
named_before None name later = later
named_before (Some cell) name later = (cell, name) ∷ later

-- cells_among entries: the cells among what is read, with their names
abbrev pub cells_among : List Entry → List NamedCell
cells_among [] = []
cells_among (e ∷ es) = named_before e.cell e.field (cells_among es)

-- title_with title cell name: this name, if it has no cell, as that of a header; else the title as it is
abbrev pub title_with : Option (List ℕ) → Option Address → List ℕ → Option (List ℕ)
title_with title None name = Some name
title_with title (Some cell) name = title

-- title_after title entries: the name in the header among what is read, or else this one
abbrev pub title_after : Option (List ℕ) → List Entry → Option (List ℕ)
title_after title [] = title
title_after title (e ∷ es) = title_after (title_with title e.cell e.field) es

-- title_of entries: the name in the header of the column of names, if there is a header that has it
abbrev pub title_of : List Entry → Option (List ℕ)
title_of entries = title_after None entries

-- ---- names by their texts

-- name_text quotes name: the text of a name, which has no blanks at its ends: without a pair of quotes around it, if
-- quotes count
abbrev pub name_text : Bool → List ℕ → List ℕ
name_text quotes name = if quotes then unquoted name else name

-- a name's text is that of its field
texts_of_fields : (quotes : Bool) (field : List ℕ) → name_text quotes (trimmed field) ≡ field_text quotes field
texts_of_fields quotes field = refl

-- place_of quotes text names: the place of the first name that has this text, if there is one
abbrev pub place_of : Bool → List ℕ → List (List ℕ) → Option ℕ
place_of quotes text names = position_from (λ name. bytes_eq text (name_text quotes name)) 0 names

-- with_place place names name: the names, and this one behind them unless it has a place
abbrev pub with_place : Option ℕ → List (List ℕ) → List ℕ → List (List ℕ)
with_place (Some k) names name = names
with_place None names name = names ++ name ∷ []

-- with_name quotes names name: the names, and this one behind them unless one of them has its text
abbrev pub with_name : Bool → List (List ℕ) → List ℕ → List (List ℕ)
with_name quotes names name = with_place (place_of quotes (name_text quotes name) names) names name

-- names_after quotes names cells: the names, and behind them those of cells that are new, in order
abbrev pub names_after : Bool → List (List ℕ) → List NamedCell → List (List ℕ)
names_after quotes names [] = names
names_after quotes names (c ∷ cs) = names_after quotes (with_name quotes names c.1) cs

-- ---- areas

-- names_of quotes cells: each name once, as it is in the first row that has it, in the order of these rows
abbrev pub names_of : Bool → List NamedCell → List (List ℕ)
names_of quotes cells = names_after quotes [] cells

-- in_area quotes names cell: the cell and the number of its area, which has the text of its name
abbrev pub in_area : Bool → List (List ℕ) → NamedCell → Address × ℕ
in_area quotes names c = (c.0, unwrap_or (place_of quotes (name_text quotes c.1) names) 0)

-- area_names quotes entries: the areas of a table: its names
abbrev pub area_names : Bool → List Entry → List (List ℕ)
area_names quotes entries = names_of quotes (cells_among entries)

-- area_cells quotes entries: each cell of a table with the number of its area, in order
abbrev pub area_cells : Bool → List Entry → List (Address × ℕ)
area_cells quotes entries = map (in_area quotes (area_names quotes entries)) (cells_among entries)

-- has_text quotes text entry: the entry has a cell, and a name with this text
abbrev pub has_text : Bool → List ℕ → Entry → Bool
has_text quotes text e = is_some e.cell && bytes_eq text (name_text quotes e.field)

-- first_row quotes text entries: the number of the first row that has a cell, and a name with this text
abbrev pub first_row : Bool → List ℕ → List Entry → ℕ
first_row quotes text [] = 0
first_row quotes text (e ∷ es) = if has_text quotes text e then e.row else first_row quotes text es

-- first_rows quotes entries: of each area of a table the number of its first row with a cell
abbrev pub first_rows : Bool → List Entry → List ℕ
first_rows quotes entries = map (λ name. first_row quotes (name_text quotes name) entries) (area_names quotes entries)

-- HasArea quotes names cell: one of the names has the text of this cell's name
abbrev pub HasArea : Bool → List (List ℕ) → NamedCell → Type 0
HasArea quotes names c = (k : ℕ) × (place_of quotes (name_text quotes c.1) names ≡ Some k)

-- CellsHaveAreas: each cell of a table is in one of its areas
abbrev pub CellsHaveAreas : Type 0
CellsHaveAreas =
    (quotes : Bool) (entries : List Entry) → All (HasArea quotes (area_names quotes entries)) (cells_among entries)

-- StandOnce quotes names: no name has the text of one before it
abbrev pub StandOnce : Bool → List (List ℕ) → Type 0
StandOnce quotes names =
    (k : ℕ) (d : List ℕ) → k < length names → place_of quotes (name_text quotes (get_or names k d)) names ≡ Some k

-- NamesStandOnce: no two areas of a table have names of one text
abbrev pub NamesStandOnce : Type 0
NamesStandOnce = (quotes : Bool) (entries : List Entry) → StandOnce quotes (area_names quotes entries)

-- NumbersAreOfNames: each cell of a table has the number of one of its names
abbrev pub NumbersAreOfNames : Type 0
NumbersAreOfNames =
    (quotes : Bool) (entries : List Entry)
    → All (λ c. c.1 < length (area_names quotes entries)) (area_cells quotes entries)

-- AreasHaveCells: each area of a table has a cell
abbrev pub AreasHaveCells : Type 0
AreasHaveCells =
    (quotes : Bool) (entries : List Entry) (k : ℕ) → k < length (area_names quotes entries)
    → (cell : Address) × Contains (area_cells quotes entries) (cell, k)

-- IsOneField separator quotes bytes: the bytes are one field, which a row may end with: outside quotes that count they
-- have no separator, no line feed and, if quotes count, no carriage return; no such quote is open at their end; no
-- blanks are at either end; and if quotes count, those in them are sound
pub record IsOneField (separator : ℕ) (quotes : Bool) (bytes : List ℕ) : Type 0 where
  pub uncut : is_uncut separator quotes false bytes ≡ true
  pub on_line : is_uncut 10 quotes false bytes ≡ true
  pub returnless : quotes ≡ true → is_uncut 13 quotes false bytes ≡ true
  pub closed : inside_after quotes false bytes ≡ false
  pub trims : trimmed bytes ≡ bytes
  pub sound : quotes ≡ true → quotes_are_sound separator bytes ≡ true

-- EntriesAreFields: each name that is read of a table, in a header too, is one field of its form
abbrev pub EntriesAreFields : Type 0
EntriesAreFields =
    (table : Table) (list : List ℕ) (entries : List Entry) → (34 == table.form.separator) ≡ false
    → named_cells table (rows_of table.form.quotes list) ≡ Ok entries
    → All (λ e. IsOneField table.form.separator table.form.quotes e.field) entries

-- NamesAreFields: the names of the areas of a table are each one field of its form
abbrev pub NamesAreFields : Type 0
NamesAreFields =
    (table : Table) (list : List ℕ) (entries : List Entry) → (34 == table.form.separator) ≡ false
    → named_cells table (rows_of table.form.quotes list) ≡ Ok entries
    → All (IsOneField table.form.separator table.form.quotes) (area_names table.form.quotes entries)

-- ---- names as they come

-- number_for quotes names name: the place of the name that has this one's text, or that of a new one
abbrev pub number_for : Bool → List (List ℕ) → List ℕ → ℕ
number_for quotes names name = unwrap_or (place_of quotes (name_text quotes name) names) (length names)

-- numbered quotes names cells: each cell with the number that its name has when it comes
abbrev pub numbered : Bool → List (List ℕ) → List NamedCell → List (Address × ℕ)
numbered quotes names [] = []
numbered quotes names (c ∷ cs) = (c.0, number_for quotes names c.1) ∷ numbered quotes (with_name quotes names c.1) cs

-- ---- names in one buffer

-- span_in bytes span: the bytes from one place to another
abbrev pub span_in : List ℕ → ℕ × ℕ → List ℕ
span_in bytes span = take (span.1 - span.0) (drop span.0 bytes)

-- names_in bytes spans: the names in these spans of the bytes
abbrev pub names_in : List ℕ → List (ℕ × ℕ) → List (List ℕ)
names_in bytes spans = map (span_in bytes) spans

-- AreWithin bytes spans: each of them ends in the bytes
abbrev pub AreWithin : List ℕ → List (ℕ × ℕ) → Type 0
AreWithin bytes spans =
    (k : ℕ) (d : ℕ × ℕ) → k < length spans
    → ((get_or spans k d).0 ≤ (get_or spans k d).1) × ((get_or spans k d).1 ≤ length bytes)
