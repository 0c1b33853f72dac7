-- What the options of rows ask for: how the rows of a list are read, and written with the answers to their cells, and
-- how those of a file of cells are read, with names or without.
use Rattle.std.specs.Prelude.{◌≡◌, ◌==◌, ◌&&◌, ◌||◌, ◌⊎◌, ℕ, Bool, true, false, not, [], ◌∷◌, MatchBool, Option, Some, None, is_some, option_map, pos, string_bytes, unwrap_or, if◌then◌else◌}
use Rattle.std.specs.Option.{option_map_or}
use Rattle.std.specs.Str.{bytes_eq}
use Rattle.std.specs.Str.Parse.{signed_digits_value}
use Rattle.clap.specs.Words.{Text, first_value}
use Rattle.clap.specs.declared.parser.matches.Found.{Found}
use Rattle.h3_requests.specs.Rows.{is_plain_field, is_separator}
use Rattle.h3_requests.specs.declared.rows.AreaOptions.{AreaOptions}
use Rattle.h3_requests.specs.declared.rows.CellField.{CellField}
use Rattle.h3_requests.specs.declared.rows.CellField.TheVariants as field
use Rattle.h3_requests.specs.declared.rows.RowOptions.{RowOptions}
use Rattle.h3_requests.specs.declared.rows.Tables.{Tables}
use Rattle.h3_words.specs.Options.{IsInRange, id_of}
use Rattle.h3_words.specs.declared.options.CommandOption.{CommandOption}
use Rattle.h3_words.specs.declared.options.CommandOption.TheVariants.{Field, Column, Header, Separator, Csv, As, KeepGoing, Errors, Ragged, RegionColumn, RegionField, ZoneColumn, ZoneField, ZoneName, ZoneNameField, NoZone, Overlapping, Sum, SumField, By, ByField}

-- Texts: the text that each option is given, if it is given
abbrev pub Texts : Type 0
Texts = CommandOption → Option Text

-- has text option: the option is given
abbrev pub has : Texts → CommandOption → Bool
has text o = is_some (text o)

-- only_separator text: the byte of a text of one byte, if it may separate fields
abbrev pub only_separator : Text → Option ℕ
only_separator (b ∷ []) = if is_separator b then Some b else None
only_separator text = None

-- tab_text: the text of two characters `\t`, a backslash (92) and a t (116)
abbrev pub tab_text : Text
tab_text = 92 ∷ 116 ∷ []

-- named_separator text: the separator that the text of `--separator` names, if it names one: `\t` names a tab (9), and
-- a byte that may separate fields names itself
abbrev pub named_separator : Text → Option ℕ
named_separator text = if bytes_eq text tab_text then Some 9 else only_separator text

-- default_separator csv: the separator without `--separator`: a comma (44) with `--csv`, and else a tab
abbrev pub default_separator : Bool → ℕ
default_separator csv = if csv then 44 else 9

-- separator_of text: the separator that the options ask for; none where `--separator` names none
abbrev pub separator_of : Texts → Option ℕ
separator_of text = option_map_or named_separator (text Separator) (Some (default_separator (has text Csv)))

-- needs first second: where the first is given, the second is
abbrev pub needs : Bool → Bool → Bool
needs first second = not first || second

-- list_has_rows text: the list has rows: `--field` or `--column` is given
abbrev pub list_has_rows : Texts → Bool
list_has_rows text = has text Field || has text Column

-- file_has_rows text: the file of cells has rows: the number or the name of their field is given
abbrev pub file_has_rows : Texts → Bool
file_has_rows text = (has text RegionField || has text RegionColumn) || (has text ZoneField || has text ZoneColumn)

-- has_names text: the zones of the file have names: `--zone-name` or `--zone-name-field` is given
abbrev pub has_names : Texts → Bool
has_names text = has text ZoneNameField || has text ZoneName

-- is_named_once text by_number by_name: of a field the number is given or the name, not both
abbrev pub is_named_once : Texts → CommandOption → CommandOption → Bool
is_named_once text by_number by_name = not (has text by_number && has text by_name)

-- names_fields_once text: of no field both the number and the name are given
abbrev pub names_fields_once : Texts → Bool
names_fields_once text =
    is_named_once text Field Column
    && (is_named_once text RegionField RegionColumn
    && (is_named_once text ZoneField ZoneColumn
    && (is_named_once text ZoneNameField ZoneName
    && (is_named_once text SumField Sum
    && is_named_once text ByField By))))

-- cuts_rows text: `--separator` and `--csv`, which say how rows are cut, go with a list or a file that has rows
abbrev pub cuts_rows : Texts → Bool
cuts_rows text = needs (has text Separator || has text Csv) (list_has_rows text || file_has_rows text)

-- has_company text: each option of the list's rows has what it goes with: `--header` the option `--field`,
-- `--keep-going` rows, `--as` and `--ragged` a header, and `--errors` the option `--keep-going`
abbrev pub has_company : Texts → Bool
has_company text =
    needs (has text Header) (has text Field)
    && (needs (has text KeepGoing) (list_has_rows text)
    && (needs (has text As || has text Ragged) (has text Column || has text Header)
    && needs (has text Errors) (has text KeepGoing)))

-- names_have_company text: each option of the names of zones has what it goes with: `--zone-name` the option
-- `--zone-column`, `--zone-name-field` the option `--zone-field`, and `--none` and `--overlapping` names
abbrev pub names_have_company : Texts → Bool
names_have_company text =
    needs (has text ZoneName) (has text ZoneColumn)
    && (needs (has text ZoneNameField) (has text ZoneField)
    && needs (has text NoZone || has text Overlapping) (has_names text))

-- second_has_company text by_number by_name: the options of a second field of the list's rows have what they go with:
-- that of its name a header, and that of its number the option `--field`
abbrev pub second_has_company : Texts → CommandOption → CommandOption → Bool
second_has_company text by_number by_name =
    needs (has text by_name) (has text Column || has text Header) && needs (has text by_number) (has text Field)

-- seconds_have_company text: so have those of the field that is added up, and of the one that divides the rows
abbrev pub seconds_have_company : Texts → Bool
seconds_have_company text = second_has_company text SumField Sum && second_has_company text ByField By

-- cuts_errors text separator: there is a column of the names of errors, which have an underscore (95), and it separates
-- fields
abbrev pub cuts_errors : Texts → ℕ → Bool
cuts_errors text separator = has text Errors && separator == 95

-- cuts_sums text separator: a field is added up, whose sums may have a point (46), and that separates fields
abbrev pub cuts_sums : Texts → ℕ → Bool
cuts_sums text separator = (has text Sum || has text SumField) && separator == 46

-- is_one_field text option separator: the text of the option, if it is given, is one field beside this separator: it
-- has no separator, quote, line feed and carriage return
abbrev pub is_one_field : Texts → CommandOption → ℕ → Bool
is_one_field text o separator = option_map_or (is_plain_field separator) (text o) true

-- fits text separator: beside this separator each of these is one field: the names of errors, sums, the name of the new
-- column and the text of `--none`
abbrev pub fits : Texts → ℕ → Bool
fits text separator =
    not (cuts_errors text separator)
    && (not (cuts_sums text separator)
    && (is_one_field text As separator && is_one_field text NoZone separator))

-- names_fit text: `--separator` names a separator, and `fits` holds of it
abbrev pub names_fit : Texts → Bool
names_fit text = option_map_or (λ c. fits text c) (separator_of text) false

-- rows_agree text: no field is named twice, each option of rows has what it goes with, and names what it may
abbrev pub rows_agree : Texts → Bool
rows_agree text =
    names_fields_once text
    && (cuts_rows text
    && (has_company text && (names_have_company text && (seconds_have_company text && names_fit text))))

-- IsFieldBy text by_number by_name field: the field is that of the option of its number, from 1 to 65535, or that of
-- the option of its name
abbrev pub IsFieldBy : Texts → CommandOption → CommandOption → CellField → Type 0
IsFieldBy text by_number by_name (field.Number n) =
    (t : Text) × (text by_number ≡ Some t) × IsInRange by_number t × (pos n ≡ signed_digits_value 10 t)
IsFieldBy text by_number by_name (field.Column name) = text by_name ≡ Some (string_bytes name)

-- HasFieldBy text by_number by_name field: the field is that of one of these options, or there is none and neither is
-- given
abbrev pub HasFieldBy : Texts → CommandOption → CommandOption → Option CellField → Type 0
HasFieldBy text by_number by_name None = (text by_number ≡ None) × (text by_name ≡ None)
HasFieldBy text by_number by_name (Some cell) = IsFieldBy text by_number by_name cell

-- IsCellField text field: the field is that of `--field`, a number from 1 to 65535, or that of `--column`
abbrev pub IsCellField : Texts → CellField → Type 0
IsCellField text field = IsFieldBy text Field Column field

-- AreRowOptions text rows: the options of rows are what their texts say
pub record AreRowOptions (text : Texts) (rows : RowOptions) : Type 0 where
  pub field : IsCellField text rows.field
  pub header : rows.has_header ≡ (has text Column || has text Header)
  pub separator : Some rows.separator ≡ separator_of text
  pub quotes : rows.quotes ≡ has text Csv
  pub name : option_map string_bytes rows.name ≡ text As
  pub keeps_going : rows.keeps_going ≡ has text KeepGoing
  pub shows_errors : rows.shows_errors ≡ has text Errors
  pub is_ragged : rows.is_ragged ≡ has text Ragged

-- HasRows text rows: the options of rows are exactly what their texts say, and there are none where neither `--field`
-- nor `--column` is given
abbrev pub HasRows : Texts → Option RowOptions → Type 0
HasRows text None = (text Field ≡ None) × (text Column ≡ None)
HasRows text (Some rows) = AreRowOptions text rows

-- IsFileField text field: the field of a file with its cells: that of the options of the region's, or of those of the
-- zones'. A command has one kind of file, and the options of that kind alone.
abbrev pub IsFileField : Texts → CellField → Type 0
IsFileField text field = IsFieldBy text RegionField RegionColumn field ⊎ IsFieldBy text ZoneField ZoneColumn field

-- the field is that of the file, or none of its options is given. Private contracts and proofs alone cite it.
abbrev pub HasFileField : Texts → Option CellField → Type 0
HasFileField text None =
    ((text RegionField ≡ None) × (text RegionColumn ≡ None)) × ((text ZoneField ≡ None) × (text ZoneColumn ≡ None))
HasFileField text (Some cell) = IsFileField text cell

-- has_file_column text: the name of the file's field is given, which its header has
abbrev pub has_file_column : Texts → Bool
has_file_column text = has text RegionColumn || has text ZoneColumn

-- AreFileOptions text rows: how the rows of a file are read: by its field, with a header if that has a name, cut as the
-- list
pub record AreFileOptions (text : Texts) (rows : RowOptions) : Type 0 where
  pub field : IsFileField text rows.field
  pub header : rows.has_header ≡ has_file_column text
  pub separator : Some rows.separator ≡ separator_of text
  pub quotes : rows.quotes ≡ has text Csv
  pub name : rows.name ≡ None
  pub keeps_going : rows.keeps_going ≡ false
  pub shows_errors : rows.shows_errors ≡ false
  pub is_ragged : rows.is_ragged ≡ false

-- HasFileRows text rows: the rows of a file are read exactly as their texts say, and there are none where neither the
-- number nor the name of their field is given
abbrev pub HasFileRows : Texts → Option RowOptions → Type 0
HasFileRows text None =
    ((text RegionField ≡ None) × (text RegionColumn ≡ None)) × ((text ZoneField ≡ None) × (text ZoneColumn ≡ None))
HasFileRows text (Some rows) = AreFileOptions text rows

-- HasFileOfCells text rows: without names, the rows of a file are read exactly as their texts say; with names, there is
-- no file of cells alone
abbrev pub HasFileOfCells : Texts → Option RowOptions → Type 0
HasFileOfCells text rows = MatchBool (has_names text) (rows ≡ None) (HasFileRows text rows)

-- AreAreaOptions text areas: a table of zones with names is read as the texts say: its rows as those of any file, and
-- its names in the field of `--zone-name-field`, a number from 1 to 65535, or in that of `--zone-name`; the answer to a
-- cell in no zone is the text of `--none`, or nothing; and zones may overlap exactly if `--overlapping` is given
pub record AreAreaOptions (text : Texts) (areas : AreaOptions) : Type 0 where
  pub rows : AreFileOptions text areas.table.rows
  pub name : IsFieldBy text ZoneNameField ZoneName areas.table.name
  pub none : string_bytes areas.none ≡ unwrap_or (text NoZone) []
  pub overlapping : areas.overlapping ≡ has text Overlapping

-- HasAreas text areas: a table of zones with names is read exactly as its texts say, and there is none where neither
-- the number nor the name of the field of names is given
abbrev pub HasAreas : Texts → Option AreaOptions → Type 0
HasAreas text None = (text ZoneNameField ≡ None) × (text ZoneName ≡ None)
HasAreas text (Some areas) = AreAreaOptions text areas

-- HasTables text tables: the list, the file of cells and the table of zones with names have rows exactly as their texts
-- say; the field of the list's rows that is added up is that of `--sum-field` or `--sum`, and the one that divides them
-- is that of `--by-field` or `--by`
abbrev pub HasTables : Texts → Tables → Type 0
HasTables text tables =
    HasRows text tables.list × HasFieldBy text SumField Sum tables.sum × HasFieldBy text ByField By tables.by
    × HasFileOfCells text tables.file × HasAreas text tables.areas

-- the texts that a parse found. Private contracts and proofs alone cite it.
abbrev pub found_texts : Found → Texts
found_texts found o = first_value found (id_of o)
