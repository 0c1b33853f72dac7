-- The options of the commands, and how `clap` takes each.
use Rattle.std.specs.Prelude.{⊤, ℕ, ℤ, Bool, List, [], ◌∷◌, Option, Some, None, true, false, codes, pos, option_map, string_bytes, unwrap_or}
use Rattle.clap.specs.Words.{IsSignedIn, Rule, Text, new_rule}
use Rattle.clap.specs.declared.builder.action.ArgAction.TheVariants.{Set}
use Rattle.clap.specs.declared.builder.range.ValueRange.{ValueRange}
use Rattle.clap.specs.declared.builder.value_parser.ValueParser.{ValueParser}
use Rattle.clap.specs.declared.builder.value_parser.ValueParser.TheVariants.{Signed, String}
use Rattle.h3_words.specs.declared.options.CommandFile.{CommandFile}
use Rattle.h3_words.specs.declared.options.CommandFile.TheVariants as file
use Rattle.h3_words.specs.declared.options.CommandOption.{CommandOption}
use Rattle.h3_words.specs.declared.options.CommandOption.TheVariants as option

-- an option: its id in `clap`, the character after one hyphen and the name after two hyphens, if it has such names, the
-- least that its number may be and the most, or no most where its value is any text, whether each command that has it
-- requires it, and whether it is a flag, which takes no value
pub record OptionEntry : Type 0 where
  pub id : Text
  pub short : Option ℕ
  pub long : Option Text
  pub least : ℤ
  pub most : Option ℤ
  pub is_required : Bool
  pub is_flag : Bool

-- `i32::MAX`
abbrev i32_max : ℤ
i32_max = pos 2147483647

-- `i64::MAX`
abbrev i64_max : ℤ
i64_max = pos 9223372036854775807

-- an option that each command which has it requires, whose number is 0 or more
abbrev required : Text → Option ℕ → Option Text → Option ℤ → OptionEntry
required id short long most =
    record { id = id; short = short; long = long; least = pos 0; most = most; is_required = true; is_flag = false }

-- an option of rows, which may be left out: its id and its long name
abbrev of_rows : Text → Text → OptionEntry
of_rows id name =
    record { id = id; short = None; long = Some name; least = pos 0; most = None; is_required = false; is_flag = false }

-- an option of rows that is the number of a field, counted from 1
abbrev number_of_field : Text → Text → OptionEntry
number_of_field id name = record (of_rows id name) { least = pos 1; most = Some (pos 65535) }

-- option_entry o: the names of an option, the numbers that its value may be, and whether it is required and a flag
abbrev pub option_entry : CommandOption → OptionEntry
option_entry option.Cell = required (codes "cell") (Some 99) (Some (codes "cell")) None
option_entry option.Resolution = required (codes "resolution") (Some 114) (Some (codes "resolution")) (Some i32_max)
option_entry option.Radius = required (codes "k") (Some 107) None (Some i32_max)
option_entry option.To = required (codes "to") None (Some (codes "to")) None
option_entry option.Position = required (codes "position") None (Some (codes "position")) (Some i64_max)
option_entry option.Edge = required (codes "edge") None (Some (codes "edge")) None
option_entry option.Table = required (codes "table") None (Some (codes "table")) None
option_entry option.Region = required (codes "region") None (Some (codes "region")) None
option_entry option.Zones = required (codes "zones") None (Some (codes "zones")) None
option_entry option.Field = number_of_field (codes "number") (codes "field")
option_entry option.Column = of_rows (codes "column") (codes "column")
option_entry option.Header = record (of_rows (codes "header") (codes "header")) { is_flag = true }
option_entry option.Separator = of_rows (codes "separator") (codes "separator")
option_entry option.Csv = record (of_rows (codes "csv") (codes "csv")) { is_flag = true }
option_entry option.As = of_rows (codes "name") (codes "as")
option_entry option.KeepGoing = record (of_rows (codes "keep-going") (codes "keep-going")) { is_flag = true }
option_entry option.Errors = record (of_rows (codes "errors") (codes "errors")) { is_flag = true }
option_entry option.Ragged = record (of_rows (codes "ragged") (codes "ragged")) { is_flag = true }
option_entry option.RegionColumn = of_rows (codes "region-column") (codes "region-column")
option_entry option.RegionField = number_of_field (codes "region-field") (codes "region-field")
option_entry option.ZoneColumn = of_rows (codes "zone-column") (codes "zone-column")
option_entry option.ZoneField = number_of_field (codes "zone-field") (codes "zone-field")
option_entry option.ZoneName = of_rows (codes "zone-name") (codes "zone-name")
option_entry option.ZoneNameField = number_of_field (codes "name-field") (codes "zone-name-field")
option_entry option.NoZone = of_rows (codes "text") (codes "none")
option_entry option.Overlapping = record (of_rows (codes "overlapping") (codes "overlapping")) { is_flag = true }
option_entry option.Sum = of_rows (codes "sum") (codes "sum")
option_entry option.SumField = number_of_field (codes "sum-field") (codes "sum-field")
option_entry option.By = of_rows (codes "by") (codes "by")
option_entry option.ByField = number_of_field (codes "by-field") (codes "by-field")

-- the option's id in `clap`
abbrev pub id_of : CommandOption → Text
id_of o = (option_entry o).id

-- the name after two hyphens, if the option has such a name
abbrev pub long_name : CommandOption → Option Text
long_name o = (option_entry o).long

-- the character after one hyphen, if the option has such a name
abbrev pub short_name : CommandOption → Option ℕ
short_name o = (option_entry o).short

-- each command that has the option requires it
abbrev pub is_required : CommandOption → Bool
is_required o = (option_entry o).is_required

-- the option is a flag: it takes no value
abbrev pub is_flag : CommandOption → Bool
is_flag o = (option_entry o).is_flag

-- the option's minimum
abbrev pub number_from : CommandOption → ℤ
number_from o = (option_entry o).least

-- the option's maximum; none where its value is any text
abbrev pub number_up_to : CommandOption → Option ℤ
number_up_to o = (option_entry o).most

-- a whole number from the least to the most, parsed as an `i64`; any text where there is no most
abbrev pub IsWithin : ℤ → Option ℤ → Text → Type 0
IsWithin least None text = ⊤
IsWithin least (Some most) text = IsSignedIn least most text

-- a number from the option's minimum to its maximum; any text where it has no maximum
abbrev pub IsInRange : CommandOption → Text → Type 0
IsInRange o text = IsWithin (number_from o) (number_up_to o) text

-- a number from the option's minimum to its maximum
abbrev pub parser_for : CommandOption → Option ValueParser
parser_for o = option_map (Signed (number_from o)) (number_up_to o)

-- what `clap` holds each value of the option to. Private contracts and proofs alone cite it.
abbrev pub parser_done : CommandOption → ValueParser
parser_done o = unwrap_or (parser_for o) String

-- how many values `clap` takes after a use of the option: none after a flag
abbrev pub range_for : Bool → Option ValueRange
range_for true = Some (record { start_inclusive = 0; end_inclusive = 0 })
range_for false = None

-- what a use of a flag stands for, which has no value
abbrev pub missing_for : Bool → List Text
missing_for true = codes "true" ∷ []
missing_for false = []

-- the option with its names
abbrev pub named_rule : CommandOption → Rule
named_rule o = record (new_rule (id_of o)) {
  long = long_name o;
  short = short_name o;
  action = Some Set;
  required = is_required o;
}

-- the option as it is given to `clap`
abbrev pub rule_for : CommandOption → Rule
rule_for o = record (named_rule o) {
  parser = parser_for o;
  range = range_for (is_flag o);
  missing = missing_for (is_flag o);
}

-- the option by which a file of this kind is named
abbrev pub option_of_file : CommandFile → CommandOption
option_of_file (file.Table path) = option.Table
option_of_file (file.Region path) = option.Region
option_of_file (file.Zones path) = option.Zones

-- the file's path
abbrev pub path_of : CommandFile → Text
path_of (file.Table path) = string_bytes path
path_of (file.Region path) = string_bytes path
path_of (file.Zones path) = string_bytes path
