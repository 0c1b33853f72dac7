-- The command and the values that the words of a command line parse as.
use Rattle.std.specs.Prelude.{⊤, All, Contains, ◌≡◌, ℕ, ℤ, List, [], ◌∷◌, Option, Some, None, is_some, drop, slice_get, false, true, MatchBool}
use Rattle.std.specs.Str.Parse.{signed_digits_value}
use Rattle.clap.specs.Words.{Accepts, Text, first_value}
use Rattle.clap.specs.declared.parser.matches.Found.{Found}
use Rattle.h3_index.specs.Text.{parsed_index}
use Rattle.h3_words.specs.Options.{IsInRange, id_of, is_required, option_of_file, parser_done, path_of}
use Rattle.h3_words.specs.Commands.{Index, Number, Value, has_option, option_of, options_of, values_of_command, word_of}
use Rattle.h3_words.specs.Given.{given}
use Rattle.h3_words.specs.Rows.{HasTables}
use Rattle.h3_words.specs.declared.options.CommandFile.{CommandFile}
use Rattle.h3_words.specs.declared.options.CommandOption.{CommandOption}
use Rattle.h3_words.specs.declared.options.CommandOption.TheVariants.{Table, Region, Zones}
use Rattle.h3_words.specs.declared.words.Words.{Words}
use Rattle.h3_requests.specs.declared.command.Command.{Command}

-- there is a text, and this is the index that it parses as, or none where it parses as none
abbrev pub IsIndex : Option Text → Option ℕ → Type 0
IsIndex None index = ⊥
IsIndex (Some text) index = index ≡ parsed_index text

-- the option has a text, which is a whole number from the option's minimum to its maximum, parsed as an `i64`, and this
-- is that number
abbrev pub IsNumber : CommandOption → Option Text → ℤ → Type 0
IsNumber o None number = ⊥
IsNumber o (Some text) number = IsInRange o text × (number ≡ signed_digits_value 10 text)

-- the value is what the option's text parses as
abbrev pub IsValue : (CommandOption → Option Text) → Value → Type 0
IsValue text (Index o value) = IsIndex (text o) value
IsValue text (Number o value) = IsNumber o (text o) value

-- HasValues text command: the command holds for each of its options what the option's text parses as
abbrev pub HasValues : (CommandOption → Option Text) → Command → Type 0
HasValues text c = All (IsValue text) (values_of_command c)

-- what is read of what a parse found for the value's option, where the option's parser accepted it. Private contracts
-- and proofs alone cite it.
abbrev pub IsRead : Found → Value → Type 0
IsRead found (Index o index) = (text : Text) → first_value found (id_of o) ≡ Some text → index ≡ parsed_index text
IsRead found (Number o number) =
    (text : Text) → first_value found (id_of o) ≡ Some text → Accepts false (parser_done o) text
    → number ≡ signed_digits_value 10 text

-- each value is read for an option that the command requires. Private contracts and proofs alone cite it.
abbrev pub AreRead : Command → Found → List Value → Type 0
AreRead k found [] = ⊤
AreRead k found (v ∷ vs) =
    (has_option k (option_of v) ≡ true) × (is_required (option_of v) ≡ true) × IsRead found v × AreRead k found vs

-- where the command has the option, the option's text is the path, and where it does not there is none. Private
-- contracts and proofs alone cite it.
abbrev pub HasPath : (CommandOption → Option Text) → Command → CommandOption → Option Text → Type 0
HasPath text k o path = MatchBool (has_option k o) (path ≡ text o) (path ≡ None)

-- HasFile text command file: a file is that of an option which the command has, at the path that is the option's text;
-- where there is none, the command has no option for a file
abbrev pub HasFile : (CommandOption → Option Text) → Command → Option CommandFile → Type 0
HasFile text k None = (has_option k Table ≡ false) × (has_option k Region ≡ false) × (has_option k Zones ≡ false)
HasFile text k (Some f) = (has_option k (option_of_file f) ≡ true) × (text (option_of_file f) ≡ Some (path_of f))

-- the option's parser accepted the text, if there is one. Private contracts and proofs alone cite it.
abbrev pub IsAccepted : CommandOption → Option Text → Type 0
IsAccepted o None = ⊤
IsAccepted o (Some v) = Accepts false (parser_done o) v

-- an option's text is what a parse found for it, and its parser accepted it
--
-- each option that the command requires has one. Private contracts and proofs alone cite it.
pub record IsFound (k : Command) (text : CommandOption → Option Text) (found : Found) (o : CommandOption) : Type 0 where
  pub same : first_value found (id_of o) ≡ text o
  pub accepted : IsAccepted o (text o)
  pub wanted : Contains (options_of k) o → is_required o ≡ true → is_some (text o) ≡ true

-- so is that of each option. Private contracts and proofs alone cite it.
abbrev pub AreFound : Command → (CommandOption → Option Text) → Found → Type 0
AreFound k text found = (o : CommandOption) → IsFound k text found o

-- AsksFor words asked: the words name the command, and give its values, its path and its options of rows
--
-- the word after the program's name is the command's name, and the words after it give the command's values, the file
-- that it names, if it names one, and how the rows of its list and of its file are read and written, if these have rows
pub record AsksFor (words : List Text) (asked : Words) : Type 0 where
  pub command : slice_get words 1 ≡ Some (word_of asked.command)
  pub values : HasValues (λ o. given o (drop 2 words)) asked.command
  pub file : HasFile (λ o. given o (drop 2 words)) asked.command asked.file
  pub tables : HasTables (λ o. given o (drop 2 words)) asked.tables
