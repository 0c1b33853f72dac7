-- A plain call: the program's name, a command's name, and then options of the command in any order, none twice: each
-- that it requires, and of the others such as go together. Each has its name and its value in two words, and a flag its
-- name alone.
use Rattle.std.specs.Prelude.{◌≡◌, ◌≢◌, ◌≤◌, ◌++◌, ◌∷◌, ℕ, Bool, true, false, List, [], codes, All, Contains, count_by, filter_map, option_map}
use Rattle.std.specs.Str.{bytes_eq}
use Rattle.clap.specs.Words.{Text}
use Rattle.h3_requests.specs.declared.command.Command.{Command}
use Rattle.h3_words.specs.Commands.{options_of, word_of}
use Rattle.h3_words.specs.Options.{IsInRange, id_of, is_flag, is_required, long_name, short_name}
use Rattle.h3_words.specs.Given.{given}
use Rattle.h3_words.specs.Rows.{rows_agree}
use Rattle.h3_words.specs.declared.options.CommandOption.{CommandOption}

-- the words that name the option: its short name after `-`, and its long name after `--`
abbrev pub names_for : CommandOption → List Text
names_for o = filter_map (λ name. name) (
    option_map (λ c. codes "-" ++ c ∷ []) (short_name o) ∷ option_map (λ n. codes "--" ++ n) (long_name o) ∷ [])

-- not empty, and not beginning with `-` (45)
abbrev pub IsPlainValue : Text → Type 0
IsPlainValue [] = ⊥
IsPlainValue (b ∷ bs) = b ≢ 45

-- an option, the word that names it, and its value, which is not written for a flag
pub record Use : Type 0 where
  pub option : CommandOption
  pub name : Text
  pub value : Text

-- the value's word, and none for a flag, before further words
abbrev pub value_words : Bool → Text → List Text → List Text
value_words true value rest = rest
value_words false value rest = value ∷ rest

-- the words of the uses: two for each, and one for a flag
abbrev pub words_of : List Use → List Text
words_of [] = []
words_of (u ∷ us) = u.name ∷ value_words (is_flag u.option) u.value (words_of us)

-- how often the option is used; options are compared by their ids
abbrev pub uses_of : CommandOption → List Use → ℕ
uses_of o uses = count_by (λ u. bytes_eq (id_of u.option) (id_of o)) uses

-- the use is of one of these options, by one of its names, with a plain value in the option's range
pub record IsUse (os : List CommandOption) (u : Use) : Type 0 where
  pub listed : Contains os u.option
  pub named : Contains (names_for u.option) u.name
  pub plain : IsPlainValue u.value
  pub in_range : IsInRange u.option u.value

-- IsPlainCall words: a command and some of its options, those that it requires among them, none twice, each value in
-- range, and those of rows such as agree
pub record IsPlainCall (words : List Text) : Type 0 where
  pub program : Text
  pub command : Command
  pub uses : List Use
  pub words_are : words ≡ program ∷ word_of command ∷ words_of uses
  pub uses_options : All (IsUse (options_of command)) uses
  pub required : (o : CommandOption) → Contains (options_of command) o → is_required o ≡ true → uses_of o uses ≡ 1
  pub once : (o : CommandOption) → uses_of o uses ≤ 1
  pub agree : rows_agree (λ o. given o (words_of uses)) ≡ true
