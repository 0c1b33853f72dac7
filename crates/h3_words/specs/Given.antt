-- What the words after a command's name give an option.
use Rattle.std.specs.Prelude.{◌==◌, ◌++◌, ℕ, Bool, true, false, List, [], ◌∷◌, Option, Some, None, drop, slice_get, option_and_then, codes, if◌then◌else◌}
use Rattle.std.specs.Option.{option_map_or, option_or}
use Rattle.std.specs.Str.{chars}
use Rattle.clap.specs.Words.{Text}
use Rattle.h3_words.specs.Options.{is_flag, long_name, short_name}
use Rattle.h3_words.specs.declared.options.CommandOption.{CommandOption}

-- the rest of the word after a prefix, if it has that prefix
abbrev pub after : Text → Text → Option Text
after [] word = Some word
after (x ∷ xs) [] = None
after (x ∷ xs) (b ∷ bs) = if x == b then after xs bs else None

-- after a long name stands nothing, or `=` (61) and the value
abbrev pub long_value : Text → Option (Option Text)
long_value [] = Some None
long_value (b ∷ bs) = if b == 61 then Some (Some bs) else None

-- after a short name stands nothing, or `=` and the value, or the value
abbrev pub short_value : Text → Option Text
short_value [] = None
short_value (b ∷ bs) = if b == 61 then Some bs else Some (b ∷ bs)

-- the word is `--name` or `--name=value`: the value, if any
abbrev pub by_long : Option Text → Text → Option (Option Text)
by_long None word = None
by_long (Some name) word = option_and_then long_value (after (codes "--" ++ name) word)

-- these begin with the character c: the value after it, if any
abbrev pub by_character : ℕ → Text → Option (Option Text)
by_character c flags =
    option_map_or (λ first. if c == first then Some (short_value (drop 1 flags)) else None)
    (slice_get (chars flags) 0) None

-- the word is `-n`, `-nvalue` or `-n=value`: the value, if any
abbrev pub by_short : Option ℕ → Text → Option (Option Text)
by_short None word = None
by_short (Some c) word = option_and_then (by_character c) (after (codes "-") word)

-- the word names the option by its long name or by its short one: the value in the word, if any
abbrev pub by_name : CommandOption → Text → Option (Option Text)
by_name o word = option_or (by_long (long_name o) word) (by_short (short_name o) word)

-- a flag takes no value: where a word names it alone, it has the text `true`, and no other word names it
abbrev pub with_true : Bool → Option (Option Text) → Option (Option Text)
with_true true (Some None) = Some (Some (codes "true"))
with_true true value = None
with_true false value = value

-- the word names the option: the value in the word, if any, and that of a flag
abbrev pub named : CommandOption → Text → Option (Option Text)
named o word = with_true (is_flag o) (by_name o word)

-- the value in a word that names the option, or else the next word; where the word does not name it, what the later
-- words give
abbrev pub given_by : Option (Option Text) → List Text → Option Text → Option Text
given_by None rest later = later
given_by (Some None) rest later = slice_get rest 0
given_by (Some (Some v)) rest later = Some v

-- given o words: the word that an option is given, and `true` for a flag that is given
abbrev pub given : CommandOption → List Text → Option Text
given o [] = None
given o (word ∷ rest) = given_by (named o word) rest (given o rest)
