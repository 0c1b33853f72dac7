-- The words that ask for the version.
use Rattle.std.specs.Prelude.{◌||◌, Bool, false, List, codes, slice_get}
use Rattle.std.specs.Option.{option_map_or}
use Rattle.std.specs.Str.{bytes_eq}
use Rattle.clap.specs.Words.{Text}

-- the word is `-V` or `--version`
abbrev pub names_version : Text → Bool
names_version word = bytes_eq word (codes "-V") || bytes_eq word (codes "--version")

-- asks_version words: the word after the program's name is `-V` or `--version`
abbrev pub asks_version : List Text → Bool
asks_version words = option_map_or names_version (slice_get words 1) false
