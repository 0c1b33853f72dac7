-- Copies of short names. Private contracts and proofs alone cite this file.
use Rattle.std.specs.Prelude.{◌≡◌, ℕ, ◌<◌, ◌≤◌, List, [], get_or, length, take}
use Rattle.h3_command.specs.declared.short_names.ShortName.{ShortName}

-- IsShort name short: this is the copy of a name, or says that there is none, as of a longer name
abbrev pub IsShort : List ℕ → ShortName → Type 0
IsShort name short = short.count ≤ 16 → take short.count short.bytes ≡ name

-- AreShort names shorts: those that there are are such copies of names, by their numbers
abbrev pub AreShort : List (List ℕ) → List ShortName → Type 0
AreShort names shorts = (n : ℕ) (d : ShortName) → n < length shorts → IsShort (get_or names n []) (get_or shorts n d)
