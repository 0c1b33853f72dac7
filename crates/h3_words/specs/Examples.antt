-- The table of commands, by computation.
use Rattle.std.specs.Prelude.{◌≡◌, List, [], ◌∷◌, map, Bool, ◌&&◌, not, true, refl}
use Rattle.std.specs.List.{list_any}
use Rattle.std.specs.Str.{bytes_eq}
use Rattle.clap.specs.Words.{Text}
use Rattle.h3_words.specs.Commands.{commands, word_of}

-- differ words: no two of the words are the same
abbrev differ : List Text → Bool
differ [] = true
differ (word ∷ words) = not (list_any (λ other. bytes_eq other word) words) && differ words

-- no two commands have the same word
words_differ : differ (map word_of commands) ≡ true
words_differ = refl
