-- Each command is found by its word.
use Rattle.std.proofs.Common.{◌≡◌, refl, Some}
use Rattle.std.specs.Prelude.{find, option_map}
use Rattle.std.specs.Str.{bytes_eq}
use Rattle.h3_words.specs.Commands.{Entry, commands, entry_of, word_of}
use Rattle.h3_requests.specs.declared.command.Command.{Command}
use Rattle.h3_requests.specs.declared.command.Command.TheVariants.{ForEach, ForOne}
use Rattle.h3_requests.specs.declared.command.IndexFunction.TheVariants.{IsValidCell}

-- what a search for its word finds has its entry. The second clause is checked at each other command.
pub word_named : {X : Type 0} (f : Entry → X) (k : Command)
    → option_map (λ x. f (entry_of x)) (find (λ x. bytes_eq (word_of x) (word_of k)) commands) ≡ Some (f (entry_of k))
word_named f (ForOne IsValidCell index) = refl
word_named f (ForEach IsValidCell) = refl
word_named f k = refl
