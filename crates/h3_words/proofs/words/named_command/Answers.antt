use Rattle.std.proofs.Common.{rules, ◌≡◌, ◌∙◌, Option, List, refl, sym, ap, map, None, Some}
use Rattle.std.specs.Prelude.{find, option_and_then, option_map, slice_get, string_bytes}
use Rattle.std.specs.Str.{bytes_eq}
use Rattle.std.proofs.lemmas.Option.{slice_get-map, slice_get_past, slice_get_read}
use Rattle.clap.specs.Words.{Text}
use Rattle.h3_words.specs.Commands.{commands, command_of, word_of}
use Rattle.h3_requests.specs.declared.command.Command.{Command}
use Rattle.h3_words.proofs.words.named_command.Goals as goal

-- the command that has this word
abbrev by_word : Text → Option Command
by_word word = find (λ k. bytes_eq (word_of k) word) commands

-- what the second of the words names
second : {A : Type 0} (v : A → Text) (xs : List A) (found : Option A) → slice_get xs 1 ≡ found
    → command_of (map v xs) ≡ option_and_then by_word (option_map v found)
second v xs found e = ap (option_and_then by_word) (slice_get-map v xs 1 ∙ ap (option_map v) e)

pub returns : goal.returns
returns c =
    let found = slice_get_read c.args.words.now _ 1 c.in_ok-get.field-0.now refl (search rules) (search rules) in
    c.named_by.ensures ∙ ap by_word c.as_str.ensures.value
    ∙ sym (second string_bytes c.args.words.now (Some c.in_ok-get.field-0.now) found)

pub returns-in_err-get : goal.returns-in_err-get
returns-in_err-get c =
    c.from_residual.ensures
    ∙ sym (second string_bytes c.args.words.now None (slice_get_past c.args.words.now 1 (search rules)))
