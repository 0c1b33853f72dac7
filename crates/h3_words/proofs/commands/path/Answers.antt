use Rattle.std.proofs.Common.{sym, ap, ◌∙◌, Some}
use Rattle.clap.specs.Words.{first_value, found_of}
use Rattle.h3_words.proofs.Values.{path_found}
use Rattle.h3_words.proofs.commands.path.Goals as goal

pub returns-in_ok-from_str-in-Some : goal.returns-in_ok-from_str-in-Some
returns-in_ok-from_str-in-Some c =
    path_found c.args.command c.args.option (found_of c.args.matches.now) _
    (sym c.has_option.ensures ∙ c.if-not-has_option.false)
    (sym (c.in-Some.ensures ∙ ap (first_value (found_of c.args.matches.now)) c.id.ensures)
    ∙ ap (λ t. Some t) (sym c.in_ok-from_str-in-Some.ensures.ok))

pub returns-in-None : goal.returns-in-None
returns-in-None c =
    path_found c.args.command c.args.option (found_of c.args.matches.now) _
    (sym c.has_option.ensures ∙ c.if-not-has_option.false)
    (sym (c.in-None.ensures ∙ ap (first_value (found_of c.args.matches.now)) c.id.ensures))
