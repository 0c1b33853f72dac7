use Rattle.std.proofs.Common.{ap, ap₂, sym, ◌∙◌, true, take_all, None}
use Rattle.std.specs.Prelude.{fold}
use Rattle.std.proofs.lemmas.List.Sums.{fold_more}
use Rattle.clap.specs.Words.{with_subcommand}
use Rattle.clap.specs.Simple.{app_of_fields, on_top}
use Rattle.h3_words.proofs.Building.{all_commands, bare_app, with_command}
use Rattle.h3_requests.specs.declared.command.Command.TheVariants.{ForOne}
use Rattle.h3_requests.specs.declared.command.IndexFunction.TheVariants.{IsValidCell}
use Rattle.h3_words.proofs.commands.command_line.Goals as goal

pub loop-command-init : goal.loop-command-init
loop-command-init c = ap app_of_fields c.disable_help_subcommand-parser.ensures
    ∙ ap (on_top (λ s. record s { disable_help_subcommand = true })) (ap app_of_fields c.subcommand_required.ensures
    ∙ ap (on_top (λ s. record s { subcommand_required = true }))
    (ap app_of_fields c.override_help.ensures ∙ c.new.ensures.app))

pub loop-command-preserved : goal.loop-command-preserved
loop-command-preserved c = let made = c.in_ok-parser.ensures in let inner = c.in_ok-parser_of.ensures in
    made.shape inner.local ∙ ap₂ with_subcommand c.loop-command.invariant inner.shape
    ∙ sym (fold_more with_command bare_app _ _ (ForOne IsValidCell None) c.loop-command-test.true)

pub returns : goal.returns
returns c =
    c.loop-command.invariant ∙ ap (fold with_command bare_app) (take_all _ _ c.loop-command-test.false)
    ∙ all_commands c.args.commands.now
