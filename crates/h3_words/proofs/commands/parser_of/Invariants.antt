use Rattle.std.proofs.Common.{◌≡◌, false, take}
use Rattle.clap.specs.Words.{app_of}
use Rattle.clap.specs.declared.builder.command.Command.TheViews.{out-Command}
use Rattle.h3_words.specs.Commands.{word_of}
use Rattle.h3_words.proofs.Building.{leaf_app}
use Rattle.h3_words.proofs.commands.parser_of.Given as goal

abbrev pub invariant-loop-option : goal.invariant-loop-option
invariant-loop-option l =
    (app_of l.parser ≡ leaf_app (word_of l.fn.command) (take l.option-index l.option-items))
    × ((out-Command l.parser).has_globals ≡ false)
