use Rattle.std.proofs.Common.{◌≡◌, take}
use Rattle.std.specs.Prelude.{fold}
use Rattle.clap.specs.Words.{app_of}
use Rattle.h3_words.proofs.Building.{bare_app, with_command}
use Rattle.h3_words.proofs.commands.command_line.Given as goal

abbrev pub invariant-loop-command : goal.invariant-loop-command
invariant-loop-command l = app_of l.parser ≡ fold with_command bare_app (take l.command-index l.fn.commands)
