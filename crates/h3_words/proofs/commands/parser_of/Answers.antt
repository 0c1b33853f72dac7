use Rattle.std.proofs.Common.{ap, ap₂, ◌∙◌, ◌||◌, Bool, take_all}
use Rattle.clap.specs.Words.{App, with_rule}
use Rattle.h3_words.specs.Commands.{leaf_with, word_of}
use Rattle.h3_words.specs.declared.options.CommandOption.TheVariants.{Cell}
use Rattle.h3_words.proofs.Building.{leaf_more}
use Rattle.h3_words.proofs.commands.parser_of.Goals as goal

pub loop-option-init : goal.loop-option-init
loop-option-init c = (c.described-parser.ensures.app, c.described-parser.ensures.local)

pub loop-option-preserved : goal.loop-option-preserved
loop-option-preserved c =
    let old = c.loop-option.invariant in
    let made = c.in_ok-parser.ensures in (
      made.shape c.argument.ensures.local ∙ ap₂ with_rule old.0 c.argument.ensures.rule
          ∙ leaf_more _ c.options-option-items.result.now _ Cell c.loop-option-test.true,
      made.globals ∙ ap₂ (λ (a b : Bool). a || b) old.1 c.argument.ensures.local,
    )

pub returns-clause-shape : goal.returns-clause-shape
returns-clause-shape c =
    ap (λ (a : App). a.top) c.loop-option.invariant.0
    ∙ ap (leaf_with (word_of c.args.command))
    (take_all _ _ c.loop-option-test.false ∙ c.options-option-items.ensures)
