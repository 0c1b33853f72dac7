use Rattle.std.proofs.Common.{refl}
use Rattle.std.proofs.lemmas.Result.{on_ok_weaker, IfErr-weaker}
use Rattle.h3_lines.proofs.AnsweredLines.{answer_parsed}
use Rattle.h3_lines.proofs.each.AnswersIndexJob.take_index.Goals as goal

pub returns-clause-ok : goal.returns-clause-ok
returns-clause-ok g c =
    on_ok_weaker c.answer.result (λ said p parses. (
      said p (answer_parsed (g.A.Answering.answer_of c.args.self.now.function.now) p.0 c.args.index parses.short
          parses.parses),
      refl,
      c.answer.ensures.sink,
    ))
    c.answer.ensures.ok

pub returns-clause-err : goal.returns-clause-err
returns-clause-err g c =
    IfErr-weaker c.answer.result _ _ (λ e said p parses later. (
      said p
          (answer_parsed (g.A.Answering.answer_of c.args.self.now.function.now) p.0 c.args.index parses.short
          parses.parses)
          later,
      c.answer.ensures.sink,
    ))
    c.answer.ensures.err
