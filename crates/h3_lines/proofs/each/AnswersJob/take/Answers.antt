use Rattle.std.proofs.Common.{refl, ap, sym, take, ◌∙◌}
use Rattle.h3_lines.specs.Write.{sink_use}
use Rattle.h3_lines.proofs.AnsweredLines.{answered_blank, lines_refused}
use Rattle.h3_lines.proofs.each.AnswersJob.take.Goals as goal

pub returns-in-Ok-clause-ok : goal.returns-in-Ok-clause-ok
returns-in-Ok-clause-ok g c =
    let answer = g.A.Answering.answer_of c.args.self.now.function.now in
    let is = rw c.in-Ok-Some.field-0-is at c.in-Ok-Some.ensures answer in (
      c.in-Ok.ensures.ok (c.args.line.now, c.args._inside) (is ∙ ap answer (sym c.in-Ok-Some.index-is)),
      refl,
      c.answer.ensures.sink,
    )

pub returns-in-Err-answer-clause-err : goal.returns-in-Err-answer-clause-err
returns-in-Err-answer-clause-err g c later =
    let answer = g.A.Answering.answer_of c.args.self.now.function.now in
    let is = rw c.in-Ok-Some.field-0-is at c.in-Ok-Some.ensures answer in
    rw c.at.ensures (
      c.in-Err-answer.ensures.err (
        c.args.line.now,
        c.args._inside,
      ) (is ∙ ap answer (sym c.in-Ok-Some.index-is)) later,
      c.answer.ensures.sink,
    )

pub returns-in-Ok-None-clause-ok : goal.returns-in-Ok-None-clause-ok
returns-in-Ok-None-clause-ok g c =
    let answer = g.A.Answering.answer_of c.args.self.now.function.now in (
      answered_blank g.W.Sink.taken g.W.Sink.has_failed answer _ _ _ (
        c.args.line.now,
        c.args._inside,
      ) (rw c.in-Ok-None.field-0-is at c.in-Ok-None.ensures answer),
      refl,
      refl,
    )

pub returns-in-Err-clause-err : goal.returns-in-Err-clause-err
returns-in-Err-clause-err g c later =
    let answer = g.A.Answering.answer_of c.args.self.now.function.now in
    let held = c.args.self.now.held in (
      lines_refused answer held.number (take held.end held.block) (c.args.line.now, c.args._inside) later _ _
          (sink_use g.W.Sink.taken g.W.Sink.has_failed held.out.now c.refuse.new.out)
          (c.in-Err.ensures answer) c.refuse.ensures,
      refl,
    )
