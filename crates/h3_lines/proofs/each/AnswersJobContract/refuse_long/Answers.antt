use Rattle.std.proofs.Common.{refl, take}
use Rattle.h3_lines.specs.Write.{sink_use}
use Rattle.h3_lines.proofs.AnsweredLines.{answer_long, lines_refused}
use Rattle.h3_lines.proofs.each.AnswersJobContract.refuse_long.Goals as goal

pub returns : goal.returns
returns g c p long later =
    let answer = g.A.Answering.answer_of c.args.self.now.function.now in
    let held = c.args.self.now.held in (
      lines_refused answer held.number (take held.end held.block) p later _ _
          (sink_use g.W.Sink.taken g.W.Sink.has_failed held.out.now c.refuse.new.out)
          (answer_long answer p.0 long) c.refuse.ensures,
      refl,
    )
