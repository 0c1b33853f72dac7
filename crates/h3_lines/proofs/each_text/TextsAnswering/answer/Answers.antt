use Rattle.std.proofs.Common.{◌∙◌, take}
use Rattle.std.proofs.lemmas.Result.{err_from_is_err_and}
use Rattle.h3_lines.specs.Write.{sink_use}
use Rattle.h3_lines.specs.EachLaws.{push_breaks}
use Rattle.h3_lines.proofs.AnsweredLines.{lines_break, lines_refused}
use Rattle.h3_lines.proofs.each_text.TextsAnswering.answer.Goals as goal

pub returns-in_err-held-in-Ok-clause-err : goal.returns-in_err-held-in-Ok-clause-err
returns-in_err-held-in-Ok-clause-err g c =
    let p = err_from_is_err_and c.from_residual.result c.from_residual.ensures.1 in
    let out = sink_use g.W.Sink.taken g.W.Sink.has_failed c.args.held.now.out.now c.put_answer_text.new.out in
    rw (p.1, p.2) (λ line is later. lines_break
    (g.F.TextFunction.answer_of c.args.self.now.function.now) c.args.held.now.number
    (take c.args.held.now.end c.args.held.now.block) _ line later _ out is c.in-Ok.ensures.ok
    (push_breaks _ out c.in_err-held-in-Ok.ensures.err))

pub returns-in-Err-clause-err : goal.returns-in-Err-clause-err
returns-in-Err-clause-err g c line is later =
    let held = c.args.held.now in
    lines_refused (g.F.TextFunction.answer_of c.args.self.now.function.now) held.number
    (take held.end held.block) line later _ _
    (sink_use g.W.Sink.taken g.W.Sink.has_failed held.out.now c.stop.new.out) (is ∙ c.in-Err.ensures.err)
    (c.stop.ensures held.number)
