use Rattle.std.proofs.Common.{◌∷◌, ◌∙◌}
use Rattle.h3_lines.specs.Write.{sink_use}
use Rattle.std.proofs.lemmas.Result.{err_from_is_err_and}
use Rattle.h3_lines.specs.EachLaws.{push_breaks}
use Rattle.h3_lines.proofs.AnsweredLines.{answered_index, ends_unwritten, lines_refused, refused_index}
use Rattle.h3_lines.proofs.each.ShortAnswering.answer.Goals as goal

pub returns-in_err-at-clause-err : goal.returns-in_err-at-clause-err
returns-in_err-at-clause-err g c =
    let p = err_from_is_err_and c.from_residual.result c.from_residual.ensures.1 in
    let answer = g.F.AnswerLine.answer_of c.args.self.now.function.now in
    let out = sink_use g.W.Sink.taken g.W.Sink.has_failed c.args.held.now.out.now c.make_room.new.out in
    rw (p.1, p.2) (λ line is later. ends_unwritten answer c.args.held.now.number _ (line ∷ later) _ out
    (push_breaks _ out c.in_err-at.ensures.err))

pub returns-in-Ok-clause-ok : goal.returns-in-Ok-clause-ok
returns-in-Ok-clause-ok g c line is =
    answered_index g.W.Sink.taken g.W.Sink.has_failed
    (g.F.AnswerLine.answer_of c.args.self.now.function.now) line c.in_ok-at.ensures.ok is c.in-Ok.ensures.ok

pub returns-in-Err-clause-err : goal.returns-in-Err-clause-err
returns-in-Err-clause-err g c line is later =
    let answer = g.F.AnswerLine.answer_of c.args.self.now.function.now in
    refused_index g.W.Sink.taken g.W.Sink.has_failed answer c.args.held.now.number c.stop.new.out _ (line
    ∷ later) c.in_ok-at.ensures.ok c.in-Err.ensures.kept (lines_refused answer c.args.held.now.number _ line later _
    _ (sink_use g.W.Sink.taken g.W.Sink.has_failed c.make_room.new.out c.stop.new.out) (is ∙ c.in-Err.ensures.err)
    (c.stop.ensures c.args.held.now.number))
