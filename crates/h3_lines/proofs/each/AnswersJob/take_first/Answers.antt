use Rattle.std.proofs.Common.{◌≡◌, [], refl, take}
use Rattle.std.proofs.lemmas.Result.{IfErr-weaker}
use Rattle.h3_lines.specs.Answering.{Answered, lines_from}
use Rattle.h3_lines.specs.EachLaws.{answered_none}
use Rattle.h3_lines.proofs.PlainRows.{none_first}
use Rattle.h3_lines.proofs.each.AnswersJob.take_first.Goals as goal

pub returns-clause-some : goal.returns-clause-some
returns-clause-some g c = c.take_plain.ensures.some c.args._quotes

pub returns-clause-none : goal.returns-clause-none
returns-clause-none g c =
    let v = c.args.self.now in
    none_first c.take_plain.result
    (λ w.
    Answered g.W.Sink.taken g.W.Sink.has_failed (lines_from (g.A.Answering.answer_of v.function.now)) v.held.number
    w.held.number (take v.held.end v.held.block) (take w.held.end w.held.block) v.held.out.now w.held.out.now []
    × (w.function ≡ v.function) × (w.held.out.ghost_name ≡ v.held.out.ghost_name))
    v _ (answered_none g.W.Sink.taken g.W.Sink.has_failed _ _ _ _, refl, refl) c.take_plain.ensures.none

pub returns-clause-err : goal.returns-clause-err
returns-clause-err g c =
    IfErr-weaker c.take_plain.result _ _ (λ e refuses rest. refuses c.args._quotes rest) c.take_plain.ensures.err
