use Rattle.std.proofs.Common.{refl, []}
use Rattle.h3_lines.specs.EachLaws.{answered_by, moves_all}
use Rattle.h3_lines.proofs.each.AnswersJobContract.settle.Goals as goal

pub returns-clause-ok : goal.returns-clause-ok
returns-clause-ok g c = (
  answered_by g.W.Sink.taken g.W.Sink.has_failed _ _ _ _ [] _ _ refl
      (moves_all g.W.Sink.taken g.W.Sink.has_failed _ _ _ c.in_ok-write_held.ensures.ok.0
      c.in_ok-write_held.ensures.ok.1),
  refl,
  refl,
)
