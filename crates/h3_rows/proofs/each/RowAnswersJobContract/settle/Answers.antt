use Rattle.std.proofs.Common.{refl, take}
use Rattle.h3_lines.specs.EachLaws.{answered_none}
use Rattle.h3_rows.proofs.Steps.{settled_moves}
use Rattle.h3_rows.proofs.each.RowAnswersJobContract.settle.Goals as goal

pub returns-in-None-clause-ok : goal.returns-in-None-clause-ok
returns-in-None-clause-ok g c = (answered_none g.W.Sink.taken g.W.Sink.has_failed _ _ _ _, refl, refl, refl)

pub returns-clause-ok : goal.returns-clause-ok
returns-clause-ok g c =
    let v = c.args.self.now in (
      settled_moves g.W.Sink.taken g.W.Sink.has_failed _ v.state _ c.in_default.is
          (take v.end v.block) _ _ c.in_ok-write_held.ensures.ok.0 c.in_ok-write_held.ensures.ok.1,
      refl,
      refl,
      refl,
    )
