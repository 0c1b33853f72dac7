use Rattle.std.proofs.Common.{[], refl}
use Rattle.std.proofs.KnownBytes.{Appends-nil}
use Rattle.h3_lines.specs.EndingLaws.{writes_whole}
use Rattle.h3_lines.specs.Write.{sink_use}
use Rattle.h3_lines.specs.declared.run_error.AnswerError.TheVariants.{AtRowAndMore, Column}
use Rattle.h3_lines.specs.declared.run_error.ColumnError.TheVariants.{NotFound}
use Rattle.h3_rows.proofs.Written.{nothing_refused}
use Rattle.h3_rows.proofs.each.end_answer.Goals as goal

pub returns-in-None : goal.returns-in-None
returns-in-None g c =
    rw (c.in-Some-default.is-0, c.in-None.is)
    (writes_whole [] (sink_use g.W.Sink.taken g.W.Sink.has_failed c.args.out.now c.args.out.now) (Appends-nil _, refl))

pub returns-in-Some : goal.returns-in-Some
returns-in-Some g c =
    let k = c.in-Some.kept in
    rw (c.in-Some-default.is-0, c.in-Some.is)
    (nothing_refused g.W.Sink.taken g.W.Sink.has_failed c.args.out.now (AtRowAndMore k.number k.error k.more))

pub returns-in-None-Column : goal.returns-in-None-Column
returns-in-None-Column g c =
    rw (
      c.in-None-Column.is-0,
      c.in-None-Column.is-1,
    ) (nothing_refused g.W.Sink.taken g.W.Sink.has_failed c.args.out.now (Column NotFound))
