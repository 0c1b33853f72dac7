use Rattle.std.proofs.Common.{refl, take}
use Rattle.h3_lines.specs.declared.run_error.RowError.TheVariants.{Bad}
use Rattle.h3_lines.specs.declared.run_error.RowFault.TheVariants.{TooLong}
use Rattle.h3_lines.specs.Write.{sink_use}
use Rattle.h3_rows.specs.Answering.{form_of_job, state_of}
use Rattle.h3_rows.specs.RowsAnswer.{row_step, rows_then}
use Rattle.h3_rows.proofs.Steps.{long_ends, refused_ends}
use Rattle.h3_rows.proofs.each.RowAnswersJobContract.refuse_long.Goals as goal

pub returns : goal.returns
returns g c p long later =
    let v = c.args.self.now in
    let bytes = take v.end v.block in
    let form = form_of_job g.F.RowFunction.counts_quotes v.job.now in
    let answer = g.F.RowFunction.answer_of v.job.now.function.now in
    let step = row_step form answer (state_of v.state bytes) p in (
      λ last. refused_ends step v.state bytes (Bad TooLong) _
          (sink_use g.W.Sink.taken g.W.Sink.has_failed v.out.now c.refuse_row.new.out)
          (long_ends form answer (state_of v.state bytes) p long) c.refuse_row.ensures
          (rows_then last form answer step.after later),
      refl,
    )
