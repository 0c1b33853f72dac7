use Rattle.std.proofs.Common.{◌∙◌}
use Rattle.h3_lines.specs.Write.{sink_use}
use Rattle.h3_lines.proofs.Written.{refusal_reported}
use Rattle.h3_lines.proofs.ending.report.Goals as goal

pub returns-in-Err-clause-reported : goal.returns-in-Err-clause-reported
returns-in-Err-clause-reported g c =
    let err = sink_use g.E.Sink.taken g.E.Sink.has_failed c.args.err.now c.write_all.new.out in
    rw c.in-Err.is (refusal_reported c.in-Err.refusal _ _ c.write_all.result err c.status.ensures
    (c.as_bytes.ensures.value ∙ c.as_str.ensures.value ∙ c.line-line.ensures)
    c.write_all.ensures.written c.write_all.ensures.part c.write_all.ensures.err)
