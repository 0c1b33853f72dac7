use Rattle.std.proofs.Common.{take}
use Rattle.std.proofs.lemmas.Result.{err_from_is_err_and}
use Rattle.std.specs.List.{flat_map}
use Rattle.h3_lines.specs.Write.{sink_use}
use Rattle.h3_lines.proofs.Written.{push_written, writes_held}
use Rattle.h3_lines.proofs.write.write_lines.Goals as goal

pub returns-in_err-end : goal.returns-in_err-end
returns-in_err-end g c all e =
    let out = sink_use g.W.Sink.taken g.W.Sink.has_failed c.args.out.now c.put_lines.new.out in
    let p = err_from_is_err_and c.from_residual.result c.from_residual.ensures.1 in
    rw (p.1, p.2) (push_written (flat_map g.L.Line.line_of all) out (c.in_err-end.ensures.err all e))

pub returns : goal.returns
returns g c all e =
    writes_held g.W.Sink.taken g.W.Sink.has_failed c.args.out.now c.put_lines.new.out c.write_answer.new.out
    (flat_map g.L.Line.line_of all) (take c.in_ok-end.end c.put_lines.new.block) c.write_answer.result
    (c.in_ok-end.ensures.ok all e) c.write_answer.ensures
