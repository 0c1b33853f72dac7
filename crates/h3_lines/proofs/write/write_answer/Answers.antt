use Rattle.std.proofs.Common.{◌∙◌}
use Rattle.std.proofs.KnownBytes.{Appends-kept}
use Rattle.std.proofs.lemmas.Result.{err_from_is_err_and}
use Rattle.h3_lines.specs.Write.{sink_use}
use Rattle.h3_lines.specs.EndingLaws.{writes_whole}
use Rattle.h3_lines.proofs.Written.{writes_part, writes_unflushed}
use Rattle.h3_lines.proofs.write.write_answer.Goals as goal

pub returns-in_err-write_all : goal.returns-in_err-write_all
returns-in_err-write_all g c =
    let p = err_from_is_err_and c.from_residual.result c.from_residual.ensures.1 in
    rw (p.1, p.2) (writes_part _ _ c.in_err-write_all.ensures.part c.in_err-write_all.ensures.err)

pub returns-in_err-flush : goal.returns-in_err-flush
returns-in_err-flush g c =
    let p = err_from_is_err_and c.from_residual-in_err-flush.result c.from_residual-in_err-flush.ensures.1 in
    let out = sink_use g.W.Sink.taken g.W.Sink.has_failed c.args.out.now c.flush.new.self in
    rw (p.1, p.2) (writes_unflushed _ out (
      c.write_all.new.out,
      c.in_ok-write_all.ensures.written,
      c.in_ok-write_all.ensures.ok,
      c.in_err-flush.ensures.refused,
    ) c.in_err-flush.ensures.err)

pub returns : goal.returns
returns g c =
    writes_whole _ _ (
      Appends-kept _ _ _ _ c.in_ok-write_all.ensures.written c.in_ok-flush.ensures.bytes,
      c.in_ok-flush.ensures.ok ∙ c.in_ok-write_all.ensures.ok,
    )
