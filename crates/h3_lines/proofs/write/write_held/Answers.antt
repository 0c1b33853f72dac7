use Rattle.std.proofs.Common.{refl}
use Rattle.std.proofs.KnownBytes.{Appends-nil}
use Rattle.h3_lines.proofs.AnsweredLines.{written_fails, written_takes}
use Rattle.h3_lines.proofs.Lengths.{empty_from_test, some_from_test}
use Rattle.h3_lines.specs.EndingLaws.{writes_whole}
use Rattle.h3_lines.specs.Write.{sink_use}
use Rattle.h3_lines.proofs.write.write_held.Goals as goal

pub returns-then-is_empty-clause-whole : goal.returns-then-is_empty-clause-whole
returns-then-is_empty-clause-whole g c =
    rw (empty_from_test _ _ c.is_empty.ensures c.if-is_empty.true) (writes_whole _
    (sink_use g.W.Sink.taken g.W.Sink.has_failed c.args.out.now c.args.out.now) (Appends-nil _, refl))

pub returns-clause-ok : goal.returns-clause-ok
returns-clause-ok g c = written_takes c.args.bytes.now _ c.write_answer.result c.write_answer.ensures

pub returns-clause-err : goal.returns-clause-err
returns-clause-err g c =
    written_fails c.args.bytes.now _ c.write_answer.result
    (some_from_test _ _ c.is_empty.ensures c.if-is_empty.false) c.write_answer.ensures
