use Rattle.std.proofs.Common.{take}
use Rattle.h3_lines.proofs.PlainRows.{goes_lines, refused_lines}
use Rattle.h3_lines.proofs.plain.take_together.Goals as goal

pub returns-in-Ok-clause-some : goal.returns-in-Ok-clause-some
returns-in-Ok-clause-some g c q =
    goes_lines g.J.JobContract.taken q c.args.bytes.now (take c.plain_lines-count.result.0
    c.plain_lines-count.new.indexes) c.plain_lines-count.result.1.now c.plain_lines-count.ensures.lines
    c.in-Ok.ensures.ok

pub returns-in-Err-clause-err : goal.returns-in-Err-clause-err
returns-in-Err-clause-err g c q rest =
    rw (c.at.ensures, c.line.ensures) (refused_lines g.J.JobContract.refused q c.args.bytes.now
    (take c.plain_lines-count.result.0 c.plain_lines-count.new.indexes) c.plain_lines-count.result.1.now rest
    c.plain_lines-count.ensures.lines c.in-Err.ensures.err)
