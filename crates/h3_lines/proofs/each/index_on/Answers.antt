use Rattle.std.proofs.Common.{sym}
use Rattle.h3_lines.proofs.AnsweredLines.{answer_parsed}
use Rattle.h3_lines.proofs.each.index_on.Goals as goal

pub returns-in-Ok : goal.returns-in-Ok
returns-in-Ok c answer =
    answer_parsed answer c.args.line.now c.in-Ok.index c.if-line-gt-LONGEST_LINE.false (sym c.in-Ok.ensures.parsed)
