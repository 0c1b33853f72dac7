use Rattle.std.proofs.Common.{◌∙◌, sym}
use Rattle.h3_lines.proofs.PlainLines.{said_by_parsed}
use Rattle.h3_lines.proofs.list.read_line.Goals as goal

pub returns-in-Ok : goal.returns-in-Ok
returns-in-Ok g c =
    c.cell_of.ensures
    ∙ sym (said_by_parsed (g.F.CellOf.says c.args.function.now) c.args.line.now c.in-Ok.index
    c.if-line-gt-LONGEST_LINE.false (sym c.in-Ok.ensures.parsed))
