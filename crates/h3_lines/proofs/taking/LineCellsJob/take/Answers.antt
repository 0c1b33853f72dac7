use Rattle.h3_lines.proofs.Listed.{line_taken, refuses_said}
use Rattle.h3_lines.proofs.taking.LineCellsJob.take.Goals as goal

pub returns-in-Err-clause-err : goal.returns-in-Err-clause-err
returns-in-Err-clause-err g c later =
    rw c.at.ensures (refuses_said (g.F.CellOf.says c.args.self.now.function) c.args.self.now.number (
      c.args.line.now,
      c.args._inside,
    ) later c.read_line.result _ c.read_line.ensures (c.in-Err.ensures.err c.args.self.now.number))

pub returns-in-Ok-clause-ok : goal.returns-in-Ok-clause-ok
returns-in-Ok-clause-ok g c =
    line_taken g.V.CellJob.taken (g.F.CellOf.says c.args.self.now.function) c.args.self.now.number (
      c.args.line.now,
      c.args._inside,
    ) c.read_line.result c.read_line.ensures c.in-Ok.ensures.said c.in-Ok.ensures.ok
