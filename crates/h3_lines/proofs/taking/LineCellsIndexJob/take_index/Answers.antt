use Rattle.std.proofs.Common.{◌≡◌, ◌+◌, ◌-◌, arith}
use Rattle.std.proofs.lemmas.Result.{IfErr-weaker}
use Rattle.h3_lines.proofs.Listed.{line_taken, ok_both, refuses_said, said_parsed}
use Rattle.h3_lines.proofs.taking.LineCellsIndexJob.take_index.Goals as goal

pub returns-clause-err : goal.returns-clause-err
returns-clause-err g c =
    let number = c.args.self.now.number in
    let says = g.F.CellOf.says c.args.self.now.function in
    let same : number + 1 - 1 ≡ number = omega arith in
    IfErr-weaker c.push_parsed.result _ _ (λ s refuses p parses later. rw same (refuses_said says number p later
    c.cell_of.result _ (said_parsed says p.0 c.args.index c.cell_of.result parses c.cell_of.ensures)
    (refuses number))) c.push_parsed.ensures.err

pub returns-clause-ok : goal.returns-clause-ok
returns-clause-ok g c =
    let says = g.F.CellOf.says c.args.self.now.function in
    ok_both c.push_parsed.result (λ said takes p parses. line_taken g.V.CellJob.taken says c.args.self.now.number p
    c.cell_of.result (said_parsed says p.0 c.args.index c.cell_of.result parses c.cell_of.ensures)
    said takes) c.push_parsed.ensures.said c.push_parsed.ensures.ok
