use Rattle.h3_lines.proofs.Listed.{refuses_long}
use Rattle.h3_lines.proofs.taking.LineCellsJobContract.refuse_long.Goals as goal

pub returns : goal.returns
returns g c p long later = refuses_long (g.F.CellOf.says c.args.self.now.function) c.args.self.now.number p later long
