use Rattle.h3_c.proofs.StartLaws.{stand_at_starts}
use Rattle.h3_c.proofs.hierarchy.h3w_cellsToChildrenStarts.Goals as goal

pub returns-in-Ok-clause-law : goal.returns-in-Ok-clause-law
returns-in-Ok-clause-law c = stand_at_starts c.args.res c.args.cells.now

pub returns-in-Err-clause-law : goal.returns-in-Err-clause-law
returns-in-Err-clause-law c = stand_at_starts c.args.res c.args.cells.now
