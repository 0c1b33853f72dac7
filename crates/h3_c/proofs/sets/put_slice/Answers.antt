use Rattle.std.proofs.Common.{rules, ap, if◌then◌else◌}
use Rattle.std.proofs.lemmas.Iterator.Consumers.{YieldsList-from_copied}
use Rattle.std.proofs.lemmas.Iterator.{YieldsList-from_slice}
use Rattle.h3_c.proofs.sets.put_slice.Goals as goal

pub returns-then-put_cells-clause-code : goal.returns-then-put_cells-clause-code
returns-then-put_cells-clause-code c =
    ap (λ b. if b then 0 else 14) (c.if-put_cells.ensures.fits _
    (YieldsList-from_copied (YieldsList-from_slice c.args.cells.now (search rules))).runs)

pub returns-then-put_cells-clause-list : goal.returns-then-put_cells-clause-list
returns-then-put_cells-clause-list c =
    c.put_cells.ensures.put _ (YieldsList-from_copied (YieldsList-from_slice c.args.cells.now (search rules))).runs

pub returns-else-put_cells-clause-code : goal.returns-else-put_cells-clause-code
returns-else-put_cells-clause-code c =
    ap (λ b. if b then 0 else 14) (c.if-put_cells.ensures.fits _
    (YieldsList-from_copied (YieldsList-from_slice c.args.cells.now (search rules))).runs)

pub returns-else-put_cells-clause-list : goal.returns-else-put_cells-clause-list
returns-else-put_cells-clause-list c =
    c.put_cells.ensures.put _ (YieldsList-from_copied (YieldsList-from_slice c.args.cells.now (search rules))).runs
