use Rattle.h3_lines.proofs.Listed.{refused_unnumbered}
use Rattle.h3_lines.proofs.list.read_cells.Goals as goal

pub returns-in-Err-clause-refused : goal.returns-in-Err-clause-refused
returns-in-Err-clause-refused g c =
    rw c.without_line.ensures (refused_unnumbered _ _ _ _ c.in-Err.refusal c.in-Err.ensures.refused)
