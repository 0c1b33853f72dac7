use Rattle.h3_index.proofs.AncestorLaws.{cut_cell}
use Rattle.h3_index.proofs.laws.cuts_are_cells.Goals as goal

pub returns : goal.returns
returns _ = cut_cell
