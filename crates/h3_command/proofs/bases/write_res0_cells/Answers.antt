use Rattle.std.proofs.lemmas.Iterator.Consumers.{YieldsList-from_first}
use Rattle.h3_functions.specs.Bases.{base_cells_left}
use Rattle.h3_command.proofs.bases.write_res0_cells.Goals as goal

pub returns : goal.returns
returns g c = (c.write_lines.ensures _ (YieldsList-from_first (λ x. x) base_cells_left _ c.get_res0_cells.ensures).runs)
