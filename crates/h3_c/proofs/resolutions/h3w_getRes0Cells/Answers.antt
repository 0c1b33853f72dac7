use Rattle.std.specs.Prelude.{Ok}
use Rattle.std.proofs.lemmas.Iterator.Consumers.{YieldsList-from_first}
use Rattle.h3_functions.specs.Bases.{base_cells_left}
use Rattle.h3_functions.specs.Resolutions.{get_res0_cells}
use Rattle.h3_c.proofs.resolutions.h3w_getRes0Cells.Goals as goal

pub returns-clause-code : goal.returns-clause-code
returns-clause-code c =
    c.put_list.ensures.code (Ok get_res0_cells)
    (YieldsList-from_first (λ x. x) base_cells_left _ c.get_res0_cells.ensures).runs

pub returns-clause-list : goal.returns-clause-list
returns-clause-list c =
    c.put_list.ensures.list (Ok get_res0_cells)
    (YieldsList-from_first (λ x. x) base_cells_left _ c.get_res0_cells.ensures).runs
