use Rattle.std.proofs.Common.{refl}
use Rattle.h3_index.specs.Count.{cells_of}
use Rattle.h3_index.specs.Descendants.{descendants}
use Rattle.h3_index.specs.Paths.{paths}
use Rattle.h3_functions.specs.Bases.{base_cells_left}
use Rattle.h3_functions.proofs.bases.BaseCells.all.Goals as goal

pub returns : goal.returns
unfolding base_cells_left cells_of descendants paths
returns c = refl
