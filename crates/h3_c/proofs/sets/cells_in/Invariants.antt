use Rattle.std.proofs.Common.{◌≡◌, take, Some}
use Rattle.h3_c.specs.Sets.{cells_in}
use Rattle.h3_c.proofs.sets.cells_in.Given as goal

abbrev pub invariant-loop-index : goal.invariant-loop-index
invariant-loop-index l = cells_in (take l.index-index l.indexes) ≡ Some l.cells.items
