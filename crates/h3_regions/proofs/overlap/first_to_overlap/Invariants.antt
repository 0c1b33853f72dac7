use Rattle.std.proofs.Common.{ℕ, ◌<◌, get_or}
use Rattle.h3_index.specs.Cell.{Address}
use Rattle.h3_set.specs.Coverage.{Overlap}
use Rattle.h3_regions.proofs.overlap.first_to_overlap.Given as goal

abbrev pub invariant-loop-i : goal.invariant-loop-i
invariant-loop-i l = (k : ℕ) (d : Address) → k < l.i → ¬ Overlap (get_or l.cells k d) l.cell
