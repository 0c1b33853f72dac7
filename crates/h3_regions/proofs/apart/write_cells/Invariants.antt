use Rattle.std.proofs.Common.{ℕ, ◌≡◌, ◌<◌, length, get_or}
use Rattle.h3_index.specs.Cell.{Address}
use Rattle.h3_regions.proofs.apart.write_cells.Given as goal

abbrev pub invariant-loop-i : goal.invariant-loop-i
invariant-loop-i l =
    (length l.cells ≡ length l.pairs)
    × ((k : ℕ) (d : Address) (e : Address × ℕ) → k < l.i → get_or l.cells k d ≡ (get_or l.pairs k e).0)
