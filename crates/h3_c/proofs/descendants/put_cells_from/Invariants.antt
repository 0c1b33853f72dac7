use Rattle.std.proofs.Common.{◌≡◌, ◌≤◌, ◌+◌, ◌++◌, ℕ, List, length}
use Rattle.h3_index.specs.Cell.{Address}
use Rattle.h3_c.specs.Lists.{laid_over, indexes}
use Rattle.h3_c.proofs.descendants.put_cells_from.Given as goal

abbrev pub invariant-loop-cell : goal.invariant-loop-cell
invariant-loop-cell g l = record {
  count : l.i ≡ l.fn.place + length l.yielded;
  within : l.i ≤ length l.initial.out;
  put : (before : List Address) → (first : List ℕ) → length before ≡ l.fn.place
      → l.initial.out ≡ laid_over (indexes before) first → l.out ≡ laid_over (indexes (before ++ l.yielded)) first;
}
