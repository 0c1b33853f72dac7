use Rattle.std.proofs.Common.{◌≡◌, ◌≤◌, length}
use Rattle.h3_c.specs.Lists.{laid_over, indexes}
use Rattle.h3_c.proofs.lists.put_cells.Given as goal

abbrev pub invariant-loop-cell : goal.invariant-loop-cell
invariant-loop-cell g l = record {
  count : l.i ≡ length l.yielded;
  within : length l.yielded ≤ length l.initial.out;
  put : l.out ≡ laid_over (indexes l.yielded) l.initial.out;
}
