use Rattle.std.proofs.Common.{◌≡◌, ◌≤◌, length, take}
use Rattle.h3_set.specs.Uncompaction.{uncompacted}
use Rattle.h3_c.specs.Lists.{laid_over, indexes}
use Rattle.h3_c.proofs.sets.put_below_each.Given as goal

abbrev pub invariant-loop-i : goal.invariant-loop-i
invariant-loop-i l = record {
  place : l.place ≡ length (uncompacted (take l.i l.cells) l.fn.r);
  within : l.place ≤ length l.initial.out;
  put : l.out ≡ laid_over (indexes (uncompacted (take l.i l.cells) l.fn.r)) l.initial.out;
}
