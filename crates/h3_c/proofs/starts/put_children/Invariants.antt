use Rattle.std.proofs.Common.{◌≡◌, ◌≤◌, ◌==◌, length, take}
use Rattle.h3_c.specs.Column.{first_code}
use Rattle.h3_c.specs.Lists.{laid_over, indexes}
use Rattle.h3_c.specs.Starts.{all_children, child_sizes}
use Rattle.h3_c.proofs.starts.put_children.Given as goal

abbrev pub invariant-loop-i : goal.invariant-loop-i
invariant-loop-i l = record {
  few : l.missed ≤ l.i;
  whole : (l.missed == 0) ≡ (first_code (child_sizes l.fn.res (take l.i l.cells)) == 0);
  place : l.place ≡ length (all_children l.fn.res (take l.i l.cells));
  within : l.place ≤ length l.initial.out;
  put : l.out ≡ laid_over (indexes (all_children l.fn.res (take l.i l.cells))) l.initial.out;
}
