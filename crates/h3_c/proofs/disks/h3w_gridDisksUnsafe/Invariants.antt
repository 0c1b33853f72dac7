use Rattle.std.proofs.Common.{◌≡◌, ◌≤◌, ◌+◌, ◌-◌, ◌++◌, List, Result, length, take}
use Rattle.h3_index.specs.Cell.{Address}
use Rattle.h3_index.specs.declared.error.H3Error.{H3Error}
use Rattle.h3_c.specs.Disks.{all_disks, disks, whole_walks}
use Rattle.h3_c.specs.Lists.{indexes, laid_over}
use Rattle.h3_c.specs.Walks.{given, items_code}
use Rattle.h3_c.proofs.disks.h3w_gridDisksUnsafe.Given as goal

-- all walks so far are whole
abbrev pub invariant-loop-i : goal.invariant-loop-i
invariant-loop-i l = record {
  code : (more : List (Result Address H3Error))
      → items_code (all_disks l.table (take l.i l.cells) l.fn.k ++ more) (length l.initial.out)
      ≡ items_code more (length l.initial.out - l.place);
  cells : (more : List (Result Address H3Error))
      → given (all_disks l.table (take l.i l.cells) l.fn.k ++ more)
      ≡ given (all_disks l.table (take l.i l.cells) l.fn.k) ++ given more;
  place : l.place ≡ length (given (all_disks l.table (take l.i l.cells) l.fn.k));
  within : l.place ≤ length l.initial.out;
  put : l.out ≡ laid_over (indexes (given (all_disks l.table (take l.i l.cells) l.fn.k))) l.initial.out;
  walks : (more : List (List (Result Address H3Error)))
      → whole_walks (length l.initial.out) (disks l.table (take l.i l.cells) l.fn.k ++ more)
      ≡ l.i + whole_walks (length l.initial.out - l.place) more;
}
