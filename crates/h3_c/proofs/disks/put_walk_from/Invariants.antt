use Rattle.std.proofs.Common.{◌≡◌, ◌≤◌, ◌+◌, ◌++◌, ℕ, List, length}
use Rattle.h3_index.specs.Cell.{Address}
use Rattle.h3_c.specs.Lists.{indexes, laid_over}
use Rattle.h3_c.proofs.WalkLaws.{written}
use Rattle.h3_c.proofs.disks.put_walk_from.Given as goal

-- the cells that are written so far
abbrev pub invariant-loop-item : goal.invariant-loop-item
invariant-loop-item g l =
    (cells : List Address) × (l.yielded ≡ written cells) × (l.i ≡ l.fn.place + length cells)
    × (l.i ≤ length l.initial.out)
    × ((before : List Address) → (first : List ℕ) → length before ≡ l.fn.place
    → l.initial.out ≡ laid_over (indexes before) first → l.out ≡ laid_over (indexes (before ++ cells)) first)
