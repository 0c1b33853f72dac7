use Rattle.std.proofs.Common.{◌≡◌, ◌≤◌, List, length}
use Rattle.h3_index.specs.Cell.{Address}
use Rattle.h3_c.specs.Lists.{indexes, laid_over}
use Rattle.h3_c.proofs.WalkLaws.{written}
use Rattle.h3_c.proofs.walks.put_walk.Given as goal

-- the cells that are written so far
abbrev pub invariant-loop-item : goal.invariant-loop-item
invariant-loop-item g l =
    (cells : List Address) × (l.yielded ≡ written cells) × (l.i ≡ length cells) × (length cells ≤ length l.initial.out)
    × (l.out ≡ laid_over (indexes cells) l.initial.out)
