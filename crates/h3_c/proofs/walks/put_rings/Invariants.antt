use Rattle.std.proofs.Common.{◌≡◌, ◌≤◌, ℕ, List, length, map, min}
use Rattle.h3_index.specs.Cell.{Address, number_of}
use Rattle.h3_c.specs.Lists.{laid_over}
use Rattle.h3_c.proofs.WalkLaws.{written}
use Rattle.h3_c.proofs.walks.put_rings.Given as goal

-- the cells that are written so far
abbrev pub invariant-loop-item : goal.invariant-loop-item
invariant-loop-item g l =
    (cells : List (Address × ℕ)) × (l.yielded ≡ written cells) × (l.i ≡ length cells)
    × (length cells ≤ min (length l.initial.out) (length l.initial.rings))
    × (l.out ≡ laid_over (map (λ x. number_of x.0) cells) l.initial.out)
    × (l.rings ≡ laid_over (map (λ x. x.1) cells) l.initial.rings)
