use Rattle.std.proofs.Common.{◌≡◌, ◌++◌, ℕ, List, length}
use Rattle.h3_index.specs.Cell.{Address}
use Rattle.h3_c.specs.Lists.{laid_over, indexes}
use Rattle.h3_c.proofs.DescendantLaws.{grandchildren_below}
use Rattle.h3_c.proofs.descendants.put_forty_nine.Given as goal

abbrev pub invariant-loop-digit : goal.invariant-loop-digit
invariant-loop-digit l =
    (before : List Address) → (first : List ℕ) → length before ≡ l.place
    → l.initial.out ≡ laid_over (indexes before) first
    → l.out ≡ laid_over (indexes (before ++ grandchildren_below l.cell l.digit)) first
