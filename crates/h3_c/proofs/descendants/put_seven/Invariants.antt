use Rattle.std.proofs.Common.{◌≡◌, ◌+◌, ◌*◌, ◌++◌, ℕ, List, length}
use Rattle.h3_index.specs.Cell.{Address, number_of}
use Rattle.h3_index.specs.Descendants.{child}
use Rattle.h3_c.specs.Lists.{laid_over, indexes}
use Rattle.h3_c.proofs.DescendantLaws.{children_below}
use Rattle.h3_c.proofs.descendants.put_seven.Given as goal

abbrev pub invariant-loop-d : goal.invariant-loop-d
invariant-loop-d l = record {
  number : l.number ≡ number_of (child l.fn.parent 0) + l.d * l.unit;
  put : (before : List Address) → (first : List ℕ) → length before ≡ l.fn.place
      → l.initial.out ≡ laid_over (indexes before) first
      → l.out ≡ laid_over (indexes (before ++ children_below l.fn.parent l.d)) first;
}
