use Rattle.std.proofs.Common.{◌≡◌, ◌≤◌, ◌+◌, ◌++◌, ℕ, List, length}
use Rattle.std.specs.List.{flat_map}
use Rattle.h3_index.specs.Cell.{Address}
use Rattle.h3_index.specs.Descendants.{descendants}
use Rattle.h3_c.specs.Lists.{laid_over, indexes}
use Rattle.h3_c.proofs.descendants.put_descendants.Given as goal

abbrev pub invariant-loop-above : goal.invariant-loop-above
invariant-loop-above l = record {
  count : l.end ≡ l.fn.place + length (flat_map (λ c. descendants c l.fn.r) l.yielded);
  within : l.end ≤ length l.initial.out;
  put : (before : List Address) → (first : List ℕ) → length before ≡ l.fn.place
      → l.initial.out ≡ laid_over (indexes before) first
      → l.out ≡ laid_over (indexes (before ++ flat_map (λ c. descendants c l.fn.r) l.yielded)) first;
}
