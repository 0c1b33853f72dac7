use Rattle.std.proofs.Common.{length, get_or, ◌-◌, ◌≡◌, ◌<◌, ◌≤◌, map, ℕ}
use Rattle.h3_index.specs.Cell.{Address, number_of}
use Rattle.h3_command.proofs.parents.run_end.Given as goal

abbrev pub invariant-loop-end : goal.invariant-loop-end
invariant-loop-end g l = record {
  some : l.place < l.end;
  within : l.end ≤ length l.items;
  same : (k : ℕ) (d : Address) → l.place ≤ k → k < l.end
      → number_of (get_or (map g.T.HasCell.cell_of l.items) k d) ≡ l.number;
}

abbrev pub decreases-loop-end : goal.decreases-loop-end
decreases-loop-end g l = length l.items - l.end
