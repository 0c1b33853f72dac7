use Rattle.std.proofs.Common.{◌≡◌, ◌-◌, ◌≤◌, drop, map, take}
use Rattle.h3_numbers.specs.Sum.{sum_count, sum_units, total}
use Rattle.h3_command.specs.ParentEntries.{amounts_of}
use Rattle.h3_command.proofs.parent_sums.run_sum.Given as goal

abbrev pub invariant-loop-place : goal.invariant-loop-place
invariant-loop-place l = record {
  from : l.fn.from ≤ l.place;
  count : sum_count l.sum ≡ l.place - l.fn.from;
  units : sum_units l.sum
      ≡ total (map (λ a. a.1) (take (l.place - l.fn.from) (drop l.fn.from (amounts_of l.fn.pairs))));
}
