use Rattle.std.proofs.Common.{◌≡◌, ◌≤◌, ◌==◌, map, take}
use Rattle.std.specs.Result.{result_unwrap_or}
use Rattle.h3_c.specs.Column.{first_code}
use Rattle.h3_c.specs.Lists.{laid_over}
use Rattle.h3_c.proofs.column.fill_values.Given as goal

abbrev pub invariant-loop-i : goal.invariant-loop-i
invariant-loop-i g l = record {
  few : l.missed ≤ l.i;
  whole : (l.missed == 0) ≡ (first_code (map (λ h. g.Q.ColumnFunction.outcome l.question h) (take l.i l.indexes)) == 0);
  values : l.out
      ≡ laid_over (map (λ r. result_unwrap_or r l.missing)
      (map (λ h. g.Q.ColumnFunction.outcome l.question h) (take l.i l.indexes))) l.initial.out;
}
