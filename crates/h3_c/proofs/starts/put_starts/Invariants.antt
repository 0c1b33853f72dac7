use Rattle.std.proofs.Common.{◌≡◌, ◌≤◌, ◌==◌, map, take}
use Rattle.h3_c.specs.Column.{first_code}
use Rattle.h3_c.specs.Lists.{laid_over}
use Rattle.h3_c.specs.Starts.{greatest_place, sizes_of, starts_from}
use Rattle.h3_c.proofs.StartLaws.{total}
use Rattle.h3_c.proofs.starts.put_starts.Given as goal

abbrev pub invariant-loop-i : goal.invariant-loop-i
invariant-loop-i g l = record {
  few : l.missed ≤ l.i;
  whole : (l.missed == 0) ≡ (first_code (map (λ h. g.Q.ColumnFunction.outcome l.question h) (take l.i l.indexes)) == 0);
  end : l.end ≡ total (sizes_of (map (λ h. g.Q.ColumnFunction.outcome l.question h) (take l.i l.indexes)));
  within : l.end ≤ greatest_place;
  put : l.starts
      ≡ laid_over (starts_from 0
      (sizes_of (map (λ h. g.Q.ColumnFunction.outcome l.question h) (take l.i l.indexes)))) l.fn.starts;
}
