use Rattle.std.proofs.Common.{◌≡◌, map, take}
use Rattle.h3_c.specs.Column.{first_code}
use Rattle.h3_c.proofs.column.first_error.Given as goal

abbrev pub invariant-loop-place : goal.invariant-loop-place
invariant-loop-place g l = first_code (map (λ h. g.Q.ColumnFunction.outcome l.question h) (take l.place l.indexes)) ≡ 0
