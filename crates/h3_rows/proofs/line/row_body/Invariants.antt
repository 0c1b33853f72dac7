use Rattle.std.proofs.Common.{◌≡◌, length}
use Rattle.h3_rows.specs.Row.{row_body}
use Rattle.h3_rows.proofs.line.row_body.Given as goal

abbrev pub invariant-loop-rest : goal.invariant-loop-rest
invariant-loop-rest l = row_body l.rest ≡ row_body l.line

abbrev pub decreases-loop-rest : goal.decreases-loop-rest
decreases-loop-rest l = length l.rest
