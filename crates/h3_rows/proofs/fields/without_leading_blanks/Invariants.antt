use Rattle.std.proofs.Common.{◌≡◌, length}
use Rattle.h3_index.specs.Text.{without_leading_blanks}
use Rattle.h3_rows.proofs.fields.without_leading_blanks.Given as goal

abbrev pub invariant-loop-rest : goal.invariant-loop-rest
invariant-loop-rest l = without_leading_blanks l.rest ≡ without_leading_blanks l.bytes

abbrev pub decreases-loop-rest : goal.decreases-loop-rest
decreases-loop-rest l = length l.rest
