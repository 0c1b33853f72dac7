use Rattle.std.proofs.Common.{length}
use Rattle.h3_rows.specs.Plain.{BeginsWhole}
use Rattle.h3_rows.proofs.plain.pass_row.Given as goal

abbrev pub invariant-loop-end : goal.invariant-loop-end
invariant-loop-end l = BeginsWhole l.separator l.quotes l.bytes l.rest

abbrev pub decreases-loop-end : goal.decreases-loop-end
decreases-loop-end l = length l.rest
