use Rattle.h3_rows.specs.Plain.{PassesFields}
use Rattle.h3_rows.proofs.plain.pass_fields.Given as goal

abbrev pub invariant-loop-end : goal.invariant-loop-end
invariant-loop-end l = PassesFields l.separator l.quotes l.before l.left l.bytes l.rest

abbrev pub decreases-loop-end : goal.decreases-loop-end
decreases-loop-end l = l.left
