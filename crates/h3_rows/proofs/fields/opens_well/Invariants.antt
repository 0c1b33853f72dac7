use Rattle.std.proofs.Common.{◌≡◌, true, false, length}
use Rattle.h3_rows.specs.Row.{opens_well}
use Rattle.h3_rows.proofs.fields.opens_well.Given as goal

abbrev pub invariant-loop-rest : goal.invariant-loop-rest
invariant-loop-rest l =
    opens_well l.separator true false false l.row ≡ opens_well l.separator l.start l.after l.inside l.rest

abbrev pub decreases-loop-rest : goal.decreases-loop-rest
decreases-loop-rest l = length l.rest
