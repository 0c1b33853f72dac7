use Rattle.std.proofs.Common.{◌≡◌, false}
use Rattle.h3_lines.specs.Pieces.{cut}
use Rattle.h3_rows.specs.Row.{piece_at}
use Rattle.h3_rows.proofs.fields.find_field.Given as goal

abbrev pub invariant-loop-left : goal.invariant-loop-left
invariant-loop-left l =
    piece_at l.before (cut l.separator l.quotes false l.row) ≡ piece_at l.left (cut l.separator l.quotes false l.rest)

abbrev pub decreases-loop-left : goal.decreases-loop-left
decreases-loop-left l = l.left
