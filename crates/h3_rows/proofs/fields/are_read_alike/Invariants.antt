use Rattle.std.proofs.Common.{◌≡◌, true, false, length}
use Rattle.std.specs.List.{list_all}
use Rattle.h3_lines.specs.Pieces.{cut}
use Rattle.h3_rows.specs.Row.{is_read_alike}
use Rattle.h3_rows.proofs.fields.are_read_alike.Given as goal

abbrev pub invariant-loop-field : goal.invariant-loop-field
invariant-loop-field l =
    list_all (λ p. is_read_alike l.separator p.0) (cut l.separator true false l.row)
    ≡ list_all (λ p. is_read_alike l.separator p.0) (cut l.separator true false l.rest)

abbrev pub decreases-loop-field : goal.decreases-loop-field
decreases-loop-field l = length l.rest
