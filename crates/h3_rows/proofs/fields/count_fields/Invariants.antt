use Rattle.std.proofs.Common.{◌≡◌, ◌+◌, ◌≤◌, false, length}
use Rattle.h3_lines.specs.Pieces.{cut}
use Rattle.h3_rows.proofs.fields.count_fields.Given as goal

abbrev pub invariant-loop-after : goal.invariant-loop-after
invariant-loop-after l = record {
  counted : length (cut l.separator l.quotes false l.row) + 1
      ≡ l.count + length (cut l.separator l.quotes false l.rest);
  short : l.count + length l.rest ≤ length l.row + 1;
}

abbrev pub decreases-loop-after : goal.decreases-loop-after
decreases-loop-after l = length l.rest
