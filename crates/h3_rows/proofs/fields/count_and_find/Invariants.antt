use Rattle.std.proofs.Common.{◌≡◌, ◌+◌, ◌-◌, ◌<◌, ◌≤◌, false, length, Some, MatchOption}
use Rattle.h3_lines.specs.Pieces.{cut}
use Rattle.h3_rows.specs.Row.{piece_at}
use Rattle.h3_rows.proofs.fields.count_and_find.Given as goal

abbrev pub invariant-loop-field : goal.invariant-loop-field
invariant-loop-field l = record {
  counted : length (cut l.separator l.quotes false l.row) ≡ l.passed + length (cut l.separator l.quotes false l.rest);
  short : l.passed + length l.rest ≤ length l.row;
  field : MatchOption l.found
      ((l.passed ≤ l.before) × (piece_at l.before (cut l.separator l.quotes false l.row)
      ≡ piece_at (l.before - l.passed) (cut l.separator l.quotes false l.rest)))
      (λ f. (l.before < l.passed) × (piece_at l.before (cut l.separator l.quotes false l.row) ≡ Some f.now));
}

abbrev pub decreases-loop-field : goal.decreases-loop-field
decreases-loop-field l = length l.rest
