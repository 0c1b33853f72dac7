use Rattle.std.proofs.Common.{◌≡◌, ◌≤◌, ◌+◌, ◌++◌, false, length, option_map}
use Rattle.h3_rows.specs.Answering.{bytes_left, fields_left, listed}
use Rattle.h3_lines.specs.Pieces.{cut}
use Rattle.h3_rows.specs.RowsAnswer.{places_of}
use Rattle.h3_rows.proofs.header.find_column.Given as goal

abbrev pub invariant-loop-rest : goal.invariant-loop-rest
invariant-loop-rest l = record {
  places : places_of l.quotes (l.name.0.now ++ l.name.1.now) 0 (cut l.separator l.quotes false l.row)
      ≡ listed l.found
      ++ places_of l.quotes (l.name.0.now ++ l.name.1.now) l.place
      (fields_left l.separator l.quotes (option_map (λ x. x.now) l.rest));
  short : l.place + bytes_left (option_map (λ x. x.now) l.rest) ≤ length l.row + 1;
}

abbrev pub decreases-loop-rest : goal.decreases-loop-rest
decreases-loop-rest l = bytes_left (option_map (λ x. x.now) l.rest)
