use Rattle.std.proofs.Common.{false, ◌≡◌, ◌≤◌, List, ℕ, ◌++◌, length, take}
use Rattle.h3_lines.specs.Answering.{Moves}
use Rattle.h3_rows.specs.Line.{line_of}
use Rattle.h3_rows.specs.RowsAnswer.{rows_with}
use Rattle.h3_rows.proofs.write.put_rows.Given as goal

abbrev pub invariant-loop-answer : goal.invariant-loop-answer
invariant-loop-answer g l = record {
  within : l.last ≤ 32768;
  puts : (done : List ℕ)
      × (rows_with l.separator false l.after (line_of l.row) l.text
      ≡ done ++ rows_with l.separator false l.after (line_of l.row) l.rest)
      × Moves g.W.Sink.taken g.W.Sink.has_failed (take l.fn.end l.fn.block ++ done)
      (take l.last l.block) l.fn.out l.out;
}

abbrev pub decreases-loop-answer : goal.decreases-loop-answer
decreases-loop-answer g l = length l.rest
