use Rattle.std.proofs.Common.{false, ◌≤◌, ◌++◌, take}
use Rattle.std.specs.List.{flat_map}
use Rattle.h3_lines.specs.Answering.{Moves}
use Rattle.h3_rows.specs.Line.{line_of}
use Rattle.h3_rows.specs.RowsAnswer.{rows_with}
use Rattle.h3_rows.proofs.each_lines.put_lines_beside.Given as goal

abbrev pub invariant-loop-item : goal.invariant-loop-item
invariant-loop-item g l = record {
  within : l.last ≤ 32768;
  moves : Moves g.W.Sink.taken g.W.Sink.has_failed (take l.fn.end l.fn.block ++ rows_with l.fn.separator false
      l.fn.after (line_of l.fn.row) (flat_map g.L.Line.line_of l.yielded)) (take l.last l.block) l.fn.out l.out;
}
