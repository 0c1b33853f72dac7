use Rattle.std.proofs.Common.{◌≤◌, ◌++◌, map, take}
use Rattle.std.specs.List.{flat_map, range_with_len}
use Rattle.h3_lines.specs.Answering.{Moves}
use Rattle.h3_command.specs.SumRows.{named_row, values_of}
use Rattle.h3_command.specs.SumTables.{sum_row}
use Rattle.h3_command.proofs.sum_rows.put_rows.Given as goal

abbrev pub invariant-loop-number : goal.invariant-loop-number
invariant-loop-number g l = record {
  within : l.last ≤ 32768;
  moves : Moves g.W.Sink.taken g.W.Sink.has_failed (take l.fn.end l.fn.block ++ flat_map (sum_row l.fn.separator) (map
      (named_row (g.N.RowNames.names l.fn.names) (values_of l.fn.sums))
      (range_with_len 0 l.number))) (take l.last l.block) l.fn.out l.out;
}
