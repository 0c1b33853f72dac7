use Rattle.std.proofs.Common.{◌≤◌, ◌++◌, take}
use Rattle.std.specs.List.{flat_map}
use Rattle.h3_lines.specs.Answering.{Moves}
use Rattle.h3_rows.specs.Areas.{names_in}
use Rattle.h3_command.specs.AreaCounts.{count_row}
use Rattle.h3_command.specs.AreaTally.{named_counts}
use Rattle.h3_command.proofs.area_counts.put_rows.Given as goal

abbrev pub invariant-loop-number : goal.invariant-loop-number
invariant-loop-number g l = record {
  within : l.last ≤ 32768;
  moves : Moves g.W.Sink.taken g.W.Sink.has_failed (take l.fn.end l.fn.block ++ flat_map (count_row l.fn.separator)
      (named_counts (names_in l.fn.names.bytes.items l.fn.names.spans.items) l.fn.counts l.number)) (take
      l.last l.block) l.fn.out l.out;
}
