use Rattle.std.proofs.Common.{◌≤◌, ◌-◌, ◌++◌, List, length, take}
use Rattle.std.specs.List.{flat_map}
use Rattle.h3_lines.specs.Answering.{Moves}
use Rattle.h3_command.specs.AreaSums.{cells_in}
use Rattle.h3_command.specs.ParentEntries.{amounts_of}
use Rattle.h3_command.specs.ParentRuns.{ArePut}
use Rattle.h3_command.specs.ParentSums.{parent_sum}
use Rattle.h3_command.specs.SumTables.{SumRow, sum_row}
use Rattle.h3_command.proofs.parent_sums.put_sums.Given as goal

abbrev pub invariant-loop-place : goal.invariant-loop-place
invariant-loop-place g l = record {
  within : l.last ≤ 32768;
  rows : List SumRow;
  put : ArePut (parent_sum (amounts_of l.fn.pairs)) (cells_in (amounts_of l.fn.pairs)) l.place rows;
  moves : Moves g.W.Sink.taken g.W.Sink.has_failed (take l.fn.end l.fn.block ++ flat_map (sum_row l.fn.separator)
      rows) (take l.last l.block) l.fn.out l.out;
}

abbrev pub decreases-loop-place : goal.decreases-loop-place
decreases-loop-place g l = length l.pairs - l.place
