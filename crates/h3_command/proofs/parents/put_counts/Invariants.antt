use Rattle.std.proofs.Common.{◌≤◌, ◌-◌, ◌++◌, List, length, take, ℕ}
use Rattle.std.specs.List.{flat_map}
use Rattle.h3_lines.specs.Answering.{Moves}
use Rattle.h3_command.specs.AreaCounts.{count_row}
use Rattle.h3_command.specs.ParentRuns.{ArePut}
use Rattle.h3_command.specs.Parents.{parent_count}
use Rattle.h3_command.proofs.parents.put_counts.Given as goal

abbrev pub invariant-loop-place : goal.invariant-loop-place
invariant-loop-place g l = record {
  within : l.last ≤ 32768;
  rows : List (List ℕ × ℕ);
  put : ArePut (parent_count l.fn.cells) l.fn.cells l.place rows;
  moves : Moves g.W.Sink.taken g.W.Sink.has_failed (take l.fn.end l.fn.block ++ flat_map (count_row l.fn.separator)
      rows) (take l.last l.block) l.fn.out l.out;
}

abbrev pub decreases-loop-place : goal.decreases-loop-place
decreases-loop-place g l = length l.cells - l.place
