use Rattle.std.proofs.Common.{◌≤◌, ◌++◌, take}
use Rattle.h3_lines.specs.Answering.{Moves}
use Rattle.h3_command.specs.By.{value_lines}
use Rattle.h3_command.proofs.by_lists.put_rows.Given as goal

abbrev pub invariant-loop-cell : goal.invariant-loop-cell
invariant-loop-cell g l = record {
  within : l.last ≤ 32768;
  moves : Moves g.W.Sink.taken g.W.Sink.has_failed
      (take l.fn.end l.fn.block ++ value_lines l.fn.separator l.fn.value l.yielded)
      (take l.last l.block) l.fn.out l.out;
}
