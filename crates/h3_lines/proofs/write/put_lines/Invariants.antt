use Rattle.std.proofs.Common.{◌≤◌, ◌++◌, take}
use Rattle.std.specs.List.{flat_map}
use Rattle.h3_lines.specs.Answering.{Moves}
use Rattle.h3_lines.proofs.write.put_lines.Given as goal

abbrev pub invariant-loop-item : goal.invariant-loop-item
invariant-loop-item g l = record {
  within : l.last ≤ 32768;
  moves : Moves g.W.Sink.taken g.W.Sink.has_failed (take l.fn.end l.fn.block ++ flat_map g.L.Line.line_of l.yielded)
      (take l.last l.block) l.fn.out l.out;
}
