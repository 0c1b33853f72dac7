use Rattle.std.proofs.Common.{◌≤◌, take}
use Rattle.std.specs.List.{flat_map}
use Rattle.h3_lines.specs.Answering.{Moves}
use Rattle.h3_lines.proofs.write.write_cells_lines.Given as goal

abbrev pub invariant-loop-cell : goal.invariant-loop-cell
invariant-loop-cell g l = record {
  moves : Moves g.W.Sink.taken g.W.Sink.has_failed
      (flat_map (g.F.CellLines.text_of l.function) (take l.cell-index l.cells))
      (take l.end l.block) l.initial.out l.out;
  within : l.end ≤ 32768;
}
