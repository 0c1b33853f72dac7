use Rattle.std.proofs.Common.{◌≡◌, ◌≤◌, ◌+◌, ◌*◌, ◌++◌, length, take}
use Rattle.std.specs.List.{flat_map}
use Rattle.h3_lines.specs.Answer.{edge_line}
use Rattle.h3_command.proofs.per_index.put_edges.Given as goal

abbrev pub invariant-loop-edge : goal.invariant-loop-edge
invariant-loop-edge l = record {
  put : take l.end l.block ≡ take l.fn.at l.fn.block ++ flat_map edge_line l.yielded;
  room : l.end ≤ l.fn.at + 112 * length l.yielded;
}
