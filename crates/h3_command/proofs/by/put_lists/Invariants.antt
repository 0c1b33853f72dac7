use Rattle.std.proofs.Common.{◌≤◌, ◌++◌, [], get_or, take}
use Rattle.std.specs.List.{flat_map, range_with_len}
use Rattle.h3_lines.specs.Answering.{Moves}
use Rattle.h3_command.specs.By.{value_lines}
use Rattle.h3_command.specs.ByValue.{part_of}
use Rattle.h3_rows.specs.Areas.{names_in}
use Rattle.h3_command.proofs.by.put_lists.Given as goal

abbrev pub invariant-loop-number : goal.invariant-loop-number
invariant-loop-number g l = record {
  within : l.last ≤ 32768;
  moves : Moves g.W.Sink.taken g.W.Sink.has_failed
      (take l.fn.end l.fn.block ++ flat_map (λ n. value_lines l.fn.separator (get_or
      (names_in l.fn.names.bytes.items l.fn.names.spans.items) n []) (g.F.ListOfValue.listed l.fn.function
      (part_of l.fn.cells (get_or l.fn.parts n (0, 0))))) (range_with_len 0 l.number))
      (take l.last l.block) l.fn.out l.out;
}
