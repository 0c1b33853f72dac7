use Rattle.std.proofs.Common.{◌-◌}
use Rattle.h3_index.specs.Cell.{resolution}
use Rattle.h3_regions.specs.Difference.{left_of}
use Rattle.h3_regions.proofs.LeavingLaws.{IsLeaving}
use Rattle.h3_regions.proofs.difference.+subtract_cell.Given as goal

abbrev pub decreases-subtract_cell : goal.decreases-subtract_cell
decreases-subtract_cell l = 15 - resolution l.cell

abbrev pub invariant-loop-child : goal.invariant-loop-child
invariant-loop-child l =
    IsLeaving (left_of l.others (14 - resolution l.fn.cell)) l.initial.slots l.written l.yielded l.slots l.count
