use Rattle.std.proofs.Common.{◌-◌, take}
use Rattle.h3_index.specs.Cell.{resolution}
use Rattle.h3_regions.specs.Difference.{left_of}
use Rattle.h3_regions.proofs.LeavingLaws.{IsLeaving}
use Rattle.h3_regions.proofs.difference.leave_all.Given as goal

abbrev pub invariant-loop-cell : goal.invariant-loop-cell
invariant-loop-cell l =
    IsLeaving (λ c. left_of l.others (15 - resolution c) c) l.initial.slots 0 (take l.cell-index l.cells) l.slots
    l.count
