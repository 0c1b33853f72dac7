use Rattle.std.proofs.Common.{◌≡◌, ◌-◌, length}
use Rattle.h3_directions.specs.declared.direction.Direction.{Direction}
use Rattle.h3_index.specs.Cell.{IsCell}
use Rattle.h3_lattice.specs.Class.{class_at, row_of}
use Rattle.h3_lattice.proofs.SumLaws.{IsUnderway}
use Rattle.h3_lattice.proofs.moved.add_at.Given as goal

abbrev pub invariant-loop-done : goal.invariant-loop-done
invariant-loop-done l =
    (l.moved.base ≡ l.fn.cell.base) × (length l.moved.digits ≡ l.res) × IsCell l.moved ×
    ((d : Direction) × (l.row ≡ row_of (class_at (l.res - l.done)) d)
    × IsUnderway l.fn.cell.digits l.fn.direction (l.res - l.done) d l.moved.digits)
