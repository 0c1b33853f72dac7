use Rattle.std.proofs.Common.{◌-◌, length}
use Rattle.h3_regions.specs.Algebra.{difference}
use Rattle.h3_command.proofs.files.left_of_region.Given as goal

abbrev pub decreases-loop-left : goal.decreases-loop-left
decreases-loop-left l = length (difference l.cells l.others) - l.room
