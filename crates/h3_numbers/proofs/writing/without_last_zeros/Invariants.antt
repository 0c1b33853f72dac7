use Rattle.std.proofs.Common.{◌≡◌, length}
use Rattle.h3_numbers.specs.Writing.{without_last_zeros}
use Rattle.h3_numbers.proofs.writing.without_last_zeros.Given as goal

abbrev pub invariant-loop-rest : goal.invariant-loop-rest
invariant-loop-rest l = without_last_zeros l.rest ≡ without_last_zeros l.bytes

abbrev pub decreases-loop-rest : goal.decreases-loop-rest
decreases-loop-rest l = length l.rest
