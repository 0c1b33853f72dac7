use Rattle.std.proofs.Common.{◌≡◌, ◌++◌, ◌≤◌, drop, length}
use Rattle.h3_numbers.specs.Writing.{last_digits}
use Rattle.h3_numbers.proofs.writing.last_digits.Given as goal

abbrev pub invariant-loop-place : goal.invariant-loop-place
invariant-loop-place l =
    (last_digits l.place l.left ++ drop l.place l.digits ≡ last_digits 18 l.number) × (length l.digits ≡ 18)
    × (l.place ≤ 18)

abbrev pub decreases-loop-place : goal.decreases-loop-place
decreases-loop-place l = l.place
