use Rattle.std.specs.List.{AllWithin}
use Rattle.std.proofs.Common.{◌+◌, ◌-◌, ◌/◌, ◌≤◌, length}
use Rattle.h3_regions.proofs.ahead.step_each.Given as goal

abbrev pub invariant-loop-i : goal.invariant-loop-i
invariant-loop-i l =
    AllWithin (λ p. p + (l.size - l.size / 2) ≤ length l.cells) l.places 0 l.i
    × AllWithin (λ p. p + l.size ≤ length l.cells) l.places l.i (length l.places)
