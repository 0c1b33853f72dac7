use Rattle.std.proofs.Common.{◌≡◌, ◌-◌, length, map, take}
use Rattle.h3_directions.specs.Direction.{digit_turned}
use Rattle.h3_lattice.proofs.digits.Digits.turned.Given as goal

abbrev pub invariant-loop-r : goal.invariant-loop-r
invariant-loop-r l =
    (0 ≡ l.turned.base) × (length l.turned.digits ≡ length l.self)
    × (take (l.r - 1) l.turned.digits ≡ map (digit_turned l.n) (take (l.r - 1) l.self))
