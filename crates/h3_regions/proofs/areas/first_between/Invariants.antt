use Rattle.std.specs.List.{AllWithin}
use Rattle.std.proofs.Common.{◌+◌, ◌<◌, ◌≤◌, length}
use Rattle.h3_index.specs.Cell.{number_of}
use Rattle.h3_regions.proofs.areas.first_between.Given as goal

abbrev pub invariant-loop-size : goal.invariant-loop-size
invariant-loop-size l =
    (l.from ≤ l.first) × (l.first + l.size ≤ l.to) × AllWithin (λ p. number_of p.0 < l.number) l.pairs 0 l.first
    × AllWithin (λ p. l.number ≤ number_of p.0) l.pairs (l.first + l.size) (length l.pairs)

abbrev pub decreases-loop-size : goal.decreases-loop-size
decreases-loop-size l = l.size
