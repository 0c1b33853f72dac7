use Rattle.std.specs.List.{AllWithin}
use Rattle.std.proofs.Common.{◌-◌, ◌<◌, ◌≤◌, length}
use Rattle.h3_index.specs.Cell.{resolution}
use Rattle.h3_regions.proofs.areas.start_of.Given as goal

abbrev pub invariant-loop-place : goal.invariant-loop-place
invariant-loop-place l = (l.place ≤ length l.pairs) × AllWithin (λ p. resolution p.0 < l.r) l.pairs 0 l.place

abbrev pub decreases-loop-place : goal.decreases-loop-place
decreases-loop-place l = length l.pairs - l.place
