use Rattle.std.proofs.Common.{◌+◌, ◌≤◌, All, length}
use Rattle.h3_regions.proofs.ahead.search_each.Given as goal

abbrev pub invariant-loop-size : goal.invariant-loop-size
invariant-loop-size l = All (λ p. p + l.size ≤ length l.cells) l.places

abbrev pub decreases-loop-size : goal.decreases-loop-size
decreases-loop-size l = l.size
