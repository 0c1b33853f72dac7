use Rattle.std.proofs.Common.{◌+◌, ◌≤◌, length}
use Rattle.h3_regions.specs.Zones.{AreBelow, AreNotBelow}
use Rattle.h3_regions.proofs.zones.search_between.Given as goal

abbrev pub invariant-loop-size : goal.invariant-loop-size
invariant-loop-size l =
    let Is : Type 0 = AreBelow l.cells l.key l.from × AreNotBelow l.cells l.key l.to in
    (l.first + l.size ≤ length l.cells) × (Is → AreBelow l.cells l.key l.first)
    × (Is → AreNotBelow l.cells l.key (l.first + l.size))

abbrev pub decreases-loop-size : goal.decreases-loop-size
decreases-loop-size l = l.size
