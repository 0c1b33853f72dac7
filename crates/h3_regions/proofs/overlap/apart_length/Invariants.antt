use Rattle.std.proofs.Common.{◌≡◌, ◌-◌, ◌<◌, ◌≤◌, length, take, true}
use Rattle.h3_set.specs.Coverage.{IsApart}
use Rattle.h3_set.specs.Refusals.{has_overlap}
use Rattle.h3_regions.proofs.overlap.apart_length.Given as goal

abbrev pub invariant-loop-too_many : goal.invariant-loop-too_many
invariant-loop-too_many l =
    (l.apart < l.too_many) × (l.too_many ≤ length l.cells) × IsApart (take l.apart l.cells)
    × (has_overlap (take l.too_many l.cells) ≡ true)

abbrev pub decreases-loop-too_many : goal.decreases-loop-too_many
decreases-loop-too_many l = l.too_many - l.apart
