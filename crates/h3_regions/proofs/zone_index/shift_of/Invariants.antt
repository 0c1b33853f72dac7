use Rattle.std.proofs.Common.{ℕ, ◌<◌, ◌/◌, ◌^◌}
use Rattle.h3_regions.proofs.zone_index.shift_of.Given as goal

abbrev pub invariant-loop-shift : goal.invariant-loop-shift
invariant-loop-shift l = (t : ℕ) → t < l.shift → l.most < l.span / 2 ^ t
