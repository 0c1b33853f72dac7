use Rattle.std.specs.List.{AllWithin}
use Rattle.std.proofs.Common.{◌<◌, ◌^◌}
use Rattle.h3_regions.proofs.areas.are_small.Given as goal

abbrev pub invariant-loop-i : goal.invariant-loop-i
invariant-loop-i l = AllWithin (λ p. p.1 < 2 ^ 32) l.pairs 0 l.i
