use Rattle.std.specs.List.{AllWithin}
use Rattle.std.proofs.Common.{◌≡◌, ◌≤◌, length}
use Rattle.h3_regions.proofs.zone_table.keep_within.Given as goal

abbrev pub invariant-loop-i : goal.invariant-loop-i
invariant-loop-i l = AllWithin (λ p. p ≤ l.last) l.places 0 l.i × (length l.places ≡ 16)
