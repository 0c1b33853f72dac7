use Rattle.std.specs.List.{AllWithin}
use Rattle.std.proofs.Common.{◌≡◌, ◌<◌, ◌≤◌, length}
use Rattle.h3_index.specs.Cell.{resolution}
use Rattle.h3_regions.proofs.WritingLaws.{AreStartsBelow}
use Rattle.h3_regions.proofs.areas.starts_of.Given as goal

abbrev pub invariant-loop-r : goal.invariant-loop-r
invariant-loop-r l =
    (length l.starts ≡ 17) × (l.place ≤ length l.pairs) × AllWithin (λ p. resolution p.0 < l.r) l.pairs 0 l.place
    × AreStartsBelow l.pairs l.starts l.r
