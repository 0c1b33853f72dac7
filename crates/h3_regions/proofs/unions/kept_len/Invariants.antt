use Rattle.std.proofs.Common.{◌≤◌, length}
use Rattle.std.specs.List.{AllWithin}
use Rattle.h3_index.specs.Descendants.{IsAncestor}
use Rattle.h3_regions.proofs.unions.kept_len.Given as goal

abbrev pub invariant-loop-n : goal.invariant-loop-n
invariant-loop-n l = (l.n ≤ length l.kept) × AllWithin (IsAncestor l.fn.cell) l.kept l.n (length l.kept)

abbrev pub decreases-loop-n : goal.decreases-loop-n
decreases-loop-n l = l.n
