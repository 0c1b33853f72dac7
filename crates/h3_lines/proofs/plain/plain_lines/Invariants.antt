use Rattle.std.proofs.Common.{take}
use Rattle.h3_lines.specs.Splitting.{BeginsLines}
use Rattle.h3_lines.proofs.plain.plain_lines.Given as goal

abbrev pub invariant-loop-count : goal.invariant-loop-count
invariant-loop-count l = BeginsLines l.bytes (take l.count l.indexes) l.left
