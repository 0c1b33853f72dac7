use Rattle.std.proofs.Common.{◌≤◌, ◌+◌, List, take}
use Rattle.h3_lines.specs.Pieces.{Piece}
use Rattle.h3_lines.specs.Splitting.{ParseAll}
use Rattle.h3_lines.proofs.plain.take_at.Given as goal

abbrev pub invariant-loop-i : goal.invariant-loop-i
invariant-loop-i g l = record {
  took : (rows : List Piece) → ParseAll rows (take l.i l.indexes) → g.J.JobContract.taken l.initial.job rows l.job;
  counted : g.J.JobContract.count l.job ≤ g.J.JobContract.count l.initial.job + l.i;
}
