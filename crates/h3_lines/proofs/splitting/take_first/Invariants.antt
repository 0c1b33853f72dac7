use Rattle.std.proofs.Common.{◌≤◌, ◌+◌, [], length}
use Rattle.h3_lines.specs.Splitting.{Goes}
use Rattle.h3_lines.proofs.splitting.take_first.Given as goal

abbrev pub invariant-loop-after : goal.invariant-loop-after
invariant-loop-after g l = record {
  goes : Goes l.quotes g.J.JobContract.taken l.initial.job [] l.bytes l.job [] l.left;
  fewer : length l.left ≤ length l.bytes;
  counted : g.J.JobContract.count l.job + length l.left ≤ g.J.JobContract.count l.initial.job + length l.bytes;
}

abbrev pub decreases-loop-after : goal.decreases-loop-after
decreases-loop-after g l = length l.left
