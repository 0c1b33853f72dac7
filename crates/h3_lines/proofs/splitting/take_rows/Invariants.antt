use Rattle.std.proofs.Common.{◌≤◌, ◌+◌, [], length}
use Rattle.h3_lines.specs.Splitting.{Goes}
use Rattle.h3_lines.proofs.splitting.take_rows.Given as goal

abbrev pub invariant-loop-left : goal.invariant-loop-left
invariant-loop-left g l = record {
  goes : Goes l.quotes g.J.JobContract.taken l.initial.job [] l.bytes l.job [] l.left;
  counted : g.J.JobContract.count l.job + length l.left ≤ g.J.JobContract.count l.initial.job + length l.bytes;
}

abbrev pub decreases-loop-left : goal.decreases-loop-left
decreases-loop-left g l = length l.left
