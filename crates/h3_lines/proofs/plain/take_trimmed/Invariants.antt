use Rattle.std.proofs.Common.{◌≡◌, ◌≤◌, ◌+◌, Bool, [], length}
use Rattle.h3_lines.specs.Splitting.{Goes}
use Rattle.h3_lines.proofs.plain.take_trimmed.Given as goal

abbrev pub invariant-loop : goal.invariant-loop
invariant-loop g l = record {
  goes : (q : Bool) → Goes q g.J.JobContract.taken l.initial.job [] l.bytes l.job [] l.left;
  same : length l.bytes ≤ length l.left → l.job ≡ l.initial.job;
  fewer : length l.left ≤ length l.bytes;
  counted : g.J.JobContract.count l.job + length l.left ≤ g.J.JobContract.count l.initial.job + length l.bytes;
}
