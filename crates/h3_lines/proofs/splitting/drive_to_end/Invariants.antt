use Rattle.std.proofs.Common.{◌≡◌, ◌≤◌, ◌+◌, ◌*◌, false, length, take, vec_capacity}
use Rattle.h3_streams.specs.Counted.{KeepsSource, reads_allowed, source_of}
use Rattle.h3_lines.specs.Pieces.{Uncut}
use Rattle.h3_lines.proofs.TakenRows.{Took}
use Rattle.h3_lines.proofs.splitting.drive_to_end.Given as goal

abbrev pub invariant-loop-count : goal.invariant-loop-count
invariant-loop-count g l = record {
  took : Took l.quotes g.J.JobContract.taken l.initial.job l.job (take l.start.held l.page.items)
      (g.R.Source.left (source_of l.initial.reader)) (g.R.Source.left (source_of l.reader))
      (reads_allowed l.initial.reader)
      (reads_allowed l.reader) l.size;
  uncut : Uncut 10 l.quotes false (take l.start.held l.page.items) l.start.inside;
  outside : l.quotes ≡ false → l.start.inside ≡ false;
  short : l.start.held ≤ g.J.JobContract.longest;
  within : l.start.held ≤ length l.page.items;
  room : vec_capacity l.initial.page ≤ vec_capacity l.page;
  settled : g.J.JobContract.settled l.job;
  few : g.J.JobContract.count l.job + l.start.held + (reads_allowed l.reader) * l.size
      ≤ g.J.JobContract.count l.initial.job + (reads_allowed l.initial.reader) * l.size;
  sound : g.R.Source.has_failed (source_of l.reader) ≡ g.R.Source.has_failed (source_of l.initial.reader);
  same : KeepsSource l.initial.reader l.reader;
}

abbrev pub decreases-loop-count : goal.decreases-loop-count
decreases-loop-count g l = (reads_allowed l.reader)
