use Rattle.std.proofs.Common.{◌≡◌, length}
use Rattle.h3_streams.specs.Counted.{KeepsSource, reads_allowed, source_of}
use Rattle.h3_table.proofs.ByteLaws.{Reads}
use Rattle.h3_table.proofs.bytes.read_pages.Given as goal

abbrev pub invariant-loop-count : goal.invariant-loop-count
invariant-loop-count g l = record {
  reads : Reads (g.R.Source.left (source_of l.initial.reader)) (g.R.Source.left (source_of l.reader))
      (reads_allowed l.initial.reader) (reads_allowed l.reader) (length l.initial.page) l.initial.text.items
      l.text.items;
  kept : g.R.Source.has_failed (source_of l.reader) ≡ g.R.Source.has_failed (source_of l.initial.reader);
  same : KeepsSource l.initial.reader l.reader;
}

abbrev pub decreases-loop-count : goal.decreases-loop-count
decreases-loop-count g l = reads_allowed l.reader
