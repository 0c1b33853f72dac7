use Rattle.std.proofs.Common.{◌-◌, ◌≤◌}
use Rattle.h3_regions.proofs.WritingLaws.{IsWriting}
use Rattle.h3_regions.proofs.areas.write_at.Given as goal

abbrev pub invariant-loop-place : goal.invariant-loop-place
invariant-loop-place l = (l.place ≤ l.to) × IsWriting l.pairs l.fn.cell l.r l.initial.place l.place l.count l.numbers

abbrev pub decreases-loop-place : goal.decreases-loop-place
decreases-loop-place l = l.to - l.place
