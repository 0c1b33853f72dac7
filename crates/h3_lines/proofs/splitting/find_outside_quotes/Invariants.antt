use Rattle.std.proofs.Common.{◌≤◌, ◌-◌, true, length, take}
use Rattle.h3_lines.specs.Pieces.{Uncut}
use Rattle.h3_lines.proofs.splitting.find_outside_quotes.Given as goal

abbrev pub invariant-loop-next : goal.invariant-loop-next
invariant-loop-next l = record {
  within : l.at ≤ length l.bytes;
  uncut : Uncut l.mark true l.inside (take l.at l.bytes) l.here;
}

abbrev pub decreases-loop-next : goal.decreases-loop-next
decreases-loop-next l = length l.bytes - l.at
