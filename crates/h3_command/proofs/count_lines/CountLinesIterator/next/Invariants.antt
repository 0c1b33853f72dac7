use Rattle.std.proofs.Common.{◌≡◌, length, ◌+◌, ◌-◌, ◌*◌}
use Rattle.h3_command.specs.CountLines.{lines_left}
use Rattle.h3_command.proofs.count_lines.CountLinesIterator.next.Given as goal

abbrev pub invariant-loop-self : goal.invariant-loop-self
invariant-loop-self l = lines_left l.self ≡ lines_left l.initial.self

abbrev pub decreases-loop-self : goal.decreases-loop-self
decreases-loop-self l = l.self.passes * (length l.self.zones.now + 1) + (length l.self.zones.now - l.self.place)
