use Rattle.h3_lines.proofs.Lines.{Passed}
use Rattle.h3_lines.proofs.each_lines.walk_through.Given as goal

abbrev pub invariant-loop-item : goal.invariant-loop-item
invariant-loop-item g l = Passed l.yielded
