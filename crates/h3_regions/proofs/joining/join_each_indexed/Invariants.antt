use Rattle.h3_regions.proofs.JoiningLaws.{IsJoining}
use Rattle.h3_regions.proofs.joining.join_each_indexed.Given as goal

abbrev pub invariant-loop-i : goal.invariant-loop-i
invariant-loop-i l = IsJoining l.index l.cells l.places l.i
