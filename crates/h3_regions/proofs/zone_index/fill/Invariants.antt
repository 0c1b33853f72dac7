use Rattle.std.proofs.Common.{length}
use Rattle.h3_regions.proofs.TableLaws.{IsFilling}
use Rattle.h3_regions.proofs.zone_index.fill.Given as goal

abbrev pub invariant-loop-slot : goal.invariant-loop-slot
invariant-loop-slot l = IsFilling l.cells l.lowest l.shift l.firsts (length l.initial.firsts) l.place l.slot
