use Rattle.h3_command.proofs.CuttingLists.{IsCutting}
use Rattle.h3_command.proofs.by_region.cut_lists.Given as goal

abbrev pub invariant-loop-k : goal.invariant-loop-k
invariant-loop-k l =
    IsCutting l.fn.kind l.fn.region l.fn.cells l.fn.parts l.cells l.parts l.made.items l.k
