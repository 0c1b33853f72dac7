use Rattle.h3_command.proofs.MakingLists.{IsMaking}
use Rattle.h3_command.proofs.by_lists.make_lists.Given as goal

abbrev pub invariant-loop-k : goal.invariant-loop-k
invariant-loop-k g l =
    IsMaking (g.F.ListOfValue.list_of l.function) (g.F.ListOfValue.listed l.function) (g.F.ListOfValue.ready l.function)
    l.fn.cells l.fn.parts l.cells l.parts l.k
