use Rattle.std.proofs.Common.{rules, w32}
use Rattle.std.proofs.lemmas.Int.{to_z-of_z}
use Rattle.h3_command.proofs.run.perform_over_list.Goals as goal

pub returns-in-UncompactCells-clause-ends : goal.returns-in-UncompactCells-clause-ends
returns-in-UncompactCells-clause-ends g c =
    let ends =
    rw (to_z-of_z w32 c.in-UncompactCells.res (search rules)) at c.answer_lists-in-UncompactCells.ensures in
    rw c.in-UncompactCells.is ends
