use Rattle.std.proofs.Common.{rules, w32}
use Rattle.std.proofs.lemmas.Int.{to_z-of_z}
use Rattle.h3_command.proofs.run.count_in_parents.Goals as goal

pub returns-in-None : goal.returns-in-None
returns-in-None g c =
    let ends = rw (to_z-of_z w32 c.args.res (search rules)) at c.count_by_parents.ensures in
    rw c.in-None.is (rw c.in-None.is at ends)

pub returns-in-None-sum : goal.returns-in-None-sum
returns-in-None-sum g c =
    let ends = rw (to_z-of_z w32 c.args.res (search rules)) at c.count_by_parents-in-None-sum.ensures in
    rw (c.in-Some.is, c.in-None-sum.is) (rw c.in-Some.is at ends)
