use Rattle.std.proofs.Common.{◌∙◌, sym}
use Rattle.h3_tree.proofs.FollowingLaws.{raised_is}
use Rattle.h3_tree.proofs.iter.next_cell.Goals as goal

pub returns-in-Some : goal.returns-in-Some
returns-in-Some c = c.in-Some.ensures.is ∙ raised_is c.args.cell (sym c.in-Some.ensures.some)
