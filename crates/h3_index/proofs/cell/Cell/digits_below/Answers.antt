use Rattle.h3_index.proofs.MoveLaws.{below_form, inside_is, unused_some}
use Rattle.h3_index.proofs.cell.Cell.digits_below.Goals as goal

pub overflow_sub-finer-2 : goal.overflow_sub-finer-2
overflow_sub-finer-2 c = unused_some c.args.r

pub returns-clause-number : goal.returns-clause-number
returns-clause-number c =
    below_form c.args.self c.self.inside.raw c.args.r _ c.resolution.ensures.valid
    (inside_is _ _ c.self.invariant c.self.view_is) c.resolution.ensures.number c.requires
