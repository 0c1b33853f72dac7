use Rattle.h3_index.proofs.MoveLaws.{IsCenterForm, center_form, inside_is, made_valid, made_is}
use Rattle.h3_index.proofs.cell.Cell.center_descendant.Goals as goal

shown : (c : goal.After-struct_known-1)
    → IsCenterForm c.args.self c.self.inside.raw c.args.r c.from-finer.result c.resolution.result
shown c =
    center_form c.args.self c.self.inside.raw c.args.r _ _ _ c.resolution.ensures.valid
    (inside_is _ _ c.self.invariant c.self.view_is) c.resolution.ensures.number c.resolution-2.ensures.number
    c.from-finer.ensures c.requires.not_coarser c.requires.at_most_fifteen

pub overflow_add-result : goal.overflow_add-result
overflow_add-result c = record { fits = (shown c).fits }

pub overflow_add-result-2 : goal.overflow_add-result-2
overflow_add-result-2 c = record { fits = (shown c).fits-2 }

pub overflow_sub-result : goal.overflow_sub-result
overflow_sub-result c = (shown c).enough

pub invariant_of-result : goal.invariant_of-result
invariant_of-result c = made_valid _ _ (shown c).valid (shown c).is

pub returns-clause-is : goal.returns-clause-is
returns-clause-is c = made_is _ _ (shown c).valid (shown c).is

pub returns-clause-valid : goal.returns-clause-valid
returns-clause-valid c = rw (made_is _ _ (shown c).valid (shown c).is) (shown c).valid
