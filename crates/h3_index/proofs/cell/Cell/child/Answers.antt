use Rattle.std.proofs.Common.{refl}
use Rattle.h3_index.proofs.MoveLaws.{IsChildForm, child_form, inside_is, made_valid, made_is}
use Rattle.h3_index.proofs.cell.Cell.child.Goals as goal

shown : (c : goal.After-from) → IsChildForm c.args.self c.self.inside.raw c.args.digit c.from.result c.resolution.result
shown c =
    child_form c.args.self c.self.inside.raw c.args.digit _ _ c.resolution.ensures.valid
    (inside_is _ _ c.self.invariant c.self.view_is) c.resolution.ensures.number c.from.ensures c.requires.coarse
    c.requires.at_most_six c.requires.not_deleted

pub overflow_add-result : goal.overflow_add-result
overflow_add-result c = record {
  fits =
      (child_form c.args.self c.self.inside.raw c.args.digit _ _ c.resolution.ensures.valid
      (inside_is _ _ c.self.invariant c.self.view_is) c.resolution.ensures.number refl c.requires.coarse
      c.requires.at_most_six c.requires.not_deleted).fits;
}

pub overflow_sub-result : goal.overflow_sub-result
overflow_sub-result c = (shown c).enough

pub invariant_of-result : goal.invariant_of-result
invariant_of-result c = made_valid _ _ (shown c).valid (shown c).is

pub returns-clause-is : goal.returns-clause-is
returns-clause-is c = made_is _ _ (shown c).valid (shown c).is

pub returns-clause-valid : goal.returns-clause-valid
returns-clause-valid c = rw (made_is _ _ (shown c).valid (shown c).is) (shown c).valid
