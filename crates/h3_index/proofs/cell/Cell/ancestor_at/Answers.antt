use Rattle.std.proofs.Common.{◌∙◌}
use Rattle.h3_index.proofs.MoveLaws.{IsCutForm, cut_form, unused_some, inside_is, made_valid, made_is, resolution_within}
use Rattle.h3_index.proofs.cell.Cell.ancestor_at.Goals as goal

shown : (c : goal.After-from) → IsCutForm c.args.self c.self.inside.raw c.args.r c.from.result c.from-own.result
shown c =
    cut_form c.args.self c.self.inside.raw c.args.r _ _ c.resolution.ensures.valid
    (inside_is _ _ c.self.invariant c.self.view_is) (c.from-own.ensures ∙ c.resolution.ensures.number)
    c.from.ensures c.requires

pub overflow_sub-unused-2 : goal.overflow_sub-unused-2
overflow_sub-unused-2 c = unused_some c.args.r

pub overflow_sub-result : goal.overflow_sub-result
overflow_sub-result c =
    resolution_within c.args.self c.self.inside.raw _ c.resolution.ensures.valid
    (inside_is _ _ c.self.invariant c.self.view_is) (c.from-own.ensures ∙ c.resolution.ensures.number)

pub overflow_add-result : goal.overflow_add-result
overflow_add-result c = record { fits = (shown c).fits }

pub invariant_of-result : goal.invariant_of-result
invariant_of-result c = made_valid _ _ (shown c).valid (shown c).is

pub returns-clause-is : goal.returns-clause-is
returns-clause-is c = made_is _ _ (shown c).valid (shown c).is

pub returns-clause-valid : goal.returns-clause-valid
returns-clause-valid c = rw (made_is _ _ (shown c).valid (shown c).is) (shown c).valid
