use Rattle.std.proofs.Common.{refl, ◌∙◌}
use Rattle.h3_index.proofs.MoveLaws.{inside_is, made_valid, made_is}
use Rattle.h3_index.proofs.ReplaceLaws.{IsBaseForm, base_form, inside_cell}
use Rattle.h3_index.proofs.cell.Cell.with_base.Goals as goal

shown : (c : goal.After-from) → IsBaseForm c.args.self c.self.inside.raw c.args.base c.from-old.result c.from.result
shown c =
    base_form c.args.self c.self.inside.raw c.args.base _ _ (inside_cell _ _ c.self.invariant c.self.view_is)
    (inside_is _ _ c.self.invariant c.self.view_is) c.requires.small c.requires.hexagon
    (c.from-old.ensures ∙ c.base_cell.ensures.number) c.from.ensures

pub overflow_sub-result : goal.overflow_sub-result
overflow_sub-result c =
    (base_form c.args.self c.self.inside.raw c.args.base _ _ (inside_cell _ _ c.self.invariant c.self.view_is)
    (inside_is _ _ c.self.invariant c.self.view_is) c.requires.small c.requires.hexagon
    (c.from-old.ensures ∙ c.base_cell.ensures.number) refl).enough

pub overflow_add-result : goal.overflow_add-result
overflow_add-result c = record { fits = (shown c).fits }

pub invariant_of-result : goal.invariant_of-result
invariant_of-result c = made_valid _ _ (shown c).valid (shown c).is

pub returns-clause-is : goal.returns-clause-is
returns-clause-is c = made_is _ _ (shown c).valid (shown c).is

pub returns-clause-valid : goal.returns-clause-valid
returns-clause-valid c = rw (made_is _ _ (shown c).valid (shown c).is) (shown c).valid
